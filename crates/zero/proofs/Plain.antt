-- The zero-time tick takes the tasks in order of priority; in the order of their numbers it shows the same.
use Prim.Native.Nat.{ℕ, zero, suc}
use mathlib.Core.Path.{◌≡◌, refl, sym, ◌∙◌, ap, ap₂, subst⁻¹}
use mathlib.Core.Logic.{◌≢◌, ◌⊎◌, inl, inr}
use mathlib.Core.List.{List, [], ◌++◌}
use Rattle.lists.specs.Lists.{Pairwise}
use Rattle.plan.specs.File.{Task, Plan, task_at, all_outputs}
use Rattle.plan.specs.Order.{numbers, order}
use Rattle.plan.proofs.Order.{Perm}
use Rattle.plan.proofs.Tasks.{outputs_disjoint}
use Rattle.events.specs.Events.{Event}
use Rattle.state.specs.declared.State.{State}
use Rattle.trace.specs.Trace.{own}
use Rattle.trace.proofs.Records.{own-append}
use Rattle.state.specs.declared.TaskState.{TaskState}
use Rattle.tick.specs.Turns.{Turn, finish, writes_of, deadline_turn, release_turn}
use Rattle.tick.specs.Tick.{Moment, write_all, each, events_at, begins, deadlines, releases, Ticked, ends, zero_tick}
use Rattle.tick.proofs.Values.{NothingWritten, AllWritten, deadline_writing, release-writing}
use Rattle.tick.proofs.Records.{deadline_owned, release-owned}
use Rattle.tick.proofs.Writes.{writes_of_nil, writes_commute}
use Rattle.zero.specs.Zero.{ticks}
use Rattle.zero.proofs.Order.{Alike, alike_trans, each-alike, perm_alike}

-- ---- the zero-time tick, with the tasks in the order of their numbers
-- steps 0 and 1
unfoldable pub plain_deadlines : Plan → List Event → State → Moment
plain_deadlines plan events s =
    each plan (deadline_turn s.tick) (numbers plan) (begins events s)

-- step 2
unfoldable pub plain_releases : Plan → List Event → ℕ → Moment → Moment
plain_releases plan events t m = each plan (release_turn finish t m.signals (events_at t events)) (numbers plan) m

-- both
unfoldable pub plain_tick : Plan → List Event → State → Ticked
plain_tick plan events s = ends events s.tick (plain_releases plan events s.tick (plain_deadlines plan events s))

-- the same state, and the same own records of every task
pub record Shows (u v : Ticked) : Type 0 where
  pub state : u.state ≡ v.state
  pub own-records : (k : ℕ) → own k u.entries ≡ own k v.entries

-- equal ticks show the same
pub shows_eq : {u v : Ticked} → u ≡ v → Shows u v
shows_eq e = record { state = ap (λ (w : Ticked). w.state) e; own-records = λ k. ap (λ (w : Ticked). own k w.entries) e }

-- either way round
pub shows_sym : {u v : Ticked} → Shows u v → Shows v u
shows_sym a = record { state = sym a.state; own-records = λ k. sym (a.own-records k) }

-- and from one to the next
pub shows_trans : {u v w : Ticked} → Shows u v → Shows v w → Shows u w
shows_trans a b = record { state = a.state ∙ b.state; own-records = λ k. a.own-records k ∙ b.own-records k }

-- ---- the writes of two tasks in step 1 commute
-- whatever a turn writes goes to its task's outputs
to_outputs : (t i : ℕ) (k : Task) (x : TaskState) → (held : List ℕ) × ((deadline_turn t i k x).writes ≡ writes_of k.outputs held)
to_outputs t i k x = go (deadline_writing t i k x)
  where
    u : Turn
    u = deadline_turn t i k x

    go : NothingWritten u ⊎ ((k.deadline ≢ 0) × AllWritten t i k u) → (held : List ℕ) × (u.writes ≡ writes_of k.outputs held)
    go (inl n) = ([], n.writes ∙ sym (writes_of_nil k.outputs))
    go (inr a) = (u.state.held, a.1.writes)

-- and no two tasks have an output in common
deadline_apart : (plan : Plan) (t : ℕ) → Pairwise ◌≢◌ (all_outputs plan.tasks) → (i j : ℕ) (x y : TaskState) (s : List ℕ) → i ≢ j
    → write_all (deadline_turn t i (task_at plan i) x).writes (write_all (deadline_turn t j (task_at plan j) y).writes s)
    ≡ write_all (deadline_turn t j (task_at plan j) y).writes (write_all (deadline_turn t i (task_at plan i) x).writes s)
deadline_apart plan t r i j x y s d =
    let u = to_outputs t i (task_at plan i) x in
    let v = to_outputs t j (task_at plan j) y in
    rw (u.1, v.1) (writes_commute (task_at plan i).outputs u.0 (task_at plan j).outputs v.0 s (outputs_disjoint plan.tasks i j d r))

-- ---- where the order of priority is the task numbers in another order, it does not show
module _ (plan : Plan) (events : List Event) (ordered : Perm (order plan) (numbers plan)) (apart : Pairwise ◌≢◌ (all_outputs plan.tasks)) where
  -- steps 0 and 1
  deadlines-alike : (s : State) → Alike (deadlines plan events s) (plain_deadlines plan events s)
  unfolding plain_deadlines
  deadlines-alike s =
      perm_alike plan (deadline_turn s.tick) (λ i k x d. deadline_owned s.tick i k (task_at plan i) x d) (deadline_apart plan s.tick apart) ordered _

  -- step 2
  releases-alike : (t : ℕ) (m n : Moment) → Alike m n → Alike (releases finish plan events t m) (plain_releases plan events t n)
  unfolding plain_releases write_all
  releases-alike t m n a =
      alike_trans
      (perm_alike plan (release_turn finish t m.signals (events_at t events))
      (λ i k x d. release-owned t i k (task_at plan i) x d finish m.signals (events_at t events))
      (λ i j x y s d. rw (nothing i x, nothing j y))
      ordered m)
      (subst⁻¹ (λ g. Alike (each plan (release_turn finish t g (events_at t events)) (numbers plan) m) (plain_releases plan events t n)) a.signals
      (each-alike plan (release_turn finish t n.signals (events_at t events)) (numbers plan) m n a))
    where
      nothing : (i : ℕ) (x : TaskState) → (release_turn finish t m.signals (events_at t events) i (task_at plan i) x).writes ≡ []
      nothing i x = (release-writing finish t m.signals (events_at t events) i (task_at plan i) x).writes

  -- one tick
  tick-shows : (s : State) → Shows (zero_tick plan events s) (plain_tick plan events s)
  unfolding zero_tick plain_tick
  tick-shows s =
      let a = releases-alike s.tick (deadlines plan events s) (plain_deadlines plan events s) (deadlines-alike s) in
      record { state = rw (a.signals, a.tasks); own-records = a.own-records }

  -- any number of ticks
  pub ticks-show : (n : ℕ) (s : State) → Shows (ticks (zero_tick plan events) n s) (ticks (plain_tick plan events) n s)
  unfolding ticks
  ticks-show zero s = record { state = refl; own-records = λ k. refl }
  ticks-show (suc n) s =
      let a = tick-shows s in
      let b = ticks-show n (plain_tick plan events s).state in
      record {
        state = ap (λ x. (ticks (zero_tick plan events) n x).state) a.state ∙ b.state;
        own-records = λ k.
            own-append k (zero_tick plan events s).entries (ticks (zero_tick plan events) n (zero_tick plan events s).state).entries
            ∙ ap₂ ◌++◌ (a.own-records k) (ap (λ x. own k (ticks (zero_tick plan events) n x).entries) a.state ∙ b.own-records k)
            ∙ sym (own-append k (plain_tick plan events s).entries (ticks (plain_tick plan events) n (plain_tick plan events s).state).entries);
      }
