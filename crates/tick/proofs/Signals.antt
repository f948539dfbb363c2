-- One signal's view of a step: only the turn of the task that writes it changes it, and that to the held value.
use Prim.Native.Nat.{ℕ, ◌<◌}
use mathlib.Core.Path.{◌≡◌, refl, ◌∙◌, ap, subst, subst⁻¹}
use mathlib.Core.Logic.{◌≢◌, ◌⊎◌, inl, inr}
use mathlib.Core.List.{List, [], ◌∷◌}
use native.Mathlib.Omega.{arith}
use native.Mathlib.Decide.{ℕ_discrete}
use lib.ListN.{length, get_or}
use lib.Seq.{set-get_or}
use Rattle.limits.specs.Limits.{max_ports, max_signals}
use Rattle.lists.specs.Lists.{Every}
use Rattle.plan.specs.File.{Task, Plan, plan_of, task_at}
use Rattle.plan.specs.Rules.{plan_verdict}
use Rattle.plan.specs.Order.{order}
use Rattle.plan.proofs.Order.{order_below}
use Rattle.plan.proofs.Tasks.{order-numbers, few_outputs, outputs_below, outputs_differ, output_apart}
use Rattle.events.specs.Events.{Event}
use Rattle.state.specs.State.{value_at, state_at, nowhere}
use Rattle.state.specs.declared.Status.TheVariants.{READY, FINISHED}
use Rattle.state.specs.declared.TaskState.{TaskState}
use Rattle.state.proofs.Statuses.{ready-finished}
use Rattle.tick.specs.Turns.{Turn, quiet, writes_of, write_out, deadline_turn, release_turn, run_turn}
use Rattle.tick.specs.Tick.{Moment, write_all, visit, each, events_at, releases}
use Rattle.tick.proofs.Cases.{deadline_ready}
use Rattle.tick.proofs.Values.{NothingWritten, AllWritten, deadline_writing, release-writing, run_writing}
use Rattle.tick.proofs.Writes.{writes_none, written_length, unwritten, written}
use Rattle.tick.proofs.View.{visit-same, visit-other, visit-length, each_at, each_keeps}

-- ---- what the writes of a task's outputs keep, its turns keep
module _ (P : List ℕ → Type 0) (t i : ℕ) (k : Task) (x : TaskState) (g : List ℕ) (p : P g) where
  -- no writes, or those of the outputs
  kept : (u : Turn) → ((held : List ℕ) → P (write_all (writes_of k.outputs held) g)) → {A : Type 0} → NothingWritten u ⊎ (A × AllWritten t i k u) → P (write_all u.writes g)
  kept u writes (inl n) = subst⁻¹ (λ ws. P (write_all ws g)) n.writes (subst⁻¹ P (writes_none g) p)
  kept u writes (inr a) = subst⁻¹ (λ ws. P (write_all ws g)) a.1.writes (writes u.state.held)

  -- step 1
  pub deadline_signals : ((held : List ℕ) → P (write_all (writes_of k.outputs held) g)) → P (write_all (deadline_turn t i k x).writes g)
  deadline_signals writes = kept (deadline_turn t i k x) writes (deadline_writing t i k x)

  -- step 2 writes nothing
  pub release-signals : (start : Task → TaskState → TaskState) (signals : List ℕ) (now : List Event) → P (write_all (release_turn start t signals now i k x).writes g)
  release-signals start signals now =
      subst⁻¹ (λ ws. P (write_all ws g)) (release-writing start t signals now i k x).writes (subst⁻¹ P (writes_none g) p)

  -- step 3
  pub run_signals : ((held : List ℕ) → P (write_all (writes_of k.outputs held) g)) → P (write_all (run_turn t i k x).writes g)
  run_signals writes = kept (run_turn t i k x) writes (run_writing t i k x)

-- ---- "Every task latches the signals as step 1 left them": step 2 leaves them so
pub releases-signals : (start : Task → TaskState → TaskState) (plan : Plan) (events : List Event) (t : ℕ) (m : Moment) → (releases start plan events t m).signals ≡ m.signals
releases-signals start plan events t m =
    each_keeps plan (release_turn start t m.signals (events_at t events)) (λ n. n.signals ≡ m.signals) (λ j. j < length plan.tasks)
    (λ j n l e. release-signals (λ g. g ≡ m.signals) t j (task_at plan j) (state_at n.tasks j) n.signals e start m.signals (events_at t events))
    (order plan) m (order_below plan) refl

-- ---- step 1, as many signals as before
pub deadlines-size : (plan : Plan) (t n : ℕ) (is : List ℕ) (m : Moment) → length m.signals ≡ n → length (each plan (deadline_turn t) is m).signals ≡ n
unfolding each
deadlines-size plan t n [] m e = e
deadlines-size plan t n (j ∷ is) m e = deadlines-size plan t n is (visit plan (deadline_turn t) j m)
    (deadline_signals (λ g. length g ≡ n) t j (task_at plan j) (state_at m.tasks j) m.signals e (λ held. written_length (task_at plan j).outputs held m.signals ∙ e))

-- ---- step 1, a signal that no task writes
pub none_writes : (plan : Plan) (t x v : ℕ) (m : Moment) → ((j : ℕ) → Every (λ y. x ≢ y) (task_at plan j).outputs) → value_at m.signals x ≡ v
    → value_at (each plan (deadline_turn t) (order plan) m).signals x ≡ v
none_writes plan t x v m none e =
    each_keeps plan (deadline_turn t) (λ m. value_at m.signals x ≡ v) (λ j. j < length plan.tasks)
    (λ j n l p.
    deadline_signals (λ g. value_at g x ≡ v) t j (task_at plan j) (state_at n.tasks j) n.signals p (λ held. unwritten x (task_at plan j).outputs held n.signals (none j) ∙ p))
    (order plan) m (order_below plan) e

-- ---- step 1, output p of task i
module _ (plan_bytes : List ℕ) (good : (plan_verdict plan_bytes).number ≡ 0) (i p : ℕ) (li : i < length (plan_of plan_bytes).tasks)
    (lp : p < length (task_at (plan_of plan_bytes) i).outputs) (t : ℕ) where
  abbrev plan : Plan
  plan = plan_of plan_bytes

  -- the task
  abbrev k : Task
  k = task_at plan i

  -- the signal
  abbrev x : ℕ
  x = get_or k.outputs p 0

  -- one turn
  abbrev turn : ℕ → Moment → Moment
  turn j m = visit plan (deadline_turn t) j m

  -- all turns
  abbrev all : Moment → Moment
  all m = each plan (deadline_turn t) (order plan) m

  -- another task's turn
  other-signal : (j : ℕ) (m : Moment) → j < length plan.tasks → i ≢ j → value_at (turn j m).signals x ≡ value_at m.signals x
  other-signal j m l d =
      deadline_signals (λ g. value_at g x ≡ value_at m.signals x) t j (task_at plan j) (state_at m.tasks j) m.signals refl
      (λ held. unwritten x (task_at plan j).outputs held m.signals (output_apart plan_bytes good i j p li l d lp))

  -- the task's own turn, where it writes nothing
  own-quiet : (m : Moment) → deadline_turn t i k (state_at m.tasks i) ≡ quiet (state_at m.tasks i)
      → (state_at (turn i m).tasks i ≡ state_at m.tasks i) × (value_at (turn i m).signals x ≡ value_at m.signals x)
  unfolding write_all
  own-quiet m e = (
    ap (λ (u : Turn). state_at (visit plan (λ j l y. u) i m).tasks i) e ∙ ap (λ (xs : List TaskState). state_at xs i) (set-get_or m.tasks i nowhere),
    ap (λ (u : Turn). value_at (write_all u.writes m.signals) x) e,
  )

  -- the task is in a state, and the signal has a value
  abbrev Same : TaskState → ℕ → Moment → Type 0
  Same y v m = (state_at m.tasks i ≡ y) × (value_at m.signals x ≡ v)

  -- all turns, where the task writes nothing
  pub quiet-signal : (y : TaskState) (v : ℕ) (m : Moment) → deadline_turn t i k y ≡ quiet y → state_at m.tasks i ≡ y → value_at m.signals x ≡ v → value_at (all m).signals x ≡ v
  quiet-signal y v m q e z =
      (each_keeps plan (deadline_turn t) (Same y v) (λ j. j < length plan.tasks) (λ j n l h. keeps j n l h (ℕ_discrete i j)) (order plan) m (order_below plan) (e, z)).1
    where
      keeps : (j : ℕ) (n : Moment) → j < length plan.tasks → Same y v n → Dec (i ≡ j) → Same y v (turn j n)
      keeps j n l h (yes c) =
          let r = own-quiet n (subst⁻¹ (λ (w : TaskState). deadline_turn t i k w ≡ quiet w) h.0 q) in
          subst (λ (j : ℕ). Same y v (turn j n)) c (r.0 ∙ h.0, r.1 ∙ h.1)
      keeps j n l h (no d) = (visit-other plan (deadline_turn t) j i n d ∙ h.0, other-signal j n l d ∙ h.1)

  -- the task has not had its turn
  pub record Before (y : TaskState) (m : Moment) : Type 0 where
    pub state : state_at m.tasks i ≡ y
    pub size : length m.signals ≡ max_signals
    pub count : i < length m.tasks

  -- it has written
  abbrev Done : TaskState → Moment → Type 0
  Done y m = ((state_at m.tasks i).status ≡ READY) × (value_at m.signals x ≡ get_or y.held p 0)

  module _ (y : TaskState) (fin : y.status ≡ FINISHED) (writes : deadline_turn t i k y ≡ write_out t i k y) (size : length y.held ≡ max_ports) where
    -- its own turn
    own-writes : (m : Moment) → Before y m → Done y (turn i m)
    own-writes m b =
        let e : deadline_turn t i k (state_at m.tasks i) ≡ write_out t i k y = ap (deadline_turn t i k) b.state ∙ writes in (
          ap (λ (z : TaskState). z.status) (visit-same plan (deadline_turn t) i m b.count ∙ ap (λ (u : Turn). u.state) e),
          ap (λ (u : Turn). value_at (write_all u.writes m.signals) x) e
              ∙ written k.outputs y.held m.signals (outputs_differ plan_bytes good i li) (let few = few_outputs plan_bytes good i li in omega arith)
              (rw b.size (outputs_below plan_bytes good i li)) p lp,
        )

    -- any turn
    keeps_both : (j : ℕ) (m : Moment) → j < length plan.tasks → Before y m ⊎ Done y m → Dec (i ≡ j) → Before y (turn j m) ⊎ Done y (turn j m)
    unfolding each
    keeps_both j m l (inl b) (yes c) = inr (subst (λ (j : ℕ). Done y (turn j m)) c (own-writes m b))
    keeps_both j m l (inl b) (no d) = inl (record {
      state = visit-other plan (deadline_turn t) j i m d ∙ b.state;
      size = deadlines-size plan t max_signals (j ∷ []) m b.size;
      count = rw (visit-length plan (deadline_turn t) j m) b.count;
    })
    keeps_both j m l (inr h) (yes c) =
        let r = own-quiet m (deadline_ready t i k (state_at m.tasks i) h.0) in
        inr (subst (λ (j : ℕ). Done y (turn j m)) c (ap (λ (z : TaskState). z.status) r.0 ∙ h.0, r.1 ∙ h.1))
    keeps_both j m l (inr h) (no d) = inr (ap (λ (z : TaskState). z.status) (visit-other plan (deadline_turn t) j i m d) ∙ h.0, other-signal j m l d ∙ h.1)

    -- all turns, where it writes: the held value
    pub written_signal : (m : Moment) → Before y m → value_at (all m).signals x ≡ get_or y.held p 0
    written_signal m b =
        go (each_keeps plan (deadline_turn t) (λ m. Before y m ⊎ Done y m) (λ j. j < length plan.tasks) (λ j n l h. keeps_both j n l h (ℕ_discrete i j))
        (order plan) m (order_below plan) (inl b))
      where
        turned : (state_at (all m).tasks i).status ≡ READY
        turned =
            ap (λ (z : TaskState). z.status)
            (each_at plan (deadline_turn t) (order-numbers plan_bytes good) i m li b.count ∙ ap (λ (z : TaskState). (deadline_turn t i k z).state) b.state ∙ ap (λ (u : Turn). u.state) writes)

        go : Before y (all m) ⊎ Done y (all m) → value_at (all m).signals x ≡ get_or y.held p 0
        go (inl c) = absurd (ready-finished (state_at (all m).tasks i).status turned (ap (λ (z : TaskState). z.status) c.state ∙ fin))
        go (inr h) = h.1
