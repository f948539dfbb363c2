-- A task's own records of a tick are those of its own turns.
use Prim.Native.Nat.{ℕ, ◌<◌}
use mathlib.Core.Path.{◌≡◌, refl, sym, ◌∙◌, ap, ap₂, subst}
use mathlib.Core.Logic.{◌≢◌, inl, inr}
use mathlib.Core.Bool.{cond}
use mathlib.Core.List.{List, [], ◌∷◌, ◌++◌, append-nil}
use mathlib.Core.Option.{Option, none, some}
use native.Mathlib.Decide.{ℕ_discrete}
use lib.ListN.{length}
use lib.Dec.{eqb}
use borrow.Author.Tests.{eq-eqb, ne_eqb}
use Rattle.lists.specs.Lists.{Every, Pairwise, In}
use Rattle.lists.proofs.Tests.{in_every}
use Rattle.plan.specs.File.{Plan, task_at}
use Rattle.plan.specs.Order.{numbers, order}
use Rattle.plan.proofs.Order.{Perm, order-in}
use Rattle.events.specs.Events.{Event}
use Rattle.trace.specs.Trace.{own}
use Rattle.trace.specs.declared.Entry.{Entry}
use Rattle.trace.proofs.Records.{own-append}
use Rattle.state.specs.State.{state_at}
use Rattle.state.specs.declared.TaskState.{TaskState}
use Rattle.state.specs.declared.State.{State}
use Rattle.tick.specs.Turns.{deadline_turn, waits, run_turn}
use Rattle.tick.specs.Tick.{Moment, Act, visit, each, events_at, begins, deadlines, after_releases, running, visit_if, tick}
use Rattle.tick.proofs.Records.{deadline_owned, release-owned, run_owned}
use Rattle.tick.proofs.View.{visit-other, releasing, turned, deadlines-at, released_at}

-- ---- a step: where a turn records only its own task
module _ (plan : Plan) (act : Act) (owned : (j i : ℕ) (x : TaskState) → i ≢ j → own i (act j (task_at plan j) x).entries ≡ []) (i : ℕ) where
  -- another task's turn
  visit-own : (j : ℕ) (m : Moment) → i ≢ j → own i (visit plan act j m).entries ≡ own i m.entries
  visit-own j m d =
      own-append i m.entries (act j (task_at plan j) (state_at m.tasks j)).entries
      ∙ rw (owned j i (state_at m.tasks j) d) (append-nil (own i m.entries))

  -- turns of others
  others_own : (is : List ℕ) (m : Moment) → Every (λ j. i ≢ j) is → own i (each plan act is m).entries ≡ own i m.entries
  unfolding each
  others_own [] m h = refl
  others_own (j ∷ is) m h = others_own is (visit plan act j m) h.1 ∙ visit-own j m h.0

  -- after turns of a list of tasks: its own, and those of its turn
  abbrev Joins : List ℕ → Moment → Type 0
  Joins is m = own i (each plan act is m).entries ≡ own i m.entries ++ own i (act i (task_at plan i) (state_at m.tasks i)).entries

  -- it stands in the list once
  in_own : (is : List ℕ) → Pairwise ◌≢◌ is → In i is → (m : Moment) → Joins is m
  unfolding each
  in_own [] p h m = absurd h
  in_own (j ∷ is) p (inl e) m = subst (λ (n : ℕ). Every (λ q. n ≢ q) is → Joins (n ∷ is) m) e first p.0
    where
      first : Every (λ q. i ≢ q) is → Joins (i ∷ is) m
      first d = others_own is (visit plan act i m) d ∙ own-append i m.entries (act i (task_at plan i) (state_at m.tasks i)).entries
  in_own (j ∷ is) p (inr h) m =
      let d : i ≢ j = λ e. in_every (λ q. j ≢ q) i is p.0 h (sym e) in
      in_own is p.1 h (visit plan act j m)
      ∙ ap₂ ◌++◌ (visit-own j m d) (ap (λ (x : TaskState). own i (act i (task_at plan i) x).entries) (visit-other plan act j i m d))

  -- all tasks in order of priority
  pub each-own : Pairwise ◌≢◌ (order plan) → Perm (order plan) (numbers plan) → i < length plan.tasks → (m : Moment) → Joins (order plan) m
  each-own p perm l m = in_own (order plan) p (order-in plan perm i l) m

-- ---- step 3
-- a list where task i is the one that runs, else none
unfoldable pub where_runs : ℕ → Option ℕ → List Entry → List Entry
where_runs i none es = []
where_runs i (some j) es = cond (eqb j i) es []

-- its own records, and those of its turn if it runs
third_own : (plan : Plan) (t i : ℕ) (m : Moment) (o : Option ℕ)
    → own i (visit_if plan (run_turn t) o m).entries ≡ own i m.entries ++ where_runs i o (own i (run_turn t i (task_at plan i) (state_at m.tasks i)).entries)
unfolding visit_if where_runs
third_own plan t i m none = sym (append-nil (own i m.entries))
third_own plan t i m (some j) = go (ℕ_discrete i j)
  where
    go : Dec (i ≡ j) → own i (visit plan (run_turn t) j m).entries ≡ own i m.entries ++ cond (eqb j i) (own i (run_turn t i (task_at plan i) (state_at m.tasks i)).entries) []
    go (yes e) = rw (← e, eq-eqb i i refl) (own-append i m.entries (run_turn t i (task_at plan i) (state_at m.tasks i)).entries)
    go (no d) =
        rw (ne_eqb j i (λ e. d (sym e)))
        (visit-own plan (run_turn t) (λ j i x f. run_owned t j i (task_at plan j) x f) i j m d ∙ sym (append-nil (own i m.entries)))

-- ---- a tick
module _ (plan : Plan) (events : List Event) (s : State) (once : Pairwise ◌≢◌ (order plan)) (perm : Perm (order plan) (numbers plan))
    (i : ℕ) (l : i < length plan.tasks) (h : i < length s.tasks) where
  -- the records of its turn of each step
  abbrev pub first_records : List Entry
  first_records = (deadline_turn s.tick i (task_at plan i) (state_at s.tasks i)).entries

  abbrev pub second_records : List Entry
  second_records = (releasing waits plan events s i (task_at plan i) (deadline_turn s.tick i (task_at plan i) (state_at s.tasks i)).state).entries

  abbrev pub third_records : List Entry
  third_records = (run_turn s.tick i (task_at plan i) (turned waits plan events s i)).entries

  -- after steps 1 and 2
  released_own : own i (after_releases waits plan events s).entries ≡ own i first_records ++ own i second_records
  unfolding own
  released_own =
      each-own plan (releasing waits plan events s)
      (λ j q x d. release-owned s.tick j q (task_at plan j) x d waits (deadlines plan events s).signals (events_at s.tick events)) i once perm l (deadlines plan events s)
      ∙ ap₂ ◌++◌
      (each-own plan (deadline_turn s.tick) (λ j q x d. deadline_owned s.tick j q (task_at plan j) x d) i once perm l (begins events s))
      (ap (λ (x : TaskState). own i (releasing waits plan events s i (task_at plan i) x).entries) (deadlines-at waits plan events s perm i l h))

  -- its records are those of its turns of steps 1 and 2, and of step 3 if it runs
  pub tick-own : own i (tick plan events s).entries
      ≡ (own i first_records ++ own i second_records) ++ where_runs i (running plan (after_releases waits plan events s).tasks) (own i third_records)
  unfolding tick
  tick-own =
      let m = after_releases waits plan events s in
      third_own plan s.tick i m (running plan m.tasks)
      ∙ ap₂ ◌++◌ released_own
      (ap (λ (x : TaskState). where_runs i (running plan m.tasks) (own i (run_turn s.tick i (task_at plan i) x).entries)) (released_at waits plan events s perm i l h))
