-- Step 2 over the arrays is document 01's step 2.
use Prim.Native.Nat.{ℕ}
use mathlib.Core.Path.{◌≡◌, refl, ap, sym, subst, ◌∙◌}
use mathlib.Core.Logic.{◌≢◌}
use mathlib.Core.Bool.{cond}
use mathlib.Core.List.{List, ◌∷◌, ◌++◌}
use native.Mathlib.Omega.{arith}
use lib.ListN.{set, length-set, replicate}
use lib.Dec.{eqb}
use Rattle.limits.specs.Limits.{max_ports}
use Rattle.plan.specs.File.{Task, Plan, task_at}
use Rattle.plan.specs.Order.{order}
use Rattle.events.specs.Events.{Event}
use Rattle.trace.specs.Trace.{release_kind, overrun_kind, ignored_kind, entry}
use Rattle.trace.specs.declared.Entry.{Entry}
use Rattle.state.specs.declared.Status.{Status}
use Rattle.state.specs.declared.TaskState.{TaskState}
use Rattle.state.specs.Numbers.{status_of}
use Rattle.arrays.specs.Arrays.{Arrays, active, row_field, Sized}
use Rattle.tick.specs.Turns.{requests, release, Call, released, overrun, ignored, periodic_call, event_call, call_of, waits, answer, release_turn}
use Rattle.tick.specs.Tick.{write_all, visit, each}
use Rattle.steps.specs.Flat.{each_row, task_of_row, latch, is_due, call_of_row, answer_row, grant}
use Rattle.whole.specs.Whole.{task_in, whole, moment_of, RowOf, Rows}
use Rattle.whole.proofs.Laws.{read, change, after, landed, keeps, IsRow, turns_in_order, turns_in_order_leave}
use Rattle.whole.proofs.Fields.{task_same}
use Rattle.whole.proofs.Deadlines.{timed, timed-stored, timed-other, sized-fail, fails}
use Rattle.whole.proofs.Ports.{length-latch, latched_other, latched_same, latches}

-- ---- one row's step is one task's turn
module _ (t : ℕ) (rows : List ℕ) (j : ℕ) (k : Task) (row : RowOf rows j k) (a : Arrays) (sized : Sized a) (es : List Entry) where
  abbrev i : ℕ
  i = task_of_row rows j

  -- the arrays after a release
  abbrev new : Arrays
  new = record {
    signals = a.signals;
    tasks = timed a.tasks i active (row_field rows j 3) t;
    latched = latch rows j a.signals max_ports 0 a.latched;
    held = a.held;
  }

  others_stay : (m : ℕ) → m ≢ i → task_in new m ≡ task_in a m
  others_stay m d =
      task_same a new m (λ q small. timed-other a.tasks sized.tasks i row.place active (row_field rows j 3) t m q small d)
      (latched_other rows j a.signals m a.latched d) refl

  it_starts : task_in new i ≡ release t a.signals k (task_in a i)
  unfolding status_of
  it_starts =
      let place = row.place in
      let size = sized.latched in
      let stored = timed-stored a.tasks sized.tasks i place active (row_field rows j 3) t in
      rw (stored 0, stored 1, stored 2, stored 3, latched_same rows j a.signals a.latched (omega arith), latches rows j k row a.signals, row.execution)

  answers : (c : Call) → after (moment_of a es) i (answer waits t a.signals i k (task_in a i) c) ≡ landed es (answer_row t rows j a c)
  unfolding answer answer_row write_all
  answers (released n) =
      ap (λ (xs : List TaskState). record { signals = a.signals; tasks = xs; entries = es ++ (entry t release_kind i ∷ replicate n (entry t ignored_kind i)) })
      (ap (set (whole a) i) (sym it_starts) ∙ sym (change a new i row.place others_stay))
  answers overrun = fails t rows j k row a sized es overrun_kind
  answers (ignored n) = keeps a i row.place es (replicate n (entry t ignored_kind i))

  calls : (now : List Event) (s : Status) → call_of t now i k s
      ≡ cond (eqb (row_field rows j 1) 0) (event_call s (requests i now)) (periodic_call s (is_due t (row_field rows j 4) (row_field rows j 1)) (eqb (row_field rows j 2) 0))
  calls now s = rw (row.period, row.offset, row.deadline)

  grant-turn : (now : List Event) → after (moment_of a es) i (release_turn waits t a.signals now i k (task_in a i)) ≡ landed es (grant t rows now j a)
  unfolding grant
  grant-turn now =
      ap (λ (c : Call). after (moment_of a es) i (answer waits t a.signals i k (task_in a i) c)) (calls now (task_in a i).status)
      ∙ answers (call_of_row t rows now j a.tasks)

-- ---- lengths and signals stay
pub record Kept (signals : List ℕ) (a : Arrays) : Type 0 where
  pub sized : Sized a
  pub signals_stay : a.signals ≡ signals

kept_answer : (t : ℕ) (rows : List ℕ) (j : ℕ) (signals : List ℕ) (a : Arrays) (c : Call) → Kept signals a → Kept signals (answer_row t rows j a c).arrays
unfolding answer_row
kept_answer t rows j signals a (released n) z =
    let s = z.sized in
    record {
      sized = record {
        signals = s.signals;
        tasks = simp length-set s.tasks;
        latched = length-latch rows j a.signals max_ports 0 a.latched ∙ s.latched;
        held = s.held;
      };
      signals_stay = z.signals_stay;
    }
kept_answer t rows j signals a overrun z = record { sized = sized-fail t overrun_kind rows j a z.sized; signals_stay = z.signals_stay }
kept_answer t rows j signals a (ignored n) z = z

-- ---- step 2
module _ (t : ℕ) (now : List Event) (plan : Plan) (rows : List ℕ) (n : ℕ) (said : Rows plan rows n) (signals : List ℕ) where
  one : (j i : ℕ) (a : Arrays) (es : List Entry) → IsRow plan rows j i → Kept signals a
      → visit plan (release_turn waits t signals now) i (moment_of a es) ≡ landed es (grant t rows now j a)
  one j i a es row kept =
      subst (λ m. visit plan (release_turn waits t signals now) m (moment_of a es) ≡ landed es (grant t rows now j a)) row.0
      (subst (λ s. visit plan (release_turn waits t s now) (task_of_row rows j) (moment_of a es) ≡ landed es (grant t rows now j a)) kept.signals_stay
      (ap (λ (x : TaskState). after (moment_of a es) (task_of_row rows j) (release_turn waits t a.signals now (task_of_row rows j) (task_at plan (task_of_row rows j)) x)) (read a (task_of_row rows j) row.1.place)
      ∙ grant-turn t rows j (task_at plan (task_of_row rows j)) row.1 a kept.sized es now))

  stay : (j i : ℕ) (a : Arrays) → IsRow plan rows j i → Kept signals a → Kept signals (grant t rows now j a).arrays
  unfolding grant
  stay j i a row kept = kept_answer t rows j signals a (call_of_row t rows now j a.tasks) kept

  each-grant : (a : Arrays) (es : List Entry) → Kept signals a
      → each plan (release_turn waits t signals now) (order plan) (moment_of a es) ≡ landed es (each_row (grant t rows now) n 0 a)
  each-grant a es kept = turns_in_order plan rows n said (grant t rows now) (release_turn waits t signals now) (Kept signals) one stay a es kept

  all-kept : (a : Arrays) → Kept signals a → Kept signals (each_row (grant t rows now) n 0 a).arrays
  all-kept a kept = turns_in_order_leave plan rows n said (grant t rows now) (release_turn waits t signals now) (Kept signals) one stay a kept

module _ (t : ℕ) (now : List Event) (plan : Plan) (rows : List ℕ) (n : ℕ) (said : Rows plan rows n) (a : Arrays) (sized : Sized a) where
  -- "2. In order of priority, releases."
  pub releases-same : (es : List Entry)
      → each plan (release_turn waits t a.signals now) (order plan) (moment_of a es) ≡ landed es (each_row (grant t rows now) n 0 a)
  releases-same es = each-grant t now plan rows n said a.signals a es (record { sized = sized; signals_stay = refl })

  pub releases-sized : Sized (each_row (grant t rows now) n 0 a).arrays
  releases-sized = (all-kept t now plan rows n said a.signals a (record { sized = sized; signals_stay = refl })).sized

  pub releases-signals : (each_row (grant t rows now) n 0 a).arrays.signals ≡ a.signals
  releases-signals = (all-kept t now plan rows n said a.signals a (record { sized = sized; signals_stay = refl })).signals_stay
