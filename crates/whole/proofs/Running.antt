-- Step 3 over the arrays is document 01's step 3.
use Prim.Native.Nat.{ℕ, zero, suc, ◌+◌, ◌-◌, ◌*◌, ◌<◌, ◌≤◌}
use mathlib.Core.Path.{◌≡◌, refl, ap, sym, subst, ◌∙◌}
use mathlib.Core.Logic.{◌≢◌}
use mathlib.Core.Bool.{Bool, true, false, cond}
use mathlib.Core.List.{List, [], ◌∷◌, ◌++◌, append-nil}
use mathlib.Core.Option.{Option, none, some}
use native.Mathlib.Omega.{arith}
use native.Mathlib.Nat.{zero-add, add-zero}
use lib.ListN.{length, get_or, set, length-set}
use lib.Seq.{set-set}
use lib.Dec.{eqb, ltb}
use borrow.Author.Tests.{ltb-true, ltb-false, lt-ltb, le-ltb, ne_eqb}
use Rattle.limits.specs.Limits.{max_tasks, max_ports}
use Rattle.lists.proofs.Laws.{length-tab}
use Rattle.words.specs.Words.{words_of}
use Rattle.plan.specs.File.{Task, Plan, plan_of, task_at, task_of, body_of}
use Rattle.plan.specs.Order.{numbers, order}
use Rattle.plan.specs.Rules.{plan_verdict}
use Rattle.plan.proofs.Laws.{tasks_length}
use Rattle.plan.proofs.Facts.{accepted, task_is, priority_once}
use Rattle.plan.proofs.Order.{Perm, order_below, order-sorted}
use Rattle.plan_schedule.proofs.Accepted.{accepted_perm}
use Rattle.body.specs.Body.{Result, body}
use Rattle.body.proofs.Laws.{body-length}
use Rattle.trace.specs.declared.Entry.{Entry}
use Rattle.state.specs.State.{state_at}
use Rattle.state.specs.declared.TaskState.{TaskState}
use Rattle.state.specs.Numbers.{status_of}
use Rattle.arrays.specs.Arrays.{Arrays, Step, still, active, finished, field, with_field, row_field, Sized}
use Rattle.tick.specs.Turns.{quiet, finish, write_out, is_active, loses, run_turn}
use Rattle.tick.specs.Tick.{write_all, running, visit_if, runs}
use Rattle.steps.specs.Flat.{task_of_row, write_row, ports_of, body_left, finish_task, work, first_active}
use Rattle.whole.specs.Whole.{ports_in, task_in, whole, moment_of, RowOf, Rows}
use Rattle.whole.proofs.Laws.{read, change, after, landed}
use Rattle.whole.proofs.Fields.{stored, stored_other, three_stored, three_other, task_same}
use Rattle.whole.proofs.Deadlines.{sized-write, sized-cond, writes}
use Rattle.whole.proofs.Ports.{ports_read, ports_length, ports_same, ports_other}
use Rattle.whole.proofs.Choice.{Stands, holds_of, first_of, urgent_first}

-- ---- one row's step is one task's turn
module _ (t : ℕ) (ws rows : List ℕ) (j : ℕ) (k : Task) (row : RowOf rows j k) (same_body : k ≡ task_of (body_of ws (task_of_row rows j + 1)))
    (a : Arrays) (sized : Sized a) (es : List Entry) where
  abbrev i : ℕ
  i = task_of_row rows j

  -- ---- "loses one remaining tick"
  abbrev rest : ℕ
  rest = field a.tasks i 1 - 1

  abbrev lost : Arrays
  lost = record { signals = a.signals; tasks = with_field a.tasks i 1 rest; latched = a.latched; held = a.held }

  lost_others : (m : ℕ) → m ≢ i → task_in lost m ≡ task_in a m
  lost_others m d =
      task_same a lost m (λ q small. stored_other a.tasks sized.tasks i 1 rest row.place (omega arith) m q small d) refl refl

  lost_it : task_in lost i ≡ loses (task_in a i)
  lost_it =
      let now = stored a.tasks sized.tasks i 1 rest row.place (omega arith) in
      rw (now 0, now 1, now 2, now 3)

  loses-turn : after (moment_of a es) i (quiet (loses (task_in a i))) ≡ landed es (still lost)
  unfolding write_all
  loses-turn =
      ap (λ (xs : List TaskState). record { signals = a.signals; tasks = xs; entries = es ++ [] })
      (ap (set (whole a) i) (sym lost_it) ∙ sym (change a lost i row.place lost_others))

  -- ---- "its body runs once"
  abbrev left : Result
  left = body k (ports_in a.latched i) (field a.tasks i 3) (ports_in a.held i)

  abbrev ended : Arrays
  ended = finish_task ws i a

  left_same : body_left ws i a ≡ left
  left_same =
      let place = row.place in
      let inputs = sized.latched in
      let outputs = sized.held in
      ap (λ (x : List ℕ). body (task_of (body_of ws (i + 1))) x (field a.tasks i 3) (ports_of a.held i)) (ports_read a.latched i (omega arith))
      ∙ ap (λ (x : List ℕ). body (task_of (body_of ws (i + 1))) (ports_in a.latched i) (field a.tasks i 3) x) (ports_read a.held i (omega arith))
      ∙ ap (λ (x : Task). body x (ports_in a.latched i) (field a.tasks i 3) (ports_in a.held i)) (sym same_body)

  left_length : length (body_left ws i a).held ≡ max_ports
  left_length =
      ap (λ (x : Result). length x.held) left_same
      ∙ body-length k (ports_in a.latched i) (field a.tasks i 3) (ports_in a.held i)
      ∙ length-tab (λ p. get_or a.held (i * 8 + p) 0) 0 max_ports

  fits : i * 8 + max_ports ≤ length a.held
  fits = let place = row.place in let outputs = sized.held in omega arith

  sized-ended : Sized ended
  sized-ended = record {
    signals = sized.signals;
    tasks = simp length-set sized.tasks;
    latched = sized.latched;
    held = ports_length a.held i fits (body_left ws i a).held left_length ∙ sized.held;
  }

  ended_others : (m : ℕ) → m ≢ i → task_in ended m ≡ task_in a m
  ended_others m d =
      task_same a ended m
      (λ q small. three_other a.tasks sized.tasks i row.place 0 finished 1 0 3 (body_left ws i a).machine (omega arith) (omega arith) (omega arith) m q small d)
      refl (ports_other a.held i fits (body_left ws i a).held left_length m d)

  ended_it : task_in ended i ≡ finish k (task_in a i)
  unfolding status_of
  ended_it =
      let now = three_stored a.tasks sized.tasks i row.place 0 finished 1 0 3 (body_left ws i a).machine (omega arith) (omega arith) (omega arith) in
      rw (now 0, now 1, now 2, now 3, ports_same a.held i fits (body_left ws i a).held left_length, left_same)

  ended_whole : whole ended ≡ set (whole a) i (finish k (task_in a i))
  ended_whole = change a ended i row.place ended_others ∙ ap (set (whole a) i) ended_it

  -- "with D > 0 it becomes FINISHED"
  finish-turn : after (moment_of a es) i (quiet (finish k (task_in a i))) ≡ landed es (still ended)
  unfolding write_all
  finish-turn = ap (λ (xs : List TaskState). record { signals = a.signals; tasks = xs; entries = es ++ [] }) (sym ended_whole)

  -- "with D = 0 it writes at once and becomes READY"
  write_turn : after (moment_of a es) i (write_out t i k (finish k (task_in a i))) ≡ landed es (write_row t rows j ended)
  write_turn =
      let u = write_out t i k (finish k (task_in a i)) in
      ap (λ (xs : List TaskState). record { signals = write_all u.writes a.signals; tasks = xs; entries = es ++ u.entries })
      (sym (set-set (whole a) i (finish k (task_in a i)) u.state))
      ∙ ap (λ (xs : List TaskState). record { signals = write_all u.writes a.signals; tasks = set xs i u.state; entries = es ++ u.entries })
      (sym ended_whole)
      ∙ ap (λ (x : TaskState). after (moment_of ended es) i (write_out t i k x)) (sym ended_it)
      ∙ writes t rows j k row ended sized-ended es

  work-turn : after (moment_of a es) i (run_turn t i k (task_in a i)) ≡ landed es (work t ws rows j a)
  unfolding work
  work-turn =
      ap (λ (d : ℕ). after (moment_of a es) i (cond (eqb rest 0) (cond (eqb d 0) (write_out t i k (finish k (task_in a i))) (quiet (finish k (task_in a i)))) (quiet (loses (task_in a i))))) (sym row.deadline)
      ∙ go (eqb rest 0) (eqb (row_field rows j 2) 0)
    where
      go : (ends none-given : Bool)
          → after (moment_of a es) i (cond ends (cond none-given (write_out t i k (finish k (task_in a i))) (quiet (finish k (task_in a i)))) (quiet (loses (task_in a i))))
          ≡ landed es (cond ends (cond none-given (write_row t rows j ended) (still ended)) (still lost))
      go true true = write_turn
      go true false = finish-turn
      go false d = loses-turn

  work-sized : Sized (work t ws rows j a).arrays
  unfolding work
  work-sized =
      sized-cond (eqb rest 0) _ (still lost)
      (sized-cond (eqb (row_field rows j 2) 0) (write_row t rows j ended) (still ended) (sized-write t rows j ended sized-ended) sized-ended)
      (record { signals = sized.signals; tasks = simp length-set sized.tasks; latched = sized.latched; held = sized.held })

-- ---- the first ACTIVE row is that of the first ACTIVE task
active-test : (s : ℕ) → is_active (status_of s) ≡ eqb s active
unfolding is_active status_of
active-test zero = refl
active-test (suc zero) = refl
active-test (suc (suc zero)) = refl
active-test (suc (suc (suc n))) = rw (ne_eqb (suc (suc (suc n))) active (λ e. omega arith))

abbrev active_in : Arrays → ℕ → Bool
active_in a i = is_active (state_at (whole a) i).status

-- the task of row f, where f is one of the rows before row n
abbrev taken : List ℕ → ℕ → ℕ → Option ℕ
taken rows f n = cond (ltb f n) (some (task_of_row rows f)) none

module _ (rows : List ℕ) (a : Arrays) where
  first_row : (is : List ℕ) (j : ℕ) → ((m : ℕ) → m < length is → (task_of_row rows (j + m) ≡ get_or is m 0) × (get_or is m 0 < max_tasks))
      → first_of (active_in a) is ≡ taken rows (first_active rows a.tasks (length is) j) (j + length is)
  unfolding first_of first_active
  first_row [] j h = rw (add-zero j, le-ltb j j (omega arith))
  first_row (i ∷ is) j h =
      let number : task_of_row rows j ≡ i = rw (add-zero j) at (h 0 (omega arith)).0 in
      let test : active_in a i ≡ eqb (field a.tasks (task_of_row rows j) 0) active
      = ap (λ (x : TaskState). is_active x.status) (read a i (h 0 (omega arith)).1) ∙ active-test (field a.tasks i 0)
      ∙ ap (λ (m : ℕ). eqb (field a.tasks m 0) active) (sym number) in
      let later : (m : ℕ) → m < length is → (task_of_row rows (j + 1 + m) ≡ get_or is m 0) × (get_or is m 0 < max_tasks)
      = λ m less. let e : j + suc m ≡ j + 1 + m = omega arith in subst (λ n. (task_of_row rows n ≡ get_or is m 0) × (get_or is m 0 < max_tasks)) e (h (suc m) (omega arith)) in
      ap (λ (b : Bool). cond b (some i) (first_of (active_in a) is)) test
      ∙ go number (first_row is (j + 1) later) (eqb (field a.tasks (task_of_row rows j) 0) active)
    where
      go : task_of_row rows j ≡ i
          → first_of (active_in a) is ≡ taken rows (first_active rows a.tasks (length is) (j + 1)) (j + 1 + length is)
          → (b : Bool) → cond b (some i) (first_of (active_in a) is) ≡ taken rows (cond b j (first_active rows a.tasks (length is) (j + 1))) (j + suc (length is))
      go number r true = rw (lt-ltb j (j + suc (length is)) (omega arith)) (ap some (sym number))
      go number r false =
          let e : j + suc (length is) ≡ j + 1 + length is = omega arith in
          rw e r

-- ---- step 3
-- what step 3 comes to over the arrays: the task of the first ACTIVE row of n runs, where there is one
abbrev pub ran : ℕ → List ℕ → List ℕ → ℕ → Arrays → Step
ran t ws rows n a = let j = first_active rows a.tasks n 0 in cond (ltb j n) (work t ws rows j a) (still a)

-- the words are the plan's, each task has a place in the order, and no two have one priority
pub record Served (plan : Plan) (ws : List ℕ) : Type 0 where
  pub bodies : (i : ℕ) → i < length plan.tasks → task_at plan i ≡ task_of (body_of ws (i + 1))
  pub perm : Perm (order plan) (numbers plan)
  pub once : (i j : ℕ) → i < length plan.tasks → j < length plan.tasks → (task_at plan i).priority ≡ (task_at plan j).priority → i ≡ j

module _ (t : ℕ) (plan : Plan) (ws rows : List ℕ) (n : ℕ) (said : Rows plan rows n) (served : Served plan ws) (a : Arrays) (sized : Sized a) where
  below : (i : ℕ) → Stands i (order plan) → i < length plan.tasks
  below i stands = go (ltb i (length plan.tasks)) refl
    where
      go : (b : Bool) → ltb i (length plan.tasks) ≡ b → i < length plan.tasks
      go true e = ltb-true i (length plan.tasks) e
      go false e =
          let most = ltb-false i (length plan.tasks) e in
          absurd (holds_of (λ m. m < length plan.tasks) i (order plan) (order_below plan) stands (λ less. omega arith))

  numbered : (m : ℕ) → m < length (order plan) → (task_of_row rows (0 + m) ≡ get_or (order plan) m 0) × (get_or (order plan) m 0 < max_tasks)
  numbered m h =
      let count = said.count in
      let number = said.number m (omega arith) in
      let place = (said.row m (omega arith)).place in
      rw (zero-add m) (number, omega arith)

  -- "The most urgent ACTIVE task" is that of the first ACTIVE row
  pub running-row : running plan (whole a) ≡ cond (ltb (first_active rows a.tasks n 0) n) (some (task_of_row rows (first_active rows a.tasks n 0))) none
  running-row =
      urgent_first plan (active_in a) (order plan) (numbers plan) served.perm (λ i j si sj e. served.once i j (below i si) (below j sj) e) (order-sorted plan)
      ∙ first_row rows a (order plan) 0 numbered
      ∙ rw (zero-add (length (order plan)), ← said.count)

  abbrev f : ℕ
  f = first_active rows a.tasks n 0

  pub runs_same : (es : List Entry) → runs plan t (moment_of a es) ≡ landed es (ran t ws rows n a)
  unfolding visit_if
  runs_same es = ap (λ (r : Option ℕ). visit_if plan (run_turn t) r (moment_of a es)) running-row ∙ go (ltb f n) refl
    where
      go : (b : Bool) → ltb f n ≡ b → visit_if plan (run_turn t) (cond b (some (task_of_row rows f)) none) (moment_of a es) ≡ landed es (cond b (work t ws rows f a) (still a))
      go true e =
          let less = ltb-true f n e in
          let i = task_of_row rows f in
          ap (λ (x : TaskState). after (moment_of a es) i (run_turn t i (task_at plan i) x)) (read a i (said.row f less).place)
          ∙ work-turn t ws rows f (task_at plan i) (said.row f less) (served.bodies i (said.task f less)) a sized es
      go false e = ap (moment_of a) (sym (append-nil es))

  pub runs-sized : Sized (ran t ws rows n a).arrays
  runs-sized = go (ltb f n) refl
    where
      go : (b : Bool) → ltb f n ≡ b → Sized (cond b (work t ws rows f a) (still a)).arrays
      go true e =
          let less = ltb-true f n e in
          work-sized t ws rows f (task_at plan (task_of_row rows f)) (said.row f less) (served.bodies (task_of_row rows f) (said.task f less)) a sized []
      go false e = sized

-- of an accepted plan
pub served_by : (bytes : List ℕ) → (plan_verdict bytes).number ≡ 0 → Served (plan_of bytes) (words_of bytes)
served_by bytes good =
    let all = tasks_length bytes in
    record {
      bodies = λ i h. task_is bytes i (omega arith);
      perm = accepted_perm bytes good;
      once = λ i j hi hj e. priority_once bytes (accepted bytes good) i j (omega arith) (omega arith) e;
    }
