-- One task of the arrays is one task of the state, and rows in turn are tasks in turn.
use Prim.Native.Nat.{ℕ, zero, suc, ◌+◌, ◌<◌, ◌≤◌}
use mathlib.Core.Path.{◌≡◌, refl, ap, sym, subst, ◌∙◌}
use mathlib.Core.Logic.{◌≢◌}
use mathlib.Core.List.{List, [], ◌∷◌, ◌++◌, append-nil, append_assoc}
use native.Mathlib.Omega.{arith}
use native.Mathlib.Nat.{zero-add, add-zero}
use lib.ListN.{length, get_or, set}
use lib.Seq.{set-get_or}
use Rattle.limits.specs.Limits.{max_tasks}
use Rattle.lists.specs.Lists.{tab}
use Rattle.lists.proofs.Laws.{get_or-tab}
use Rattle.plan.specs.File.{Task, Plan, task_at}
use Rattle.plan.specs.Order.{order}
use Rattle.trace.specs.declared.Entry.{Entry}
use Rattle.state.specs.State.{state_at, nowhere}
use Rattle.state.specs.declared.TaskState.{TaskState}
use Rattle.arrays.specs.Arrays.{Arrays, Step}
use Rattle.tick.specs.Turns.{Turn}
use Rattle.tick.specs.Tick.{Moment, write_all, visit, each}
use Rattle.steps.specs.Flat.{each_row, task_of_row}
use Rattle.whole.specs.Whole.{task_in, whole, moment_of, RowOf, Rows}

-- ---- lists read off by a rule
-- rules that agree on the places that are read
pub tab-within : {A : Type 0} (f g : ℕ → A) (j n : ℕ) → ((k : ℕ) → j ≤ k → k < j + n → f k ≡ g k) → tab f j n ≡ tab g j n
unfolding tab
tab-within f g j zero h = refl
tab-within f g j (suc n) h =
    rw (h j (omega arith) (omega arith), tab-within f g (j + 1) n (λ k low high. h k (omega arith) (omega arith)))

tab-set : {A : Type 0} (f g : ℕ → A) (j n i : ℕ) → i < n → ((k : ℕ) → k ≢ j + i → g k ≡ f k) → tab g j n ≡ set (tab f j n) i (g (j + i))
unfolding tab
tab-set f g j zero i h same = absurd (omega arith)
tab-set f g j (suc n) zero h same =
    rw (add-zero j) (ap (λ x. g j ∷ x) (tab-within g f (j + 1) n (λ k low high. same k (λ e. omega arith))))
tab-set f g j (suc n) (suc i) h same =
    let e : j + 1 + i ≡ j + suc i = omega arith in
    ap (λ x. x ∷ tab g (j + 1) n) (same j (λ q. omega arith))
    ∙ ap (λ x. f j ∷ x) (tab-set f g (j + 1) n i (omega arith) (λ k d. same k (λ q. d (omega arith))) ∙ ap (λ (x : ℕ). set (tab f (j + 1) n) i (g x)) e)

pub get_or-all : {A : Type 0} (f : ℕ → A) (d : A) (n i : ℕ) → i < n → get_or (tab f 0 n) i d ≡ f i
get_or-all f d n i h = get_or-tab f d 0 n i h ∙ ap f (zero-add i)

-- a rule changed at one place sets one place
pub set_all : {A : Type 0} (f g : ℕ → A) (n i : ℕ) → i < n → ((k : ℕ) → k ≢ i → g k ≡ f k) → tab g 0 n ≡ set (tab f 0 n) i (g i)
set_all f g n i h same =
    tab-set f g 0 n i h (λ k d. same k (λ e. d (omega arith))) ∙ ap (λ (x : ℕ). set (tab f 0 n) i (g x)) (zero-add i)

-- ---- reading task i, and changing it
pub read : (a : Arrays) (i : ℕ) → i < max_tasks → state_at (whole a) i ≡ task_in a i
read a i h = get_or-all (task_in a) nowhere max_tasks i h

pub change : (a b : Arrays) (i : ℕ) → i < max_tasks → ((k : ℕ) → k ≢ i → task_in b k ≡ task_in a k) → whole b ≡ set (whole a) i (task_in b i)
change a b i h same = set_all (task_in a) (task_in b) max_tasks i h same

-- what one task's turn leaves of a moment
abbrev pub after : Moment → ℕ → Turn → Moment
after m i u = record { signals = write_all u.writes m.signals; tasks = set m.tasks i u.state; entries = m.entries ++ u.entries }

-- what a step of one row leaves, after records es
abbrev pub landed : List Entry → Step → Moment
landed es s = moment_of s.arrays (es ++ s.entries)

-- a turn that keeps the task
pub keeps : (a : Arrays) (i : ℕ) → i < max_tasks → (es now : List Entry)
    → after (moment_of a es) i (record { state = task_in a i; writes = []; entries = now }) ≡ landed es (record { arrays = a; entries = now })
unfolding write_all
keeps a i h es now =
    ap (λ (xs : List TaskState). record { signals = a.signals; tasks = xs; entries = es ++ now })
    (ap (set (whole a) i) (sym (read a i h)) ∙ set-get_or (whole a) i nowhere)

-- ---- rows in turn are tasks in turn: where row j is that of task i, and the arrays are as they should be, its step is the
-- task's turn and leaves them so
module _ (plan : Plan) (act : ℕ → Arrays → Step) (turn : ℕ → Task → TaskState → Turn) (IsRow : ℕ → ℕ → Type 0) (Good : Arrays → Type 0)
    (one : (j i : ℕ) (a : Arrays) (es : List Entry) → IsRow j i → Good a → visit plan turn i (moment_of a es) ≡ landed es (act j a))
    (stays : (j i : ℕ) (a : Arrays) → IsRow j i → Good a → Good (act j a).arrays) where
  -- one row fewer of those from row j on
  next : (i : ℕ) (is : List ℕ) (j : ℕ) → ((m : ℕ) → m < length (i ∷ is) → IsRow (j + m) (get_or (i ∷ is) m 0))
      → (m : ℕ) → m < length is → IsRow (j + 1 + m) (get_or is m 0)
  next i is j rows m less =
      let e : j + suc m ≡ j + 1 + m = omega arith in
      subst (λ n. IsRow n (get_or is m 0)) e (rows (suc m) (omega arith))

  first : (i : ℕ) (is : List ℕ) (j : ℕ) → ((m : ℕ) → m < length (i ∷ is) → IsRow (j + m) (get_or (i ∷ is) m 0)) → IsRow j i
  first i is j rows = subst (λ n. IsRow n i) (add-zero j) (rows 0 (omega arith))

  pub turns : (is : List ℕ) (j : ℕ) (a : Arrays) (es : List Entry) → ((m : ℕ) → m < length is → IsRow (j + m) (get_or is m 0)) → Good a
      → each plan turn is (moment_of a es) ≡ landed es (each_row act (length is) j a)
  unfolding each each_row
  turns [] j a es rows good = ap (moment_of a) (sym (append-nil es))
  turns (i ∷ is) j a es rows good =
      let u = act j a in
      let v = each_row act (length is) (j + 1) u.arrays in
      ap (each plan turn is) (one j i a es (first i is j rows) good)
      ∙ turns is (j + 1) u.arrays (es ++ u.entries) (next i is j rows) (stays j i a (first i is j rows) good)
      ∙ ap (moment_of v.arrays) (append_assoc es u.entries v.entries)

  pub turns_leave : (is : List ℕ) (j : ℕ) (a : Arrays) → ((m : ℕ) → m < length is → IsRow (j + m) (get_or is m 0)) → Good a
      → Good (each_row act (length is) j a).arrays
  unfolding each_row
  turns_leave [] j a rows good = good
  turns_leave (i ∷ is) j a rows good =
      turns_leave is (j + 1) (act j a).arrays (next i is j rows) (stays j i a (first i is j rows) good)

-- row j is the row of task i
abbrev pub IsRow : Plan → List ℕ → ℕ → ℕ → Type 0
IsRow plan rows j i = (task_of_row rows j ≡ i) × RowOf rows j (task_at plan (task_of_row rows j))

-- all rows of a schedule, in order of priority
module _ (plan : Plan) (rows : List ℕ) (n : ℕ) (said : Rows plan rows n) (act : ℕ → Arrays → Step) (turn : ℕ → Task → TaskState → Turn) (Good : Arrays → Type 0)
    (one : (j i : ℕ) (a : Arrays) (es : List Entry) → IsRow plan rows j i → Good a → visit plan turn i (moment_of a es) ≡ landed es (act j a))
    (stays : (j i : ℕ) (a : Arrays) → IsRow plan rows j i → Good a → Good (act j a).arrays) where
  is_row_at : (m : ℕ) → m < length (order plan) → IsRow plan rows (0 + m) (get_or (order plan) m 0)
  is_row_at m h =
      let count = said.count in
      rw (zero-add m) (said.number m (omega arith), said.row m (omega arith))

  pub turns_in_order : (a : Arrays) (es : List Entry) → Good a → each plan turn (order plan) (moment_of a es) ≡ landed es (each_row act n 0 a)
  turns_in_order a es good =
      turns plan act turn (IsRow plan rows) Good one stays (order plan) 0 a es is_row_at good
      ∙ ap (λ (m : ℕ). landed es (each_row act m 0 a)) (sym said.count)

  pub turns_in_order_leave : (a : Arrays) → Good a → Good (each_row act n 0 a).arrays
  turns_in_order_leave a good =
      subst (λ m. Good (each_row act m 0 a).arrays) (sym said.count)
      (turns_leave plan act turn (IsRow plan rows) Good one stays (order plan) 0 a is_row_at good)
