-- A tick that can be passed over: its steps come to nothing but that the running task loses a tick.
use Prim.Native.Nat.{ℕ, zero, suc, ◌+◌, ◌-◌, ◌*◌, ◌<◌}
use mathlib.Core.Path.{◌≡◌, refl, sym, ap, ◌∙◌}
use mathlib.Core.Bool.{Bool, true, false, cond}
use mathlib.Core.List.{List, [], ◌∷◌}
use native.Mathlib.Nat.{sub_self}
use native.Mathlib.Omega.{arith}
use lib.ListN.{length, get_or}
use lib.Seq.{get_or-set_same, get_or-set_other, set-set}
use lib.Dec.{ltb}
use borrow.Author.Tests.{lt-ltb, ltb-true, ne_eqb}
use Rattle.lists.specs.Lists.{tab}
use Rattle.arrays.specs.Arrays.{Arrays, Step, still, field, with_field}
use Rattle.tick.specs.Tick.{set_now}
use Rattle.steps.specs.Flat.{each_row, task_of_row, lapse, grant, work, first_active, runs_flat}
use Rattle.step.specs.Step.{Given, step_flat}
use Rattle.quiet.specs.Quiet.{RowQuiet, lowered, Calm}
use Rattle.quiet.proofs.Rows.{quiet-lapse, quiet-grant}

-- rows that do nothing
pub rows_still : (act : ℕ → Arrays → Step) (n j : ℕ) (a : Arrays) → ((k : ℕ) → k < j + n → act k a ≡ still a) → each_row act n j a ≡ still a
unfolding each_row
rows_still act zero j a h = refl
rows_still act (suc n) j a h = rw (h j (omega arith), rows_still act n (j + 1) a (λ k b. h k (omega (arith, b))))

-- ---- a task's remaining ticks are of no account to the choice, nor to steps 1 and 2
-- another field of any task stays
field-other : (tasks : List ℕ) (i k f x : ℕ) → f < 4 → (f ≡ 1 → ⊥) → field (with_field tasks i 1 x) k f ≡ field tasks k f
field-other tasks i k f x small other = get_or-set_other tasks (i * 4 + 1) (k * 4 + f) x 0 (λ e. other (omega arith))

module _ (rows : List ℕ) (tasks tasks' : List ℕ) (same : (k : ℕ) → field tasks' k 0 ≡ field tasks k 0) where
  pub first_same : (n j : ℕ) → first_active rows tasks' n j ≡ first_active rows tasks n j
  unfolding first_active
  first_same zero j = refl
  first_same (suc n) j = rw (same (task_of_row rows j), first_same n (j + 1))

  pub quiet_same : (j t : ℕ) → field tasks' (task_of_row rows j) 2 ≡ field tasks (task_of_row rows j) 2 → RowQuiet rows tasks j t → RowQuiet rows tasks' j t
  quiet_same j t e q = record { deadline = rw (same (task_of_row rows j), e) q.deadline; call = rw (same (task_of_row rows j)) q.call }

-- a value that is not 0 stands in the list
pub in_range : (l : List ℕ) (i : ℕ) → 0 < get_or l i 0 → i < length l
in_range [] i h = absurd (omega arith)
in_range (x ∷ xs) zero h = omega arith
in_range (x ∷ xs) (suc i) h = let b = in_range xs i h in omega arith

-- a task loses one tick, and then m more
lost_more : (tasks : List ℕ) (i m : ℕ) → 0 < field tasks i 1
    → with_field (with_field tasks i 1 (field tasks i 1 - 1)) i 1 (field (with_field tasks i 1 (field tasks i 1 - 1)) i 1 - m)
    ≡ with_field tasks i 1 (field tasks i 1 - suc m)
lost_more tasks i m h =
    let x = field tasks i 1 - 1 in
    let same : field (with_field tasks i 1 x) i 1 ≡ x = get_or-set_same tasks (i * 4 + 1) x 0 (in_range tasks (i * 4 + 1) h) in
    let less : field (with_field tasks i 1 x) i 1 - m ≡ field tasks i 1 - suc m = rw same (omega arith) in
    set-set tasks (i * 4 + 1) x (field (with_field tasks i 1 x) i 1 - m) ∙ ap (λ (y : ℕ). with_field tasks i 1 y) less

-- ---- the running task has lost ticks
module _ (rows : List ℕ) (count : ℕ) where
  -- with the choice in hand
  low_at : (n : ℕ) (tasks : List ℕ) (b : Bool) → ltb (first_active rows tasks count 0) count ≡ b
      → lowered rows count (suc n) tasks
      ≡ cond b (with_field tasks (task_of_row rows (first_active rows tasks count 0)) 1 (field tasks (task_of_row rows (first_active rows tasks count 0)) 1 - suc n)) tasks
  unfolding lowered
  low_at n tasks b e = rw e

  -- every other field stays
  pub low_other : (n : ℕ) (tasks : List ℕ) (k f : ℕ) → f < 4 → (f ≡ 1 → ⊥) → field (lowered rows count n tasks) k f ≡ field tasks k f
  unfolding lowered
  low_other zero tasks k f small other = refl
  low_other (suc n) tasks k f small other = go (ltb (first_active rows tasks count 0) count) refl
    where
      go : (b : Bool) → ltb (first_active rows tasks count 0) count ≡ b → field (lowered rows count (suc n) tasks) k f ≡ field tasks k f
      go true e = rw e (field-other tasks (task_of_row rows (first_active rows tasks count 0)) k f (field tasks (task_of_row rows (first_active rows tasks count 0)) 1 - suc n) small other)
      go false e = rw e

  low_first : (n : ℕ) (tasks : List ℕ) → first_active rows (lowered rows count n tasks) count 0 ≡ first_active rows tasks count 0
  low_first n tasks = first_same rows tasks (lowered rows count n tasks) (λ k. low_other n tasks k 0 (omega arith) (λ e. omega arith)) count 0

  -- one tick, and then m more
  pub low_more : (m : ℕ) (tasks : List ℕ)
      → (first_active rows tasks count 0 < count → suc m < field tasks (task_of_row rows (first_active rows tasks count 0)) 1)
      → lowered rows count m (lowered rows count 1 tasks) ≡ lowered rows count (suc m) tasks
  unfolding lowered
  low_more zero tasks s = refl
  low_more (suc m) tasks s = go (ltb (first_active rows tasks count 0) count) refl
    where
      go : (b : Bool) → ltb (first_active rows tasks count 0) count ≡ b
          → lowered rows count (suc m) (lowered rows count 1 tasks) ≡ lowered rows count (suc (suc m)) tasks
      go true e =
          let h = s (ltb-true (first_active rows tasks count 0) count e) in
          low_at m (lowered rows count 1 tasks) true (ap (λ (j : ℕ). ltb j count) (low_first 1 tasks) ∙ e)
          ∙ rw (low_first 1 tasks, low_at 0 tasks true e) (lost_more tasks (task_of_row rows (first_active rows tasks count 0)) (suc m) (omega arith))
          ∙ sym (low_at (suc m) tasks true e)
      go false e =
          low_at m (lowered rows count 1 tasks) false (ap (λ (j : ℕ). ltb j count) (low_first 1 tasks) ∙ e)
          ∙ low_at 0 tasks false e ∙ sym (low_at (suc m) tasks false e)

-- ---- a tick
-- the arrays with other tasks
abbrev pub with_tasks : Arrays → List ℕ → Arrays
with_tasks a tasks = record { signals = a.signals; tasks = tasks; latched = a.latched; held = a.held }

-- step 3, where the running task has a tick to spare
runs_on : (t count : ℕ) (ws rows : List ℕ) (a : Arrays)
    → (first_active rows a.tasks count 0 < count → 1 < field a.tasks (task_of_row rows (first_active rows a.tasks count 0)) 1)
    → runs_flat t ws rows count a ≡ still (with_tasks a (lowered rows count 1 a.tasks))
unfolding runs_flat lowered work
runs_on t count ws rows a s = go (ltb (first_active rows a.tasks count 0) count) refl
  where
    go : (b : Bool) → ltb (first_active rows a.tasks count 0) count ≡ b → runs_flat t ws rows count a ≡ still (with_tasks a (lowered rows count 1 a.tasks))
    go true e =
        let h = s (ltb-true (first_active rows a.tasks count 0) count e) in
        rw (e, ne_eqb (field a.tasks (task_of_row rows (first_active rows a.tasks count 0)) 1 - 1) 0 (λ z. omega arith))
    go false e = rw e

-- a tick that can be passed over, with n more
pub calm_step : (g : Given) (t place n : ℕ) (a : Arrays) → Calm g.rows g.count g.events g.records place t (suc n) a.tasks
    → step_flat g t place a ≡ still (with_tasks a (lowered g.rows g.count 1 a.tasks))
unfolding step_flat set_now tab
calm_step g t place n a c =
    let none = c.events t (omega arith) (omega arith) in
    let quiet : (k : ℕ) → k < 0 + g.count → RowQuiet g.rows a.tasks k t = λ k h. c.rows_quiet k (omega (arith, h)) t (omega arith) (omega arith) in
    rw (
      none,
      sub_self place,
      rows_still (lapse t g.rows) g.count 0 a (λ k h. quiet-lapse g.rows k t a (quiet k h)),
      rows_still (grant t g.rows []) g.count 0 a (λ k h. quiet-grant g.rows k t a (quiet k h)),
      runs_on t g.count g.plan g.rows a (λ h. let s = c.spare h in omega arith),
    )

-- and what is left can be passed over after it
pub calm_next : (rows : List ℕ) (count : ℕ) (ws : List ℕ) (records place t n : ℕ) (tasks : List ℕ) → Calm rows count ws records place t (suc n) tasks
    → Calm rows count ws records place (t + 1) n (lowered rows count 1 tasks)
calm_next rows count ws records place t n tasks c = record {
  events = λ u l b. c.events u (omega (arith, l)) (omega (arith, b));
  rows_quiet = λ j h u l b. quiet_same rows tasks (lowered rows count 1 tasks) (λ k. low_other rows count 1 tasks k 0 (omega arith) (λ e. omega arith)) j u
      (low_other rows count 1 tasks (task_of_row rows j) 2 (omega arith) (λ e. omega arith)) (c.rows_quiet j h u (omega (arith, l)) (omega (arith, b)));
  spare = rw (low_first rows count 1 tasks) (λ h. spare_next (task_of_row rows (first_active rows tasks count 0)) (c.spare h) (low_at rows count 0 tasks true (lt-ltb (first_active rows tasks count 0) count h)));
}
  where
    spare_next : (i : ℕ) → suc n < field tasks i 1 → lowered rows count 1 tasks ≡ with_field tasks i 1 (field tasks i 1 - 1) → n < field (lowered rows count 1 tasks) i 1
    spare_next i s e =
        let same = get_or-set_same tasks (i * 4 + 1) (field tasks i 1 - 1) 0 (in_range tasks (i * 4 + 1) (omega arith)) in
        rw (e, same) (omega arith)
