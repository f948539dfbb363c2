-- The records of a tick counted by the tasks alone: rows in turn, and the three steps together.
use Prim.Native.Nat.{ℕ, zero, suc, ◌+◌, ◌-◌, ◌<◌, ◌≤◌}
use mathlib.Core.Path.{◌≡◌, refl, sym, ap, ◌∙◌}
use mathlib.Core.Bool.{Bool, true, false, cond, ◌&&◌}
use mathlib.Core.List.{List, ◌++◌}
use native.Mathlib.Nat.{sub-zero, zero-add}
use native.Mathlib.Omega.{arith}
use lib.ListN.{length, length-append, length-replicate}
use lib.Dec.{eqb, ltb, leb}
use borrow.Author.Tests.{ne_eqb, lt-leb}
use Rattle.events.specs.Events.{Event}
use Rattle.trace.specs.Trace.{entry, ignored_kind}
use Rattle.arrays.specs.Arrays.{Arrays, Step, still, active, error, field, with_field, row_field}
use Rattle.tick.specs.Turns.{released, overrun, ignored}
use Rattle.steps.specs.Flat.{each_row, lapse, between, task_of_row, reset, write_row, call_of_row, answer_row, grant, finish_task, work, first_active, runs_flat}
use Rattle.steps.proofs.Laws.{rows_more, rows_done}
use Rattle.step.specs.Step.{Given, place_after, with_events, step_flat}
use Rattle.room.specs.Room.{Counts}
use Rattle.room.proofs.Laws.{writes_most}

-- ---- what a loop over rows keeps: there are arrays `here` with the tasks so far, from which the rows from k on come to what all
-- of n rows come to from the start, with the records counted so far
pub record Sofar (act : ℕ → Arrays → Step) (n : ℕ) (a : Arrays) (tasks : List ℕ) (sum k : ℕ) : Type 0 where
  pub here : Arrays
  pub same : here.tasks ≡ tasks
  pub after : (each_row act n 0 a).arrays ≡ (each_row act (n - k) k here).arrays
  pub records : length (each_row act n 0 a).entries ≡ sum + length (each_row act (n - k) k here).entries

-- no row so far
pub sofar_none : (act : ℕ → Arrays → Step) (n : ℕ) (a : Arrays) (tasks : List ℕ) → a.tasks ≡ tasks → Sofar act n a tasks 0 0
sofar_none act n a tasks e = record { here = a; same = e; after = rw sub-zero; records = rw (sub-zero, zero-add) }

-- one row more
pub sofar_more : (act : ℕ → Arrays → Step) (n : ℕ) (a : Arrays) (tasks next : List ℕ) (sum m k : ℕ) → k < n → Counts (act k) tasks next m
    → Sofar act n a tasks sum k → Sofar act n a next (sum + m) (k + 1)
sofar_more act n a tasks next sum m k h counts s =
    let one = counts s.here s.same in
    let e = one.0 in
    let u = rows_more act n k s.here h in
    record {
      here = (act k s.here).arrays;
      same = sym one.1;
      after = s.after ∙ ap (λ (v : Step). v.arrays) u;
      records = s.records ∙ ap (λ (v : Step). sum + length v.entries) u ∙ rw (length-append (act k s.here).entries) (omega arith);
    }

-- all rows
pub sofar_done : (act : ℕ → Arrays → Step) (n : ℕ) (a : Arrays) (tasks : List ℕ) (sum k : ℕ) → n ≤ k → Sofar act n a tasks sum k
    → (sum ≡ length (each_row act n 0 a).entries) × (tasks ≡ (each_row act n 0 a).arrays.tasks)
sofar_done act n a tasks sum k h s =
    let u = rows_done act n k s.here h in (
      sym (s.records ∙ ap (λ (v : Step). sum + length v.entries) u ∙ omega arith),
      sym (ap (λ (b : Arrays). b.tasks) s.after ∙ ap (λ (v : Step). v.arrays.tasks) u ∙ s.same),
    )

-- ---- step 2 of a row, by what its turn comes to
module _ (t : ℕ) (rows : List ℕ) (now : List Event) (j : ℕ) (tasks : List ℕ) where
  -- it starts: a record for that, and one for each further event
  pub grant-starts : (n m : ℕ) → call_of_row t rows now j tasks ≡ released n → m ≡ suc n
      → Counts (grant t rows now j) tasks (with_field (with_field (with_field tasks (task_of_row rows j) 0 active) (task_of_row rows j) 1 (row_field rows j 3)) (task_of_row rows j) 2 t) m
  unfolding grant answer_row
  grant-starts n m call e a same = rw (same, call, e) (ap suc (sym (length-replicate n (entry t ignored_kind (task_of_row rows j)))), refl)

  -- an overrun has one record
  pub grant-fails : call_of_row t rows now j tasks ≡ overrun → Counts (grant t rows now j) tasks (reset error (task_of_row rows j) tasks) 1
  unfolding grant answer_row
  grant-fails call a same = rw (same, call) (refl, refl)

  -- a record for each event that is ignored, and the tasks stay
  pub grant-ignores : (n : ℕ) → call_of_row t rows now j tasks ≡ ignored n → Counts (grant t rows now j) tasks tasks n
  unfolding grant answer_row
  grant-ignores n call a same = rw (same, call) (sym (length-replicate n (entry t ignored_kind (task_of_row rows j))), refl)

-- ---- step 3
-- no tick is left after this one
one_left : (n : ℕ) → eqb (n - 1) 0 ≡ leb n 1
one_left zero = refl
one_left (suc zero) = refl
one_left (suc (suc n)) =
    let h : 1 < suc (suc n) = omega arith in
    rw (ne_eqb (suc (suc n) - 1) 0 (λ e. omega (arith, e)), lt-leb _ _ h)

-- a task that ends and has no deadline writes its outputs, another one nothing
work-length : (t : ℕ) (ws rows : List ℕ) (j : ℕ) (a : Arrays)
    → length (work t ws rows j a).entries ≡ cond (leb (field a.tasks (task_of_row rows j) 1) 1 && eqb (row_field rows j 2) 0) (row_field rows j 8) 0
unfolding work
work-length t ws rows j a = rw (one_left (field a.tasks (task_of_row rows j) 1)) (go (leb (field a.tasks (task_of_row rows j) 1) 1) (eqb (row_field rows j 2) 0))
  where
    go : (ends none : Bool)
        → length (cond ends (cond none (write_row t rows j (finish_task ws (task_of_row rows j) a)) (still (finish_task ws (task_of_row rows j) a)))
        (still (record { signals = a.signals; tasks = with_field a.tasks (task_of_row rows j) 1 (field a.tasks (task_of_row rows j) 1 - 1); latched = a.latched; held = a.held }))).entries
        ≡ cond (ends && none) (row_field rows j 8) 0
    go true true = writes_most t rows j (finish_task ws (task_of_row rows j) a)
    go true false = refl
    go false none = refl

-- the records of step 3, by the first ACTIVE row
pub runs-length : (t : ℕ) (ws rows : List ℕ) (n : ℕ) (a : Arrays) (tasks : List ℕ) (j : ℕ) → a.tasks ≡ tasks → j ≡ first_active rows tasks n 0
    → length (runs_flat t ws rows n a).entries
    ≡ cond (ltb j n) (cond (leb (field tasks (task_of_row rows j) 1) 1 && eqb (row_field rows j 2) 0) (row_field rows j 8) 0) 0
unfolding runs_flat
runs-length t ws rows n a tasks j same e = rw (← (e ∙ ap (λ (l : List ℕ). first_active rows l n 0) (sym same))) (go (ltb j n))
  where
    go : (b : Bool) → length (cond b (work t ws rows j a) (still a)).entries
        ≡ cond b (cond (leb (field tasks (task_of_row rows j) 1) 1 && eqb (row_field rows j 2) 0) (row_field rows j 8) 0) 0
    go true = rw (← same) (work-length t ws rows j a)
    go false = refl

-- ---- the tick: the records of the three steps, each counted from the tasks that the step before left
pub step_counts : (g : Given) (t place last : ℕ) (tasks lapsed granted : List ℕ) (x y z : ℕ) → last ≡ place_after g t place
    → Counts (each_row (lapse t g.rows) g.count 0) tasks lapsed x
    → Counts (each_row (grant t g.rows (between g.events place last)) g.count 0) lapsed granted y
    → ((a : Arrays) → a.tasks ≡ granted → z ≡ length (runs_flat t g.plan g.rows g.count a).entries)
    → (a : Arrays) → a.tasks ≡ tasks → x + y + z ≡ length (step_flat g t place a).entries
unfolding step_flat
step_counts g t place last tasks lapsed granted x y z end c₁ c₂ c₃ a e =
    let now = between g.events place (place_after g t place) in
    let s₁ = each_row (lapse t g.rows) g.count 0 (with_events now a) in
    let s₂ = each_row (grant t g.rows now) g.count 0 s₁.arrays in
    let s₃ = runs_flat t g.plan g.rows g.count s₂.arrays in
    let d₁ = c₁ (with_events now a) e in
    let d₂ = rw end at (c₂ s₁.arrays (sym d₁.1)) in
    let e₁ = d₁.0 in
    let e₂ = d₂.0 in
    let e₃ = c₃ s₂.arrays (sym d₂.1) in
    rw (length-append (s₁.entries ++ s₂.entries) s₃.entries, length-append s₁.entries s₂.entries) (omega arith)
