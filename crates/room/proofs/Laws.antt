-- A tick has no more records than `most_entries` says: step by step.
use Prim.Native.Nat.{ℕ, zero, suc, ◌+◌, ◌-◌, ◌*◌, ◌<◌, ◌≤◌, ◌^◌}
use mathlib.Core.Path.{◌≡◌, refl, ap, ◌∙◌}
use mathlib.Core.Bool.{Bool, true, false, cond, ◌&&◌}
use mathlib.Core.List.{List, [], ◌∷◌, ◌++◌}
use native.Mathlib.Nat.{add-zero, zero-add, suc-mul, mul-suc, mul-le-mul, le_trans}
use native.Mathlib.Omega.{arith}
use lib.ListN.{length, length-append, length-replicate}
use lib.Dec.{eqb, ltb, leb}
use borrow.Author.Tests.{ltb-true, le-leb}
use Rattle.limits.specs.Limits.{max_tasks}
use Rattle.lists.proofs.Laws.{more, done, length-tab}
use Rattle.events.specs.Events.{Event, event_of}
use Rattle.trace.specs.Trace.{entry, miss_kind, ignored_kind}
use Rattle.state.specs.declared.Status.{Status}
use Rattle.state.specs.declared.Status.TheVariants.{READY, ACTIVE, FINISHED, ERROR}
use Rattle.state.specs.Numbers.{status_of}
use Rattle.arrays.specs.Arrays.{Arrays, Step, still, active, finished, field, with_field, row_field}
use Rattle.tick.specs.Turns.{requests, Call, released, overrun, ignored, periodic_call, event_call}
use Rattle.steps.specs.Flat.{each_row, task_of_row, row_writes, write_row, fail_row, ends_now, lapse, end_from, between, is_due, call_of_row, answer_row, grant, finish_task, work, first_active, runs_flat}
use Rattle.steps.proofs.Laws.{writes_length}
use Rattle.step.specs.Step.{Given, place_after, with_events, step_flat, Ready}
use Rattle.step.specs.declared.Clock.{Clock}
use Rattle.step.proofs.Laws.{end_between}
use Rattle.room.specs.Room.{row_most, total, rows_most, most_entries}

-- ---- a sum, one at a time: k done of n, s is what those come to
module _ (b : ℕ → ℕ) (n k s : ℕ) where
  pub total-more : k < n → s + total b (n - k) k ≡ s + b k + total b (n - (k + 1)) (k + 1)
  unfolding total
  total-more h = rw (more n k h) (omega arith)

  pub total-done : n ≤ k → s + total b (n - k) k ≡ s
  unfolding total
  total-done h = rw (done n k h) (omega arith)

-- ---- rows in turn
-- where each row has at most `b` records, so many rows have at most the sum of `b`
each-most : (act : ℕ → Arrays → Step) (b : ℕ → ℕ) → ((j : ℕ) (a : Arrays) → length (act j a).entries ≤ b j)
    → (n j : ℕ) (a : Arrays) → length (each_row act n j a).entries ≤ total b n j
unfolding each_row total
each-most act b h zero j a = omega arith
each-most act b h (suc n) j a =
    let one = h j a in
    let rest = each-most act b h n (j + 1) (act j a).arrays in
    rw (length-append (act j a).entries) (omega arith)

-- the sum of the same number
total-same : (m n j : ℕ) → total (λ _. m) n j ≡ n * m
unfolding total
total-same m zero j = omega arith
total-same m (suc n) j = let rest = total-same m n (j + 1) in rw (suc-mul n m) (omega arith)

-- each row counts for one at least
rows_least : (rows : List ℕ) (n j : ℕ) → n ≤ rows_most rows n j
unfolding total
rows_least rows zero j = omega arith
rows_least rows (suc n) j = let rest = rows_least rows n (j + 1) in omega arith

-- the outputs of one of n rows, and one more for each row, are within the sum
one-most : (rows : List ℕ) (n j k : ℕ) → k < n → row_field rows (j + k) 8 + n ≤ rows_most rows n j
unfolding total
one-most rows zero j k h = absurd (omega arith)
one-most rows (suc n) j zero h = let rest = rows_least rows n (j + 1) in rw add-zero (omega arith)
one-most rows (suc n) j (suc k) h =
    let rest = one-most rows n (j + 1) k (omega arith) in
    let same : row_field rows (j + suc k) 8 ≡ row_field rows (j + 1 + k) 8 = ap (λ (i : ℕ). row_field rows i 8) (omega arith) in
    omega arith

-- ---- one row of each step
-- the task of a row writes a record for each output
pub writes_most : (t : ℕ) (rows : List ℕ) (j : ℕ) (a : Arrays) → length (write_row t rows j a).entries ≡ row_field rows j 8
writes_most t rows j a = writes_length t (task_of_row rows j) (row_writes rows j a.held) ∙ length-tab _ 0 (row_field rows j 8)

-- step 1: the writes, or a miss, or nothing
lapse-most : (t : ℕ) (rows : List ℕ) (j : ℕ) (a : Arrays) → length (lapse t rows j a).entries ≤ row_most rows j
unfolding lapse
lapse-most t rows j a =
    go (ends_now t (field a.tasks (task_of_row rows j) 2) (row_field rows j 2)) (eqb (field a.tasks (task_of_row rows j) 0) finished) (eqb (field a.tasks (task_of_row rows j) 0) active)
  where
    go : (now done busy : Bool)
        → length (cond now (cond done (write_row t rows j a) (cond busy (fail_row t miss_kind rows j a) (still a))) (still a)).entries ≤ row_most rows j
    go true true busy = let e = writes_most t rows j a in omega arith
    go true false true = omega arith
    go true false false = omega arith
    go false done busy = omega arith

-- the records that an answer comes to
unfoldable records : Call → ℕ
records (released n) = suc n
records overrun = 1
records (ignored n) = n

answer-records : (t : ℕ) (rows : List ℕ) (j : ℕ) (a : Arrays) (k : Call) → length (answer_row t rows j a k).entries ≡ records k
unfolding answer_row records
answer-records t rows j a (released n) = ap suc (length-replicate n (entry t ignored_kind (task_of_row rows j)))
answer-records t rows j a overrun = refl
answer-records t rows j a (ignored n) = length-replicate n (entry t ignored_kind (task_of_row rows j))

-- no more requests than events
requests-most : (i : ℕ) (now : List Event) → requests i now ≤ length now
unfolding requests
requests-most i [] = omega arith
requests-most i (e ∷ now) = go (eqb e.kind 1 && eqb e.target i) (requests-most i now)
  where
    go : (b : Bool) → requests i now ≤ length now → cond b (suc (requests i now)) (requests i now) ≤ suc (length now)
    go true h = omega arith
    go false h = omega arith

-- an event-driven task: a record for each request
event_records : (s : Status) (n : ℕ) → records (event_call s n) ≡ n
unfolding event_call records
event_records READY zero = refl
event_records READY (suc n) = refl
event_records ACTIVE n = refl
event_records FINISHED n = refl
event_records ERROR n = refl

-- a periodic task: a record, or none
periodic_records : (s : Status) (due none : Bool) → records (periodic_call s due none) ≤ 1
unfolding periodic_call records
periodic_records READY true none = omega arith
periodic_records READY false none = omega arith
periodic_records ACTIVE true true = omega arith
periodic_records ACTIVE true false = omega arith
periodic_records ACTIVE false none = omega arith
periodic_records FINISHED due none = omega arith
periodic_records ERROR due none = omega arith

-- step 2: one record, and one for each event
grant-most : (t : ℕ) (rows : List ℕ) (now : List Event) (j : ℕ) (a : Arrays) → length (grant t rows now j a).entries ≤ suc (length now)
unfolding grant
grant-most t rows now j a =
    rw (answer-records t rows j a (call_of_row t rows now j a.tasks)) (go (eqb (row_field rows j 1) 0) (status_of (field a.tasks (task_of_row rows j) 0)))
  where
    go : (driven : Bool) (s : Status)
        → records (cond driven (event_call s (requests (task_of_row rows j) now)) (periodic_call s (is_due t (row_field rows j 4) (row_field rows j 1)) (eqb (row_field rows j 2) 0))) ≤ suc (length now)
    go true s = let e = event_records s (requests (task_of_row rows j) now) in let m = requests-most (task_of_row rows j) now in omega arith
    go false s = let e = periodic_records s (is_due t (row_field rows j 4) (row_field rows j 1)) (eqb (row_field rows j 2) 0) in omega arith

-- step 3: the writes of the row, or nothing
work-most : (t : ℕ) (ws rows : List ℕ) (j : ℕ) (a : Arrays) → length (work t ws rows j a).entries ≤ row_field rows j 8
unfolding work
work-most t ws rows j a = go (eqb (field a.tasks (task_of_row rows j) 1 - 1) 0) (eqb (row_field rows j 2) 0)
  where
    go : (ends none : Bool)
        → length (cond ends (cond none (write_row t rows j (finish_task ws (task_of_row rows j) a)) (still (finish_task ws (task_of_row rows j) a)))
        (still (record { signals = a.signals; tasks = with_field a.tasks (task_of_row rows j) 1 (field a.tasks (task_of_row rows j) 1 - 1); latched = a.latched; held = a.held }))).entries ≤ row_field rows j 8
    go true true = let e = writes_most t rows j (finish_task ws (task_of_row rows j) a) in omega arith
    go true false = omega arith
    go false none = omega arith

-- step 3: the writes of one row, so with one more for each row they are within the sum
runs-most : (t : ℕ) (ws rows : List ℕ) (n : ℕ) (a : Arrays) → length (runs_flat t ws rows n a).entries + n ≤ rows_most rows n 0
unfolding runs_flat
runs-most t ws rows n a = go (first_active rows a.tasks n 0) (ltb (first_active rows a.tasks n 0) n) refl
  where
    go : (j : ℕ) (b : Bool) → ltb j n ≡ b → length (cond b (work t ws rows j a) (still a)).entries + n ≤ rows_most rows n 0
    go j true h =
        let w = work-most t ws rows j a in
        let m = rw (zero-add j) at (one-most rows n 0 j (ltb-true j n h)) in
        omega arith
    go j false h = let m = rows_least rows n 0 in omega arith

-- ---- the tick
-- a tick has no more records than the bound says of the number of its events
pub few_entries : (g : Given) (t place : ℕ) (a : Arrays) → length (step_flat g t place a).entries ≤ most_entries g (place_after g t place - place)
unfolding step_flat
few_entries g t place a =
    let now = between g.events place (place_after g t place) in
    let s₁ = each_row (lapse t g.rows) g.count 0 (with_events now a) in
    let s₂ = each_row (grant t g.rows now) g.count 0 s₁.arrays in
    let s₃ = runs_flat t g.plan g.rows g.count s₂.arrays in
    let m₁ = each-most (lapse t g.rows) (row_most g.rows) (lapse-most t g.rows) g.count 0 (with_events now a) in
    let m₂ = each-most (grant t g.rows now) (λ _. suc (length now)) (grant-most t g.rows now) g.count 0 s₁.arrays in
    let m₃ = runs-most t g.plan g.rows g.count s₂.arrays in
    let e₂ = total-same (suc (length now)) g.count 0 ∙ mul-suc g.count (length now) ∙ ap (λ (n : ℕ). g.count * n + g.count) (length-tab (event_of g.events) place (place_after g t place - place)) in
    rw (length-append (s₁.entries ++ s₂.entries) s₃.entries, length-append s₁.entries s₂.entries) (omega arith)

-- ---- what the code asks
-- the events of a tick do not stand before its place, and are few enough to multiply
pub events_few : (ws : List ℕ) (count records last : ℕ) (clock : Clock) → Ready count records clock
    → last ≡ end_from ws clock.tick (records - clock.place) clock.place
    → (clock.place ≤ last) × (count * (last - clock.place) ≤ 2 ^ 34)
events_few ws count records last clock r e =
    let b = end_between ws clock.tick (records - clock.place) clock.place in
    let least = b.0 in
    let most = b.1 in
    let place = r.place in
    let end = r.events in (
      omega arith,
      le_trans (mul-le-mul {n₁ = count} {m₁ = last - clock.place} {n₂ = max_tasks} {m₂ = 2 ^ 30} r.rows (omega arith)) (omega arith),
    )

-- where the bound fits, the records fit
pub bound_fits : (g : Given) (t place : ℕ) (a : Arrays) (last most at words : ℕ) → last ≡ place_after g t place
    → most ≡ 2 * rows_most g.rows g.count 0 → at + 5 * (most + g.count * (last - place)) ≤ words
    → leb (at + 5 * length (step_flat g t place a).entries) words ≡ true
bound_fits g t place a last most at words e m h =
    let few = few_entries g t place a in
    let k = rw (e, m) at h in
    le-leb (at + 5 * length (step_flat g t place a).entries) words (omega arith)
