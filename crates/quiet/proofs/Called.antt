-- A tick in which rows that would do nothing have no turn in steps 1 and 2: it comes to the same, and such rows stay as quiet as
-- they were.
use Prim.Native.Nat.{ℕ, zero, suc, ◌+◌, ◌-◌, ◌*◌, ◌<◌, ◌≤◌}
use mathlib.Core.Path.{◌≡◌, refl, sym, ap, ◌∙◌, subst}
use mathlib.Core.Bool.{Bool, true, false, cond, ◌||◌, or-true, true≢false}
use mathlib.Core.List.{List}
use native.Mathlib.Omega.{arith}
use lib.Seq.{get_or-set_same, get_or-set_other}
use lib.Dec.{ltb, eqb}
use borrow.Author.Tests.{ltb-true, eqb-true, eqb-false}
use Rattle.marks.specs.Marks.{has}
use Rattle.trace.specs.Trace.{miss_kind}
use Rattle.events.specs.Events.{Event}
use Rattle.arrays.specs.Arrays.{Arrays, Step, still, ready, active, finished, field, with_field, row_field}
use Rattle.tick.specs.Turns.{requests, Call, released, overrun, ignored, periodic_call}
use Rattle.steps.specs.Flat.{each_row, called, task_of_row, write_row, fail_row, lapse, ends_now, is_due, call_of_row, answer_row, grant, finish_task, work, first_active, runs_flat, between}
use Rattle.step.specs.Step.{Given, place_after, with_events, step_flat, step_called}
use Rattle.state.specs.declared.Status.TheVariants.{ACTIVE}
use Rattle.state.specs.Numbers.{status_of}
use Rattle.quiet.specs.Quiet.{RowQuiet, Wakes, OthersWake, OthersLater, Distinct, OthersRest}
use Rattle.quiet.proofs.Rows.{asked_quiet, driven_quiet, due-quiet, quiet-lapse}
use Rattle.quiet.proofs.Ticks.{in_range}

-- ---- a turn changes no field of another task
abbrev Only : ℕ → List ℕ → List ℕ → Type 0
Only i tasks tasks' = (k f : ℕ) → f < 4 → (k ≡ i → ⊥) → field tasks' k f ≡ field tasks k f

only_then : (i : ℕ) (x y z : List ℕ) → Only i x y → Only i y z → Only i x z
only_then i x y z p q = λ k f small other. q k f small other ∙ p k f small other

only_field : (tasks : List ℕ) (i g x : ℕ) → g < 4 → Only i tasks (with_field tasks i g x)
only_field tasks i g x h = λ k f small other. get_or-set_other tasks (i * 4 + g) (k * 4 + f) x 0 (λ e. other (omega (arith, e, h, small)))

only_three : (tasks : List ℕ) (i g x y z : ℕ) → g < 4 → Only i tasks (with_field (with_field (with_field tasks i 0 x) i 1 y) i g z)
only_three tasks i g x y z h =
    let first = with_field tasks i 0 x in
    let second = with_field first i 1 y in
    only_then i tasks second (with_field second i g z) (only_then i tasks first second (only_field tasks i 0 x (omega arith)) (only_field first i 1 y (omega arith))) (only_field second i g z h)

module _ (t : ℕ) (rows : List ℕ) (j : ℕ) (a : Arrays) where
  lapse-only : Only (task_of_row rows j) a.tasks (lapse t rows j a).arrays.tasks
  unfolding lapse
  lapse-only =
      go (ends_now t (field a.tasks (task_of_row rows j) 2) (row_field rows j 2)) (eqb (field a.tasks (task_of_row rows j) 0) finished) (eqb (field a.tasks (task_of_row rows j) 0) active) (write_row t rows j a) (fail_row t miss_kind rows j a)
      (only_three a.tasks (task_of_row rows j) 2 _ _ _ (omega arith)) (only_three a.tasks (task_of_row rows j) 2 _ _ _ (omega arith))
    where
      go : (e f b : Bool) (x y : Step) → Only (task_of_row rows j) a.tasks x.arrays.tasks → Only (task_of_row rows j) a.tasks y.arrays.tasks
          → Only (task_of_row rows j) a.tasks (cond e (cond f x (cond b y (still a))) (still a)).arrays.tasks
      go true true b x y p q = p
      go true false true x y p q = q
      go true false false x y p q = λ k g small other. refl
      go false f b x y p q = λ k g small other. refl

  answer-only : (c : Call) → Only (task_of_row rows j) a.tasks (answer_row t rows j a c).arrays.tasks
  unfolding answer_row
  answer-only (released n) = only_three a.tasks (task_of_row rows j) 2 _ _ _ (omega arith)
  answer-only overrun = only_three a.tasks (task_of_row rows j) 2 _ _ _ (omega arith)
  answer-only (ignored n) = λ k g small other. refl

  grant-only : (now : List Event) → Only (task_of_row rows j) a.tasks (grant t rows now j a).arrays.tasks
  unfolding grant
  grant-only now = answer-only (call_of_row t rows now j a.tasks)

  work-only : (ws : List ℕ) → Only (task_of_row rows j) a.tasks (work t ws rows j a).arrays.tasks
  unfolding work
  work-only ws =
      let i = task_of_row rows j in
      let done = only_three a.tasks i 3 _ _ _ (omega arith) in
      go (eqb (field a.tasks i 1 - 1) 0) (eqb (row_field rows j 2) 0) (write_row t rows j (finish_task ws i a)) (still (finish_task ws i a)) _
      (only_then i a.tasks (finish_task ws i a).tasks (write_row t rows j (finish_task ws i a)).arrays.tasks done (only_three (finish_task ws i a).tasks i 2 ready 0 0 (omega arith))) done (only_field a.tasks i 1 _ (omega arith))
    where
      go : (e f : Bool) (x y z : Step) → Only (task_of_row rows j) a.tasks x.arrays.tasks → Only (task_of_row rows j) a.tasks y.arrays.tasks
          → Only (task_of_row rows j) a.tasks z.arrays.tasks → Only (task_of_row rows j) a.tasks (cond e (cond f x y) z).arrays.tasks
      go true true x y z p q r = p
      go true false x y z p q r = q
      go false f x y z p q r = r

-- ---- what a row's quiet rests on: the fields of its own task
abbrev Same : List ℕ → ℕ → List ℕ → List ℕ → Type 0
Same rows j tasks tasks' = (f : ℕ) → f < 4 → field tasks' (task_of_row rows j) f ≡ field tasks (task_of_row rows j) f

-- row j does nothing in steps 1 and 2 of tick t, with these events
record Sleeps (rows : List ℕ) (t : ℕ) (now : List Event) (j : ℕ) (tasks : List ℕ) : Type 0 where
  quiet : RowQuiet rows tasks j t
  call : call_of_row t rows now j tasks ≡ ignored 0

-- the status and the release instant
quiet-two : (rows : List ℕ) (j t : ℕ) (tasks tasks' : List ℕ) → field tasks' (task_of_row rows j) 0 ≡ field tasks (task_of_row rows j) 0
    → field tasks' (task_of_row rows j) 2 ≡ field tasks (task_of_row rows j) 2 → RowQuiet rows tasks j t → RowQuiet rows tasks' j t
quiet-two rows j t tasks tasks' e₀ e₂ q = record { deadline = rw (e₀, e₂) q.deadline; call = rw e₀ q.call }

module _ (rows : List ℕ) (j : ℕ) (tasks tasks' : List ℕ) (same : Same rows j tasks tasks') where
  quiet-kept : (t : ℕ) → RowQuiet rows tasks j t → RowQuiet rows tasks' j t
  quiet-kept t q = quiet-two rows j t tasks tasks' (same 0 (omega arith)) (same 2 (omega arith)) q

  sleeps_kept : (t : ℕ) (now : List Event) → Sleeps rows t now j tasks → Sleeps rows t now j tasks'
  sleeps_kept t now s = record { quiet = quiet-kept t s.quiet; call = rw (same 0 (omega arith)) s.call }

module _ (rows : List ℕ) (t : ℕ) (now : List Event) (j : ℕ) (a : Arrays) (s : Sleeps rows t now j a.tasks) where
  sleeps_lapse : lapse t rows j a ≡ still a
  sleeps_lapse = quiet-lapse rows j t a s.quiet

  sleeps_grant : grant t rows now j a ≡ still a
  unfolding grant answer_row
  sleeps_grant = rw s.call

-- ---- rows in turn
module _ (rows : List ℕ) (n : ℕ) (distinct : Distinct rows n) (t : ℕ) (now : List Event) (act : ℕ → Arrays → Step)
    (only : (k : ℕ) (a : Arrays) → Only (task_of_row rows k) a.tasks (act k a).arrays.tasks)
    (rests : (k : ℕ) (a : Arrays) → Sleeps rows t now k a.tasks → act k a ≡ still a) where
  -- the task of a row that does nothing stays through the turn of any row
  one_same : (j k : ℕ) (a : Arrays) → j < n → k < n → Sleeps rows t now j a.tasks → Same rows j a.tasks (act k a).arrays.tasks
  one_same j k a hj hk s = go (eqb j k) refl
    where
      go : (b : Bool) → eqb j k ≡ b → Same rows j a.tasks (act k a).arrays.tasks
      go true e = λ f small. ap (λ (u : Step). field u.arrays.tasks (task_of_row rows j) f) (ap (λ (i : ℕ). act i a) (sym (eqb-true j k e)) ∙ rests j a s)
      go false e = λ f small. only k a (task_of_row rows j) f small (λ i. eqb-false j k e (distinct j k hj hk i))

  -- and so through those of m rows
  rows_same : (j m k : ℕ) (a : Arrays) → j < n → k + m ≤ n → Sleeps rows t now j a.tasks → Same rows j a.tasks (each_row act m k a).arrays.tasks
  unfolding each_row
  rows_same j zero k a hj hk s = λ f small. refl
  rows_same j (suc m) k a hj hk s =
      let one = one_same j k a hj (omega arith) s in
      let rest = rows_same j m (k + 1) (act k a).arrays hj (omega arith) (sleeps_kept rows j a.tasks (act k a).arrays.tasks one t now s) in
      λ f small. rest f small ∙ one f small

  -- rows that do nothing need no turn
  rows_called : (calls m k : ℕ) (a : Arrays) → k + m ≤ n → ((j : ℕ) → j < n → has calls j ≡ false → Sleeps rows t now j a.tasks)
      → each_row (called calls act) m k a ≡ each_row act m k a
  unfolding each_row
  rows_called calls zero k a hk s = refl
  rows_called calls (suc m) k a hk s =
      let next = rows_called calls m (k + 1) (act k a).arrays (omega arith)
      (λ j hj b. sleeps_kept rows j a.tasks (act k a).arrays.tasks (one_same j k a hj (omega arith) (s j hj b)) t now (s j hj b)) in
      rw (turn (has calls k) refl, next)
    where
      turn : (b : Bool) → has calls k ≡ b → cond b (act k a) (still a) ≡ act k a
      turn true e = refl
      turn false e = sym (rests k a (s k (omega arith) e))

-- ---- step 3
-- the row that runs is ACTIVE
first_active_lem : (rows tasks : List ℕ) (m k : ℕ) → first_active rows tasks m k < k + m → field tasks (task_of_row rows (first_active rows tasks m k)) 0 ≡ active
unfolding first_active
first_active_lem rows tasks zero k h = absurd (omega arith)
first_active_lem rows tasks (suc m) k h = go (eqb (field tasks (task_of_row rows k) 0) active) refl (first_active_lem rows tasks m (k + 1)) h
  where
    go : (b : Bool) → eqb (field tasks (task_of_row rows k) 0) active ≡ b
        → (first_active rows tasks m (k + 1) < k + 1 + m → field tasks (task_of_row rows (first_active rows tasks m (k + 1))) 0 ≡ active)
        → cond b k (first_active rows tasks m (k + 1)) < k + suc m → field tasks (task_of_row rows (cond b k (first_active rows tasks m (k + 1)))) 0 ≡ active
    go true e f l = eqb-true (field tasks (task_of_row rows k) 0) active e
    go false e f l = f (omega (arith, l))

-- an ACTIVE task without a deadline that does nothing is not due
is_overrun : Call → Bool
is_overrun (released n) = false
is_overrun overrun = true
is_overrun (ignored n) = false

undue : (due : Bool) → periodic_call ACTIVE due true ≡ ignored 0 → due ≡ false
unfolding periodic_call is_overrun
undue true e = absurd (true≢false (ap is_overrun e))
undue false e = refl

-- an ACTIVE task that runs for a tick
module _ (t t' : ℕ) (ws rows : List ℕ) (j : ℕ) (a : Arrays) (runs : field a.tasks (task_of_row rows j) 0 ≡ active) (q : RowQuiet rows a.tasks j t') where
  -- it is done, writes and is READY: it was not due, or is event-driven
  written_quiet : (tasks : List ℕ) → eqb (row_field rows j 2) 0 ≡ true → RowQuiet rows tasks j t'
  unfolding status_of
  written_quiet tasks d = go (eqb (row_field rows j 1) 0) refl
    where
      waits : (eqb (field tasks (task_of_row rows j) 0) ready || eqb (row_field rows j 2) 0) ≡ true
      waits = rw d (or-true (eqb (field tasks (task_of_row rows j) 0) ready))

      go : (b : Bool) → eqb (row_field rows j 1) 0 ≡ b → RowQuiet rows tasks j t'
      go true e = driven_quiet rows tasks j t' waits e
      go false e = due-quiet rows tasks j t' waits (undue (is_due t' (row_field rows j 4) (row_field rows j 1)) (rw (e, runs, d) at q.call))

  -- it is done, and FINISHED
  finished-quiet : RowQuiet rows (finish_task ws (task_of_row rows j) a).tasks j t'
  unfolding status_of periodic_call
  finished-quiet =
      let i = task_of_row rows j in
      let first = with_field a.tasks i 0 finished in
      let second = with_field first i 1 0 in
      let status : field (finish_task ws i a).tasks i 0 ≡ finished =
      get_or-set_other second (i * 4 + 3) (i * 4 + 0) _ 0 (λ e. omega (arith, e))
      ∙ get_or-set_other first (i * 4 + 1) (i * 4 + 0) 0 0 (λ e. omega (arith, e))
      ∙ get_or-set_same a.tasks (i * 4 + 0) finished 0 (in_range a.tasks (i * 4 + 0) (omega (arith, runs))) in
      let instant : field (finish_task ws i a).tasks i 2 ≡ field a.tasks i 2 =
      get_or-set_other second (i * 4 + 3) (i * 4 + 2) _ 0 (λ e. omega (arith, e))
      ∙ get_or-set_other first (i * 4 + 1) (i * 4 + 2) 0 0 (λ e. omega (arith, e))
      ∙ get_or-set_other a.tasks (i * 4 + 0) (i * 4 + 2) finished 0 (λ e. omega (arith, e)) in
      record {
        deadline = rw (status, instant) (rw runs at q.deadline);
        call = asked_quiet rows (finish_task ws i a).tasks j t' (eqb (row_field rows j 1) 0) (rw status);
      }

  work-quiet : RowQuiet rows (work t ws rows j a).arrays.tasks j t'
  unfolding work
  work-quiet = go (eqb (field a.tasks (task_of_row rows j) 1 - 1) 0) (eqb (row_field rows j 2) 0) refl
    where
      less : Arrays
      less = record {
        signals = a.signals;
        tasks = with_field a.tasks (task_of_row rows j) 1 (field a.tasks (task_of_row rows j) 1 - 1);
        latched = a.latched;
        held = a.held;
      }

      go : (e d : Bool) → eqb (row_field rows j 2) 0 ≡ d
          → RowQuiet rows (cond e (cond d (write_row t rows j (finish_task ws (task_of_row rows j) a)) (still (finish_task ws (task_of_row rows j) a))) (still less)).arrays.tasks j t'
      go true true h = written_quiet (write_row t rows j (finish_task ws (task_of_row rows j) a)).arrays.tasks h
      go true false h = finished-quiet
      go false d h = quiet-two rows j t' a.tasks less.tasks
          (get_or-set_other a.tasks (task_of_row rows j * 4 + 1) (task_of_row rows j * 4 + 0) _ 0 (λ e. omega (arith, e)))
          (get_or-set_other a.tasks (task_of_row rows j * 4 + 1) (task_of_row rows j * 4 + 2) _ 0 (λ e. omega (arith, e))) q

-- step 3 leaves a row as quiet as it was
runs-quiet : (t t' : ℕ) (ws rows : List ℕ) (n j : ℕ) (a : Arrays) → Distinct rows n → j < n → RowQuiet rows a.tasks j t'
    → RowQuiet rows (runs_flat t ws rows n a).arrays.tasks j t'
unfolding runs_flat
runs-quiet t t' ws rows n j a distinct h q = go (ltb first n) refl (eqb j first) refl
  where
    first : ℕ
    first = first_active rows a.tasks n 0

    go : (b : Bool) → ltb first n ≡ b → (c : Bool) → eqb j first ≡ c → RowQuiet rows (cond b (work t ws rows first a) (still a)).arrays.tasks j t'
    go true e true f =
        let same = eqb-true j first f in
        let below = ltb-true first n e in
        subst (λ (k : ℕ). RowQuiet rows (work t ws rows k a).arrays.tasks j t') same
        (work-quiet t t' ws rows j a (ap (λ (k : ℕ). field a.tasks (task_of_row rows k) 0) same ∙ first_active_lem rows a.tasks n 0 (omega (arith, below))) q)
    go true e false f = quiet-kept rows j a.tasks (work t ws rows first a).arrays.tasks
        (λ k small. work-only t rows first a ws (task_of_row rows j) k small (λ i. eqb-false j first f (distinct j first h (ltb-true first n e) i))) t' q
    go false e c f = q

-- ---- a tick
module _ (calls : ℕ) (g : Given) (t place : ℕ) (a : Arrays) (distinct : Distinct g.rows g.count) (others : OthersRest calls g t place a.tasks) where
  abbrev now : List Event
  now = between g.events place (place_after g t place)

  abbrev lapsed : Step
  lapsed = each_row (lapse t g.rows) g.count 0 (with_events now a)

  abbrev granted : Step
  granted = each_row (grant t g.rows now) g.count 0 lapsed.arrays

  -- what the rows without a turn do at their turn in step 1
  sleeps : (j : ℕ) → j < g.count → has calls j ≡ false → Sleeps g.rows t now j a.tasks
  unfolding requests
  sleeps j h b = record { quiet = (others j h b).quiet; call = rw (others j h b).unasked (others j h b).quiet.call }

  lapsed_same : (j : ℕ) → j < g.count → has calls j ≡ false → Same g.rows j a.tasks lapsed.arrays.tasks
  lapsed_same j h b =
      rows_same g.rows g.count distinct t now (lapse t g.rows) (λ k x. lapse-only t g.rows k x) (λ k x s. sleeps_lapse g.rows t now k x s)
      j g.count 0 (with_events now a) h (omega arith) (sleeps j h b)

  -- and in step 2
  sleeps_on : (j : ℕ) → j < g.count → has calls j ≡ false → Sleeps g.rows t now j lapsed.arrays.tasks
  sleeps_on j h b = sleeps_kept g.rows j a.tasks lapsed.arrays.tasks (lapsed_same j h b) t now (sleeps j h b)

  granted_same : (j : ℕ) → j < g.count → has calls j ≡ false → Same g.rows j lapsed.arrays.tasks granted.arrays.tasks
  granted_same j h b =
      rows_same g.rows g.count distinct t now (grant t g.rows now) (λ k x. grant-only t g.rows k x now) (λ k x s. sleeps_grant g.rows t now k x s)
      j g.count 0 lapsed.arrays h (omega arith) (sleeps_on j h b)

  -- the tick comes to the same
  pub called-all : step_called calls g t place a ≡ step_flat g t place a
  unfolding step_called step_flat
  called-all =
      rw (
        rows_called g.rows g.count distinct t now (lapse t g.rows) (λ k x. lapse-only t g.rows k x) (λ k x s. sleeps_lapse g.rows t now k x s)
            calls g.count 0 (with_events now a) (omega arith) sleeps,
        rows_called g.rows g.count distinct t now (grant t g.rows now) (λ k x. grant-only t g.rows k x now) (λ k x s. sleeps_grant g.rows t now k x s)
            calls g.count 0 lapsed.arrays (omega arith) sleeps_on,
      )

  -- and leaves a row without a turn as quiet as it was
  pub called-keeps : (j t' : ℕ) → j < g.count → has calls j ≡ false → RowQuiet g.rows a.tasks j t' → RowQuiet g.rows (step_flat g t place a).arrays.tasks j t'
  unfolding step_flat
  called-keeps j t' h b q =
      runs-quiet t t' g.plan g.rows g.count j granted.arrays distinct h
      (quiet-kept g.rows j lapsed.arrays.tasks granted.arrays.tasks (granted_same j h b) t'
      (quiet-kept g.rows j a.tasks lapsed.arrays.tasks (lapsed_same j h b) t' q))

  -- its instant stands
  pub others_wake : (wakes : List ℕ) → Wakes g.rows a.tasks g.count t wakes → OthersWake calls g.rows (step_flat g t place a).arrays.tasks g.count (t + 1) wakes
  others_wake wakes w = λ j h b t' l m. called-keeps j t' h b (w j h t' (omega (arith, l)) m)

-- ---- which rows may go without their turn, by their instants and by the events
pub others_rest : (calls : ℕ) (g : Given) (t place : ℕ) (tasks wakes : List ℕ) → Wakes g.rows tasks g.count t wakes
    → OthersLater calls g.rows g.count (between g.events place (place_after g t place)) t wakes → OthersRest calls g t place tasks
others_rest calls g t place tasks wakes w later = λ j h b. record { quiet = w j h t (omega arith) (later j h b).0; unasked = (later j h b).1 }
