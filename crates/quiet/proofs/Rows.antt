-- When a row does nothing in steps 1 and 2, no event coming.
use Prim.Native.Nat.{ℕ, zero, suc, ◌+◌, ◌<◌}
use mathlib.Core.Path.{◌≡◌, refl, sym, ap, ◌∙◌}
use mathlib.Core.Bool.{Bool, true, false, cond, not, ◌&&◌, ◌||◌, or-true, true≢false, false≢true}
use mathlib.Core.List.{List, []}
use native.Mathlib.Omega.{arith}
use lib.Dec.{eqb}
use borrow.Author.Tests.{ne_eqb, eqb-true}
use Rattle.arrays.specs.Arrays.{Arrays, Step, still, ready, active, finished, field, row_field}
use Rattle.tick.specs.Turns.{requests, ignored, event_call, periodic_call}
use Rattle.trace.specs.Trace.{miss_kind}
use Rattle.steps.specs.Flat.{task_of_row, write_row, fail_row, ends_now, lapse, is_due, answer_row, grant}
use Rattle.state.specs.declared.Status.{Status}
use Rattle.state.specs.declared.Status.TheVariants.{READY, ACTIVE, FINISHED, ERROR}
use Rattle.state.specs.Numbers.{status_of}
use Rattle.quiet.specs.Quiet.{in_flight, RowQuiet}

-- ---- calls that come to nothing
-- no event asks
none_asked : (s : Status) (i : ℕ) → event_call s (requests i []) ≡ ignored 0
unfolding event_call requests
none_asked READY i = refl
none_asked ACTIVE i = refl
none_asked FINISHED i = refl
none_asked ERROR i = refl

-- it is not due
not_due : (s : Status) (no_d : Bool) → periodic_call s false no_d ≡ ignored 0
unfolding periodic_call
not_due READY no_d = refl
not_due ACTIVE true = refl
not_due ACTIVE false = refl
not_due FINISHED no_d = refl
not_due ERROR no_d = refl

-- it is not READY and has a deadline
not_open : (n : ℕ) (now no_d : Bool) → (eqb n ready || no_d) ≡ false → periodic_call (status_of n) now no_d ≡ ignored 0
unfolding status_of periodic_call
not_open zero now no_d e = absurd (true≢false e)
not_open (suc n) now true e = absurd (true≢false (sym (or-true (eqb (suc n) ready)) ∙ e))
not_open (suc zero) true false e = refl
not_open (suc zero) false false e = refl
not_open (suc (suc zero)) now false e = refl
not_open (suc (suc (suc n))) now false e = refl

-- ---- deadlines that do not end
and_none : (x : Bool) → (x && false) ≡ false
and_none true = refl
and_none false = refl

-- READY, or without a deadline
no_end : (t s r d : ℕ) → (eqb s ready || eqb d 0) ≡ true → (ends_now t r d && in_flight s) ≡ false
no_end t s r d h = go (eqb s ready) refl (eqb d 0) refl h
  where
    go : (a : Bool) → eqb s ready ≡ a → (b : Bool) → eqb d 0 ≡ b → (a || b) ≡ true → (ends_now t r d && in_flight s) ≡ false
    go true e b f g = rw (eqb-true s ready e) (and_none (ends_now t r d))
    go false e true f g = rw f
    go false e false f g = absurd (false≢true g)

-- the deadline is not now
not_now : (t s r d : ℕ) → t < r + d → (ends_now t r d && in_flight s) ≡ false
not_now t s r d b = rw (ne_eqb t (r + d) (λ e. omega arith), and_none (not (eqb d 0)))

-- ---- what the next instant of a row rests on
module _ (rows tasks : List ℕ) (j t : ℕ) where
  abbrev status : ℕ
  status = field tasks (task_of_row rows j) 0

  abbrev waits : Bool
  waits = eqb status ready || eqb (row_field rows j 2) 0

  -- it is event-driven
  pub asked_quiet : (b : Bool) → periodic_call (status_of status) (is_due t (row_field rows j 4) (row_field rows j 1)) (eqb (row_field rows j 2) 0) ≡ ignored 0
      → cond b (event_call (status_of status) (requests (task_of_row rows j) [])) (periodic_call (status_of status) (is_due t (row_field rows j 4) (row_field rows j 1)) (eqb (row_field rows j 2) 0)) ≡ ignored 0
  asked_quiet true h = none_asked (status_of status) (task_of_row rows j)
  asked_quiet false h = h

  pub driven_quiet : waits ≡ true → eqb (row_field rows j 1) 0 ≡ true → RowQuiet rows tasks j t
  driven_quiet h e = record { deadline = no_end t status (field tasks (task_of_row rows j) 2) (row_field rows j 2) h; call = rw e (none_asked (status_of status) (task_of_row rows j)) }

  -- it is not due
  pub due-quiet : waits ≡ true → is_due t (row_field rows j 4) (row_field rows j 1) ≡ false → RowQuiet rows tasks j t
  due-quiet h e = record { deadline = no_end t status (field tasks (task_of_row rows j) 2) (row_field rows j 2) h; call = asked_quiet (eqb (row_field rows j 1) 0) (rw e (not_due (status_of status) (eqb (row_field rows j 2) 0))) }

  -- it is in flight, and its deadline is not now
  pub flies_quiet : waits ≡ false → t < field tasks (task_of_row rows j) 2 + row_field rows j 2 → RowQuiet rows tasks j t
  flies_quiet h b = record {
    deadline = not_now t status (field tasks (task_of_row rows j) 2) (row_field rows j 2) b;
    call = asked_quiet (eqb (row_field rows j 1) 0) (not_open status (is_due t (row_field rows j 4) (row_field rows j 1)) (eqb (row_field rows j 2) 0) h);
  }

  -- it is in ERROR
  pub error-quiet : waits ≡ false → (eqb status active || eqb status finished) ≡ false → RowQuiet rows tasks j t
  error-quiet h e =
      record {
        deadline = ap (λ (b : Bool). ends_now t (field tasks (task_of_row rows j) 2) (row_field rows j 2) && b) (turned (eqb status active) (eqb status finished) e) ∙ and_none (ends_now t (field tasks (task_of_row rows j) 2) (row_field rows j 2));
        call = asked_quiet (eqb (row_field rows j 1) 0) (not_open status (is_due t (row_field rows j 4) (row_field rows j 1)) (eqb (row_field rows j 2) 0) h);
      }
    where
      turned : (a b : Bool) → (a || b) ≡ false → (b || a) ≡ false
      turned true b f = absurd (true≢false f)
      turned false true f = absurd (true≢false f)
      turned false false f = refl

-- ---- what a quiet row comes to
module _ (rows : List ℕ) (j t : ℕ) (a : Arrays) (q : RowQuiet rows a.tasks j t) where
  pub quiet-lapse : lapse t rows j a ≡ still a
  unfolding lapse
  quiet-lapse =
      go (ends_now t (field a.tasks (task_of_row rows j) 2) (row_field rows j 2)) (eqb (field a.tasks (task_of_row rows j) 0) finished) (eqb (field a.tasks (task_of_row rows j) 0) active) (write_row t rows j a) (fail_row t miss_kind rows j a) q.deadline
    where
      go : (e f b : Bool) (x y : Step) → (e && (f || b)) ≡ false → cond e (cond f x (cond b y (still a))) (still a) ≡ still a
      go true true b x y h = absurd (true≢false h)
      go true false true x y h = absurd (true≢false h)
      go true false false x y h = refl
      go false f b x y h = refl

  pub quiet-grant : grant t rows [] j a ≡ still a
  unfolding grant answer_row
  quiet-grant = rw q.call
