-- The events that ask for a task and the ports of a task, one at a time; what the turn of a row comes to.
use Prim.Native.Nat.{ℕ, zero, suc, ◌+◌, ◌-◌, ◌*◌, ◌<◌, ◌≤◌}
use mathlib.Core.Path.{◌≡◌, refl, ap, ◌∙◌}
use mathlib.Core.Bool.{Bool, true, false, cond, not, ◌&&◌, ◌||◌, true≢false, false≢true}
use mathlib.Core.List.{List, [], ◌∷◌}
use native.Mathlib.Omega.{arith}
use lib.ListN.{set, replicate}
use lib.Dec.{eqb, eqb-suc-zero}
use borrow.Author.Tests.{eq-eqb, ne_eqb, eqb-true, eqb-false}
use Rattle.std.specs.Int.{from_bool}
use Rattle.lists.specs.Lists.{tab}
use Rattle.lists.proofs.Laws.{more, done, tab-more, tab-done}
use Rattle.events.specs.Events.{Event}
use Rattle.state.specs.declared.Status.TheVariants.{READY}
use Rattle.state.specs.Numbers.{status_of}
use Rattle.arrays.specs.Arrays.{field, row_field}
use Rattle.tick.specs.Turns.{requests, released, overrun, ignored, periodic_call, event_call}
use Rattle.steps.specs.Flat.{latch, latched_at, task_of_row, is_due, call_of_row}
use Rattle.step_releases.specs.Asked.{asked_of, closed}

-- a test as a number
pub one_where : (b : Bool) → from_bool b ≡ cond b 1 0
one_where true = refl
one_where false = refl

pub one_at_most : {n : ℕ} (b : Bool) → n ≡ from_bool b → n ≤ 1
one_at_most true e = omega (arith, e)
one_at_most false e = omega (arith, e)

module _ (f : ℕ → Event) (n p : ℕ) where
  pub asks_more : (i k : ℕ) → p < n
      → k + requests i (tab f p (n - p)) ≡ k + cond (eqb (f p).kind 1 && eqb (f p).target i) 1 0 + requests i (tab f (p + 1) (n - (p + 1)))
  unfolding requests
  asks_more i k h = rw (tab-more f n p h) (go (eqb (f p).kind 1 && eqb (f p).target i) (requests i (tab f (p + 1) (n - (p + 1)))))
    where
      go : (b : Bool) (m : ℕ) → k + cond b (suc m) m ≡ k + cond b 1 0 + m
      go true m = omega arith
      go false m = omega arith

  pub asks_done : (i k : ℕ) → n ≤ p → k + requests i (tab f p (n - p)) ≡ k
  unfolding requests
  asks_done i k h = rw (tab-done f n p h) (omega arith)

module _ (rows : List ℕ) (j : ℕ) (signals : List ℕ) (n p : ℕ) (latched : List ℕ) where
  pub latch-more : p < n → latch rows j signals (n - p) p latched ≡ latch rows j signals (n - (p + 1)) (p + 1) (set latched (task_of_row rows j * 8 + p) (latched_at rows j signals p))
  unfolding latch
  latch-more h = rw (more n p h)

  pub latch-done : n ≤ p → latch rows j signals (n - p) p latched ≡ latched
  unfolding latch
  latch-done h = rw (done n p h)

-- ---- records of one kind
module _ {A : Type 0} (e : A) (n k : ℕ) where
  pub copies_more : k < n → replicate (n - k) e ≡ e ∷ replicate (n - (k + 1)) e
  copies_more h = rw (more n k h)

  pub copies_done : n ≤ k → replicate (n - k) e ≡ []
  copies_done h = rw (done n k h)

-- ---- what the turn of a row comes to, by how often its task is asked to start
event_busy : (s n : ℕ) → event_call (status_of (suc s)) n ≡ ignored n
unfolding event_call status_of
event_busy zero n = refl
event_busy (suc zero) n = refl
event_busy (suc (suc s)) n = refl

event_ready : (n : ℕ) → event_call READY n ≡ cond (eqb n 0) (ignored 0) (released (n - 1))
unfolding event_call
event_ready zero = refl
event_ready (suc n) = rw (eqb-suc-zero n) (ap released (omega arith))

periodic_busy : (s : ℕ) (d z : Bool) → periodic_call (status_of (suc s)) d z ≡ cond (eqb (suc s) 1 && d && z) overrun (ignored 0)
unfolding periodic_call status_of
periodic_busy zero true true = refl
periodic_busy zero true false = refl
periodic_busy zero false z = refl
periodic_busy (suc zero) d z = refl
periodic_busy (suc (suc s)) d z = rw (ne_eqb (suc (suc (suc s))) 1 (λ e. omega (arith, e)))

module _ (t : ℕ) (rows : List ℕ) (now : List Event) (j : ℕ) (tasks : List ℕ) where
  abbrev asked : ℕ
  asked = asked_of t rows now j

  abbrev status : ℕ
  status = field tasks (task_of_row rows j) 0

  -- READY: asked or not
  pub call-ready : status ≡ 0 → call_of_row t rows now j tasks ≡ cond (eqb asked 0) (ignored 0) (released (asked - 1))
  unfolding status_of periodic_call
  call-ready e = rw e (go (eqb (row_field rows j 1) 0) (is_due t (row_field rows j 4) (row_field rows j 1)))
    where
      go : (p d : Bool) → cond p (event_call READY (requests (task_of_row rows j) now)) (periodic_call READY d (eqb (row_field rows j 2) 0))
          ≡ cond (eqb (cond p (requests (task_of_row rows j) now) (cond d 1 0)) 0) (ignored 0) (released (cond p (requests (task_of_row rows j) now) (cond d 1 0) - 1))
      go true d = event_ready (requests (task_of_row rows j) now)
      go false true = refl
      go false false = refl

  -- not READY and event-driven: each event is ignored
  pub call-events : (status ≡ 0 → ⊥) → row_field rows j 1 ≡ 0 → call_of_row t rows now j tasks ≡ ignored asked
  call-events n p = rw (eq-eqb (row_field rows j 1) 0 p) (go status n)
    where
      go : (s : ℕ) → (s ≡ 0 → ⊥) → event_call (status_of s) (requests (task_of_row rows j) now) ≡ ignored (requests (task_of_row rows j) now)
      go zero f = absurd (f refl)
      go (suc s) f = event_busy s (requests (task_of_row rows j) now)

  -- not READY and periodic: due while ACTIVE with no deadline, or nothing
  pub call-periodic : (status ≡ 0 → ⊥) → (row_field rows j 1 ≡ 0 → ⊥)
      → call_of_row t rows now j tasks ≡ cond (eqb status 1 && not (eqb asked 0) && eqb (row_field rows j 2) 0) overrun (ignored 0)
  call-periodic n p = rw (ne_eqb (row_field rows j 1) 0 p) (go status n (is_due t (row_field rows j 4) (row_field rows j 1)))
    where
      go : (s : ℕ) → (s ≡ 0 → ⊥) → (d : Bool)
          → periodic_call (status_of s) d (eqb (row_field rows j 2) 0) ≡ cond (eqb s 1 && not (eqb (cond d 1 0) 0) && eqb (row_field rows j 2) 0) overrun (ignored 0)
      go zero f d = absurd (f refl)
      go (suc s) f true = periodic_busy s true (eqb (row_field rows j 2) 0)
      go (suc s) f false = periodic_busy s false (eqb (row_field rows j 2) 0)

  -- the same where it is asked
  pub call-due : (status ≡ 0 → ⊥) → (row_field rows j 1 ≡ 0 → ⊥) → (asked ≡ 0 → ⊥)
      → call_of_row t rows now j tasks ≡ cond (eqb status 1 && eqb (row_field rows j 2) 0) overrun (ignored 0)
  call-due n p a = call-periodic n p ∙ go (eqb status 1) (eqb asked 0) (eqb (row_field rows j 2) 0) (ne_eqb asked 0 a)
    where
      go : (x y z : Bool) → y ≡ false → cond (x && not y && z) overrun (ignored 0) ≡ cond (x && z) overrun (ignored 0)
      go true y z e = rw e
      go false y z e = refl

  -- the same where it is not closed: it overruns
  pub call-overrun : (status ≡ 0 → ⊥) → (row_field rows j 1 ≡ 0 → ⊥) → (asked ≡ 0 → ⊥) → closed (row_field rows j 1) status (row_field rows j 2) ≡ false → call_of_row t rows now j tasks ≡ overrun
  call-overrun n p a h = call-due n p a ∙ go (eqb (row_field rows j 1) 0) (ne_eqb (row_field rows j 1) 0 p) (eqb status 0) (ne_eqb status 0 n) (eqb status 1) (eqb (row_field rows j 2) 0) h
    where
      go : (p : Bool) → p ≡ false → (s : Bool) → s ≡ false → (x z : Bool) → (not p && not s && (not x || not z)) ≡ false → cond (x && z) overrun (ignored 0) ≡ overrun
      go true e s f x z h = absurd (true≢false e)
      go false e true f x z h = absurd (true≢false f)
      go false e false f true true h = refl
      go false e false f true false h = absurd (true≢false h)
      go false e false f false z h = absurd (true≢false h)

  -- closed: nothing, whatever is asked
  pub call-closed : closed (row_field rows j 1) status (row_field rows j 2) ≡ true → call_of_row t rows now j tasks ≡ ignored 0
  call-closed h = go (eqb (row_field rows j 1) 0) refl (eqb status 0) refl h
    where
      none : (x y z : Bool) → (not x || not z) ≡ true → cond (x && not y && z) overrun (ignored 0) ≡ ignored 0
      none true y true h = absurd (false≢true h)
      none true true false h = refl
      none true false false h = refl
      none false y z h = refl

      go : (p : Bool) → eqb (row_field rows j 1) 0 ≡ p → (s : Bool) → eqb status 0 ≡ s
          → (not p && not s && (not (eqb status 1) || not (eqb (row_field rows j 2) 0))) ≡ true → call_of_row t rows now j tasks ≡ ignored 0
      go true e s f g = absurd (false≢true g)
      go false e true f g = absurd (false≢true g)
      go false e false f g = call-periodic (eqb-false status 0 f) (eqb-false (row_field rows j 1) 0 e) ∙ none (eqb status 1) (eqb asked 0) (eqb (row_field rows j 2) 0) g

  -- not asked: nothing, whatever its status
  pub call_none : asked ≡ 0 → call_of_row t rows now j tasks ≡ ignored 0
  call_none a = go (eqb status 0) refl (eqb (row_field rows j 1) 0) refl
    where
      none : (x z : Bool) → cond (x && false && z) overrun (ignored 0) ≡ ignored 0
      none true z = refl
      none false z = refl

      go : (x : Bool) → eqb status 0 ≡ x → (y : Bool) → eqb (row_field rows j 1) 0 ≡ y → call_of_row t rows now j tasks ≡ ignored 0
      go true e y f = call-ready (eqb-true status 0 e) ∙ rw (eq-eqb asked 0 a)
      go false e true f = call-events (eqb-false status 0 e) (eqb-true (row_field rows j 1) 0 f) ∙ ap ignored a
      go false e false f = call-periodic (eqb-false status 0 e) (eqb-false (row_field rows j 1) 0 f) ∙ rw (eq-eqb asked 0 a) (none (eqb status 1) (eqb (row_field rows j 2) 0))
