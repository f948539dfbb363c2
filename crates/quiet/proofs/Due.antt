-- When a periodic task is not due.
use Prim.Native.Nat.{ℕ, ◌+◌, ◌-◌, ◌*◌, ◌/◌, ◌%◌, ◌<◌, ◌≤◌}
use mathlib.Core.Path.{◌≡◌, ap, ◌∙◌}
use mathlib.Core.Bool.{false}
use native.Mathlib.Nat.{div-add-mod'}
use native.Mathlib.Omega.{arith}
use lib.Arith.{digits_mod}
use borrow.Author.Tests.{le-leb, lt-leb, ne_eqb}
use Rattle.steps.specs.Flat.{is_due}

-- before its offset
pub before-offset : (t offset period : ℕ) → t < offset → is_due t offset period ≡ false
before-offset t offset period h = rw (lt-leb offset t h)

-- between two releases: at t some ticks have passed since one, and u comes before the next
pub between-releases : (t u offset period : ℕ) → offset ≤ t → 0 < (t - offset) % period → t ≤ u → u < t + (period - (t - offset) % period)
    → is_due u offset period ≡ false
between-releases t u offset period h p l b =
    let x = t - offset in
    let q : x / period * period + x % period ≡ x = div-add-mod' x period in
    let s : u - offset ≡ x / period * period + (x % period + (u - t)) = omega arith in
    let m : (u - offset) % period ≡ x % period + (u - t) = ap (λ (n : ℕ). n % period) s ∙ digits_mod (x / period) (omega arith) in
    rw (le-leb offset u (omega arith)) (ne_eqb ((u - offset) % period) 0 (λ e. omega arith))
