-- The four statuses are four: no status is two of them.
use Prim.Native.Nat.{ℕ}
use mathlib.Core.Path.{◌≡◌}
use mathlib.Core.Logic.{inl, inr}
use native.Mathlib.Omega.{arith}
use Rattle.state.specs.Fitting.{InFlight, AtRest}
use Rattle.state.specs.declared.Status.{Status}
use Rattle.state.specs.declared.Status.TheVariants.{READY, ACTIVE, FINISHED, ERROR}

module _ (p : Status) where
  pub ready-active : p ≡ READY → p ≡ ACTIVE → ⊥
  ready-active e f = let z : ◌≡◌ {A = ℕ} 0 1 = cc in omega arith

  pub ready-finished : p ≡ READY → p ≡ FINISHED → ⊥
  ready-finished e f = let z : ◌≡◌ {A = ℕ} 0 1 = cc in omega arith

  pub ready-error : p ≡ READY → p ≡ ERROR → ⊥
  ready-error e f = let z : ◌≡◌ {A = ℕ} 0 1 = cc in omega arith

  pub active-finished : p ≡ ACTIVE → p ≡ FINISHED → ⊥
  active-finished e f = let z : ◌≡◌ {A = ℕ} 0 1 = cc in omega arith

  pub active-error : p ≡ ACTIVE → p ≡ ERROR → ⊥
  active-error e f = let z : ◌≡◌ {A = ℕ} 0 1 = cc in omega arith

  pub finished-error : p ≡ FINISHED → p ≡ ERROR → ⊥
  finished-error e f = let z : ◌≡◌ {A = ℕ} 0 1 = cc in omega arith

  -- at rest or in flight, never both
  pub rest_flight : AtRest p → InFlight p → ⊥
  rest_flight (inl e) (inl f) = ready-active e f
  rest_flight (inl e) (inr f) = ready-finished e f
  rest_flight (inr e) (inl f) = active-error f e
  rest_flight (inr e) (inr f) = finished-error f e
