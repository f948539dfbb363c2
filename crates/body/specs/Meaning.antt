-- Document 01, 'The body': what `fires` takes, said with no order of steps. No contract cites it: it shows that the definition
-- is the paper's sentence.
use Rattle.std.specs.Prelude.{◌≡◌, ℕ, ◌≤◌, true, List}
use mathlib.Core.List.{Memᴰ}
use Rattle.std.proofs.Math.Option.{Option, none, some}
use Rattle.plan.specs.File.{Transition}
use Rattle.body.specs.Body.{may_fire, fires}

-- from the machine state, "whose latched input is not 0"
abbrev pub May : List ℕ → ℕ → Transition → Type 0
May latched machine x = may_fire latched machine x ≡ true

-- of the transitions that P holds of, x is one "with the smallest order" that may fire
pub record Smallest (latched : List ℕ) (machine : ℕ) (P : Transition → Type 0) (x : Transition) : Type 0 where
  pub among : P x
  pub may : May latched machine x
  pub least : (y : Transition) → P y → May latched machine y → x.order ≤ y.order

-- what is taken of the transitions that P holds of, "at most one"; none only where none may fire
abbrev pub Right : List ℕ → ℕ → (Transition → Type 0) → Option Transition → Type 0
Right latched machine P none = (y : Transition) → P y → May latched machine y → ⊥
Right latched machine P (some x) = Smallest latched machine P x

-- ---- what is proved
-- "A supervisor takes, from its machine state, the transition with the smallest order whose latched input is not 0; at most one."
abbrev pub TheSmallestOrderFires : Type 0
TheSmallestOrderFires =
    (latched : List ℕ) (machine : ℕ) (transitions : List Transition)
    → Right latched machine (λ y. Memᴰ y transitions) (fires latched machine transitions)
