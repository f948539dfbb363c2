use Prim.Native.Nat.{ℕ, ◌≤◌, ◌+◌, ◌*◌, ◌^◌}
use mathlib.Core.Path.{◌≡◌}
use mathlib.Core.List.{List}
use Rattle.turns.specs.declared.Called.{Called}
use Rattle.arrays.specs.Arrays.{Arrays}
use Rattle.steps.specs.Flat.{lapse, called}
use Rattle.steps.proofs.Laws.{Sofar}
use Rattle.step_deadlines.proofs.deadlines.Given as goal

abbrev pub arrays : List ℕ → List ℕ → List ℕ → List ℕ → Arrays
arrays signals tasks latched held = record { signals = signals; tasks = tasks; latched = latched; held = held }

-- what is left of the rows, and that those before came to their turns: each adds so many words at most
pub record Kept (rows : List ℕ) (count t calls : ℕ) (held signals₀ tasks₀ trace₀ : List ℕ) (from : ℕ) (signals tasks trace : List ℕ) (at : ℕ) (left : Called) : Type 0 where
  pub same_calls : left.calls ≡ calls
  pub same_count : left.count ≡ count
  pub room : at ≤ from + left.from * 2 ^ 35
  pub sofar : (latched : List ℕ) → Sofar (called calls (lapse t rows)) count (arrays signals₀ tasks₀ latched held) trace₀ from (arrays signals tasks latched held) trace at left.from

abbrev pub invariant-loop-row : goal.invariant-loop-row
invariant-loop-row l = (goal.iterator-loop-row).can_next l.row-iterator × (goal.iterator-loop-row).is_finite l.row-iterator
    × Kept l.rows l.count l.t l.calls l.held l.initial.signals l.initial.tasks l.initial.trace l.from l.signals l.tasks l.trace l.at l.row-iterator
