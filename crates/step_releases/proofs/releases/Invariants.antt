use Prim.Native.Nat.{ℕ, ◌≤◌, ◌+◌, ◌*◌, ◌^◌}
use mathlib.Core.Path.{◌≡◌}
use mathlib.Core.List.{List}
use Rattle.turns.specs.declared.Called.{Called}
use Rattle.words.specs.Words.{words_of}
use Rattle.events.specs.Events.{Event}
use Rattle.arrays.specs.Arrays.{Arrays}
use Rattle.steps.specs.Flat.{between, grant, called}
use Rattle.steps.proofs.Laws.{Sofar}
use Rattle.step_releases.proofs.releases.Given as goal

abbrev pub arrays : List ℕ → List ℕ → List ℕ → List ℕ → Arrays
arrays signals tasks latched held = record { signals = signals; tasks = tasks; latched = latched; held = held }

-- what is left of the rows, and that those before came to their turns: each adds so many words at most
pub record Kept (rows : List ℕ) (count t calls : ℕ) (now : List Event) (signals tasks₀ latched₀ trace₀ : List ℕ) (from : ℕ) (tasks latched trace : List ℕ) (at : ℕ) (left : Called) : Type 0 where
  pub same_calls : left.calls ≡ calls
  pub same_count : left.count ≡ count
  pub room : at ≤ from + left.from * 2 ^ 35
  pub sofar : (held : List ℕ) → Sofar (called calls (grant t rows now)) count (arrays signals tasks₀ latched₀ held) trace₀ from (arrays signals tasks latched held) trace at left.from

abbrev pub invariant-loop-row : goal.invariant-loop-row
invariant-loop-row l = (goal.iterator-loop-row).can_next l.row-iterator × (goal.iterator-loop-row).is_finite l.row-iterator
    × Kept l.rows l.count l.moment.t l.calls (between (words_of l.events) l.moment.first l.moment.last) l.signals l.initial.tasks l.initial.latched l.initial.trace l.from l.tasks l.latched l.trace l.at l.row-iterator
