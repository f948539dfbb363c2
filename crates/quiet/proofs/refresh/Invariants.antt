use mathlib.Core.Path.{◌≡◌}
use Rattle.turns.specs.declared.Called.{Called}
use Rattle.quiet.proofs.Wakes.{Fresh}
use Rattle.quiet.proofs.refresh.Given as goal

abbrev pub invariant-loop-row : goal.invariant-loop-row
invariant-loop-row l = (goal.iterator-loop-row).can_next l.row-iterator × (goal.iterator-loop-row).is_finite l.row-iterator
    × (l.row-iterator.calls ≡ l.calls) × (l.row-iterator.count ≡ l.count)
    × Fresh l.calls l.rows l.tasks l.count l.t l.wakes l.row-iterator.from
