use Prim.Native.Nat.{◌+◌, ◌*◌, ◌-◌}
use mathlib.Core.Path.{◌≡◌}
use lib.ListN.{replicate}
use Rattle.trace.specs.Trace.{over, entry, ignored_kind}
use Rattle.step_releases.proofs.ignore.Given as goal

abbrev pub invariant-loop : goal.invariant-loop
invariant-loop l = (l.at ≡ l.from + 5 * l.counter)
    × (over l.initial.trace l.from (replicate l.count (entry l.t ignored_kind l.task)) ≡ over l.trace l.at (replicate (l.count - l.counter) (entry l.t ignored_kind l.task)))
