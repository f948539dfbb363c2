use Prim.Native.Nat.{◌≤◌, ◌-◌}
use mathlib.Core.Path.{◌≡◌}
use Rattle.words.specs.Words.{words_of}
use Rattle.event_check.specs.Targets.{driven_by}
use Rattle.event_check.proofs.driven_tasks.Given as goal

abbrev pub invariant-loop-i : goal.invariant-loop-i
invariant-loop-i l = l.marks ≡ driven_by (words_of l.plan) l.i
