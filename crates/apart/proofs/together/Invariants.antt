use mathlib.Core.List.{[]}
use Rattle.limits.specs.Limits.{max_tasks}
use Rattle.state.specs.State.{nowhere}
use Rattle.whole.specs.Whole.{task_in}
use Rattle.apart.proofs.Fill.{Filled}
use Rattle.apart.proofs.together.Given as goal

abbrev pub invariant-loop-i : goal.invariant-loop-i
invariant-loop-i l = Filled (task_in (record { signals = []; tasks = l.tasks; latched = l.latched; held = l.held })) nowhere max_tasks l.i l.states
