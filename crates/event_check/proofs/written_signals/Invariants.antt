use Prim.Native.Nat.{◌≤◌, ◌+◌, ◌-◌}
use mathlib.Core.Path.{◌≡◌}
use Rattle.words.specs.Words.{words_of}
use Rattle.lists.specs.Lists.{tab}
use Rattle.plan.specs.File.{body_of, task_of, all_outputs}
use Rattle.plan_check.specs.Clash.{mark_all}
use Rattle.event_check.specs.Targets.{written_by}
use Rattle.event_check.proofs.written_signals.Given as goal

abbrev pub invariant-loop-i : goal.invariant-loop-i
invariant-loop-i l = written_by (tab (λ j. task_of (body_of (words_of l.plan) (j + 1))) 0 l.tasks)
    ≡ mark_all l.marks (all_outputs (tab (λ j. task_of (body_of (words_of l.plan) (j + 1))) l.i (l.tasks - l.i)))
