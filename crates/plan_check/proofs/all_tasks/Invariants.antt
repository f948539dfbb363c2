use Prim.Native.Nat.{◌+◌, ◌-◌}
use mathlib.Core.Path.{◌≡◌}
use Rattle.words.specs.Words.{words_of}
use Rattle.lists.specs.Lists.{tab}
use Rattle.answers.specs.Answers.{first_broken}
use Rattle.plan.specs.File.{body_of}
use Rattle.plan.specs.Rules.{task_rules}
use Rattle.plan_check.proofs.all_tasks.Given as goal

abbrev pub invariant-loop-i : goal.invariant-loop-i
invariant-loop-i l = first_broken (task_rules l.signals 0 (tab (λ j. body_of (words_of l.bytes) (j + 1)) 0 l.tasks))
    ≡ first_broken (task_rules l.signals l.i (tab (λ j. body_of (words_of l.bytes) (j + 1)) l.i (l.tasks - l.i)))
