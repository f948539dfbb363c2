use Prim.Native.Nat.{◌+◌, ◌-◌}
use mathlib.Core.Path.{◌≡◌}
use Rattle.words.specs.Words.{words_of}
use Rattle.lists.specs.Lists.{tab}
use Rattle.plan.specs.File.{body_of, task_of}
use Rattle.plan_check.specs.Clash.{clash_from, clash_number, numbers_of}
use Rattle.plan_check.proofs.first_clash.Given as goal

abbrev pub invariant-loop-i : goal.invariant-loop-i
invariant-loop-i l = clash_from (clash_number l.numbers) 0 0 (tab (λ j. numbers_of l.numbers (task_of (body_of (words_of l.bytes) (j + 1)))) 0 l.tasks)
    ≡ clash_from (clash_number l.numbers) l.i l.marks (tab (λ j. numbers_of l.numbers (task_of (body_of (words_of l.bytes) (j + 1)))) l.i (l.tasks - l.i))
