use Prim.Native.Nat.{◌≤◌, ◌+◌, ◌-◌}
use mathlib.Core.Path.{◌≡◌}
use mathlib.Core.Bool.{◌&&◌}
use lib.Dec.{ltb}
use Rattle.words.specs.Words.{words_of}
use Rattle.lists.specs.Lists.{tab, all}
use Rattle.plan.specs.File.{word, values}
use Rattle.plan_task.proofs.signals_hold.Given as goal

abbrev pub invariant-loop-j : goal.invariant-loop-j
invariant-loop-j l = all (λ x. ltb x l.signals) (values (words_of l.part) l.start l.count)
    ≡ (l.good && all (λ x. ltb x l.signals) (tab (λ i. word (words_of l.part) (l.start + i)) l.j (l.count - l.j)))
