use Prim.Native.Nat.{◌≤◌, ◌+◌, ◌*◌, ◌-◌}
use mathlib.Core.Path.{◌≡◌}
use mathlib.Core.Bool.{◌&&◌}
use Rattle.words.specs.Words.{words_of}
use Rattle.lists.specs.Lists.{tab}
use Rattle.plan.specs.File.{transition_at, transitions_from}
use Rattle.plan.specs.Rules.{transitions_rule}
use Rattle.plan_task.specs.Orders.{new_orders}
use Rattle.plan_task.proofs.transitions_hold.Given as goal

abbrev pub invariant-loop-j : goal.invariant-loop-j
invariant-loop-j l = transitions_rule l.inputs (transitions_from (words_of l.part) l.first l.count)
    ≡ (l.good && new_orders l.inputs l.seen (tab (λ i. transition_at (words_of l.part) (l.first + i * 4)) l.j (l.count - l.j)))
