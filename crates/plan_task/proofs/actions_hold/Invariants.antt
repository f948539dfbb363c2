use Prim.Native.Nat.{◌≤◌, ◌+◌, ◌*◌, ◌-◌}
use mathlib.Core.Path.{◌≡◌}
use mathlib.Core.Bool.{◌&&◌}
use Rattle.words.specs.Words.{words_of}
use Rattle.lists.specs.Lists.{tab, all}
use Rattle.plan.specs.File.{action_at, actions_from}
use Rattle.plan.specs.Rules.{action_rule}
use Rattle.plan_task.proofs.actions_hold.Given as goal

abbrev pub invariant-loop-j : goal.invariant-loop-j
invariant-loop-j l = all (action_rule l.ports.inputs l.ports.outputs l.ports.lowest) (actions_from (words_of l.part) l.first l.count)
    ≡ (l.good && all (action_rule l.ports.inputs l.ports.outputs l.ports.lowest) (tab (λ i. action_at (words_of l.part) (l.first + i * 5)) l.j (l.count - l.j)))
