use Rattle.std.proofs.Common.{◌≡◌, ◌+◌, ◌-◌, ◌*◌, length}
use Rattle.words.specs.Words.{words_of}
use Rattle.lists.specs.Lists.{tab}
use Rattle.plan.specs.File.{action_at, actions_at}
use Rattle.body.specs.Body.{run_actions}
use Rattle.body.proofs.run_actions.Given as goal

-- the actions from j on, on what those before left, leave what all of them leave
abbrev pub invariant-loop-j : goal.invariant-loop-j
invariant-loop-j l = (length l.held ≡ length l.initial.held)
    × (run_actions l.latched l.state (tab (λ i. action_at (words_of l.part) (actions_at (words_of l.part) + i * 5)) 0 l.actions) l.initial.held
    ≡ run_actions l.latched l.state (tab (λ i. action_at (words_of l.part) (actions_at (words_of l.part) + i * 5)) l.j (l.actions - l.j)) l.held)
