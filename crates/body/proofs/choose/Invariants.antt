use Rattle.std.proofs.Common.{◌≡◌, ◌+◌, ◌-◌, ◌*◌, ◌≤◌, length}
use Rattle.std.specs.Prelude.{IfSome}
use Rattle.words.specs.Words.{words_of}
use Rattle.lists.specs.Lists.{tab}
use Rattle.plan.specs.File.{transition_at, transitions_at}
use Rattle.body.specs.Body.{in_turn, look, fires}
use Rattle.body.specs.Steps.{in_hand}
use Rattle.body.proofs.choose.Given as goal

-- the transitions from j on, with the best so far, give what all of them give
abbrev pub invariant-loop-j : goal.invariant-loop-j
invariant-loop-j l = IfSome l.best (λ at. at * 4 + 16 ≤ length l.part)
    × (fires l.latched l.machine (tab (λ i. transition_at (words_of l.part) (transitions_at (words_of l.part) + i * 4)) 0 l.transitions)
    ≡ in_turn (look l.latched l.machine) (tab (λ i. transition_at (words_of l.part) (transitions_at (words_of l.part) + i * 4)) l.j (l.transitions - l.j)) (in_hand (words_of l.part) l.best))
