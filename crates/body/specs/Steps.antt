-- What the parts of the code hand each other, and what they ask of a body part; no contract of the entries cites it.
use Rattle.std.specs.Prelude.{ℕ, ◌+◌, ◌*◌, ◌≤◌, List, length, Option, Some, None}
use Rattle.std.proofs.Math.Option as math
use Rattle.std.proofs.Math.Option.{none, some}
use Rattle.words.specs.Words.{words_of}
use Rattle.plan.specs.File.{Transition, transition_at, actions_at, action_count}

-- the code holds a transition by its first word
abbrev pub in_hand : List ℕ → Option ℕ → math.Option Transition
in_hand ws None = none
in_hand ws (Some at) = some (transition_at ws at)

-- "Its length is 11 + ni + no + 4 × nt + 5 × na": a body part holds all its transitions and actions
abbrev pub Whole : List ℕ → Type 0
Whole part = (actions_at (words_of part) + action_count (words_of part) * 5) * 4 ≤ length part
