-- Document 01, 'The plan file' and 'The body': the kinds of tasks and of actions, and the number that stands for each in a file.
use Rattle.std.specs.Prelude.{ℕ, ◌≡◌, ◌≢◌, Result, MatchResult}
use Rattle.plan.specs.declared.TaskKind.{TaskKind}
use Rattle.plan.specs.declared.TaskKind.TheVariants.{Supervisor, Controller}
use Rattle.plan.specs.declared.ActionKind.{ActionKind}
use Rattle.plan.specs.declared.ActionKind.TheVariants.{Set, Copy, Add, Move}
use Rattle.plan.specs.declared.NoKind.{NoKind}

-- "Kind 1 (supervisor)", "Kind 2 (controller)"
abbrev pub task_kind_number : TaskKind → ℕ
task_kind_number Supervisor = 1
task_kind_number Controller = 2

-- "1 set", "2 copy", "3 add", "4 move"
abbrev pub action_kind_number : ActionKind → ℕ
action_kind_number Set = 1
action_kind_number Copy = 2
action_kind_number Add = 3
action_kind_number Move = 4

-- what a word says: the kind whose number it is, or that it is the number of none
abbrev pub IsTaskKind : ℕ → Result TaskKind NoKind → Type 0
IsTaskKind n r = MatchResult r (λ kind. task_kind_number kind ≡ n) (λ _. (kind : TaskKind) → task_kind_number kind ≢ n)

abbrev pub IsActionKind : ℕ → Result ActionKind NoKind → Type 0
IsActionKind n r = MatchResult r (λ kind. action_kind_number kind ≡ n) (λ _. (kind : ActionKind) → action_kind_number kind ≢ n)
