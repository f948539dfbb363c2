-- How the check finds the first clash of 7 and 8: a word of 64 marks stands for the list of numbers seen.
-- proofs/Clash.antt shows that this is the papers' rule (plan/specs/Rules.antt) for numbers below 64.
use Rattle.std.specs.Prelude.{ℕ, ◌+◌, Bool, true, cond, not, ◌&&◌, List, [], ◌∷◌}
use Rattle.marks.specs.Marks.{seen, mark}
use Rattle.answers.specs.Answers.{Verdict, verdict}
use Rattle.lists.specs.Lists.{tab}
use Rattle.plan.specs.File.{Task, task_of, body_of}
use Rattle.plan.specs.Rules.{priority_of}
use Rattle.plan_check.specs.declared.Numbers.{Numbers}
use Rattle.plan_check.specs.declared.Numbers.TheVariants.{Priority, Outputs}

-- none of the numbers is marked, nor stands earlier in the list
unfoldable pub new_to : ℕ → List ℕ → Bool
new_to marks [] = true
new_to marks (x ∷ xs) = not (seen marks x) && new_to (mark marks x) xs

-- the marks with a list of numbers
unfoldable pub mark_all : ℕ → List ℕ → ℕ
mark_all marks [] = marks
mark_all marks (x ∷ xs) = mark_all (mark marks x) xs

-- the first task from task i on whose numbers are not new
unfoldable pub clash_from : ℕ → ℕ → ℕ → List (List ℕ) → Verdict
clash_from number i marks [] = verdict 0 0
clash_from number i marks (xs ∷ rest) = cond (new_to marks xs) (clash_from number (i + 1) (mark_all marks xs) rest) (verdict number i)

-- 7 asks for the priorities, 8 for the outputs
abbrev pub clash_number : Numbers → ℕ
clash_number Priority = 7
clash_number Outputs = 8

abbrev pub numbers_of : Numbers → Task → List ℕ
numbers_of Priority k = priority_of k
numbers_of Outputs k = k.outputs

-- the first clash among the first tasks of a file
abbrev pub clash_of : List ℕ → ℕ → Numbers → Verdict
clash_of ws tasks numbers = clash_from (clash_number numbers) 0 0 (tab (λ i. numbers_of numbers (task_of (body_of ws (i + 1)))) 0 tasks)
