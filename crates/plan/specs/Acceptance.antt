-- Document 01, 'The plan file' and 'Numbers returned': what is proved of the verdict on a plan, whatever its bytes are.
use Rattle.std.specs.Prelude.{ℕ, ◌≡◌, List, ◌↔◌}
use Rattle.answers.specs.Decides.{Decides}
use Rattle.plan.specs.Rules.{plan_rules, plan_verdict}
use Rattle.plan.specs.Accepted.{Accepted}

-- "0: accepted": the number is 0 exactly when the plan keeps the rules, as a person would write them from the paper
abbrev pub PlanAcceptedExactlyWhenTheRulesHold : Type 0
PlanAcceptedExactlyWhenTheRulesHold = (bytes : List ℕ) → Accepted bytes ↔ ((plan_verdict bytes).number ≡ 0)

-- "Order: 1, 2, 3; then for each task in turn 4, 5, 6; then 7, 8": a refusal has the number and the place of a broken rule before
-- which, in this order, every rule holds
abbrev pub PlanRefusedByTheFirstBrokenRule : Type 0
PlanRefusedByTheFirstBrokenRule = (bytes : List ℕ) → Decides (plan_rules bytes) (plan_verdict bytes)
