-- What a definition of this crate computes with.
use Rattle.lists.specs.Lists.{tab, all, absent}
use Rattle.words.specs.Words.{words_of}
use Rattle.answers.specs.Answers.{first_broken}
use Rattle.plan.specs.File.{task_of, plan_of, all_outputs}
use Rattle.plan.specs.Rules.{chained, transitions_rule, task_rules, all_new, after_all, clash_rules, plan_rules}
use Rattle.plan.specs.Order.{with_priority, in_order, order}

-- what a plan file says, its verdict and its tasks in order of priority: a proof that computes them says `unfolding computing_plan`
unfoldable pub computing_plan : Unit {0}
unfolding tab all absent words_of first_broken task_of plan_of all_outputs chained transitions_rule task_rules all_new after_all clash_rules plan_rules with_priority in_order order
computing_plan = tt
