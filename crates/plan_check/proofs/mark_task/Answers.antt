use Rattle.lists.specs.Lists.{tab}
use Rattle.plan.specs.File.{task_of}
use Rattle.plan_check.proofs.mark_task.Goals as goal

pub returns-in-Priority : goal.returns-in-Priority
unfolding task_of tab
returns-in-Priority c = rw c.in-Priority.is c.mark_words.ensures

pub returns-in-Outputs : goal.returns-in-Outputs
unfolding task_of
returns-in-Outputs c = rw (c.in-Outputs.is, ← c.outputs_at-start.ensures.value, ← c.word.ensures) c.mark_words-in-Outputs.ensures
