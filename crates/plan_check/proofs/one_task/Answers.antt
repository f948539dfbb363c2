use mathlib.Core.Path.{◌∙◌}
use Rattle.words.proofs.Laws.{part-words}
use Rattle.plan_check.proofs.one_task.Goals as goal

pub returns : goal.returns
returns c = c.task_answer.ensures ∙ rw (c.task_part.ensures, part-words)
