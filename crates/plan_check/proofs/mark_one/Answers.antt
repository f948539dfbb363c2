use Rattle.words.proofs.Laws.{part-words}
use Rattle.plan_check.proofs.mark_one.Goals as goal

pub returns : goal.returns
returns c = rw (c.task_part.ensures, part-words) at c.mark_task.ensures
