use Rattle.state.proofs.Laws.{task_in_lem, task_out, task_read}
use Rattle.state_fresh.proofs.fresh_at.Goals as goal

pub returns-then-task-word : goal.returns-then-task-word
returns-then-task-word c = let less = rw c.word.ensures at c.if-task-word.true in rw (task_in_lem _ _ less, ← task_read _ _ less, ← c.task_part.ensures) c.fresh_task.ensures

pub returns-else-task-word : goal.returns-else-task-word
returns-else-task-word c = rw (task_out _ _ (rw c.word.ensures at c.if-task-word.false)) c.idle_task.ensures
