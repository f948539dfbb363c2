use Rattle.plan.specs.File.{task_of}
use Rattle.state.specs.State.{fresh_task}
use Rattle.state_fresh.proofs.fresh_task.Goals as goal

pub returns : goal.returns
unfolding fresh_task task_of
returns c = rw (c.word.ensures, c.fresh_outputs.ensures)
