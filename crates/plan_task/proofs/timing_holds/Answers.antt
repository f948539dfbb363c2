use Rattle.plan.specs.File.{task_of}
use Rattle.plan_task.proofs.timing_holds.Goals as goal

pub returns : goal.returns
unfolding task_of
returns c = cc
