use Rattle.plan.proofs.KindNumbers.{no_supervisor}
use Rattle.plan_task.proofs.lowest_output.Goals as goal

pub returns-in-Err : goal.returns-in-Err
returns-in-Err c = rw (no_supervisor c.args.kind c.in-Err.ensures)
