use Rattle.step_running.proofs.Laws.{finished-is}
use Rattle.step_running.proofs.finish_task.Goals as goal

pub returns : goal.returns
returns c = finished-is _ _ _ _ _ _ c.task_part.ensures c.task_field-machine.ensures c.run_ports-next.ensures
    c.put.ensures c.put-2.ensures c.put-3.ensures
