use Rattle.step_running.proofs.Laws.{ran}
use Rattle.step_running.proofs.run_ports.Goals as goal

pub returns : goal.returns
returns c = ran _ _ _ _ _ c.min-first.ensures c.min-last.ensures
    c.min-start.ensures c.min-end.ensures _ _ c.run_lent.ensures
