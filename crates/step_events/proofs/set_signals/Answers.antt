use Rattle.step_events.proofs.Laws.{set_more, set_done}
use Rattle.step_events.proofs.set_signals.Goals as goal

pub loop-p-preserved : goal.loop-p-preserved
loop-p-preserved c = rw (c.loop-p.invariant, set_more _ _ _ _ c.loop-p-test.true, c.set_signal.ensures)

pub returns : goal.returns
returns c = rw (c.loop-p.invariant, set_done _ _ _ _ c.loop-p-test.false)
