use Rattle.step_releases.proofs.Laws.{latch-more, latch-done}
use Rattle.step_releases.proofs.latch_row.Goals as goal

pub loop-p-preserved : goal.loop-p-preserved
loop-p-preserved c = rw (c.loop-p.invariant, latch-more _ _ _ _ _ _ c.loop-p-test.true, ← c.row_field-task.ensures, ← c.latched_at-value.ensures, c.put.ensures)

pub returns : goal.returns
returns c = rw (c.loop-p.invariant, latch-done _ _ _ _ _ _ c.loop-p-test.false)
