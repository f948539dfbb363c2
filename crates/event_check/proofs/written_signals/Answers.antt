use native.Mathlib.Nat.{sub-zero}
use Rattle.event_check.proofs.Laws.{written_more, written_done}
use Rattle.event_check.proofs.written_signals.Goals as goal

pub loop-i-init : goal.loop-i-init
loop-i-init c = rw sub-zero

pub loop-i-preserved : goal.loop-i-preserved
loop-i-preserved c = rw (c.loop-i.invariant, written_more _ _ _ _ c.loop-i-test.true, c.mark_one.ensures.marks)

pub returns : goal.returns
returns c = rw (c.loop-i.invariant, written_done _ _ _ _ c.loop-i-test.false)
