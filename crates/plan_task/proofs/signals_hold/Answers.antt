use native.Mathlib.Nat.{sub-zero}
use Rattle.lists.proofs.Laws.{all_more, all_done}
use Rattle.plan_task.proofs.signals_hold.Goals as goal

pub loop-j-init : goal.loop-j-init
loop-j-init c = rw sub-zero

pub loop-j-preserved : goal.loop-j-preserved
loop-j-preserved c = rw (c.loop-j.invariant, all_more _ _ _ _ _ c.loop-j-test.true, c.word.ensures)

pub returns : goal.returns
returns c = rw (c.loop-j.invariant, all_done _ _ _ _ _ c.loop-j-test.false)
