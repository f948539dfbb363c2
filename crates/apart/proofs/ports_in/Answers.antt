use Rattle.apart.proofs.Fill.{fill_none, fill_more, fill_done}
use Rattle.apart.proofs.ports_in.Goals as goal

pub loop-i-init : goal.loop-i-init
loop-i-init c = fill_none _ _ _ _

pub loop-i-preserved : goal.loop-i-preserved
loop-i-preserved c = rw c.get-x.ensures (fill_more _ _ _ _ _ c.loop-i-test.true c.loop-i.invariant)

pub returns : goal.returns
returns c = fill_done _ _ _ _ _ c.loop-i-test.false c.loop-i.invariant
