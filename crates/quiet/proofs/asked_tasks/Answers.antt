use mathlib.Core.Path.{refl}
use Rattle.quiet.proofs.Asked.{asked_more, asked_done}
use Rattle.quiet.proofs.asked_tasks.Goals as goal

pub loop-p-init : goal.loop-p-init
loop-p-init c = λ i b. refl

pub loop-p-preserved : goal.loop-p-preserved
loop-p-preserved c = rw c.with_asked-tasks.ensures (asked_more _ _ _ _ _ c.loop-p.invariant c.loop-p-test.true)

pub returns : goal.returns
returns c = asked_done _ _ _ _ _ c.loop-p.invariant c.loop-p-test.false
