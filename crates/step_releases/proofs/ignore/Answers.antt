use native.Mathlib.Omega.{arith}
use Rattle.trace.specs.Trace.{over}
use Rattle.step_releases.proofs.Laws.{copies_more, copies_done}
use Rattle.step_releases.proofs.ignore.Goals as goal

pub loop-preserved : goal.loop-preserved
unfolding over
loop-preserved c = let e = c.loop.invariant.0 in (omega arith, rw (c.loop.invariant.1, copies_more _ _ _ c.loop-test.true, c.put.ensures, c.new.ensures))

pub returns : goal.returns
unfolding over
returns c = let e = c.loop.invariant.0 in
    record { trace = rw (c.loop.invariant.1, copies_done _ _ _ c.loop-test.false); ends = omega arith }
