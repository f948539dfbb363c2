use native.Mathlib.Omega.{arith}
use Rattle.step_releases.proofs.Laws.{one_where, one_at_most, asks_more, asks_done}
use Rattle.step_releases.proofs.requests_of.Goals as goal

pub loop-p-preserved : goal.loop-p-preserved
loop-p-preserved c = (
  let b = c.loop-p.invariant.0 in let o = one_at_most _ c.from-n.ensures in omega arith,
  rw (c.loop-p.invariant.1, asks_more _ _ _ _ _ c.loop-p-test.true, c.from-n.ensures, one_where, c.asks.ensures),
)

pub returns : goal.returns
returns c = rw (c.loop-p.invariant.1, asks_done _ _ _ _ _ c.loop-p-test.false)
