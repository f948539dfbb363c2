use Prim.Native.Nat.{ℕ}
use Rattle.state_fits.proofs.From.{from_more, from_done}
use Rattle.state_fits.proofs.zeros_from.Goals as goal

pub loop-i-preserved : goal.loop-i-preserved
loop-i-preserved c = rw (c.loop-i.invariant, from_more {A = ℕ} _ 0 _ _ _ c.loop-i-test.true)

pub returns : goal.returns
returns c = rw (c.loop-i.invariant, from_done {A = ℕ} _ 0 _ _ _ c.loop-i-test.false)
