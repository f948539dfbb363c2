use native.Mathlib.Omega.{arith}
use Rattle.quiet.proofs.Wakes.{all_more}
use Rattle.quiet.proofs.rows_of.Goals as goal

pub loop-j-init : goal.loop-j-init
loop-j-init c = λ k h. absurd (omega (arith, h))

pub loop-j-preserved : goal.loop-j-preserved
loop-j-preserved c = all_more _ _ _ _ (omega arith) c.loop-j.invariant (rw (← c.row_field.ensures, ← c.is_marked-marked.ensures) c.from.ensures)

pub returns : goal.returns
returns c = λ k h. c.loop-j.invariant k (omega (arith, h, c.loop-j-test.false))
