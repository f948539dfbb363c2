use Prim.Native.Nat.{◌+◌, ◌≤◌}
use mathlib.Core.Path.{sym, ◌∙◌}
use native.Mathlib.Omega.{arith}
use Rattle.urgent.specs.Urgent.{pair_size}
use Rattle.choice.proofs.Choice.{taken, passed, done}
use Rattle.choice.proofs.running_row.Goals as goal

pub returns-then-row-count : goal.returns-then-row-count
returns-then-row-count c = sym (c.loop-j.invariant ∙ taken _ _ _ _ c.loop-j-test.true c.requires (rw (← c.least_of_pair-row.ensures) c.if-row-count.true) ∙ sym c.least_of_pair-row.ensures)

pub loop-j-preserved : goal.loop-j-preserved
loop-j-preserved c = c.loop-j.invariant ∙ passed _ _ _ _ c.loop-j-test.true c.requires (rw (← c.least_of_pair-row.ensures) c.if-row-count.false)

pub returns : goal.returns
returns c = sym (c.loop-j.invariant ∙ done _ _ _ _ c.loop-j-test.false)

-- the pair was the last
pub returns-else-row-count : goal.returns-else-row-count
returns-else-row-count c = let last : c.args.count ≤ c.loop-j.j + pair_size = omega arith in
    sym (c.loop-j.invariant ∙ passed _ _ _ _ c.loop-j-test.true c.requires (rw (← c.least_of_pair-row.ensures) c.if-row-count.false) ∙ done _ _ _ _ last)
