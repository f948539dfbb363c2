use native.Mathlib.Nat.{sub-zero}
use Rattle.plan_check.proofs.Laws.{clash_more, clash_done}
use Rattle.plan_check.proofs.first_clash.Goals as goal

pub loop-i-init : goal.loop-i-init
loop-i-init c = rw sub-zero

pub returns-then-not-mark_one : goal.returns-then-not-mark_one
returns-then-not-mark_one c = rw (
  c.loop-i.invariant,
  clash_more _ _ _ _ _ c.loop-i-test.true,
  ← c.mark_one.ensures.new,
  c.if-not-mark_one.true,
) c.clash_at.ensures

pub loop-i-preserved : goal.loop-i-preserved
loop-i-preserved c = rw (
  c.loop-i.invariant,
  clash_more _ _ _ _ _ c.loop-i-test.true,
  ← c.mark_one.ensures.new,
  c.if-not-mark_one.false,
  c.mark_one.ensures.marks,
)

pub returns : goal.returns
returns c = rw (c.loop-i.invariant, clash_done _ _ _ _ _ c.loop-i-test.false)
