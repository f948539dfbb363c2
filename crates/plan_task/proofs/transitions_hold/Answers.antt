use native.Mathlib.Nat.{sub-zero}
use Rattle.plan_task.proofs.Orders.{orders_are, orders_more, orders_done}
use Rattle.plan_task.proofs.transitions_hold.Goals as goal

pub loop-j-init : goal.loop-j-init
loop-j-init c = rw (sub-zero, orders_are)

pub loop-j-preserved : goal.loop-j-preserved
loop-j-preserved c = rw (
  c.loop-j.invariant,
  orders_more _ _ _ _ _ _ c.loop-j-test.true,
  c.with_mark-after.ensures,
  c.is_marked-old.ensures,
  c.slot_of-slot.ensures.value,
  c.known.ensures,
  c.known-order.ensures,
  c.transition_holds-one.ensures,
)

pub returns : goal.returns
returns c = rw (c.loop-j.invariant, orders_done _ _ _ _ _ _ c.loop-j-test.false)
