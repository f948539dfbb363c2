use native.Mathlib.Omega.{arith}
use borrow.Author.Tests.{le-leb, lt-leb}
use Rattle.plan_task.proofs.slot_of.Goals as goal

pub returns-then-from-le-STATES : goal.returns-then-from-le-STATES
returns-then-from-le-STATES c = record { value = rw (le-leb _ _ c.if-from-le-STATES.true); below = omega arith }

pub returns-else-from-le-STATES : goal.returns-else-from-le-STATES
returns-else-from-le-STATES c = record { value = rw (lt-leb _ _ c.if-from-le-STATES.false); below = omega arith }
