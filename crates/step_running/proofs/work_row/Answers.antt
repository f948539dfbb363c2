use native.Mathlib.Omega.{arith}
use mathlib.Core.Path.{refl}
use borrow.Author.Tests.{eq-eqb, ne_eqb}
use Rattle.trace.specs.Trace.{over}
use Rattle.steps.specs.Flat.{work}
use Rattle.step_running.proofs.Laws.{work-writes}
use Rattle.step_running.proofs.work_row.Goals as goal

pub returns-then-rest-ne0 : goal.returns-then-rest-ne0
unfolding work over
returns-then-rest-ne0 c = record {
  does = rw (← c.row_field-task.ensures, ← c.row_field-deadline.ensures, ← c.task_field.ensures, ← c.saturating_sub-rest.ensures, ne_eqb _ _ c.if-rest-ne0.true)
      (record { arrays = rw c.put.ensures; trace = refl; ends = omega arith });
  near = omega arith;
}

pub returns-then-deadline-ne0 : goal.returns-then-deadline-ne0
unfolding work over
returns-then-deadline-ne0 c = record {
  does = rw (← c.row_field-task.ensures, ← c.row_field-deadline.ensures, ← c.task_field.ensures, ← c.saturating_sub-rest.ensures, eq-eqb _ _ c.if-rest-ne0.false, ne_eqb _ _ c.if-deadline-ne0.true)
      (record { arrays = c.finish_task.ensures.arrays _; trace = refl; ends = omega arith });
  near = omega arith;
}

pub returns : goal.returns
returns c = record {
  does = work-writes _ _ _ _ _ _ c.row_field-task.ensures c.row_field-deadline.ensures c.task_field.ensures c.saturating_sub-rest.ensures c.if-rest-ne0.false c.if-deadline-ne0.false
      (c.finish_task.ensures.arrays _) c.write_row-at.ensures.wrote c.reset_task.ensures;
  near = omega arith;
}
