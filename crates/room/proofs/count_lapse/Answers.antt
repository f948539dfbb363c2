use native.Mathlib.Omega.{arith}
use mathlib.Core.Path.{refl, sym}
use borrow.Author.Tests.{eq-eqb, ne_eqb}
use Rattle.steps.specs.Flat.{lapse}
use Rattle.room.proofs.Laws.{writes_most}
use Rattle.room.proofs.count_lapse.Goals as goal

pub returns-then-status-eq-FINISHED : goal.returns-then-status-eq-FINISHED
unfolding lapse
returns-then-status-eq-FINISHED c = record {
  counts = λ a e.
      rw (e, ← c.row_field-task.ensures, ← c.row_field-deadline.ensures, ← c.task_field-release.ensures, ← c.task_field-status.ensures, ← c.ends_now.ensures, c.if-ends_now.true, eq-eqb _ _ c.if-status-eq-FINISHED.true)
      (rw (c.row_field-task.ensures, c.row_field.ensures) (sym (writes_most c.args.t c.args.rows.now c.args.row a)), rw c.reset_task.ensures);
  small = omega arith;
}

pub returns-then-status-eq-ACTIVE : goal.returns-then-status-eq-ACTIVE
unfolding lapse
returns-then-status-eq-ACTIVE c = record {
  counts = λ a e.
      rw (e, ← c.row_field-task.ensures, ← c.row_field-deadline.ensures, ← c.task_field-release.ensures, ← c.task_field-status.ensures, ← c.ends_now.ensures, c.if-ends_now.true, ne_eqb _ _ c.if-status-eq-FINISHED.false, eq-eqb _ _ c.if-status-eq-ACTIVE.true)
      (refl, rw c.reset_task-then-status-eq-ACTIVE.ensures);
  small = omega arith;
}

pub returns-else-status-eq-ACTIVE : goal.returns-else-status-eq-ACTIVE
unfolding lapse
returns-else-status-eq-ACTIVE c = record {
  counts = λ a e.
      rw (e, ← c.row_field-task.ensures, ← c.row_field-deadline.ensures, ← c.task_field-release.ensures, ← c.task_field-status.ensures, ← c.ends_now.ensures, c.if-ends_now.true, ne_eqb _ _ c.if-status-eq-FINISHED.false, ne_eqb _ _ c.if-status-eq-ACTIVE.false)
      (refl, refl);
  small = omega arith;
}

pub returns-else-ends_now : goal.returns-else-ends_now
unfolding lapse
returns-else-ends_now c = record {
  counts = λ a e.
      rw (e, ← c.row_field-task.ensures, ← c.row_field-deadline.ensures, ← c.task_field-release.ensures, ← c.task_field-status.ensures, ← c.ends_now.ensures, c.if-ends_now.false)
      (refl, refl);
  small = omega arith;
}
