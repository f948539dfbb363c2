use Prim.Native.Nat.{◌-◌}
use mathlib.Core.Path.{sym, ◌∙◌}
use native.Mathlib.Omega.{arith}
use borrow.Author.Tests.{eq-eqb, ne_eqb}
use Rattle.step_releases.proofs.Laws.{call-ready, call-events, call-periodic}
use Rattle.room.proofs.Counting.{grant-starts, grant-fails, grant-ignores}
use Rattle.room.proofs.count_grant.Goals as goal

pub returns-then-asked-ne0 : goal.returns-then-asked-ne0
returns-then-asked-ne0 c = record {
  counts = rw (c.start_task.ensures, c.row_field.ensures, c.row_field-task.ensures)
      (grant-starts _ _ _ _ _ (c.asked_of-asked.result - 1) _
      (rw (call-ready _ _ _ _ _ (rw c.row_field-task.ensures at (sym c.task_field-status.ensures ∙ c.if-status-eq-READY.true)), ← c.asked_of-asked.ensures, ne_eqb _ _ c.if-asked-ne0.true))
      (let n = c.if-asked-ne0.true in omega (arith, n)));
  small = omega arith;
}

pub returns-then-status-eq-READY : goal.returns-then-status-eq-READY
returns-then-status-eq-READY c = record {
  counts = grant-ignores _ _ _ _ _ _
      (rw (call-ready _ _ _ _ _ (rw c.row_field-task.ensures at (sym c.task_field-status.ensures ∙ c.if-status-eq-READY.true)), ← c.asked_of-asked.ensures, eq-eqb _ _ c.if-asked-ne0.false));
  small = omega arith;
}

pub returns-then-period-eq0 : goal.returns-then-period-eq0
returns-then-period-eq0 c = record {
  counts = grant-ignores _ _ _ _ _ _
      (rw (call-events _ _ _ _ _ (λ z. c.if-status-eq-READY.false (c.task_field-status.ensures ∙ rw c.row_field-task.ensures z)) (sym c.row_field-period.ensures ∙ c.if-period-eq0.true), ← c.asked_of-asked.ensures));
  small = omega arith;
}

pub returns-then-status-asked : goal.returns-then-status-asked
returns-then-status-asked c = record {
  counts = rw (c.reset_task.ensures, c.row_field-task.ensures)
      (grant-fails _ _ _ _ _
      (rw (
        call-periodic _ _ _ _ _ (λ z. c.if-status-eq-READY.false (c.task_field-status.ensures ∙ rw c.row_field-task.ensures z)) (λ z. c.if-period-eq0.false (c.row_field-period.ensures ∙ z)),
        ← c.asked_of-asked.ensures,
        ← c.row_field-task.ensures,
        ← c.row_field-deadline.ensures,
        ← c.task_field-status.ensures,
        c.if-status-asked.true,
      )));
  small = omega arith;
}

pub returns : goal.returns
returns c = record {
  counts = grant-ignores _ _ _ _ _ _
      (rw (
        call-periodic _ _ _ _ _ (λ z. c.if-status-eq-READY.false (c.task_field-status.ensures ∙ rw c.row_field-task.ensures z)) (λ z. c.if-period-eq0.false (c.row_field-period.ensures ∙ z)),
        ← c.asked_of-asked.ensures,
        ← c.row_field-task.ensures,
        ← c.row_field-deadline.ensures,
        ← c.task_field-status.ensures,
        c.if-status-asked.false,
      ));
  small = omega arith;
}
