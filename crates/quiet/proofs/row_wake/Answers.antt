use native.Mathlib.Omega.{arith}
use borrow.Author.Tests.{eq-eqb}
use Rattle.quiet.proofs.Rows.{driven_quiet, due-quiet, flies_quiet, error-quiet}
use Rattle.quiet.proofs.row_wake.Goals as goal

pub returns-then-period-eq0 : goal.returns-then-period-eq0
returns-then-period-eq0 c = λ u l b. driven_quiet _ _ _ u (rw (← c.row_field-task.ensures, ← c.row_field-deadline.ensures, ← c.task_field-status.ensures) c.if-status-deadline.true) (rw (← c.row_field-period.ensures) (eq-eqb _ _ c.if-period-eq0.true))

pub next_due-requires : goal.next_due-requires
next_due-requires c = omega (arith, c.if-period-eq0.false)

pub returns-then-status-deadline : goal.returns-then-status-deadline
returns-then-status-deadline c = λ u l b. due-quiet _ _ _ u (rw (← c.row_field-task.ensures, ← c.row_field-deadline.ensures, ← c.task_field-status.ensures) c.if-status-deadline.true) (rw (← c.row_field-period.ensures, ← c.row_field.ensures) (c.next_due.ensures u l b))

pub returns-then-status : goal.returns-then-status
returns-then-status c = λ u l b. flies_quiet _ _ _ u
    (rw (← c.row_field-task.ensures, ← c.row_field-deadline.ensures, ← c.task_field-status.ensures) c.if-status-deadline.false)
    (rw (← c.row_field-task.ensures, ← c.row_field-deadline.ensures, ← c.task_field.ensures) (omega (arith, b, c.saturating_add.ensures)))

pub returns : goal.returns
returns c = λ u l b. error-quiet _ _ _ u (rw (← c.row_field-task.ensures, ← c.row_field-deadline.ensures, ← c.task_field-status.ensures) c.if-status-deadline.false) (rw (← c.row_field-task.ensures, ← c.task_field-status.ensures) c.if-status.false)
