use native.Mathlib.Omega.{arith}
use mathlib.Core.Path.{refl, sym, ◌∙◌}
use lib.ListN.{length-replicate}
use borrow.Author.Tests.{ne_eqb}
use Rattle.trace.specs.Trace.{over}
use Rattle.steps.specs.Flat.{grant, answer_row}
use Rattle.step_releases.proofs.Laws.{call_none, call-ready, call-events, call-overrun, call-closed}
use Rattle.step_releases.proofs.grant_row.Goals as goal

pub returns-then-is_closed : goal.returns-then-is_closed
unfolding grant answer_row over
returns-then-is_closed c = record {
  does = λ held.
      rw (call-closed _ c.args.rows.now _ c.args.row c.args.tasks.now (rw (c.row_field-period.ensures, c.row_field-deadline.ensures, c.task_field-status.ensures, c.row_field-task.ensures) at (sym c.is_closed.ensures ∙ c.if-is_closed.true)))
      (record { arrays = refl; trace = refl; ends = omega arith });
  near = omega arith;
}

pub returns-then-asked-eq0 : goal.returns-then-asked-eq0
unfolding grant answer_row over
returns-then-asked-eq0 c = record { does = λ held. rw (call_none _ _ _ _ _ (sym c.asked_of-asked.ensures ∙ c.if-asked-eq0.true)) (record { arrays = refl; trace = refl; ends = omega arith }); near = omega arith }

pub returns-then-status-eq-READY : goal.returns-then-status-eq-READY
unfolding grant
returns-then-status-eq-READY c = record {
  does = λ held.
      rw (call-ready _ _ _ _ _ (rw c.row_field-task.ensures at (sym c.task_field-status.ensures ∙ c.if-status-eq-READY.true)), ← c.asked_of-asked.ensures, ne_eqb _ _ c.if-asked-eq0.false)
      (c.release_row.ensures.does held);
  near = c.release_row.ensures.near;
}

pub returns-then-period-eq0 : goal.returns-then-period-eq0
unfolding grant answer_row
returns-then-period-eq0 c = record {
  does = λ held.
      rw (call-events _ _ _ _ _ (λ z. c.if-status-eq-READY.false (c.task_field-status.ensures ∙ rw c.row_field-task.ensures z)) (sym c.row_field-period.ensures ∙ c.if-period-eq0.true), ← c.asked_of-asked.ensures)
      (record {
        arrays = refl;
        trace = rw (← c.row_field-task.ensures) c.ignore.ensures.trace;
        ends = simp length-replicate (let e = c.ignore.ensures.ends in omega arith);
      });
  near = let e = c.ignore.ensures.ends in omega arith;
}

pub returns : goal.returns
unfolding grant answer_row over
returns c = record {
  does = λ held.
      rw (
        call-overrun _ c.args.rows.now _ c.args.row c.args.tasks.now (λ z. c.if-status-eq-READY.false (c.task_field-status.ensures ∙ rw c.row_field-task.ensures z)) (λ z. c.if-period-eq0.false (c.row_field-period.ensures ∙ z)) (λ z. c.if-asked-eq0.false (c.asked_of-asked.ensures ∙ z))
            (rw (c.row_field-period.ensures, c.row_field-deadline.ensures, c.task_field-status.ensures, c.row_field-task.ensures) at (sym c.is_closed.ensures ∙ c.if-is_closed.false)),
        ← c.row_field-task.ensures,
      )
      (record { arrays = rw c.reset_task.ensures; trace = rw c.new.ensures at c.put.ensures; ends = omega arith });
  near = omega arith;
}
