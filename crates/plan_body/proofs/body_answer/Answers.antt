use mathlib.Core.Path.{sym, ◌∙◌}
use mathlib.Core.Bool.{true, false}
use borrow.Author.Tests.{lt-ltb, le-ltb}
use Rattle.std.proofs.lemmas.Result.{err_from_is_err_and}
use Rattle.answers.proofs.Laws.{refused_number, accepted_number}
use Rattle.plan_body.proofs.Laws.{plan_decides, task_decides}
use Rattle.plan_body.proofs.body_answer.Goals as goal

pub returns-in_err-check : goal.returns-in_err-check
returns-in_err-check c =
    let p = err_from_is_err_and c.from_residual.result c.from_residual.ensures.1 in
    let e = c.in_err-check.ensures in
    rw (p.1, p.2) (e ∙ sym (plan_decides c.args.plan.now c.args.task (refused_number _ _ e)))

pub returns-then-task-word : goal.returns-then-task-word
returns-then-task-word c = sym (task_decides c.args.plan.now c.args.task (accepted_number _ c.in_ok-check.ensures)
    true (rw (← c.word.ensures) (lt-ltb _ _ c.if-task-word.true)))

pub returns-else-task-word : goal.returns-else-task-word
returns-else-task-word c = sym (task_decides c.args.plan.now c.args.task (accepted_number _ c.in_ok-check.ensures)
    false (rw (← c.word.ensures) (le-ltb _ _ c.if-task-word.false)))
