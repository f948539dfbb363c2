use mathlib.Core.Path.{sym, ◌∙◌}
use borrow.Author.Tests.{eqb-true}
use Rattle.std.proofs.lemmas.Result.{err_from_is_err_and}
use Rattle.answers.proofs.Laws.{refused_number, accepted_number}
use Rattle.event_check.proofs.Targets.{plan_decides, list_decides}
use Rattle.event_check.proofs.check.Goals as goal

pub returns-in_err-check : goal.returns-in_err-check
returns-in_err-check c =
    let p = err_from_is_err_and c.from_residual.result c.from_residual.ensures.1 in
    let e = c.in_err-check.ensures in
    rw (p.1, p.2) (e ∙ sym (plan_decides c.args.plan.now c.args.events.now (refused_number _ _ e)))

pub returns : goal.returns
returns c = c.list_answer.ensures
    ∙ sym (list_decides c.args.plan.now c.args.events.now (eqb-true _ 0 (accepted_number _ c.in_ok-check.ensures)))
