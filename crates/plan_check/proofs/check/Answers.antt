use mathlib.Core.Path.{sym, ◌∙◌}
use borrow.Author.Tests.{eqb-true}
use Rattle.std.proofs.lemmas.Result.{err_from_is_err_and}
use Rattle.answers.proofs.Laws.{refused_number, accepted_number}
use Rattle.plan_check.proofs.Clash.{head_decides, head_passes, signals_limit, clashes_are, tasks_decide}
use Rattle.plan_check.proofs.check.Goals as goal

pub returns-in_err-head_answer : goal.returns-in_err-head_answer
returns-in_err-head_answer c =
    let p = err_from_is_err_and c.from_residual.result c.from_residual.ensures.1 in
    let e = c.in_err-head_answer.ensures in
    rw (p.1, p.2) (e ∙ sym (head_decides c.args.bytes.now (refused_number _ _ e)))

pub returns-in_err-all_tasks : goal.returns-in_err-all_tasks
returns-in_err-all_tasks c =
    let bytes = c.args.bytes.now in
    let p = err_from_is_err_and c.from_residual-in_err-all_tasks.result c.from_residual-in_err-all_tasks.ensures.1 in
    let passed = accepted_number _ c.in_ok-head_answer.ensures in
    let each = rw (c.word-signals.ensures, c.word-tasks.ensures) at c.in_err-all_tasks.ensures in
    rw (p.1, p.2) (each ∙ sym (head_passes bytes passed ∙ tasks_decide bytes (refused_number _ _ each)))

pub returns : goal.returns
returns c =
    let bytes = c.args.bytes.now in
    let passed = accepted_number _ c.in_ok-head_answer.ensures in
    let each = rw (c.word-signals.ensures, c.word-tasks.ensures) at c.in_ok-all_tasks.ensures in
    (rw c.word-tasks.ensures at c.clashes.ensures)
    ∙ sym (head_passes bytes passed ∙ clashes_are bytes (signals_limit bytes passed) (eqb-true _ 0 (accepted_number _ each)))
