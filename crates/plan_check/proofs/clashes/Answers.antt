use Rattle.std.proofs.lemmas.Result.{err_from_is_err_and}
use Rattle.answers.proofs.Laws.{refusal_stands}
use Rattle.plan_check.proofs.clashes.Goals as goal

pub returns-in_err-first_clash : goal.returns-in_err-first_clash
returns-in_err-first_clash c =
    let p = err_from_is_err_and c.from_residual.result c.from_residual.ensures.1 in
    rw (p.1, p.2) (refusal_stands _ _ _ c.in_err-first_clash.ensures)

pub returns : goal.returns
returns c = rw (← c.in_ok-first_clash.ensures) c.first_clash-2.ensures
