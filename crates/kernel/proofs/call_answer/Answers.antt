use mathlib.Core.Path.{sym, ◌∙◌}
use borrow.Author.Tests.{eqb-true}
use Rattle.std.proofs.lemmas.Result.{err_from_is_err_and}
use Rattle.answers.proofs.Laws.{refused_number, accepted_number}
use Rattle.kernel.proofs.Verdict.{check_decides, unfit_is_12, late_is_13, all-hold_is_0}
use Rattle.kernel.proofs.call_answer.Goals as goal

-- the plan or the events are refused
pub returns-in_err-check : goal.returns-in_err-check
returns-in_err-check c = let given = c.args in
    let p = err_from_is_err_and c.from_residual.result c.from_residual.ensures.1 in
    let e = c.in_err-check.ensures in
    rw (p.1, p.2) (e ∙ sym (check_decides given.plan.now given.events.now given.state given.asked (refused_number _ _ e)))

pub fits-requires : goal.fits-requires
fits-requires c = eqb-true _ 0 (accepted_number _ c.in_ok-check.ensures)

-- 12
pub returns-then-not-fits : goal.returns-then-not-fits
returns-then-not-fits c = let given = c.args in
    let accepted = accepted_number _ c.in_ok-check.ensures in
    sym (unfit_is_12 given.plan.now given.events.now given.state given.asked accepted _ c.fits.ensures c.if-not-fits.true)

-- 13
pub returns-then-not-ticks_hold : goal.returns-then-not-ticks_hold
returns-then-not-ticks_hold c = let given = c.args in
    let accepted = accepted_number _ c.in_ok-check.ensures in
    sym (late_is_13 given.plan.now given.events.now given.state given.asked accepted _ c.fits.ensures c.if-not-fits.false
    _ c.ticks_hold.ensures c.if-not-ticks_hold.true)

-- 0
pub returns : goal.returns
returns c = let given = c.args in
    let accepted = accepted_number _ c.in_ok-check.ensures in
    sym (all-hold_is_0 given.plan.now given.events.now given.state given.asked accepted _ c.fits.ensures c.if-not-fits.false
    _ c.ticks_hold.ensures c.if-not-ticks_hold.false)
