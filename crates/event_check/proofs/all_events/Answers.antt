use native.Mathlib.Nat.{sub-zero}
use Rattle.std.proofs.lemmas.Result.{err_from_is_err_and}
use Rattle.answers.proofs.Laws.{refusal_stands}
use Rattle.events.proofs.Laws.{verdict-more, verdict-done}
use Rattle.event_check.proofs.all_events.Goals as goal

pub loop-i-init : goal.loop-i-init
loop-i-init c = rw sub-zero

pub returns-in_err-one_event : goal.returns-in_err-one_event
returns-in_err-one_event c =
    let p = err_from_is_err_and c.from_residual.result c.from_residual.ensures.1 in
    rw (p.1, p.2, c.loop-i.invariant, verdict-more _ _ _ _ _ c.loop-i-test.true) (refusal_stands _ _ _ c.in_err-one_event.ensures)

pub loop-i-preserved : goal.loop-i-preserved
loop-i-preserved c = rw (c.loop-i.invariant, verdict-more _ _ _ _ _ c.loop-i-test.true, ← c.in_ok-one_event.ensures, c.known-last.ensures)

pub returns : goal.returns
returns c = rw (c.loop-i.invariant, verdict-done _ _ _ _ _ c.loop-i-test.false)
