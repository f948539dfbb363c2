use mathlib.Core.Bool.{true, false}
use Rattle.plan_check.proofs.Laws.{asked}
use Rattle.kernel.proofs.fresh_start.Goals as goal

pub returns-then-accepted : goal.returns-then-accepted
returns-then-accepted c = record {
  answer = c.check-answer.ensures;
  state = rw (asked true c.accepted.result _ _ c.accepted.ensures c.if-accepted.true c.check-answer.ensures) c.fresh_state-state.ensures;
}

pub returns : goal.returns
returns c = record {
  answer = c.check-answer.ensures;
  state = rw (asked false c.accepted.result _ _ c.accepted.ensures c.if-accepted.false c.check-answer.ensures) c.zero_state-state.ensures;
}
