use borrow.Author.Tests.{eqb-true}
use Rattle.trace.specs.Trace.{lines}
use Rattle.kernel.specs.Call.{call_verdict}
use Rattle.kernel.proofs.Verdict.{refused_by, accepted_by}
use Rattle.kernel.proofs.run.Goals as goal

pub returns-then-not-accepted : goal.returns-then-not-accepted
unfolding lines
returns-then-not-accepted c = let given = c.args in
    let call = call_verdict given.plan.now given.events.now given.state given.asked in
    let refused = refused_by _ _ call c.accepted.ensures c.if-not-accepted.true c.call_answer-answer.ensures in
    record { answer = rw refused c.call_answer-answer.ensures; ticks = rw refused; records = rw refused; state = rw refused; trace = rw refused }

pub run_accepted-requires : goal.run_accepted-requires
run_accepted-requires c = let given = c.args in
    let call = call_verdict given.plan.now given.events.now given.state given.asked in
    eqb-true call.number 0 (accepted_by _ _ call c.accepted.ensures c.if-not-accepted.false c.call_answer-answer.ensures)
