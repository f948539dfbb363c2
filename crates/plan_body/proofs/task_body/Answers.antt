-- the question after the answer is one about the verdict, and the lent pair has what it says
use Rattle.std.proofs.Common.{◌≡◌, ◌+◌, ◌*◌, ◌-◌, ◌≤◌, ◌/◌, true, false, eqb, length, refl, arith}
use borrow.Author.Tests.{eqb-true}
use Rattle.plan.proofs.Facts.{accepted, task_bytes}
use Rattle.plan_check.proofs.Laws.{asked}
use Rattle.plan_body.specs.Body.{reader_verdict}
use Rattle.plan_body.proofs.Laws.{found, pair_told}
use Rattle.plan_body.proofs.task_body.Goals as goal

pub returns-then-not-accepted : goal.returns-then-not-accepted
returns-then-not-accepted c =
    let refused : eqb (reader_verdict c.args.plan.now c.args.task).number 0 ≡ false = asked false c.accepted.result _ _ c.accepted.ensures c.if-not-accepted.true c.body_answer-answer.ensures in
    record {
      body = rw refused (record { stands = refl; holds = refl });
      said = pair_told _ _ c.number-number.ensures c.place-place.ensures c.body_answer-answer.ensures;
    }

-- the body lies inside the file
pub slice_bounds-result-end-2 : goal.slice_bounds-result-end-2
slice_bounds-result-end-2 c =
    let plan = c.args.plan.now in
    let passed : eqb (reader_verdict plan c.args.task).number 0 ≡ true = asked true c.accepted.result _ _ c.accepted.ensures c.if-not-accepted.false c.body_answer-answer.ensures in
    let seen = found plan c.args.task (eqb-true _ 0 passed) in
    let inside : c.start_of.result + c.length_of.result ≤ length plan / 4 = rw (c.start_of.ensures, c.length_of.ensures) (task_bytes plan (accepted plan seen.accepted) c.args.task seen.below) in
    omega arith

pub returns : goal.returns
returns c =
    let first = c.start_of.result * 4 in
    let count = c.length_of.result * 4 in
    let size : first + count - first ≡ count = omega arith in
    let passed : eqb (reader_verdict c.args.plan.now c.args.task).number 0 ≡ true = asked true c.accepted.result _ _ c.accepted.ensures c.if-not-accepted.false c.body_answer-answer.ensures in
    record {
      body = rw (passed, ← c.start_of.ensures, ← c.length_of.ensures) (record { stands = refl; holds = rw size });
      said = pair_told _ _ c.number-number.ensures c.place-place.ensures c.body_answer-answer.ensures;
    }
