use native.Mathlib.Nat.{sub-zero}
use Rattle.std.proofs.lemmas.Result.{err_from_is_err_and}
use Rattle.answers.proofs.Laws.{refusal_stands}
use Rattle.plan_check.proofs.Laws.{tasks_more, tasks_done}
use Rattle.plan_check.proofs.all_tasks.Goals as goal

pub loop-i-init : goal.loop-i-init
loop-i-init c = rw sub-zero

pub returns-in_err-one_task : goal.returns-in_err-one_task
returns-in_err-one_task c =
    let p = err_from_is_err_and c.from_residual.result c.from_residual.ensures.1 in
    rw (p.1, p.2, c.loop-i.invariant, tasks_more _ _ _ _ c.loop-i-test.true) (refusal_stands _ _ _ c.in_err-one_task.ensures)

pub loop-i-preserved : goal.loop-i-preserved
loop-i-preserved c = rw (c.loop-i.invariant, tasks_more _ _ _ _ c.loop-i-test.true, ← c.in_ok-one_task.ensures)

pub returns : goal.returns
returns c = rw (c.loop-i.invariant, tasks_done _ _ _ _ c.loop-i-test.false)
