use Rattle.quiet.proofs.Asked.{unmarked_none}
use Rattle.quiet.proofs.asked_rows.Goals as goal

pub returns-then-tasks-eq0 : goal.returns-then-tasks-eq0
returns-then-tasks-eq0 c = λ j h b. unmarked_none _ _ c.asked_tasks-tasks.ensures c.if-tasks-eq0.true _

pub returns : goal.returns
returns c = λ j h b. c.asked_tasks-tasks.ensures _ (c.rows_of.ensures j h b)
