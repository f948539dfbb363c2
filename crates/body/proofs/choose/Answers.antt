use Rattle.plan.specs.File.{task_of}
use Rattle.body.proofs.Laws.{turn_more, turn_done}
use Rattle.body.proofs.choose.Goals as goal

pub loop-j-preserved : goal.loop-j-preserved
loop-j-preserved c = (
  c.look_at-best.ensures.inside,
  rw (c.loop-j.invariant.1, turn_more _ _ _ _ _ c.loop-j-test.true, c.look_at-best.ensures.taken, c.transitions_at-first.ensures.value),
)

pub returns-clause-taken : goal.returns-clause-taken
unfolding task_of
returns-clause-taken c = rw (← c.word-transitions.ensures, c.loop-j.invariant.1, turn_done _ _ _ _ _ c.loop-j-test.false)
