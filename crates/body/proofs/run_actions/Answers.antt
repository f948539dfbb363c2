use Rattle.std.proofs.Common.{◌∙◌}
use Rattle.plan.specs.File.{task_of}
use Rattle.body.proofs.Laws.{turn_more, turn_done}
use Rattle.body.proofs.run_actions.Goals as goal

pub loop-j-preserved : goal.loop-j-preserved
loop-j-preserved c = (
  c.perform_at.auto.held ∙ c.loop-j.invariant.0,
  rw (
    c.loop-j.invariant.1,
    turn_more _ _ _ _ _ c.loop-j-test.true,
    c.perform_at.ensures,
    c.actions_at-first.ensures.value,
  ),
)

pub returns : goal.returns
unfolding task_of
returns c = rw (← c.word-actions.ensures, c.loop-j.invariant.1, turn_done _ _ _ _ _ c.loop-j-test.false)
