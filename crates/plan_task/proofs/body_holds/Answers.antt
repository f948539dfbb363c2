use Rattle.lists.proofs.Laws.{length-tab}
use Rattle.plan.specs.File.{task_of}
use Rattle.plan_task.proofs.body_holds.Goals as goal

pub returns : goal.returns
unfolding task_of
returns c = rw (
  c.kind_holds.ensures,
  c.signals_hold.ensures,
  c.signals_hold-2.ensures,
  c.transitions_hold.ensures,
  c.actions_hold.ensures,
  c.outputs_at.ensures.value,
  c.transitions_at.ensures.value,
  c.actions_at.ensures.value,
  c.lowest_output-lowest.ensures,
  c.word-kind.ensures,
  c.word-inputs.ensures,
  c.word-outputs.ensures,
  c.word-transitions.ensures,
  c.word-actions.ensures,
)
    (simp length-tab)
