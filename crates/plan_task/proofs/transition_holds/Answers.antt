use Rattle.plan_task.proofs.transition_holds.Goals as goal

pub returns : goal.returns
returns c = cc
