use Rattle.plan_task.proofs.action_holds.Goals as goal

pub returns : goal.returns
returns c = cc
