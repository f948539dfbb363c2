use Rattle.plan_check.proofs.head_holds.Goals as goal

pub returns : goal.returns
returns c = cc
