use Rattle.plan.proofs.task_part.Goals as goal

pub returns : goal.returns
returns c = rw (← c.start_of-start.ensures, ← c.length_of-size.ensures) c.part.ensures
