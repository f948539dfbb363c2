use Rattle.embedding.proofs.shift.Goals as goal

-- what the run says of the state that the fresh start returned
pub returns : goal.returns
returns c = rw (← c.fresh_start-begun.ensures.state) c.run.ensures
