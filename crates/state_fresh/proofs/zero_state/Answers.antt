use Rattle.state.specs.State.{zero_state}
use Rattle.state_fresh.proofs.zero_state.Goals as goal

pub returns : goal.returns
unfolding zero_state
returns c = rw c.idle_task.ensures
