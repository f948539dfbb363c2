-- What a definition of this crate computes with.
use Rattle.events.proofs.Computing.{computing_events}
use Rattle.state.specs.State.{fresh_task, fresh, sized}
use Rattle.state.specs.Fits.{task_fits, task_rule, fits}

-- a fresh state, and whether a state fits: a proof that computes them says `unfolding computing_state`
unfoldable pub computing_state : Unit {0}
unfolding computing_events fresh_task fresh sized task_fits task_rule fits
computing_state = tt
