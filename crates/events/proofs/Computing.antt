-- What a definition of this crate computes with.
use Rattle.plan.proofs.Computing.{computing_plan}
use Rattle.events.specs.Events.{event_rules, passed}

-- the verdict on a plan and its events, and the event place: a proof that computes them says `unfolding computing_events`
unfoldable pub computing_events : Unit {0}
unfolding computing_plan event_rules passed
computing_events = tt
