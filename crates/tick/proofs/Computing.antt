-- What a definition of this crate computes with.
use Rattle.body.proofs.Computing.{computing_body}
use Rattle.state.proofs.Computing.{computing_state}
use Rattle.tick.specs.Turns.{writes_of, deadline_of, requests, periodic_call, event_call, answer, is_active}
use Rattle.tick.specs.Tick.{write_all, each, events_at, set_now, better, most_urgent, visit_if, tick, zero_tick}

-- a tick, and one of the zero-time reading: a proof that computes them says `unfolding computing_tick`
unfoldable pub computing_tick : Unit {0}
unfolding computing_body computing_state writes_of deadline_of requests periodic_call event_call answer is_active write_all each events_at set_now better most_urgent visit_if tick zero_tick
computing_tick = tt
