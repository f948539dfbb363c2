-- `event_reader::place_after` meets its contract: each branch's test says which case of `place_after` holds.
use borrow.Author.Tests.{le-ltb, lt-ltb}
use Rattle.event_reader.proofs.place_after.Goals as goal

pub returns-then-place-events : goal.returns-then-place-events
returns-then-place-events c = simp (lt-ltb _ _ c.if-place-events.true)

pub returns-else-place-events : goal.returns-else-place-events
returns-else-place-events c = simp (le-ltb _ _ c.if-place-events.false)
