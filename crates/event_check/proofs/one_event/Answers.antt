use Rattle.answers.specs.Answers.{first_broken}
use Rattle.event_check.proofs.one_event.Goals as goal

pub returns-then-not-instant_holds : goal.returns-then-not-instant_holds
unfolding first_broken
returns-then-not-instant_holds c = rw (← c.known-instant.ensures, ← c.instant_holds.ensures, c.if-not-instant_holds.true)

pub returns-then-not-content_holds : goal.returns-then-not-content_holds
unfolding first_broken
returns-then-not-content_holds c = rw (
  ← c.content_holds.ensures,
  ← c.known-instant.ensures,
  ← c.instant_holds.ensures,
  c.if-not-instant_holds.false,
  c.if-not-content_holds.true,
)

pub returns : goal.returns
unfolding first_broken
returns c = rw (
  ← c.content_holds.ensures,
  ← c.known-instant.ensures,
  ← c.instant_holds.ensures,
  c.if-not-instant_holds.false,
  c.if-not-content_holds.false,
)
