use Rattle.event_check.proofs.content_holds.Goals as goal

pub returns : goal.returns
returns c = rw (
  c.is_marked-written.ensures,
  c.is_marked-driven.ensures,
  c.known-value.ensures,
  c.known-target.ensures,
  c.known-kind.ensures,
)
