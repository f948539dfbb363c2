use borrow.Author.Tests.{leb-false}
use Rattle.quiet.proofs.Wakes.{has-neither}
use Rattle.quiet.proofs.calls.Goals as goal

pub returns : goal.returns
returns c = λ j h b. let none = has-neither c.awake.result c.asked_rows.result j b in (
  leb-false _ _ (c.awake.ensures j h none.0),
  c.asked_rows.ensures j h none.1,
)
