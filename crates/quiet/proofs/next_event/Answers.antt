use native.Mathlib.Omega.{arith}
use borrow.Author.Tests.{ne_eqb}
use Rattle.step_events.proofs.Laws.{end_more, end_done}
use Rattle.quiet.proofs.next_event.Goals as goal

pub returns-then-place-events : goal.returns-then-place-events
returns-then-place-events c = λ u b. rw (end_more _ _ _ _ c.if-place-events.true, ← c.word.ensures, ne_eqb c.word.result u (λ e. omega (arith, e, b)))

pub returns-else-place-events : goal.returns-else-place-events
returns-else-place-events c = λ u b. end_done _ _ _ _ c.if-place-events.false
