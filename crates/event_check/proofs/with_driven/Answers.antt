use borrow.Author.Tests.{eq-eqb, ne_eqb}
use Rattle.event_check.proofs.with_driven.Goals as goal

pub returns-then-period_of-eq0 : goal.returns-then-period_of-eq0
returns-then-period_of-eq0 c = rw (c.with_mark.ensures, ← c.period_of.ensures, eq-eqb c.period_of.result 0 c.if-period_of-eq0.true)

pub returns-else-period_of-eq0 : goal.returns-else-period_of-eq0
returns-else-period_of-eq0 c = rw (← c.period_of.ensures, ne_eqb c.period_of.result 0 c.if-period_of-eq0.false)
