use native.Mathlib.Omega.{arith}
use borrow.Author.Tests.{eq-eqb, ne_eqb}
use Rattle.step_events.proofs.Laws.{end_more, end_done}
use Rattle.step_events.proofs.end_of.Goals as goal

pub returns-then-word-t-clause-value : goal.returns-then-word-t-clause-value
returns-then-word-t-clause-value c = rw (c.loop-p.invariant, end_more _ _ _ _ c.loop-p-test.true, ← c.word.ensures, ne_eqb _ _ c.if-word-t.true)

pub loop-p-preserved : goal.loop-p-preserved
loop-p-preserved c = rw (c.loop-p.invariant, end_more _ _ _ _ c.loop-p-test.true, ← c.word.ensures, eq-eqb _ _ c.if-word-t.false)

pub returns-clause-value : goal.returns-clause-value
returns-clause-value c = rw (c.loop-p.invariant, end_done _ _ _ _ c.loop-p-test.false) (omega arith)
