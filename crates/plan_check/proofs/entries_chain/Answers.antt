use native.Mathlib.Nat.{sub-zero}
use borrow.Author.Rules.{rules}
use Rattle.words.proofs.Laws.{words_length}
use Rattle.plan_check.proofs.Laws.{chained_more, chained-done}
use Rattle.plan_check.proofs.entries_chain.Goals as goal

pub loop-k-init : goal.loop-k-init
loop-k-init c = (search rules, rw sub-zero)

pub loop-k-preserved : goal.loop-k-preserved
loop-k-preserved c = (
  search rules,
  rw (c.loop-k.invariant.1, chained_more _ _ _ _ _ c.loop-k-test.true, c.start_of-start.ensures, c.length_of-size.ensures),
)

pub returns : goal.returns
returns c = rw (c.loop-k.invariant.1, chained-done _ _ _ _ _ c.loop-k-test.false, words_length)
