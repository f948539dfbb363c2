use native.Mathlib.Nat.{sub-zero}
use Rattle.plan_check.proofs.Laws.{new_more, new_done, mark-more, mark-done}
use Rattle.plan_check.proofs.mark_words.Goals as goal

pub loop-j-init : goal.loop-j-init
loop-j-init c = (rw sub-zero, rw sub-zero)

pub loop-j-preserved : goal.loop-j-preserved
loop-j-preserved c = (
  rw (c.loop-j.invariant.0, new_more _ _ _ _ _ c.loop-j-test.true, c.with_mark.ensures, c.is_marked.ensures, c.word-x.ensures),
  rw (c.loop-j.invariant.1, mark-more _ _ _ _ c.loop-j-test.true, c.with_mark.ensures, c.word-x.ensures),
)

pub returns : goal.returns
returns c = record {
  new = rw (c.loop-j.invariant.0, new_done _ _ _ _ _ c.loop-j-test.false);
  marks = rw (c.loop-j.invariant.1, mark-done _ _ _ _ c.loop-j-test.false);
}
