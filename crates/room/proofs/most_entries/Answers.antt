use native.Mathlib.Nat.{sub-zero, zero-add}
use native.Mathlib.Omega.{arith}
use borrow.Author.Rules.{rules}
use Rattle.room.proofs.Laws.{total-more, total-done}
use Rattle.room.proofs.most_entries.Goals as goal

pub loop-j-init : goal.loop-j-init
loop-j-init c = (search rules, rw (zero-add, sub-zero))

pub overflow_add-sum-in-loop-j : goal.overflow_add-sum-in-loop-j
overflow_add-sum-in-loop-j c = let s = c.loop-j.invariant.0 in let p = c.requires in omega arith

pub loop-j-preserved : goal.loop-j-preserved
loop-j-preserved c = (
  let s = c.loop-j.invariant.0 in omega arith,
  rw (c.loop-j.invariant.1, total-more _ _ _ _ c.loop-j-test.true, c.row_field.ensures),
)

pub overflow_mul-result : goal.overflow_mul-result
overflow_mul-result c = let s = c.loop-j.invariant.0 in let p = c.requires in omega arith

pub returns : goal.returns
returns c = record { value = rw (c.loop-j.invariant.1, total-done _ _ _ _ c.loop-j-test.false); small = let s = c.loop-j.invariant.0 in let p = c.requires in omega arith }
