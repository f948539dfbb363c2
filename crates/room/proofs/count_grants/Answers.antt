use mathlib.Core.Path.{refl}
use native.Mathlib.Omega.{arith}
use borrow.Author.Rules.{rules}
use Rattle.room.proofs.Counting.{sofar_none, sofar_more, sofar_done}
use Rattle.room.proofs.count_grants.Goals as goal

pub loop-j-init : goal.loop-j-init
loop-j-init c = (refl, search rules, λ a e. sofar_none _ _ a _ e)

pub overflow_add-sum : goal.overflow_add-sum
overflow_add-sum c = let s = c.loop-j.invariant.1 in let p = c.requires in let n = c.count_grant-sum.ensures.small in omega arith

pub loop-j-preserved : goal.loop-j-preserved
loop-j-preserved c = (
  search rules,
  let s = c.loop-j.invariant.1 in let n = c.count_grant-sum.ensures.small in omega arith,
  λ a e. sofar_more _ _ a _ _ _ _ _ c.loop-j-test.true c.count_grant-sum.ensures.counts (c.loop-j.invariant.2 a e),
)

pub shape_of-tasks : goal.shape_of-tasks
shape_of-tasks c = c.loop-j.invariant.0

pub returns : goal.returns
returns c = record { counts = λ a e. sofar_done _ _ a _ _ _ c.loop-j-test.false (c.loop-j.invariant.2 a e); small = let s = c.loop-j.invariant.1 in let p = c.requires in omega arith }
