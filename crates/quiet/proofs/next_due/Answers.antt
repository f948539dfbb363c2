use native.Mathlib.Nat.{mod-lt, le_of_lt}
use native.Mathlib.Omega.{arith}
use Rattle.quiet.proofs.Due.{before-offset, between-releases}
use Rattle.quiet.proofs.next_due.Goals as goal

pub returns-then-t-offset : goal.returns-then-t-offset
returns-then-t-offset c = λ u l b. before-offset u _ _ b

pub returns-then-past-eq0 : goal.returns-then-past-eq0
returns-then-past-eq0 c = λ u l b. absurd (omega (arith, l, b))

pub overflow_sub-period : goal.overflow_sub-period
overflow_sub-period c = le_of_lt (mod-lt _ c.requires)

pub returns : goal.returns
returns c = λ u l b. between-releases _ u _ _ (omega (arith, c.if-t-offset.false)) (omega (arith, c.if-past-eq0.false)) l (omega (arith, b, c.saturating_add.ensures))
