use native.Mathlib.Omega.{arith}
use Rattle.quiet.proofs.Found.{passed_none, passed-idle, passed-run, bounded, spared}
use Rattle.quiet.proofs.pass.Goals as goal

pub returns-then-most-eq0 : goal.returns-then-most-eq0
returns-then-most-eq0 c = passed_none _ _ _ _ _ _ _ _

pub returns-then-count-row : goal.returns-then-count-row
returns-then-count-row c =
    let bound = bounded _ _ _ _ _ _ _ c.min-wake.ensures c.saturating_sub.ensures c.min-most.ensures in
    passed-idle _ _ _ _ _ _ _ _ _ _ _ _ _ c.next_event.ensures (λ j h u l m. c.requires.1 j h u l (omega (arith, m, c.next_wake.ensures j h)))
    c.running_row-row.ensures bound (omega arith) c.if-count-row.true

pub returns-then-ticks-eq0 : goal.returns-then-ticks-eq0
returns-then-ticks-eq0 c = passed_none _ _ _ _ _ _ _ _

pub returns : goal.returns
returns c = let few = c.min-ticks.ensures in
    let spare = c.saturating_sub-2.ensures in
    rw (c.put.ensures, c.saturating_sub-3.ensures, c.task_field-rest.ensures, c.row_field-task.ensures)
    (passed-run _ _ _ _ _ _ _ _ _ _ _ _ _ c.next_event.ensures (λ j h u l m. c.requires.1 j h u l (omega (arith, m, c.next_wake.ensures j h)))
    c.running_row-row.ensures (bounded _ _ _ _ _ _ _ c.min-wake.ensures c.saturating_sub.ensures c.min-most.ensures)
    (omega arith) (omega (arith, c.if-ticks-eq0.false)) (omega (arith, c.if-count-row.false))
    (rw (← c.row_field-task.ensures, ← c.task_field-rest.ensures) (spared _ _ _ _ spare few c.if-ticks-eq0.false)))
