use native.Mathlib.Omega.{arith}
use borrow.Author.Tests.{lt-ltb, le-ltb}
use Rattle.room.proofs.Counting.{runs-length}
use Rattle.room.proofs.count_writes.Goals as goal

pub returns-then-remaining-deadline : goal.returns-then-remaining-deadline
returns-then-remaining-deadline c = record {
  counts = λ t words a e.
      rw (runs-length t words _ _ a _ _ e c.running_row-row.ensures, lt-ltb _ _ c.if-row-count.true, ← c.row_field-task.ensures, ← c.row_field-deadline.ensures, ← c.task_field-remaining.ensures, c.if-remaining-deadline.true)
      c.row_field.ensures;
  small = omega arith;
}

pub returns-else-remaining-deadline : goal.returns-else-remaining-deadline
returns-else-remaining-deadline c = record {
  counts = λ t words a e. rw (
    runs-length t words _ _ a _ _ e c.running_row-row.ensures,
    lt-ltb _ _ c.if-row-count.true,
    ← c.row_field-task.ensures,
    ← c.row_field-deadline.ensures,
    ← c.task_field-remaining.ensures,
    c.if-remaining-deadline.false,
  );
  small = omega arith;
}

pub returns-else-row-count : goal.returns-else-row-count
returns-else-row-count c = record { counts = λ t words a e. rw (runs-length t words _ _ a _ _ e c.running_row-row.ensures, le-ltb _ _ c.if-row-count.false); small = omega arith }
