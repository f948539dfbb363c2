use native.Mathlib.Omega.{arith}
use Rattle.lists.proofs.Laws.{length-tab}
use Rattle.trace.specs.Trace.{over}
use Rattle.steps.proofs.Laws.{write_more, write_done, entries_more, entries_done, writes_length}
use Rattle.writes.proofs.write_row.Goals as goal

pub loop-p-preserved : goal.loop-p-preserved
unfolding over
loop-p-preserved c = let s = c.loop-p.invariant in
    record {
      place = let e = s.place in omega arith;
      writes = rw (s.writes, write_more _ _ _ _ c.loop-p-test.true, ← c.row_field-task.ensures, ← c.get-signal.ensures, ← c.get-value.ensures, c.put.ensures);
      traced = rw (s.traced, entries_more _ _ _ _ _ c.loop-p-test.true, ← c.row_field-task.ensures, ← c.get-signal.ensures, ← c.get-value.ensures, c.put-in-loop-p.ensures, c.write.ensures);
    }

pub returns : goal.returns
unfolding over
returns c = let s = c.loop-p.invariant in
    let e = s.place in record {
      wrote = rw (← c.row_field-count.ensures)
          (record {
            signals = rw (s.writes, write_done _ _ _ _ c.loop-p-test.false);
            trace = rw (s.traced, entries_done _ _ _ _ _ c.loop-p-test.false);
            ends = rw (writes_length, length-tab) (omega arith);
          });
      near = omega arith;
    }
