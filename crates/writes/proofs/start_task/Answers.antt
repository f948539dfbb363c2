use native.Mathlib.Nat.{add-zero}
use Rattle.writes.proofs.start_task.Goals as goal

pub returns : goal.returns
returns c = rw (c.put-3.ensures, c.put-2.ensures, c.put.ensures, add-zero)
