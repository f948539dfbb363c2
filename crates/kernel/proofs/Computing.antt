-- What a definition of this crate computes with.
use Rattle.trace.specs.Trace.{lines, records_in}
use Rattle.tick.proofs.Computing.{computing_tick}
use Rattle.kernel.specs.Call.{run_room}

-- a call from bytes to records, and the records that it lays into a trace: a proof that computes them says
-- `unfolding computing_kernel`
unfoldable pub computing_kernel : Unit {0}
unfolding computing_tick lines records_in run_room
computing_kernel = tt
