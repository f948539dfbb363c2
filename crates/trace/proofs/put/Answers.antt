use Prim.Native.Nat.{◌+◌, ◌≤◌, ◌<◌}
use native.Mathlib.Omega.{arith}
use lib.ListN.{length}
use borrow.Author.Tests.{le-leb, lt-leb}
use Rattle.trace.specs.Trace.{put_at}
use Rattle.trace.proofs.put.Goals as goal

pub returns-then-saturating_add-trace : goal.returns-then-saturating_add-trace
unfolding put_at
returns-then-saturating_add-trace c = let room : c.args.at + 5 ≤ length c.args.trace.now = omega arith in
    rw (le-leb _ _ room)

pub returns-else-saturating_add-trace : goal.returns-else-saturating_add-trace
unfolding put_at
returns-else-saturating_add-trace c = let room : length c.args.trace.now < c.args.at + 5 = omega arith in
    rw (lt-leb _ _ room)
