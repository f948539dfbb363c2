use Prim.Native.Nat.{ℕ, ◌<◌, ◌≤◌}
use lib.ListN.{get_or}
use Rattle.quiet.proofs.least_wake.Given as goal

abbrev pub invariant-loop-wake : goal.invariant-loop-wake
invariant-loop-wake l = (k : ℕ) → k < l.wake-index → l.least ≤ get_or l.wakes k 0
