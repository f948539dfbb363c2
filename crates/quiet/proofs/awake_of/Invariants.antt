use lib.ListN.{get_or}
use lib.Dec.{leb}
use Rattle.quiet.specs.Quiet.{AllIn}
use Rattle.quiet.proofs.awake_of.Given as goal

abbrev pub invariant-loop-j : goal.invariant-loop-j
invariant-loop-j l = AllIn (λ k. leb (get_or l.wakes k 0) l.t) l.j l.calls
