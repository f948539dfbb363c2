use Prim.Native.Nat.{◌+◌, ◌*◌}
use lib.ListN.{get_or}
use Rattle.limits.specs.Limits.{max_ports}
use Rattle.apart.proofs.Fill.{Filled}
use Rattle.apart.proofs.ports_in.Given as goal

abbrev pub invariant-loop-i : goal.invariant-loop-i
invariant-loop-i l = Filled (λ p. get_or l.ports (l.task * 8 + p) 0) 0 max_ports l.i l.out
