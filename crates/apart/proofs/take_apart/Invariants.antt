use Rattle.limits.specs.Limits.{max_ports}
use Rattle.whole.specs.Whole.{four_of}
use Rattle.apart.proofs.Laws.{Stored}
use Rattle.apart.proofs.take_apart.Given as goal

abbrev pub invariant-loop-i : goal.invariant-loop-i
invariant-loop-i l = Stored four_of 4 l.fn.states l.i l.tasks × Stored (λ x. x.latched) max_ports l.fn.states l.i l.latched × Stored (λ x. x.held) max_ports l.fn.states l.i l.held
