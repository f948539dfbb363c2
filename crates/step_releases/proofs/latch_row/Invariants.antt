use Prim.Native.Nat.{◌-◌}
use mathlib.Core.Path.{◌≡◌}
use Rattle.limits.specs.Limits.{max_ports}
use Rattle.steps.specs.Flat.{latch}
use Rattle.step_releases.proofs.latch_row.Given as goal

abbrev pub invariant-loop-p : goal.invariant-loop-p
invariant-loop-p l = latch l.rows l.row l.signals max_ports 0 l.initial.latched ≡ latch l.rows l.row l.signals (max_ports - l.p) l.p l.latched
