use Prim.Native.Nat.{◌*◌, ◌≤◌, ◌^◌}
use mathlib.Core.Path.{◌≡◌}
use lib.ListN.{length}
use Rattle.arrays.specs.Arrays.{Arrays}
use Rattle.steps.specs.Flat.{lapse}
use Rattle.room.proofs.Counting.{Sofar}
use Rattle.room.proofs.count_lapses.Given as goal

abbrev pub invariant-loop-j : goal.invariant-loop-j
invariant-loop-j l = (length l.tasks ≡ length l.initial.tasks) × (l.sum ≤ l.j * 2 ^ 32) × ((a : Arrays) → a.tasks ≡ l.initial.tasks → Sofar (lapse l.t l.rows) l.count a l.tasks l.sum l.j)
