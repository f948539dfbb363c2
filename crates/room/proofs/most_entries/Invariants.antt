use Prim.Native.Nat.{◌+◌, ◌*◌, ◌-◌, ◌≤◌, ◌^◌}
use mathlib.Core.Path.{◌≡◌}
use Rattle.room.specs.Room.{rows_most}
use Rattle.room.proofs.most_entries.Given as goal

abbrev pub invariant-loop-j : goal.invariant-loop-j
invariant-loop-j l = (l.sum ≤ l.j * 2 ^ 32) × (rows_most l.rows l.count 0 ≡ l.sum + rows_most l.rows (l.count - l.j) l.j)
