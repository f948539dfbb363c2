use Prim.Native.Nat.{ℕ, ◌+◌, ◌*◌, ◌-◌}
use mathlib.Core.Path.{◌≡◌}
use mathlib.Core.List.{List}
use lib.ListN.{get_or}
use Rattle.lists.specs.Lists.{tab}
use Rattle.trace.specs.Trace.{over}
use Rattle.tick.specs.Turns.{Write}
use Rattle.tick.specs.Tick.{write_all}
use Rattle.arrays.specs.Arrays.{row_field}
use Rattle.steps.specs.Flat.{task_of_row, write_entries}
use Rattle.writes.proofs.write_row.Given as goal

-- write p of a row
abbrev pub write_at : List ℕ → ℕ → List ℕ → ℕ → Write
write_at rows row held p = record { signal = row_field rows row (24 + p); value = get_or held (task_of_row rows row * 8 + p) 0 }

-- p of the writes are done, those from p on come to what all come to from the start
pub record Sofar (rows : List ℕ) (row t : ℕ) (held signals₀ trace₀ : List ℕ) (from count : ℕ) (signals trace : List ℕ) (at p : ℕ) : Type 0 where
  pub place : at ≡ from + 5 * p
  pub writes : write_all (tab (write_at rows row held) 0 count) signals₀ ≡ write_all (tab (write_at rows row held) p (count - p)) signals
  pub traced : over trace₀ from (write_entries t (task_of_row rows row) (tab (write_at rows row held) 0 count))
      ≡ over trace at (write_entries t (task_of_row rows row) (tab (write_at rows row held) p (count - p)))

abbrev pub invariant-loop-p : goal.invariant-loop-p
invariant-loop-p l = Sofar l.rows l.row l.t l.held l.initial.signals l.initial.trace l.from l.count l.signals l.trace l.at l.p
