-- What the parts of step 2 hand each other.
use Rattle.std.specs.Prelude.{ℕ, ◌+◌, ◌*◌, ◌≡◌, Bool, cond, not, ◌&&◌, ◌||◌, List, replicate, eqb}
use Rattle.limits.specs.Limits.{max_ports}
use Rattle.events.specs.Events.{Event}
use Rattle.trace.specs.Trace.{over}
use Rattle.trace.specs.declared.Entry.{Entry}
use Rattle.arrays.specs.Arrays.{ready, active, with_field, row_field, row_execution, row_offset, row_period}
use Rattle.tick.specs.Turns.{requests}
use Rattle.steps.specs.Flat.{task_of_row, latch, is_due}

-- how often the task of row j is asked to start: by the release events of the tick, or once where it is periodic and due
abbrev pub asked_of : ℕ → List ℕ → List Event → ℕ → ℕ
asked_of t rows now j =
    cond (eqb (row_field rows j row_period) 0) (requests (task_of_row rows j) now) (cond (is_due t (row_field rows j row_offset) (row_field rows j row_period)) 1 0)

-- nothing comes of a task's turn, whatever is due: it is periodic, and neither READY nor ACTIVE without a deadline
abbrev pub closed : ℕ → ℕ → ℕ → Bool
closed period status deadline = not (eqb period 0) && not (eqb status ready) && (not (eqb status active) || not (eqb deadline 0))

-- so many records of one kind
pub record Ignored (old-trace new-trace : List ℕ) (from end count : ℕ) (e : Entry) : Type 0 where
  pub trace : new-trace ≡ over old-trace from (replicate count e)
  pub ends : end ≡ from + 5 * count

-- the task of row j starts
pub record Started (rows : List ℕ) (j t : ℕ) (signals old-tasks new-tasks old-latched new-latched : List ℕ) : Type 0 where
  pub tasks : new-tasks ≡ with_field (with_field (with_field old-tasks (task_of_row rows j) 0 active) (task_of_row rows j) 1 (row_field rows j row_execution)) (task_of_row rows j) 2 t
  pub latched : new-latched ≡ latch rows j signals max_ports 0 old-latched
