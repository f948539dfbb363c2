-- The task records that the choice of the running task reads.
use Rattle.std.specs.Prelude.{ℕ, List}
use Rattle.urgent.specs.declared.TaskRecord.{TaskRecord}
use Rattle.arrays.specs.Arrays.{field}
use Rattle.steps.specs.Flat.{task_of_row}

-- the record of the task of row j; rows stand in order of priority, so the row is its rank
unfoldable pub record_of : List ℕ → List ℕ → ℕ → TaskRecord
record_of rows tasks j = record { status = field tasks (task_of_row rows j) 0; rank = j }
