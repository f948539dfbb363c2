-- The arrays of numbers as the public state, the public state as arrays, and the schedule's rows as the plan's tasks.
use Rattle.std.specs.Prelude.{ℕ, ◌+◌, ◌*◌, ◌<◌, ◌≤◌, ◌≡◌, List, [], ◌∷◌, ◌++◌, length, get_or}
use Rattle.limits.specs.Limits.{max_tasks, max_ports}
use Rattle.lists.specs.Lists.{tab}
use Rattle.plan.specs.File.{Task, Plan, task_at}
use Rattle.plan.specs.Order.{order}
use Rattle.trace.specs.declared.Entry.{Entry}
use Rattle.state.specs.declared.TaskState.{TaskState}
use Rattle.state.specs.declared.State.{State}
use Rattle.state.specs.Numbers.{status_of, number_of}
use Rattle.arrays.specs.Arrays.{Arrays, field, row_field, row_deadline, row_execution, row_input_count, row_inputs, row_offset, row_output_count, row_outputs, row_period}
use Rattle.tick.specs.Tick.{Moment}
use Rattle.steps.specs.Flat.{task_of_row}

-- ---- the state that the arrays hold
-- the eight ports of task i
abbrev pub ports_in : List ℕ → ℕ → List ℕ
ports_in ports i = tab (λ p. get_or ports (i * 8 + p) 0) 0 max_ports

-- the state of task i
abbrev pub task_in : Arrays → ℕ → TaskState
task_in a i = record {
  status = status_of (field a.tasks i 0);
  remaining = field a.tasks i 1;
  release = field a.tasks i 2;
  machine = field a.tasks i 3;
  latched = ports_in a.latched i;
  held = ports_in a.held i;
}

abbrev pub whole : Arrays → List TaskState
whole a = tab (task_in a) 0 max_tasks

-- what the steps of a tick change, with the records so far
abbrev pub moment_of : Arrays → List Entry → Moment
moment_of a entries = record { signals = a.signals; tasks = whole a; entries = entries }

-- ---- the arrays of a state
-- the four numbers of a task
abbrev pub four_of : TaskState → List ℕ
four_of x = number_of x.status ∷ x.remaining ∷ x.release ∷ x.machine ∷ []

-- what is read off each task, one after the other
unfoldable pub off_each : (TaskState → List ℕ) → List TaskState → List ℕ
off_each f [] = []
off_each f (x ∷ xs) = f x ++ off_each f xs

abbrev pub apart : State → Arrays
apart s = record {
  signals = s.signals;
  tasks = off_each four_of s.tasks;
  latched = off_each (λ x. x.latched) s.tasks;
  held = off_each (λ x. x.held) s.tasks;
}

-- ---- the rows of a schedule
-- row j says what the plan says of a task k, whose number has a place in the arrays
pub record RowOf (rows : List ℕ) (j : ℕ) (k : Task) : Type 0 where
  pub place : task_of_row rows j < max_tasks
  pub period : row_field rows j row_period ≡ k.period
  pub deadline : row_field rows j row_deadline ≡ k.deadline
  pub execution : row_field rows j row_execution ≡ k.execution
  pub offset : row_field rows j row_offset ≡ k.offset
  pub input_count : row_field rows j row_input_count ≡ length k.inputs
  pub output_count : row_field rows j row_output_count ≡ length k.outputs
  pub input : (p : ℕ) → p < max_ports → row_field rows j (row_inputs + p) ≡ get_or k.inputs p 0
  pub output : (p : ℕ) → p < max_ports → row_field rows j (row_outputs + p) ≡ get_or k.outputs p 0
  pub inputs : length k.inputs ≤ max_ports
  pub outputs : length k.outputs ≤ max_ports

-- the first n rows are those of the plan's tasks, in order of priority
pub record Rows (plan : Plan) (rows : List ℕ) (n : ℕ) : Type 0 where
  pub count : n ≡ length (order plan)
  pub number : (j : ℕ) → j < n → task_of_row rows j ≡ get_or (order plan) j 0
  pub task : (j : ℕ) → j < n → task_of_row rows j < length plan.tasks
  pub row : (j : ℕ) → j < n → RowOf rows j (task_at plan (task_of_row rows j))
