-- Document 01, 'Task states': what a fresh state and the all-zero state hold, and how many values each list has.
use Rattle.std.specs.Prelude.{ℕ, Bool, ◌&&◌, List, [], map, length, get_or, replicate, eqb}
use Rattle.limits.specs.Limits.{max_signals, max_tasks, max_ports}
use Rattle.lists.specs.Lists.{tab, all}
use Rattle.plan.specs.File.{Task, Plan}
use Rattle.state.specs.declared.Status.TheVariants.{READY}
use Rattle.state.specs.declared.TaskState.{TaskState}
use Rattle.state.specs.declared.State.{State}

-- the first n of a list, filled up with d where there are fewer
abbrev pub pad : {A : Type 0} → ℕ → A → List A → List A
pad n d xs = tab (λ i. get_or xs i d) 0 n

-- the value of a signal
abbrev pub value_at : List ℕ → ℕ → ℕ
value_at signals x = get_or signals x 0

-- what stands past the end of a list of task states
abbrev pub nowhere : TaskState
nowhere = record { status = READY; remaining = 0; release = 0; machine = 0; latched = []; held = [] }

-- the state of task i
abbrev pub state_at : List TaskState → ℕ → TaskState
state_at tasks i = get_or tasks i nowhere

-- what a task from T on is
abbrev pub idle : TaskState
idle = record { status = READY; remaining = 0; release = 0; machine = 0; latched = replicate max_ports 0; held = replicate max_ports 0 }

-- "Fresh: READY, zeros, except the machine state (the initial one) and held outputs (initial values of the signals it writes)."
unfoldable pub fresh_task : List ℕ → Task → TaskState
fresh_task signals k = record {
  status = READY;
  remaining = 0;
  release = 0;
  machine = k.initial;
  latched = replicate max_ports 0;
  held = pad max_ports 0 (map (value_at signals) k.outputs);
}

-- "The kernel has the next tick's number and the event place, both 0 when fresh, and 64 signals: the plan's initial values when
-- fresh, always zero from S on."
unfoldable pub fresh : Plan → State
fresh plan = record {
  tick = 0;
  place = 0;
  signals = pad max_signals 0 plan.signals;
  tasks = pad max_tasks idle (map (fresh_task plan.signals) plan.tasks);
}

-- "the all-zero state"
unfoldable pub zero_state : State
zero_state = record { tick = 0; place = 0; signals = replicate max_signals 0; tasks = replicate max_tasks idle }

-- ---- how many there are of each, as the arrays of the code have them
-- eight of each
abbrev pub sized_task : TaskState → Bool
sized_task x = eqb (length x.latched) max_ports && eqb (length x.held) max_ports

-- all signals, and a record for each task that a plan can have
unfoldable pub sized : State → Bool
sized s = eqb (length s.signals) max_signals && eqb (length s.tasks) max_tasks && all sized_task s.tasks
