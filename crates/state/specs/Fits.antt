-- Document 01, 'Task states': "A state fits (else 12) when" what stands here holds.
use Rattle.std.specs.Prelude.{ℕ, ◌+◌, ◌-◌, ◌%◌, Bool, true, false, cond, not, ◌&&◌, ◌||◌, List, length, drop, leb, ltb, eqb}
use Rattle.limits.specs.Limits.{max_tasks, max_state, max_time}
use Rattle.lists.specs.Lists.{tab, all, between}
use Rattle.plan.specs.File.{Task, Plan, task_at}
use Rattle.events.specs.Events.{Event, passed}
use Rattle.state.specs.declared.Status.{Status}
use Rattle.state.specs.declared.Status.TheVariants.{READY, ACTIVE, FINISHED, ERROR}
use Rattle.state.specs.declared.TaskState.{TaskState}
use Rattle.state.specs.declared.State.{State}
use Rattle.state.specs.State.{state_at, sized}

-- "ACTIVE and FINISHED have release instant r < tick and, with deadline D > 0, tick ≤ r + D"
abbrev pub deadline_rule : ℕ → Task → ℕ → Bool
deadline_rule t k r = ltb r t && (eqb k.deadline 0 || leb t (r + k.deadline))

-- "a periodic task in flight has r ≥ offset, r − offset a multiple of the period, and tick ≤ r + period"
abbrev pub period_rule : ℕ → Task → ℕ → Bool
period_rule t k r = eqb k.period 0 || (leb k.offset r && eqb ((r - k.offset) % k.period) 0 && leb t (r + k.period))

-- a task in flight, ACTIVE or FINISHED, released at r
abbrev pub in_flight_rule : ℕ → Task → ℕ → Bool
in_flight_rule t k r = deadline_rule t k r && period_rule t k r

-- "ACTIVE has remaining 1..execution, the others 0"; "FINISHED only where D > 0"; "READY and ERROR have r = 0"
abbrev pub status_rule : Status → ℕ → Task → ℕ → ℕ → Bool
status_rule READY t k remaining r = eqb remaining 0 && eqb r 0
status_rule ACTIVE t k remaining r = between 1 k.execution remaining && in_flight_rule t k r
status_rule FINISHED t k remaining r = eqb remaining 0 && not (eqb k.deadline 0) && in_flight_rule t k r
status_rule ERROR t k remaining r = eqb remaining 0 && eqb r 0

-- "signals from S on, and latched inputs and held outputs beyond ni and no, are 0"
abbrev pub zeros_from : ℕ → List ℕ → Bool
zeros_from n xs = all (λ x. eqb x 0) (drop n xs)

-- "machine state 1..16 for a supervisor, 0 for a controller"
abbrev pub machine_rule : Task → ℕ → Bool
machine_rule k machine = (eqb k.kind 1 && between 1 max_state machine) || (not (eqb k.kind 1) && eqb machine 0)

-- a task of the plan
unfoldable pub task_fits : ℕ → Task → TaskState → Bool
task_fits t k x =
    status_rule x.status t k x.remaining x.release && zeros_from (length k.inputs) x.latched
    && zeros_from (length k.outputs) x.held && machine_rule k x.machine

abbrev pub is_ready : Status → Bool
is_ready READY = true
is_ready ACTIVE = false
is_ready FINISHED = false
is_ready ERROR = false

-- a task from T on
abbrev pub is_idle : TaskState → Bool
is_idle x =
    is_ready x.status && eqb x.remaining 0 && eqb x.release 0 && eqb x.machine 0 && zeros_from 0 x.latched
    && zeros_from 0 x.held

-- task i: "tasks from T on are all-zero READY"
unfoldable pub task_rule : Plan → ℕ → ℕ → TaskState → Bool
task_rule plan t i x = cond (ltb i (length plan.tasks)) (task_fits t (task_at plan i) x) (is_idle x)

abbrev pub tasks_fit : Plan → ℕ → List TaskState → Bool
tasks_fit plan t tasks = all (λ i. task_rule plan t i (state_at tasks i)) (tab (λ i. i) 0 max_tasks)

-- "tick ≤ 1,000,000; event place = number of events with instant < tick", and all of the above
unfoldable pub fits : Plan → List Event → State → Bool
fits plan events s =
    sized s
    && (leb s.tick max_time && eqb s.place (passed s.tick events) && zeros_from (length plan.signals) s.signals
    && tasks_fit plan s.tick s.tasks)
