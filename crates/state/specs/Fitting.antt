-- Document 01, 'Task states', once more: when a state fits, clause by clause, as a person would write it from the paper. The
-- clauses are quoted in Fits.antt.
use Rattle.std.specs.Prelude.{ℕ, ◌+◌, ◌-◌, ◌*◌, ◌<◌, ◌≤◌, ◌≡◌, true, List, ◌↔◌, ◌≢◌, ◌⊎◌, length, get_or}
use Rattle.limits.specs.Limits.{max_ports, max_signals, max_tasks, max_state, max_time}
use Rattle.lists.specs.Lists.{Between, Every}
use Rattle.plan.specs.File.{Task, Plan, plan_of, task_at}
use Rattle.plan.specs.Rules.{plan_verdict}
use Rattle.events.specs.Events.{Event, passed}
use Rattle.state.specs.State.{state_at, fresh}
use Rattle.state.specs.Fits.{fits}
use Rattle.state.specs.declared.Status.{Status}
use Rattle.state.specs.declared.Status.TheVariants.{READY, ACTIVE, FINISHED, ERROR}
use Rattle.state.specs.declared.TaskState.{TaskState}
use Rattle.state.specs.declared.State.{State}

-- eight of each
pub record PortSizes (x : TaskState) : Type 0 where
  pub latched : length x.latched ≡ max_ports
  pub held : length x.held ≡ max_ports

-- all signals, and a record for each task that a plan can have
pub record StateSizes (s : State) : Type 0 where
  pub signals : length s.signals ≡ max_signals
  pub tasks : length s.tasks ≡ max_tasks
  pub ports : Every PortSizes s.tasks

-- ACTIVE or FINISHED is in flight, the others are at rest
abbrev pub InFlight : Status → Type 0
InFlight status = (status ≡ ACTIVE) ⊎ (status ≡ FINISHED)

abbrev pub AtRest : Status → Type 0
AtRest status = (status ≡ READY) ⊎ (status ≡ ERROR)

-- n is a multiple of d
pub record Multiple (d n : ℕ) : Type 0 where
  pub times : ℕ
  pub product : n ≡ times * d

-- before tick t: status, remaining ticks and release instant r of a task
pub record Timed (t : ℕ) (k : Task) (status : Status) (remaining r : ℕ) : Type 0 where
  -- remaining ticks
  pub active : status ≡ ACTIVE → Between 1 k.execution remaining
  pub others : status ≢ ACTIVE → remaining ≡ 0
  -- released before this tick, and the deadline is not past
  pub released : InFlight status → r < t
  pub in_time : InFlight status → 0 < k.deadline → t ≤ r + k.deadline
  -- a deadline is given
  pub finished : status ≡ FINISHED → 0 < k.deadline
  -- released where it was due, and not due since
  pub offset : InFlight status → 0 < k.period → k.offset ≤ r
  pub multiple : InFlight status → 0 < k.period → Multiple k.period (r - k.offset)
  pub in_period : InFlight status → 0 < k.period → t ≤ r + k.period
  -- no release instant
  pub at_rest : AtRest status → r ≡ 0

-- a task of the plan
pub record TaskFits (t : ℕ) (k : Task) (x : TaskState) : Type 0 where
  pub timed : Timed t k x.status x.remaining x.release
  -- zeros beyond its inputs and its outputs
  pub latched : (i : ℕ) → length k.inputs ≤ i → get_or x.latched i 0 ≡ 0
  pub held : (i : ℕ) → length k.outputs ≤ i → get_or x.held i 0 ≡ 0
  -- the machine state of each kind
  pub supervisor : k.kind ≡ 1 → Between 1 max_state x.machine
  pub controller : k.kind ≡ 2 → x.machine ≡ 0

-- a task from T on
pub record AllZero (x : TaskState) : Type 0 where
  pub status : x.status ≡ READY
  pub remaining : x.remaining ≡ 0
  pub release : x.release ≡ 0
  pub machine : x.machine ≡ 0
  pub latched : (i : ℕ) → get_or x.latched i 0 ≡ 0
  pub held : (i : ℕ) → get_or x.held i 0 ≡ 0

-- the state as a whole
pub record Fits (plan : Plan) (events : List Event) (s : State) : Type 0 where
  pub sizes : StateSizes s
  pub tick : s.tick ≤ max_time
  pub place : s.place ≡ passed s.tick events
  -- zeros from S on
  pub signals : (i : ℕ) → length plan.signals ≤ i → get_or s.signals i 0 ≡ 0
  -- each task of the plan
  pub tasks : (i : ℕ) → i < length plan.tasks → TaskFits s.tick (task_at plan i) (state_at s.tasks i)
  -- and from T on
  pub rest : (i : ℕ) → length plan.tasks ≤ i → AllZero (state_at s.tasks i)

-- ---- what is proved
-- "12: state not fit for this plan and these events": of an accepted plan the test that the contracts cite holds exactly when a
-- person who reads the paper would say that the state fits
abbrev pub FitsExactlyAsThePaperSays : Type 0
FitsExactlyAsThePaperSays =
    (plan_bytes : List ℕ) → (plan_verdict plan_bytes).number ≡ 0 → (events : List Event) (s : State)
    → (fits (plan_of plan_bytes) events s ≡ true) ↔ Fits (plan_of plan_bytes) events s

-- a fresh state of an accepted plan fits, with whatever events: so 12 is never the answer to the state that a fresh start returned
abbrev pub AFreshStateFits : Type 0
AFreshStateFits =
    (plan_bytes : List ℕ) → (plan_verdict plan_bytes).number ≡ 0 → (events : List Event)
    → fits (plan_of plan_bytes) events (fresh (plan_of plan_bytes)) ≡ true
