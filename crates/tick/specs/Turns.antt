-- Document 01, 'One tick': what one task does in its turn of each step.
use Rattle.std.specs.Prelude.{ℕ, zero, suc, ◌+◌, ◌-◌, ◌%◌, Bool, true, false, cond, not, ◌&&◌, List, [], ◌∷◌, map, replicate, leb, eqb}
use Rattle.limits.specs.Limits.{max_ports}
use Rattle.plan.specs.File.{Task}
use Rattle.events.specs.Events.{Event}
use Rattle.body.specs.Body.{body}
use Rattle.trace.specs.Trace.{release_kind, miss_kind, overrun_kind, ignored_kind, entry, write_entry}
use Rattle.trace.specs.declared.Entry.{Entry}
use Rattle.state.specs.State.{pad, value_at}
use Rattle.state.specs.declared.Status.{Status}
use Rattle.state.specs.declared.Status.TheVariants.{READY, ACTIVE, FINISHED, ERROR}
use Rattle.state.specs.declared.TaskState.{TaskState}

-- a value for a signal
pub record Write : Type 0 where
  pub signal : ℕ
  pub value : ℕ

-- what a task does in its turn of a step: its next state, what it writes, its records
pub record Turn : Type 0 where
  pub state : TaskState
  pub writes : List Write
  pub entries : List Entry

abbrev pub quiet : TaskState → Turn
quiet x = record { state = x; writes = []; entries = [] }

-- a task state with other times: status, remaining ticks, release instant
abbrev pub timed : Status → ℕ → ℕ → TaskState → TaskState
timed status remaining release x =
    record { status = status; remaining = remaining; release = release; machine = x.machine; latched = x.latched; held = x.held }

-- with other values: machine state, latched inputs, held outputs
abbrev pub valued : ℕ → List ℕ → List ℕ → TaskState → TaskState
valued machine latched held x =
    record { status = x.status; remaining = x.remaining; release = x.release; machine = machine; latched = latched; held = held }

-- "Becoming READY or ERROR sets remaining and r to 0; latched inputs stay."
abbrev pub becomes : Status → TaskState → TaskState
becomes s x = timed s 0 0 x

-- the body has run: a task becomes FINISHED
abbrev pub finish : Task → TaskState → TaskState
finish k x =
    let left = body k x.latched x.machine x.held in
    timed FINISHED 0 x.release (valued left.machine x.latched left.held x)

-- each held output to its signal, in position order
unfoldable pub writes_of : List ℕ → List ℕ → List Write
writes_of [] held = []
writes_of (s ∷ ss) [] = []
writes_of (s ∷ ss) (v ∷ vs) = record { signal = s; value = v } ∷ writes_of ss vs

-- a task writes and becomes READY; a record for each output
abbrev pub write_out : ℕ → ℕ → Task → TaskState → Turn
write_out t i k x =
    let ws = writes_of k.outputs x.held in
    record { state = becomes READY x; writes = ws; entries = map (λ w. write_entry t i w.signal w.value) ws }

-- a task becomes ERROR, with one record
abbrev pub fail : ℕ → ℕ → ℕ → TaskState → Turn
fail t kind i x = record { state = becomes ERROR x; writes = []; entries = entry t kind i ∷ [] }

-- ---- 1. whether a deadline is given, and is now
abbrev pub at_deadline : ℕ → Task → ℕ → Bool
at_deadline t k r = not (eqb k.deadline 0) && eqb t (r + k.deadline)

-- "FINISHED writes all held outputs to its signals and becomes READY; ACTIVE becomes ERROR."
unfoldable pub deadline_of : Status → Bool → ℕ → ℕ → Task → TaskState → Turn
deadline_of READY now t i k x = quiet x
deadline_of ACTIVE true t i k x = fail t miss_kind i x
deadline_of ACTIVE false t i k x = quiet x
deadline_of FINISHED true t i k x = write_out t i k x
deadline_of FINISHED false t i k x = quiet x
deadline_of ERROR now t i k x = quiet x

abbrev pub deadline_turn : ℕ → ℕ → Task → TaskState → Turn
deadline_turn t i k x = deadline_of x.status (at_deadline t k x.release) t i k x

-- ---- 2. "A periodic task is due when t ≥ offset and t − offset is a multiple of the period."
abbrev pub due : ℕ → Task → Bool
due t k = leb k.offset t && eqb ((t - k.offset) % k.period) 0

-- how many release events of a list are for task i
unfoldable pub requests : ℕ → List Event → ℕ
requests i [] = 0
requests i (e ∷ now) = let n = requests i now in cond (eqb e.kind 1 && eqb e.target i) (suc n) n

-- "latch all inputs, remaining = execution, ACTIVE, r = t"
abbrev pub release : ℕ → List ℕ → Task → TaskState → TaskState
release t signals k x =
    timed ACTIVE k.execution t (valued x.machine (pad max_ports 0 (map (value_at signals) k.inputs)) x.held x)

-- what a task's turn in step 2 comes to
pub data Call : Type 0 where
  -- released, and so many further events ignored
  released : ℕ → Call
  -- due while ACTIVE
  overrun : Call
  -- so many events ignored, and nothing else
  ignored : ℕ → Call

-- "Due and READY: latch .. Due and ACTIVE (only with D = 0): ERROR. Due and ERROR: nothing." The tests: it is due, and D = 0
unfoldable pub periodic_call : Status → Bool → Bool → Call
periodic_call READY true no_d = released 0
periodic_call READY false no_d = ignored 0
periodic_call ACTIVE true true = overrun
periodic_call ACTIVE true false = ignored 0
periodic_call ACTIVE false no_d = ignored 0
periodic_call FINISHED now no_d = ignored 0
periodic_call ERROR now no_d = ignored 0

-- "An event-driven task takes the first release event of t if READY; all others of t are ignored, in ERROR too."
unfoldable pub event_call : Status → ℕ → Call
event_call READY zero = ignored 0
event_call READY (suc n) = released n
event_call ACTIVE n = ignored n
event_call FINISHED n = ignored n
event_call ERROR n = ignored n

-- "Period 0 means event-driven"
abbrev pub call_of : ℕ → List Event → ℕ → Task → Status → Call
call_of t now i k s = cond (eqb k.period 0) (event_call s (requests i now)) (periodic_call s (due t k) (eqb k.deadline 0))

-- how a released task goes on: in the kernel it waits for step 3
abbrev pub waits : Task → TaskState → TaskState
waits k x = x

unfoldable pub answer : (Task → TaskState → TaskState) → ℕ → List ℕ → ℕ → Task → TaskState → Call → Turn
answer start t signals i k x (released n) =
    record { state = start k (release t signals k x); writes = []; entries = entry t release_kind i ∷ replicate n (entry t ignored_kind i) }
answer start t signals i k x overrun = fail t overrun_kind i x
answer start t signals i k x (ignored n) = record { state = x; writes = []; entries = replicate n (entry t ignored_kind i) }

abbrev pub release_turn : (Task → TaskState → TaskState) → ℕ → List ℕ → List Event → ℕ → Task → TaskState → Turn
release_turn start t signals now i k x = answer start t signals i k x (call_of t now i k x.status)

-- ---- 3. whether a task is ACTIVE
unfoldable pub is_active : Status → Bool
is_active READY = false
is_active ACTIVE = true
is_active FINISHED = false
is_active ERROR = false

abbrev pub loses : TaskState → TaskState
loses x = timed x.status (x.remaining - 1) x.release x

-- "At 0 its body runs once; with D > 0 it becomes FINISHED, with D = 0 it writes at once and becomes READY."
abbrev pub run_turn : ℕ → ℕ → Task → TaskState → Turn
run_turn t i k x =
    cond (eqb (x.remaining - 1) 0)
    (cond (eqb k.deadline 0) (write_out t i k (finish k x)) (quiet (finish k x)))
    (quiet (loses x))
