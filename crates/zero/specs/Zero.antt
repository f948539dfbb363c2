-- Document 01, the zero-time reading: what a run is held against, and what the entries give over one call or many.
use Rattle.std.specs.Prelude.{ℕ, zero, suc, ◌+◌, ◌<◌, ◌≤◌, ◌≡◌, ◌≢◌, List, [], ◌∷◌, ◌++◌, length}
use Rattle.lists.specs.Lists.{Every}
use Rattle.answers.specs.Answers.{said}
use Rattle.plan.specs.File.{Task, Plan, plan_of, task_at}
use Rattle.events.specs.Events.{events_of}
use Rattle.trace.specs.Trace.{miss_kind, trace_after, records_in, own, before}
use Rattle.trace.specs.declared.Entry.{Entry}
use Rattle.state.specs.State.{fresh}
use Rattle.state.specs.declared.State.{State}
use Rattle.tick.specs.Tick.{Ticked, tick, zero_tick}
use Rattle.kernel.specs.Call.{Starts, Runs}
use Rattle.kernel.specs.declared.Started.{Started}
use Rattle.kernel.specs.declared.Outcome.{Outcome}

-- "a plan without deadline 0"
abbrev pub WithoutDeadline0 : Plan → Type 0
WithoutDeadline0 plan = Every (λ k. k.deadline ≢ 0) plan.tasks

-- "3 deadline missed": no record of a list is one
abbrev pub NoMiss : List Entry → Type 0
NoMiss entries = Every (λ e. e.kind ≢ miss_kind) entries

-- ---- n ticks, each from the state that the one before left: the last state, and all records as they come
unfoldable pub ticks : (State → Ticked) → ℕ → State → Ticked
ticks step zero s = record { state = s; entries = [] }
ticks step (suc n) s =
    let u = step s in
    let v = ticks step n u.state in
    record { state = v.state; entries = u.entries ++ v.entries }

-- n ticks of the kernel from the fresh state
abbrev pub kernel_run : List ℕ → List ℕ → ℕ → Ticked
kernel_run plan_bytes event_bytes n = ticks (tick (plan_of plan_bytes) (events_of event_bytes)) n (fresh (plan_of plan_bytes))

-- n ticks of "the zero-time reading" from the fresh state
abbrev pub zero_run : List ℕ → List ℕ → ℕ → Ticked
zero_run plan_bytes event_bytes n = ticks (zero_tick (plan_of plan_bytes) (events_of event_bytes)) n (fresh (plan_of plan_bytes))

-- ---- two plans that differ only in execution times and priorities
-- every field of two tasks but these two
pub record TaskAlike (k l : Task) : Type 0 where
  pub period : k.period ≡ l.period
  pub deadline : k.deadline ≡ l.deadline
  pub offset : k.offset ≡ l.offset
  pub kind : k.kind ≡ l.kind
  pub initial : k.initial ≡ l.initial
  pub inputs : k.inputs ≡ l.inputs
  pub outputs : k.outputs ≡ l.outputs
  pub transitions : k.transitions ≡ l.transitions
  pub actions : k.actions ≡ l.actions

pub record DifferOnlyInExecutionAndPriority (plan other : Plan) : Type 0 where
  pub signals : plan.signals ≡ other.signals
  pub count : length plan.tasks ≡ length other.tasks
  pub tasks : (i : ℕ) → i < length plan.tasks → TaskAlike (task_at plan i) (task_at other i)

-- ---- what the entries give
-- one call of the run entry: the ticks asked, the trace as it was lent and as it was left, and what came back
pub record Called : Type 0 where
  pub asked : ℕ
  pub lent : List ℕ
  pub left : List ℕ
  pub outcome : Outcome

-- the records that a call left
abbrev pub records_of : Called → List Entry
records_of c = records_in c.left c.outcome.records

-- calls one after the other, from a state on: each is given the state that the one before returned
abbrev pub InTurn : List ℕ → List ℕ → State → List Called → Type 0
InTurn plan_bytes event_bytes s [] = Unit {0}
InTurn plan_bytes event_bytes s (c ∷ cs) =
    Runs plan_bytes event_bytes s c.asked c.lent c.left c.outcome × InTurn plan_bytes event_bytes c.outcome.state cs

-- the ticks that they ran
unfoldable pub ticks_of : List Called → ℕ
ticks_of [] = 0
ticks_of (c ∷ cs) = c.outcome.ticks + ticks_of cs

-- their records, joined
unfoldable pub all_records : List Called → List Entry
all_records [] = []
all_records (c ∷ cs) = records_of c ++ all_records cs

-- the state after the last of them
unfoldable pub last_state : State → List Called → State
last_state s [] = s
last_state s (c ∷ cs) = last_state c.outcome.state cs

-- a fresh start that accepts the plan, and calls in turn from its state on
pub record Service (plan_bytes event_bytes : List ℕ) (started : Started) (calls : List Called) : Type 0 where
  pub starts : Starts plan_bytes started
  pub accepted : (said started.answer).number ≡ 0
  pub in_turn : InTurn plan_bytes event_bytes started.state calls

-- ---- what is proved
-- the signals that come back after k ticks from a fresh start, in however many calls: of every service that ran k ticks
abbrev pub SignalsAfter : List ℕ → List ℕ → ℕ → List ℕ → Type 0
SignalsAfter plan_bytes event_bytes k signals =
    (started : Started) (calls : List Called) → Service plan_bytes event_bytes started calls → ticks_of calls ≡ k
    → (last_state started.state calls).signals ≡ signals

-- what one call gave from the fresh state is what the zero-time reading gives in as many ticks
pub record CallReads (plan_bytes event_bytes lent left : List ℕ) (r : Outcome) : Type 0 where
  -- all its records, in their order; so also each task's own
  pub records : records_in left r.records ≡ (zero_run plan_bytes event_bytes r.ticks).entries
  pub own-records : (i : ℕ) → own i (records_in left r.records) ≡ own i (zero_run plan_bytes event_bytes r.ticks).entries
  -- the trace to its last word: the records "from the trace's start", and "words beyond the records stay"
  pub trace : left ≡ trace_after (zero_run plan_bytes event_bytes r.ticks).entries lent
  -- the state that came back is that after as many ticks of the kernel, and its signals are those of the zero-time reading
  pub state : r.state ≡ (kernel_run plan_bytes event_bytes r.ticks).state
  pub last : r.state.signals ≡ (zero_run plan_bytes event_bytes r.ticks).state.signals
  -- and so are the signals after every tick before
  pub signals : (k : ℕ) → k ≤ r.ticks → SignalsAfter plan_bytes event_bytes k (zero_run plan_bytes event_bytes k).state.signals

-- what calls in turn gave from the fresh state, all together
pub record ServiceReads (plan_bytes event_bytes : List ℕ) (started : Started) (calls : List Called) : Type 0 where
  -- all their records, in their order; so also each task's own
  pub records : all_records calls ≡ (zero_run plan_bytes event_bytes (ticks_of calls)).entries
  pub own-records : (i : ℕ) → own i (all_records calls) ≡ own i (zero_run plan_bytes event_bytes (ticks_of calls)).entries
  -- each call's records stand "from the trace's start", and "words beyond the records stay"
  pub traces : Every (λ c. c.left ≡ trace_after (records_of c) c.lent) calls
  -- the state after the last call is that after as many ticks of the kernel, and its signals are those of the zero-time reading
  pub state : last_state started.state calls ≡ (kernel_run plan_bytes event_bytes (ticks_of calls)).state
  pub last : (last_state started.state calls).signals ≡ (zero_run plan_bytes event_bytes (ticks_of calls)).state.signals
  -- and so are the signals after every tick before
  pub signals : (k : ℕ) → k ≤ ticks_of calls → SignalsAfter plan_bytes event_bytes k (zero_run plan_bytes event_bytes k).state.signals

-- the same before tick k only, whatever comes later
pub record ReadsBefore (k : ℕ) (plan_bytes event_bytes : List ℕ) (calls : List Called) : Type 0 where
  pub records : before k (all_records calls) ≡ (zero_run plan_bytes event_bytes k).entries
  pub own-records : (i : ℕ) → own i (before k (all_records calls)) ≡ own i (zero_run plan_bytes event_bytes k).entries
  pub signals : SignalsAfter plan_bytes event_bytes k (zero_run plan_bytes event_bytes k).state.signals

-- two services show the same: each task's own records, and all signals
pub record ShowSame (state : State) (entries : List Entry) (state' : State) (entries' : List Entry) : Type 0 where
  pub own-records : (i : ℕ) → own i entries ≡ own i entries'
  pub signals : state.signals ≡ state'.signals

-- two plans show the same before tick k: each task's own records, and the signals that come back after k ticks
pub record ShowSameBefore (k : ℕ) (plan_bytes other_bytes event_bytes : List ℕ) (entries entries' : List Entry) : Type 0 where
  pub own-records : (i : ℕ) → own i (before k entries) ≡ own i (before k entries')
  pub signals : (started : Started) (calls : List Called) → Service other_bytes event_bytes started calls → ticks_of calls ≡ k
      → SignalsAfter plan_bytes event_bytes k (last_state started.state calls).signals
