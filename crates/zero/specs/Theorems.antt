-- Condition 3, what is proved of it: "Demand 3 is stated against the zero-time reading". Each statement speaks of what the
-- entries return; proofs/Theorems.antt proves them, proofs/Witness.antt has an instance of each and a case for each premise.
use Rattle.std.specs.Prelude.{ℕ, ◌≤◌, ◌≡◌, List}
use Rattle.answers.specs.Answers.{said}
use Rattle.plan.specs.File.{Plan, plan_of, task_at}
use Rattle.events.specs.Events.{Event}
use Rattle.trace.specs.Trace.{records_in, before}
use Rattle.state.specs.State.{fresh}
use Rattle.tick.specs.Tick.{zero_tick}
use Rattle.kernel.specs.Call.{Starts, Runs}
use Rattle.kernel.specs.declared.Started.{Started}
use Rattle.kernel.specs.declared.Outcome.{Outcome}
use Rattle.zero.specs.Zero.{WithoutDeadline0, NoMiss, ticks, zero_run, DifferOnlyInExecutionAndPriority, Called, ticks_of, all_records, last_state, Service, CallReads, ServiceReads, ReadsBefore, ShowSame, ShowSameBefore}

-- ---- the first sentence
-- A plan that the fresh start accepts, without deadline 0, and one call from the fresh state, whatever it asks and answers: if
-- the records that it left have no miss, it gave what the zero-time reading gives in as many ticks, to the last word of the trace
abbrev pub OneCallIsTheZeroTimeReading : Type 0
OneCallIsTheZeroTimeReading =
    (plan_bytes event_bytes : List ℕ) (started : Started) → Starts plan_bytes started → (said started.answer).number ≡ 0
    → WithoutDeadline0 (plan_of plan_bytes)
    → (asked : ℕ) (lent left : List ℕ) (r : Outcome) → Runs plan_bytes event_bytes started.state asked lent left r
    → NoMiss (records_in left r.records) → CallReads plan_bytes event_bytes lent left r

-- So also where the call is asked for any k of these ticks instead: it runs k, and its signals are those of the zero-time reading
abbrev pub AskedForFewerTicksItReadsThem : Type 0
AskedForFewerTicksItReadsThem =
    (plan_bytes event_bytes : List ℕ) (started : Started) → Starts plan_bytes started → (said started.answer).number ≡ 0
    → WithoutDeadline0 (plan_of plan_bytes)
    → (asked : ℕ) (lent left : List ℕ) (r : Outcome) → Runs plan_bytes event_bytes started.state asked lent left r
    → NoMiss (records_in left r.records)
    → (k : ℕ) → k ≤ r.ticks → (left' : List ℕ) (r' : Outcome) → Runs plan_bytes event_bytes started.state k lent left' r'
    → (r'.ticks ≡ k) × (r'.state.signals ≡ (zero_run plan_bytes event_bytes k).state.signals)

-- The same of any number of calls, each from the state that the one before returned: their records joined, the signals after the
-- last of them, and after each tick
abbrev pub CallsInTurnAreTheZeroTimeReading : Type 0
CallsInTurnAreTheZeroTimeReading =
    (plan_bytes event_bytes : List ℕ) (started : Started) (calls : List Called) → Service plan_bytes event_bytes started calls
    → WithoutDeadline0 (plan_of plan_bytes) → NoMiss (all_records calls) → ServiceReads plan_bytes event_bytes started calls

-- Whatever is missed later: before any tick k by which nothing was missed
abbrev pub BeforeAMissItIsTheZeroTimeReading : Type 0
BeforeAMissItIsTheZeroTimeReading =
    (plan_bytes event_bytes : List ℕ) (started : Started) (calls : List Called) → Service plan_bytes event_bytes started calls
    → WithoutDeadline0 (plan_of plan_bytes) → (k : ℕ) → k ≤ ticks_of calls → NoMiss (before k (all_records calls))
    → ReadsBefore k plan_bytes event_bytes calls

-- ---- the second sentence: execution times and priorities never move a write
-- Two accepted plans that differ only in execution times and priorities, both without deadline 0, under the same events, while
-- neither has a miss: after as many ticks, in however many calls, each task's own records and all signals are the same
abbrev pub ExecutionAndPriorityMoveNoWrite : Type 0
ExecutionAndPriorityMoveNoWrite =
    (plan_bytes other_bytes event_bytes : List ℕ) (started other-started : Started) (calls other-calls : List Called)
    → Service plan_bytes event_bytes started calls → Service other_bytes event_bytes other-started other-calls
    → WithoutDeadline0 (plan_of plan_bytes) → WithoutDeadline0 (plan_of other_bytes) → DifferOnlyInExecutionAndPriority (plan_of plan_bytes) (plan_of other_bytes)
    → ticks_of calls ≡ ticks_of other-calls → NoMiss (all_records calls) → NoMiss (all_records other-calls)
    → ShowSame (last_state started.state calls) (all_records calls) (last_state other-started.state other-calls) (all_records other-calls)

-- Whatever is missed later: before any tick k by which neither has missed
abbrev pub BeforeAMissTheyMoveNoWrite : Type 0
BeforeAMissTheyMoveNoWrite =
    (plan_bytes other_bytes event_bytes : List ℕ) (started other-started : Started) (calls other-calls : List Called)
    → Service plan_bytes event_bytes started calls → Service other_bytes event_bytes other-started other-calls
    → WithoutDeadline0 (plan_of plan_bytes) → WithoutDeadline0 (plan_of other_bytes) → DifferOnlyInExecutionAndPriority (plan_of plan_bytes) (plan_of other_bytes)
    → (k : ℕ) → k ≤ ticks_of calls → k ≤ ticks_of other-calls → NoMiss (before k (all_records calls)) → NoMiss (before k (all_records other-calls))
    → ShowSameBefore k plan_bytes other_bytes event_bytes (all_records calls) (all_records other-calls)

-- ---- what the zero-time reading itself is
-- "Nothing misses in it", whatever the plan and the events
abbrev pub NothingMissesInIt : Type 0
NothingMissesInIt = (plan_bytes event_bytes : List ℕ) (n : ℕ) → NoMiss (zero_run plan_bytes event_bytes n).entries

-- "execution times are not read": plans that differ in nothing else have one zero-time reading
abbrev pub ExecutionTimesAreNotRead : Type 0
ExecutionTimesAreNotRead =
    (plan other : Plan) → DifferOnlyInExecutionAndPriority plan other → ((i : ℕ) → (task_at plan i).priority ≡ (task_at other i).priority)
    → (events : List Event) (n : ℕ) → ticks (zero_tick plan events) n (fresh plan) ≡ ticks (zero_tick other events) n (fresh other)
