-- The promises, each as a statement about what the entries return; proofs/ proves them, proofs/Witness.antt has an instance of each
-- and a case for each premise.
use Rattle.std.specs.Prelude.{ℕ, ◌+◌, ◌*◌, ◌<◌, ◌≤◌, ◌≡◌, ◌≢◌, List, [], ◌∷◌, length}
use Rattle.limits.specs.Limits.{max_time}
use Rattle.lists.specs.Lists.{Between}
use Rattle.answers.specs.Answers.{said}
use Rattle.plan.specs.File.{plan_of, task_at}
use Rattle.plan.specs.Rules.{plan_verdict}
use Rattle.events.specs.Events.{events_of, events_verdict}
use Rattle.trace.specs.Trace.{of_tick}
use Rattle.state.specs.State.{value_at, zero_state}
use Rattle.state.specs.Fitting.{Fits}
use Rattle.state.specs.declared.State.{State}
use Rattle.tick.specs.Tick.{tick}
use Rattle.kernel.specs.Call.{Starts, Runs}
use Rattle.kernel.specs.declared.Started.{Started}
use Rattle.kernel.specs.declared.Outcome.{Outcome}
use Rattle.zero.specs.Zero.{Called, InTurn, ticks_of, all_records, last_state, Service}
use Rattle.promises.specs.Promises.{Untouched, StopsBefore, CalledFrom, AllRun, Composed, AtOnce, output_of, total_of, OnlyMoves, InError}

-- ---- condition 1: every input is answered from the list, and a refusal leaves everything as it was
-- "Numbers returned": the fresh start gives 0 to 8, a run 0 to 14
abbrev pub EveryNumberIsOfTheList : Type 0
EveryNumberIsOfTheList =
    ((plan_bytes : List ℕ) (r : Started) → Starts plan_bytes r → (said r.answer).number ≤ 8)
    × ((plan_bytes event_bytes : List ℕ) (s : State) (asked : ℕ) (lent left : List ℕ) (r : Outcome) → Runs plan_bytes event_bytes s asked lent left r
    → (said r.answer).number ≤ 14)

-- "1..13 return the given state, 0 ticks, 0 records, trace untouched."
abbrev pub ARefusalLeavesEverything : Type 0
ARefusalLeavesEverything =
    (plan_bytes event_bytes : List ℕ) (s : State) (asked : ℕ) (lent left : List ℕ) (r : Outcome) → Runs plan_bytes event_bytes s asked lent left r
    → Between 1 13 (said r.answer).number → Untouched s lent left r

-- "Fresh start checks the plan; if refused it returns the all-zero state."
abbrev pub ARefusedStartIsAllZero : Type 0
ARefusedStartIsAllZero = (plan_bytes : List ℕ) (r : Started) → Starts plan_bytes r → (said r.answer).number ≢ 0 → r.state ≡ zero_state

-- 14: "A tick is run only if all its records fit": the ticks already run stand
abbrev pub AFullTraceStopsBeforeTheTick : Type 0
AFullTraceStopsBeforeTheTick =
    (plan_bytes event_bytes : List ℕ) (s : State) (asked : ℕ) (lent left : List ℕ) (r : Outcome) → Runs plan_bytes event_bytes s asked lent left r
    → (said r.answer).number ≡ 14 → StopsBefore (plan_of plan_bytes) (events_of event_bytes) s asked lent left r

-- ---- runs compose
-- m ticks and then n give what m + n give in one call, with a trace that has room for the records of both
abbrev pub RunsCompose : Type 0
RunsCompose =
    (plan_bytes event_bytes : List ℕ) (s : State) (first second one : Called) → one.asked ≡ first.asked + second.asked
    → CalledFrom plan_bytes event_bytes s first → AllRun first
    → CalledFrom plan_bytes event_bytes first.outcome.state second → AllRun second
    → CalledFrom plan_bytes event_bytes s one → 5 * (first.outcome.records + second.outcome.records) ≤ length one.lent
    → Composed first second one

-- and the other way round: a call that ran all its ticks can be made in two, with traces as long as its own
abbrev pub RunsSplit : Type 0
RunsSplit =
    (plan_bytes event_bytes : List ℕ) (s : State) (first second one : Called) → one.asked ≡ first.asked + second.asked
    → CalledFrom plan_bytes event_bytes s one → AllRun one
    → CalledFrom plan_bytes event_bytes s first → length one.lent ≤ length first.lent
    → CalledFrom plan_bytes event_bytes first.outcome.state second → length one.lent ≤ length second.lent
    → AllRun first × AllRun second

-- ---- a state that the kernel returned fits
-- a tick before the last instant keeps a state that fits
abbrev pub ATickKeepsAStateThatFits : Type 0
ATickKeepsAStateThatFits =
    (plan_bytes event_bytes : List ℕ) → (plan_verdict plan_bytes).number ≡ 0 → (events_verdict plan_bytes event_bytes).number ≡ 0
    → (s : State) → Fits (plan_of plan_bytes) (events_of event_bytes) s → s.tick < max_time
    → Fits (plan_of plan_bytes) (events_of event_bytes) (tick (plan_of plan_bytes) (events_of event_bytes) s).state

-- so the state that a service returned fits its plan and its events
abbrev pub AReturnedStateFits : Type 0
AReturnedStateFits =
    (plan_bytes event_bytes : List ℕ) (started : Started) (calls : List Called) → Service plan_bytes event_bytes started calls
    → Fits (plan_of plan_bytes) (events_of event_bytes) (last_state started.state calls)

-- and a further call with the same plan and events is never answered 12
abbrev pub AReturnedStateIsNeverRefused : Type 0
AReturnedStateIsNeverRefused =
    (plan_bytes event_bytes : List ℕ) (started : Started) (calls : List Called) → Service plan_bytes event_bytes started calls
    → (c : Called) → CalledFrom plan_bytes event_bytes (last_state started.state calls) c → (said c.outcome.answer).number ≢ 12

-- ---- writes of one execution stand together
-- in each tick n that calls in turn ran, between the state that comes back after n ticks and that after n + 1, a task writes
-- nothing or everything at once
abbrev pub EachTickWritesAtOnce : Type 0
EachTickWritesAtOnce =
    (plan_bytes event_bytes : List ℕ) (started : Started) (calls : List Called) → Service plan_bytes event_bytes started calls
    → (i : ℕ) → i < length (plan_of plan_bytes).tasks → (n : ℕ) → n < ticks_of calls
    → (started₁ : Started) (calls₁ : List Called) → Service plan_bytes event_bytes started₁ calls₁ → ticks_of calls₁ ≡ n
    → (started₂ : Started) (calls₂ : List Called) → Service plan_bytes event_bytes started₂ calls₂ → ticks_of calls₂ ≡ n + 1
    → AtOnce (plan_of plan_bytes) i (last_state started₁.state calls₁) (of_tick n (all_records calls)) (last_state started₂.state calls₂)

-- ---- a move is atomic
-- outputs of a task that only moves touch, both ends among them, add up to their initial values after any calls in turn, misses or not
abbrev pub MovesKeepTheSum : Type 0
MovesKeepTheSum =
    (plan_bytes event_bytes : List ℕ) (started : Started) (calls : List Called) → Service plan_bytes event_bytes started calls
    → (i : ℕ) → i < length (plan_of plan_bytes).tasks → (ps : List ℕ) → OnlyMoves (task_at (plan_of plan_bytes) i) ps
    → total_of (plan_of plan_bytes) i ps (last_state started.state calls).signals ≡ total_of (plan_of plan_bytes) i ps (plan_of plan_bytes).signals

-- two safes, east and west: the one debited and the other not yet credited is never what a reader of the signals sees
abbrev pub EastAndWestAddUp : Type 0
EastAndWestAddUp =
    (plan_bytes event_bytes : List ℕ) (started : Started) (calls : List Called) → Service plan_bytes event_bytes started calls
    → (i : ℕ) → i < length (plan_of plan_bytes).tasks → (east west : ℕ) → OnlyMoves (task_at (plan_of plan_bytes) i) (east ∷ west ∷ [])
    → value_at (last_state started.state calls).signals (output_of (plan_of plan_bytes) i east)
    + value_at (last_state started.state calls).signals (output_of (plan_of plan_bytes) i west)
    ≡ value_at (plan_of plan_bytes).signals (output_of (plan_of plan_bytes) i east)
    + value_at (plan_of plan_bytes).signals (output_of (plan_of plan_bytes) i west)

-- ---- "All ERRORs last."
-- a task that is in ERROR in a state that came back is in ERROR after any further calls in turn
abbrev pub EveryErrorLasts : Type 0
EveryErrorLasts =
    (plan_bytes event_bytes : List ℕ) (started : Started) (calls more : List Called) → Service plan_bytes event_bytes started calls
    → InTurn plan_bytes event_bytes (last_state started.state calls) more
    → (i : ℕ) → InError i (last_state started.state calls) → InError i (last_state (last_state started.state calls) more)
