-- Condition 3: the statements of specs/Theorems.antt hold.
use Prim.Native.Nat.{ℕ, ◌≤◌}
use mathlib.Core.Path.{◌≡◌, sym, ap, ◌∙◌, subst}
use mathlib.Core.List.{List}
use Rattle.plan.specs.File.{plan_of}
use Rattle.plan.specs.Rules.{plan_verdict}
use Rattle.plan.proofs.Tasks.{order-numbers, outputs_once}
use Rattle.events.specs.Events.{events_of}
use Rattle.trace.specs.Trace.{trace_after, own, before}
use Rattle.state.specs.State.{fresh}
use Rattle.state.specs.declared.State.{State}
use Rattle.tick.specs.Tick.{Ticked, tick}
use Rattle.kernel.specs.Call.{Runs}
use Rattle.kernel.specs.declared.Started.{Started}
use Rattle.zero.specs.Zero.{WithoutDeadline0, NoMiss, ticks, kernel_run, zero_run, DifferOnlyInExecutionAndPriority, Called, ticks_of, all_records, last_state, Service, SignalsAfter}
use Rattle.zero.specs.Theorems.{OneCallIsTheZeroTimeReading, AskedForFewerTicksItReadsThem, CallsInTurnAreTheZeroTimeReading, BeforeAMissItIsTheZeroTimeReading, ExecutionAndPriorityMoveNoWrite, BeforeAMissTheyMoveNoWrite}
use Rattle.zero.proofs.Plain.{Shows}
use Rattle.zero.proofs.Same.{zero_same}
use Rattle.zero.proofs.Calls.{call-state, call-trace, call-records, calls_state, calls_records, calls_traces, started_good, started_fresh}
use Rattle.zero.proofs.Asked.{asked_fewer}
use Rattle.zero.proofs.Accepted.{run_entries, run_signals, run_each, first_from_fresh}

-- ---- calls in turn from a fresh start are a run of the kernel
module _ (plan_bytes event_bytes : List ℕ) (started : Started) (calls : List Called) (service : Service plan_bytes event_bytes started calls) where
  abbrev step : State → Ticked
  step = tick (plan_of plan_bytes) (events_of event_bytes)

  -- the plan has number 0
  pub good : (plan_verdict plan_bytes).number ≡ 0
  good = started_good plan_bytes started service.starts service.accepted

  -- the calls start from the fresh state
  from_fresh : started.state ≡ fresh (plan_of plan_bytes)
  from_fresh = started_fresh plan_bytes started service.starts service.accepted

  -- whatever is missed, their records are those of as many ticks of the kernel
  pub shown : all_records calls ≡ (kernel_run plan_bytes event_bytes (ticks_of calls)).entries
  shown = calls_records plan_bytes event_bytes started.state calls service.in_turn ∙ ap (λ (s : State). (ticks step (ticks_of calls) s).entries) from_fresh

  -- and so is the state after the last of them
  pub reached : last_state started.state calls ≡ (kernel_run plan_bytes event_bytes (ticks_of calls)).state
  reached = calls_state plan_bytes event_bytes started.state calls service.in_turn ∙ ap (λ (s : State). (ticks step (ticks_of calls) s).state) from_fresh

-- so the state that comes back after k ticks is that of the kernel's run
pub reached_after : (plan_bytes event_bytes : List ℕ) (started : Started) (calls : List Called) → Service plan_bytes event_bytes started calls
    → (k : ℕ) → ticks_of calls ≡ k → last_state started.state calls ≡ (kernel_run plan_bytes event_bytes k).state
reached_after plan_bytes event_bytes started calls service k count =
    reached plan_bytes event_bytes started calls service ∙ ap (λ (n : ℕ). (kernel_run plan_bytes event_bytes n).state) count

-- and so are the signals
pub signals_after : (plan_bytes event_bytes : List ℕ) (k : ℕ) (signals : List ℕ) → (kernel_run plan_bytes event_bytes k).state.signals ≡ signals
    → SignalsAfter plan_bytes event_bytes k signals
signals_after plan_bytes event_bytes k signals e started calls service count =
    ap (λ (s : State). s.signals) (reached_after plan_bytes event_bytes started calls service k count) ∙ e

-- ---- the first sentence
-- one call
pub one-call : OneCallIsTheZeroTimeReading
one-call plan_bytes event_bytes started starts accepted deadlines asked lent left r runs no_miss =
    let good = started_good plan_bytes started starts accepted in
    let from = subst (λ s. Runs plan_bytes event_bytes s asked lent left r) (started_fresh plan_bytes started starts accepted) runs in
    let shown = call-records plan_bytes event_bytes (fresh (plan_of plan_bytes)) asked lent left r from in
    let missed = subst NoMiss shown no_miss in
    let same = run_entries plan_bytes good event_bytes deadlines r.ticks missed in
    record {
      records = shown ∙ same;
      own-records = λ i. ap (own i) (shown ∙ same);
      trace = call-trace plan_bytes event_bytes (fresh (plan_of plan_bytes)) asked lent left r from ∙ ap (λ es. trace_after es lent) same;
      state = call-state plan_bytes event_bytes (fresh (plan_of plan_bytes)) asked lent left r from;
      last =
          ap (λ (s : State). s.signals) (call-state plan_bytes event_bytes (fresh (plan_of plan_bytes)) asked lent left r from)
          ∙ run_signals plan_bytes good event_bytes deadlines r.ticks missed;
      signals = λ k l. signals_after plan_bytes event_bytes k _ (run_each plan_bytes good event_bytes deadlines r.ticks missed k l);
    }

-- asked for fewer ticks
pub after-each_tick : AskedForFewerTicksItReadsThem
after-each_tick plan_bytes event_bytes started starts accepted deadlines asked lent left r runs no_miss k l left' r' runs' =
    let good = started_good plan_bytes started starts accepted in
    let whole = subst (λ s. Runs plan_bytes event_bytes s asked lent left r) (started_fresh plan_bytes started starts accepted) runs in
    let missed = subst NoMiss (call-records plan_bytes event_bytes (fresh (plan_of plan_bytes)) asked lent left r whole) no_miss in
    let count = asked_fewer plan_bytes event_bytes started.state asked k lent left left' r r' runs runs' l in
    let from = subst (λ s. Runs plan_bytes event_bytes s k lent left' r') (started_fresh plan_bytes started starts accepted) runs' in (
      count,
      ap (λ (s : State). s.signals) (call-state plan_bytes event_bytes (fresh (plan_of plan_bytes)) k lent left' r' from)
          ∙ ap (λ (n : ℕ). (kernel_run plan_bytes event_bytes n).state.signals) count
          ∙ run_each plan_bytes good event_bytes deadlines r.ticks missed k l,
    )

-- any number of calls
pub many_calls : CallsInTurnAreTheZeroTimeReading
many_calls plan_bytes event_bytes started calls service deadlines no_miss =
    let fine = good plan_bytes event_bytes started calls service in
    let kernel = shown plan_bytes event_bytes started calls service in
    let missed = subst NoMiss kernel no_miss in
    let same = run_entries plan_bytes fine event_bytes deadlines (ticks_of calls) missed in
    record {
      records = kernel ∙ same;
      own-records = λ i. ap (own i) (kernel ∙ same);
      traces = calls_traces plan_bytes event_bytes started.state calls service.in_turn;
      state = reached plan_bytes event_bytes started calls service;
      last =
          ap (λ (s : State). s.signals) (reached plan_bytes event_bytes started calls service)
          ∙ run_signals plan_bytes fine event_bytes deadlines (ticks_of calls) missed;
      signals = λ k l. signals_after plan_bytes event_bytes k _ (run_each plan_bytes fine event_bytes deadlines (ticks_of calls) missed k l);
    }

-- before tick k, by which nothing was missed
module _ (plan_bytes event_bytes : List ℕ) (started : Started) (calls : List Called) (service : Service plan_bytes event_bytes started calls)
    (deadlines : WithoutDeadline0 (plan_of plan_bytes)) (k : ℕ) (l : k ≤ ticks_of calls) (no_miss : NoMiss (before k (all_records calls))) where
  -- its records are those of k ticks of the kernel
  kernel_records : before k (all_records calls) ≡ (kernel_run plan_bytes event_bytes k).entries
  kernel_records = ap (before k) (shown plan_bytes event_bytes started calls service) ∙ first_from_fresh plan_bytes event_bytes k (ticks_of calls) l

  -- which miss nothing
  missed : NoMiss (kernel_run plan_bytes event_bytes k).entries
  missed = subst NoMiss kernel_records no_miss

  -- so the kernel's signals are those of the zero-time reading
  pub read_signals : (kernel_run plan_bytes event_bytes k).state.signals ≡ (zero_run plan_bytes event_bytes k).state.signals
  read_signals = run_signals plan_bytes (good plan_bytes event_bytes started calls service) event_bytes deadlines k missed

  -- and so are the records
  read_records : before k (all_records calls) ≡ (zero_run plan_bytes event_bytes k).entries
  read_records = kernel_records ∙ run_entries plan_bytes (good plan_bytes event_bytes started calls service) event_bytes deadlines k missed

pub before-a_miss : BeforeAMissItIsTheZeroTimeReading
before-a_miss plan_bytes event_bytes started calls service deadlines k l no_miss =
    let same = read_records plan_bytes event_bytes started calls service deadlines k l no_miss in
    record {
      records = same;
      own-records = λ i. ap (own i) same;
      signals = signals_after plan_bytes event_bytes k _ (read_signals plan_bytes event_bytes started calls service deadlines k l no_miss);
    }

-- ---- the second sentence
-- the zero-time readings of the two plans show the same
zero_shows : (plan_bytes other_bytes event_bytes : List ℕ) → (plan_verdict plan_bytes).number ≡ 0 → (plan_verdict other_bytes).number ≡ 0
    → DifferOnlyInExecutionAndPriority (plan_of plan_bytes) (plan_of other_bytes) → (n : ℕ) → Shows (zero_run plan_bytes event_bytes n) (zero_run other_bytes event_bytes n)
zero_shows plan_bytes other_bytes event_bytes g h same n =
    zero_same (plan_of plan_bytes) (plan_of other_bytes) same (order-numbers plan_bytes g) (order-numbers other_bytes h)
    (outputs_once plan_bytes g) (outputs_once other_bytes h) (events_of event_bytes) n

-- all calls without a miss, and as many ticks: the same
pub two_plans : ExecutionAndPriorityMoveNoWrite
two_plans plan_bytes other_bytes event_bytes started other-started calls other-calls service other-service deadlines other-deadlines same count no_miss other-no-miss =
    let a = many_calls plan_bytes event_bytes started calls service deadlines no_miss in
    let b = many_calls other_bytes event_bytes other-started other-calls other-service other-deadlines other-no-miss in
    let z = zero_shows plan_bytes other_bytes event_bytes (good plan_bytes event_bytes started calls service) (good other_bytes event_bytes other-started other-calls other-service) same (ticks_of other-calls) in
    record {
      own-records = λ i.
          a.own-records i ∙ ap (λ (m : ℕ). own i (zero_run plan_bytes event_bytes m).entries) count ∙ z.own-records i ∙ sym (b.own-records i);
      signals =
          a.last ∙ ap (λ (m : ℕ). (zero_run plan_bytes event_bytes m).state.signals) count
          ∙ ap (λ (s : State). s.signals) z.state
          ∙ sym b.last;
    }

-- whatever is missed later: before any tick k by which neither has missed
pub two_plans_before : BeforeAMissTheyMoveNoWrite
two_plans_before plan_bytes other_bytes event_bytes started other-started calls other-calls service other-service deadlines other-deadlines same k l m no_miss other-no-miss =
    let z = zero_shows plan_bytes other_bytes event_bytes (good plan_bytes event_bytes started calls service) (good other_bytes event_bytes other-started other-calls other-service) same k in
    let a = read_records plan_bytes event_bytes started calls service deadlines k l no_miss in
    let b = read_records other_bytes event_bytes other-started other-calls other-service other-deadlines k m other-no-miss in
    let here = read_signals plan_bytes event_bytes started calls service deadlines k l no_miss in
    let there = read_signals other_bytes event_bytes other-started other-calls other-service other-deadlines k m other-no-miss in
    record {
      own-records = λ i. ap (own i) a ∙ z.own-records i ∙ sym (ap (own i) b);
      signals = λ s cs ran at.
          signals_after plan_bytes event_bytes k _
          (here ∙ ap (λ (x : State). x.signals) z.state ∙ sym there ∙ sym (ap (λ (x : State). x.signals) (reached_after other_bytes event_bytes s cs ran k at)));
    }
