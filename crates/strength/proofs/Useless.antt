-- "Four useless kernels have to be shut out", invented counts and a silent kernel as well: what meets the contracts on P1, and
-- on P6 beside it, is none of them.
use Prim.Native.Nat.{ℕ, suc, ◌*◌, ◌≤◌}
use mathlib.Core.Path.{◌≡◌, refl, sym, ap, ◌∙◌}
use mathlib.Core.Logic.{◌≢◌}
use mathlib.Core.Bool.{true, false≢true}
use mathlib.Core.List.{List, ◌++◌}
use native.Mathlib.Omega.{arith}
use lib.ListN.{length, get_or, drop}
use Rattle.answers.specs.Answers.{Verdict, verdict}
use Rattle.plan.specs.Rules.{plan_verdict}
use Rattle.trace.specs.Trace.{lines, trace_after, records_in}
use Rattle.state.specs.declared.State.{State}
use Rattle.kernel.specs.Call.{start_state, CallResult, call}
use Rattle.kernel.specs.declared.Outcome.{Outcome}
use Rattle.zero.specs.Zero.{ticks, zero_run}
use Rattle.marked.specs.Marked.{Marked}
use Rattle.marked.proofs.Computing.{computing_marked}
use Rattle.strength.specs.Strength.{one, other, room_needed, RunsFresh, ran_on, speaks}
use Rattle.strength.specs.Useless.{ran, MetOn, TheContractCanBeMet, EveryFreshStartAcceptsP1, EveryRunAcceptsP1}
use Rattle.strength.specs.Useless.{RefusingEveryPlanIsShutOut, RefusingEveryRunIsShutOut, P1AndP6LeaveDifferentTraces, AFixedTraceIsShutOut}
use Rattle.strength.specs.Useless.{OneTickOfP1ChangesTheState, PassingTheStateIsShutOut, NineTicksOfP1LeaveOtherSignalsThanOne}
use Rattle.strength.specs.Useless.{CopyingAfterTheFirstTickIsShutOut, TheNinthTickOfP1WritesSignals, CopyingInLaterCallsIsShutOut}
use Rattle.strength.specs.Useless.{TwelveTicksOfP1HaveSevenRecords, InventedCountsAreShutOut, TheZeroTimeReadingOfP1HasSevenRecords}
use Rattle.strength.specs.Useless.{TheZeroTimeReadingOfP1Speaks, SilenceIsNotTheZeroTimeReading, ASilentKernelIsShutOutByCondition3, ASilentKernelIsShutOut}
use Rattle.strength.proofs.Room.{call-roomier}

-- ---- what is computed
-- the tick after 8
abbrev ninth : CallResult
ninth = call one.plan one.events (ran one 8).state 1 room_needed

-- the plan is accepted; one tick counts as one; signal 3, the first output of task 0, is unchanged after 1 tick and after 8, and
-- written by the ninth; 12 ticks are run, with 7 records, and the value of the fourth of these stands in word 19 of the trace;
-- the zero-time reading has as many records, the first of them in its first tick
record Computed : Type 0 where
  accepted : (plan_verdict one.plan).number ≡ 0
  first_tick : (start_state one.plan).tick ≡ 0
  next_tick : (ran one 1).state.tick ≡ 1
  later_tick : (ran one 8).state.tick ≡ 8
  after_one : get_or (ran one 1).state.signals 3 0 ≡ 20
  before-write : get_or (ran one 8).state.signals 3 0 ≡ 20
  by_ninth : get_or ninth.state.signals 3 0 ≡ 15
  after_write : get_or (ran one 9).state.signals 3 0 ≡ 15
  run_1 : (ran one 1).verdict ≡ verdict 0 0
  run_8 : (ran one 8).verdict ≡ verdict 0 0
  run_ninth : ninth.verdict ≡ verdict 0 0
  run_9 : (ran one 9).verdict ≡ verdict 0 0
  run_12 : (ran one 12).verdict ≡ verdict 0 0
  run_other : (ran other 12).verdict ≡ verdict 0 0
  ticks-run : (ran one 12).ticks ≡ 12
  count : length (ran one 12).entries ≡ 7
  written : (rest : List ℕ) → get_or (lines (ran one 12).entries ++ rest) 19 0 ≡ 15
  written_other : (rest : List ℕ) → get_or (lines (ran other 12).entries ++ rest) 19 0 ≡ 0
  zero_count : length (zero_run one.plan one.events 12).entries ≡ 7
  zero_first : (n : ℕ) → speaks (zero_run one.plan one.events (suc n)).entries ≡ true

computed : Computed
unfolding computing_marked ticks speaks
computed = record {
  accepted = refl;
  first_tick = refl;
  next_tick = refl;
  later_tick = refl;
  after_one = refl;
  before-write = refl;
  by_ninth = refl;
  after_write = refl;
  run_1 = refl;
  run_8 = refl;
  run_ninth = refl;
  run_9 = refl;
  run_12 = refl;
  run_other = refl;
  ticks-run = refl;
  count = refl;
  written = λ rest. refl;
  written_other = λ rest. refl;
  zero_count = refl;
  zero_first = λ n. refl;
}

-- all ticks of an example are run
abbrev AllRun : Marked → ℕ → Type 0
AllRun m n = (ran m n).verdict ≡ verdict 0 0

-- what meets the contract of the run there is that
met : (m : Marked) (n : ℕ) (lent : List ℕ) → room_needed ≤ length lent → AllRun m n → {A : Type 0} (of : CallResult → A)
    → of (call m.plan m.events (start_state m.plan) n (length lent)) ≡ of (ran m n)
met m n lent room e of =
    ap of (call-roomier m.plan m.events (start_state m.plan) n room_needed (length lent) room (ap (λ (v : Verdict). v.number) e))

-- and that meets it: an outcome that says the same
meets : (m : Marked) (n : ℕ) (lent : List ℕ) → room_needed ≤ length lent → AllRun m n → MetOn m n lent
meets m n lent room e = record {
  room = room;
  runs = record {
    answer = sym (met m n lent room e (λ x. x.verdict) ∙ e);
    ticks = sym (met m n lent room e (λ x. x.ticks));
    records = sym (met m n lent room e (λ x. length x.entries));
    state = sym (met m n lent room e (λ x. x.state));
    trace = sym (met m n lent room e (λ x. trace_after x.entries lent));
  };
}

-- in each run of which a theorem speaks
pub all-met : TheContractCanBeMet
all-met lent room = (
  meets one 1 lent room computed.run_1,
  meets one 8 lent room computed.run_8,
  meets one 9 lent room computed.run_9,
  meets one 12 lent room computed.run_12,
  meets other 12 lent room computed.run_other,
)

-- two numbers that are not the same tell two things apart
tells : {A : Type 0} (of : A → ℕ) (a b : A) (m n : ℕ) → of a ≡ m → of b ≡ n → m ≢ n → a ≢ b
tells of a b m n p q differ e = differ (sym p ∙ ap of e ∙ q)

-- ---- one that refuses every plan
-- P1's plan is accepted
pub start_accepts : EveryFreshStartAcceptsP1
start_accepts r h = ap (λ (v : Verdict). v.number) h.answer ∙ computed.accepted

-- and 12 ticks of it are run
pub run_accepts : EveryRunAcceptsP1
run_accepts lent left r h =
    ap (λ (v : Verdict). v.number) h.runs.answer ∙ met one 12 lent h.room computed.run_12 (λ x. x.verdict.number)
    ∙ ap (λ (v : Verdict). v.number) computed.run_12

-- it is shut out
pub refusing_shut_out : RefusingEveryPlanIsShutOut
refusing_shut_out k lent refuses h = refuses one.plan (start_accepts _ h.starts)

-- and so is one that refuses every run
pub refusing_runs_shut_out : RefusingEveryRunIsShutOut
refusing_runs_shut_out k lent refuses h = refuses _ _ _ _ _ (run_accepts lent _ _ h.runs)

-- ---- one that returns a fixed trace
-- word 19 of the trace that 12 ticks leave
word-left : (m : Marked) (lent left : List ℕ) (r : Outcome) (n : ℕ) → AllRun m 12
    → ((rest : List ℕ) → get_or (lines (ran m 12).entries ++ rest) 19 0 ≡ n) → RunsFresh m 12 lent left r → get_or left 19 0 ≡ n
word-left m lent left r n all-run e h =
    ap (λ (l : List ℕ). get_or l 19 0) (h.runs.trace ∙ met m 12 lent h.room all-run (λ x. trace_after x.entries lent))
    ∙ e (drop (5 * length (ran m 12).entries) lent)

-- there they differ
pub traces_differ : P1AndP6LeaveDifferentTraces
traces_differ lent left left' r r' h h' =
    tells (λ l. get_or l 19 0) left left' 15 0 (word-left one lent left r 15 computed.run_12 computed.written h)
    (word-left other lent left' r' 0 computed.run_other computed.written_other h') (λ e. omega arith)

-- it is shut out
pub fixed_trace_shut_out : AFixedTraceIsShutOut
fixed_trace_shut_out k lent fixed h h' = traces_differ lent _ _ _ _ h.runs h'.runs (fixed _ _ _ _ _ _ _ _)

-- ---- one that passes the state through
-- the next tick's number is another
pub state_differs : OneTickOfP1ChangesTheState
state_differs lent left r h =
    tells (λ (s : State). s.tick) r.state (start_state one.plan) 1 0
    (ap (λ (s : State). s.tick) h.runs.state ∙ met one 1 lent h.room computed.run_1 (λ x. x.state.tick) ∙ computed.next_tick)
    computed.first_tick (λ e. omega arith)

-- it is shut out
pub passing_shut_out : PassingTheStateIsShutOut
passing_shut_out k lent passes h = state_differs lent _ _ h.runs (passes _ _ _ _ _)

-- ---- one that runs the first tick and copies afterwards
-- signal 3 after so many ticks
signal_after : (n : ℕ) (lent left : List ℕ) (r : Outcome) (v : ℕ) → AllRun one n → get_or (ran one n).state.signals 3 0 ≡ v
    → RunsFresh one n lent left r → get_or r.state.signals 3 0 ≡ v
signal_after n lent left r v all-run e h =
    ap (λ (s : State). get_or s.signals 3 0) h.runs.state ∙ met one n lent h.room all-run (λ x. get_or x.state.signals 3 0) ∙ e

-- it differs
pub signals_differ : NineTicksOfP1LeaveOtherSignalsThanOne
signals_differ lent left lent' left' r r' h h' =
    tells (λ l. get_or l 3 0) r.state.signals r'.state.signals 15 20
    (signal_after 9 lent left r 15 computed.run_9 computed.after_write h)
    (signal_after 1 lent' left' r' 20 computed.run_1 computed.after_one h') (λ e. omega arith)

-- it is shut out
pub copying_shut_out : CopyingAfterTheFirstTickIsShutOut
copying_shut_out k lent copies h h' = signals_differ lent _ lent _ _ _ h.runs h'.runs (copies _ _ _ 8 _)

-- the same call by call
pub ninth_writes : TheNinthTickOfP1WritesSignals
ninth_writes lent left lent' left' r r' h room h' =
    tells (λ l. get_or l 3 0) r'.state.signals r.state.signals 15 20
    (ap (λ (s : State). get_or s.signals 3 0) h'.state
    ∙ ap (λ (s : State). get_or (call one.plan one.events s 1 (length lent')).state.signals 3 0)
    (h.runs.state ∙ met one 8 lent h.room computed.run_8 (λ x. x.state))
    ∙ ap (λ (x : CallResult). get_or x.state.signals 3 0)
    (call-roomier one.plan one.events (ran one 8).state 1 room_needed (length lent') room (ap (λ (v : Verdict). v.number) computed.run_ninth))
    ∙ computed.by_ninth)
    (signal_after 8 lent left r 20 computed.run_8 computed.before-write h) (λ e. omega arith)

-- the state that 8 ticks return has a tick behind it
past_first : (lent left : List ℕ) (r : Outcome) → RunsFresh one 8 lent left r → r.state.tick ≢ 0
past_first lent left r h e =
    let eight = ap (λ (s : State). s.tick) h.runs.state ∙ met one 8 lent h.room computed.run_8 (λ x. x.state.tick) ∙ computed.later_tick in
    tells (λ n. n) r.state.tick 0 8 0 eight refl (λ z. omega arith) e

-- so one whose calls after the first tick leave the signals is shut out
pub copying_calls_shut_out : CopyingInLaterCallsIsShutOut
copying_calls_shut_out k lent copies h h' =
    ninth_writes lent _ lent _ _ _ h.runs h.runs.room h' (copies _ _ _ _ _ (past_first lent _ _ h.runs))

-- ---- invented counts of ticks or records
-- the counts of the run
pub counts_told : TwelveTicksOfP1HaveSevenRecords
counts_told lent left r h = record {
  ticks = h.runs.ticks ∙ met one 12 lent h.room computed.run_12 (λ x. x.ticks) ∙ computed.ticks-run;
  records = h.runs.records ∙ met one 12 lent h.room computed.run_12 (λ x. length x.entries) ∙ computed.count;
}

-- other counts are shut out
pub invented_shut_out : InventedCountsAreShutOut
invented_shut_out t c lent left r says h =
    let told = counts_told lent left r h in
    (sym says.ticks ∙ told.ticks, sym says.records ∙ told.records)

-- ---- a silent kernel, against condition 3
-- counted
pub zero_time_counts : TheZeroTimeReadingOfP1HasSevenRecords
zero_time_counts = computed.zero_count

-- its first tick has records
pub zero_time_speaks : TheZeroTimeReadingOfP1Speaks
zero_time_speaks n = computed.zero_first n

-- so it is not silence
pub silent_not_read : SilenceIsNotTheZeroTimeReading
unfolding records_in speaks
silent_not_read n lent left r run none h =
    false≢true
    (ap (λ (c : ℕ). speaks (records_in left c)) (sym none) ∙ ap speaks h.records
    ∙ ap (λ (t : ℕ). speaks (zero_run one.plan one.events t).entries) run
    ∙ zero_time_speaks n)

-- it is shut out by condition 3 as soon as it runs a tick
pub silent_shut_out_by_3 : ASilentKernelIsShutOutByCondition3
silent_shut_out_by_3 k n lent silent run h = silent_not_read n lent _ _ run (silent _ _ _ _ _) h

-- and by the contract of the run
pub silent_shut_out : ASilentKernelIsShutOut
silent_shut_out k lent silent h =
    tells (λ n. n) (ran_on k one 12 lent).records 0 7 0 (counts_told lent _ _ h.runs).records refl (λ e. omega arith) (silent _ _ _ _ _)
