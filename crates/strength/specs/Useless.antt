-- Document 01, 'Strength of the contracts': "Four useless kernels have to be shut out", "Invented counts of ticks or records are
-- shut out", "a silent kernel can't satisfy it". What meets the contracts on P1, and on P6 beside it, is none of them.
use Rattle.std.specs.Prelude.{Ok, ℕ, suc, ◌≤◌, ◌≡◌, ◌≢◌, true, List, length}
use Rattle.answers.specs.Answers.{said}
use Rattle.trace.specs.Trace.{trace_after}
use Rattle.kernel.specs.Call.{start_state, Starts, CallResult, call, Runs}
use Rattle.kernel.specs.declared.Started.{Started}
use Rattle.kernel.specs.declared.Outcome.{Outcome}
use Rattle.zero.specs.Zero.{zero_run, CallReads}
use Rattle.marked.specs.Marked.{Marked}
use Rattle.strength.specs.Strength.{one, other, room_needed, RunsFresh, Counts, Kernel, ran_on, left_on, MeetsOn, RefusesEveryPlan, RefusesEveryRun, FixedTrace, PassesTheState, CopiesAfterTheFirst, CopiesLater, speaks, Silent}

-- ---- the contracts can be met, so that nothing below speaks of nothing
-- what so many ticks of an example come to, from the fresh state on
abbrev pub ran : Marked → ℕ → CallResult
ran m n = call m.plan m.events (start_state m.plan) n room_needed

-- an outcome that says what a run comes to, with number 0
abbrev pub accepting : CallResult → Outcome
accepting x = record { answer = Ok tt; ticks = x.ticks; records = length x.entries; state = x.state }

-- with it, and the run's records in the trace, the contract of the run is met
abbrev pub MetOn : Marked → ℕ → List ℕ → Type 0
MetOn m n lent = RunsFresh m n lent (trace_after (ran m n).entries lent) (accepting (ran m n))

-- in every run that the theorems below speak of
abbrev pub TheContractCanBeMet : Type 0
TheContractCanBeMet =
    (lent : List ℕ) → room_needed ≤ length lent → MetOn one 1 lent × MetOn one 8 lent × MetOn one 9 lent × MetOn one 12 lent × MetOn other 12 lent

-- ---- "one refusing every plan"
-- whatever meets the contract of the fresh start has number 0 for P1's plan
abbrev pub EveryFreshStartAcceptsP1 : Type 0
EveryFreshStartAcceptsP1 = (r : Started) → Starts one.plan r → (said r.answer).number ≡ 0

-- whatever meets the contract of the run has number 0 for 12 ticks of it
abbrev pub EveryRunAcceptsP1 : Type 0
EveryRunAcceptsP1 = (lent left : List ℕ) (r : Outcome) → RunsFresh one 12 lent left r → (said r.answer).number ≡ 0

-- so one that refuses every plan does not meet the contracts
abbrev pub RefusingEveryPlanIsShutOut : Type 0
RefusingEveryPlanIsShutOut = (k : Kernel) (lent : List ℕ) → RefusesEveryPlan k → MeetsOn k one 12 lent → ⊥

-- nor does one that refuses every run
abbrev pub RefusingEveryRunIsShutOut : Type 0
RefusingEveryRunIsShutOut = (k : Kernel) (lent : List ℕ) → RefusesEveryRun k → MeetsOn k one 12 lent → ⊥

-- ---- "one returning a fixed trace"
-- the traces that P1 and P6 leave in the same lent trace differ
abbrev pub P1AndP6LeaveDifferentTraces : Type 0
P1AndP6LeaveDifferentTraces =
    (lent left left' : List ℕ) (r r' : Outcome) → RunsFresh one 12 lent left r → RunsFresh other 12 lent left' r' → left ≢ left'

-- so one that leaves a fixed trace does not meet the contracts
abbrev pub AFixedTraceIsShutOut : Type 0
AFixedTraceIsShutOut = (k : Kernel) (lent : List ℕ) → FixedTrace k → MeetsOn k one 12 lent → MeetsOn k other 12 lent → ⊥

-- ---- "one that passes the state through"
-- one tick of P1 returns another state
abbrev pub OneTickOfP1ChangesTheState : Type 0
OneTickOfP1ChangesTheState = (lent left : List ℕ) (r : Outcome) → RunsFresh one 1 lent left r → r.state ≢ start_state one.plan

-- so one that passes the state through does not meet the contracts
abbrev pub PassingTheStateIsShutOut : Type 0
PassingTheStateIsShutOut = (k : Kernel) (lent : List ℕ) → PassesTheState k → MeetsOn k one 1 lent → ⊥

-- ---- "one that runs the first tick and copies afterwards"
-- 9 ticks of P1 return other signals than 1 tick, whatever traces are lent: the write at 8 is in them
abbrev pub NineTicksOfP1LeaveOtherSignalsThanOne : Type 0
NineTicksOfP1LeaveOtherSignalsThanOne =
    (lent left lent' left' : List ℕ) (r r' : Outcome) → RunsFresh one 9 lent left r → RunsFresh one 1 lent' left' r'
    → r.state.signals ≢ r'.state.signals

-- so one whose signals after more ticks are those after one does not meet the contracts
abbrev pub CopyingAfterTheFirstTickIsShutOut : Type 0
CopyingAfterTheFirstTickIsShutOut =
    (k : Kernel) (lent : List ℕ) → CopiesAfterTheFirst k → MeetsOn k one 9 lent → MeetsOn k one 1 lent → ⊥

-- the same call by call: a tick from the state that 8 ticks returned writes signals
abbrev pub TheNinthTickOfP1WritesSignals : Type 0
TheNinthTickOfP1WritesSignals =
    (lent left lent' left' : List ℕ) (r r' : Outcome) → RunsFresh one 8 lent left r → room_needed ≤ length lent'
    → Runs one.plan one.events r.state 1 lent' left' r' → r'.state.signals ≢ r.state.signals

-- a kernel's call of one tick from the state that its 8 ticks of P1 returned meets the contract of the run
abbrev pub MeetsNinth : Kernel → List ℕ → Type 0
MeetsNinth k lent =
    let s = (ran_on k one 8 lent).state in
    Runs one.plan one.events s 1 lent (k.left one.plan one.events s 1 lent) (k.run one.plan one.events s 1 lent)

-- so one whose calls after the first tick leave the signals does not meet the contracts
abbrev pub CopyingInLaterCallsIsShutOut : Type 0
CopyingInLaterCallsIsShutOut = (k : Kernel) (lent : List ℕ) → CopiesLater k → MeetsOn k one 8 lent → MeetsNinth k lent → ⊥

-- ---- "Invented counts of ticks or records"
-- whatever meets the contract of the run says 12 ticks and 7 records for 12 ticks of P1
abbrev pub TwelveTicksOfP1HaveSevenRecords : Type 0
TwelveTicksOfP1HaveSevenRecords = (lent left : List ℕ) (r : Outcome) → RunsFresh one 12 lent left r → Counts 12 7 r

-- and no other counts
abbrev pub InventedCountsAreShutOut : Type 0
InventedCountsAreShutOut = (t c : ℕ) (lent left : List ℕ) (r : Outcome) → Counts t c r → RunsFresh one 12 lent left r → (t ≡ 12) × (c ≡ 7)

-- ---- "Demand 3 is stated against the zero-time reading, so that a silent kernel can't satisfy it."
-- the zero-time reading of P1 over 12 ticks has 7 records
abbrev pub TheZeroTimeReadingOfP1HasSevenRecords : Type 0
TheZeroTimeReadingOfP1HasSevenRecords = length (zero_run one.plan one.events 12).entries ≡ 7

-- and over any ticks but none it has some
abbrev pub TheZeroTimeReadingOfP1Speaks : Type 0
TheZeroTimeReadingOfP1Speaks = (n : ℕ) → speaks (zero_run one.plan one.events (suc n)).entries ≡ true

-- so what runs ticks of P1 and leaves no record is not read as it
abbrev pub SilenceIsNotTheZeroTimeReading : Type 0
SilenceIsNotTheZeroTimeReading =
    (n : ℕ) (lent left : List ℕ) (r : Outcome) → r.ticks ≡ suc n → r.records ≡ 0 → CallReads one.plan one.events lent left r → ⊥

-- a silent kernel is shut out by condition 3 as soon as it runs a tick
abbrev pub ASilentKernelIsShutOutByCondition3 : Type 0
ASilentKernelIsShutOutByCondition3 =
    (k : Kernel) (n : ℕ) (lent : List ℕ) → Silent k → (ran_on k one 12 lent).ticks ≡ suc n
    → CallReads one.plan one.events lent (left_on k one 12 lent) (ran_on k one 12 lent) → ⊥

-- and by the contract of the run
abbrev pub ASilentKernelIsShutOut : Type 0
ASilentKernelIsShutOut = (k : Kernel) (lent : List ℕ) → Silent k → MeetsOn k one 12 lent → ⊥
