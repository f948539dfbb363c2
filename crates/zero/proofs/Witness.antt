-- The theorems are not empty, and need what they ask: document 01's sample plan P1, P4 beside it, a supervisor under events, and two
-- plans for which the conclusion is false: P3, where task 0 misses, and the sample with deadline 0.
use Rattle.std.specs.Prelude.{Ok}
use Prim.Native.Nat.{ℕ, zero, suc, ◌<◌}
use mathlib.Core.Path.{◌≡◌, refl, sym, ap, ◌∙◌}
use mathlib.Core.Logic.{◌≢◌}
use mathlib.Core.Bool.{Bool, true, false, not}
use mathlib.Core.List.{List, [], ◌∷◌}
use native.Mathlib.Omega.{arith}
use lib.ListN.{length}
use lib.Dec.{eqb}
use Rattle.lists.specs.Lists.{all}
use Rattle.lists.proofs.Tests.{all-iff, not_iff, every_append}
use Rattle.answers.specs.Answers.{verdict}
use Rattle.plan.specs.File.{plan_of, task_at}
use Rattle.plan.specs.Rules.{plan_verdict}
use Rattle.trace.specs.Trace.{miss_kind, before}
use Rattle.trace.specs.declared.Entry.{Entry}
use Rattle.state.specs.State.{fresh}
use Rattle.state.specs.declared.State.{State}
use Rattle.kernel.specs.Call.{Starts}
use Rattle.zero.specs.Zero.{WithoutDeadline0, NoMiss, zero_run, TaskAlike, DifferOnlyInExecutionAndPriority, Called, records_of, InTurn, ticks_of, all_records, last_state, Service, CallReads, ServiceReads, ReadsBefore, ShowSame, ShowSameBefore}
use Rattle.zero.proofs.Theorems.{one-call, after-each_tick, many_calls, before-a_miss, two_plans, two_plans_before}
use Rattle.zero.proofs.Sample.{p0, p1, p3, p4, supervisor_with, released, started, ran, called, runs_of, computing_sample}

-- ---- calls with a trace of 100 words, for so many ticks each
-- one after the other from a state on
abbrev calls_from : List ℕ → List ℕ → State → List ℕ → List Called
calls_from bytes events s [] = []
calls_from bytes events s (n ∷ ns) = called (Ok tt) bytes events s n 100 ∷ calls_from bytes events (ran bytes events s n 100).state ns

-- and from the fresh state on
abbrev calls : List ℕ → List ℕ → List ℕ → List Called
calls bytes events ns = calls_from bytes events (fresh (plan_of bytes)) ns

-- all ticks of each of them run
abbrev AllRun : List ℕ → List ℕ → State → List ℕ → Type 0
AllRun bytes events s [] = Unit {0}
AllRun bytes events s (n ∷ ns) = ((ran bytes events s n 100).verdict ≡ verdict 0 0) × AllRun bytes events (ran bytes events s n 100).state ns

-- then they are what the entry gives
turns_of : (bytes events : List ℕ) (s : State) (ns : List ℕ) → AllRun bytes events s ns → InTurn bytes events s (calls_from bytes events s ns)
turns_of bytes events s [] h = tt
turns_of bytes events s (n ∷ ns) h = (runs_of (Ok tt) bytes events s n 100 (sym h.0), turns_of bytes events (ran bytes events s n 100).state ns h.1)

-- and the fresh start is what its entry gives
starts_of : (bytes : List ℕ) → plan_verdict bytes ≡ verdict 0 0 → Starts bytes (started bytes)
starts_of bytes e = record { answer = sym e; state = rw e }

-- ---- what is computed
-- tests of the premises: no deadline is 0
abbrev has_deadlines : List ℕ → Bool
has_deadlines bytes = all (λ k. not (eqb k.deadline 0)) (plan_of bytes).tasks

-- no record is a miss
abbrev is_fine : List Entry → Bool
is_fine entries = all (λ e. not (eqb e.kind miss_kind)) entries

-- what the first test says
with_deadlines : (bytes : List ℕ) → has_deadlines bytes ≡ true → WithoutDeadline0 (plan_of bytes)
with_deadlines bytes e = (all-iff (λ k. not (eqb k.deadline 0)) (λ k. k.deadline ≢ 0) (λ k. not_iff k.deadline 0) (plan_of bytes).tasks).0 e

-- and the second
fine : (entries : List Entry) → is_fine entries ≡ true → NoMiss entries
fine entries e = (all-iff (λ x. not (eqb x.kind miss_kind)) (λ x. x.kind ≢ miss_kind) (λ x. not_iff x.kind miss_kind) entries).0 e

-- what a plan with events comes to in these calls: the ticks that they run, whether it has no deadline 0, whether no miss, how many
-- records the kernel leaves and how many the zero-time reading has
record Expected : Type 0 where
  ticks : ℕ
  deadlines : Bool
  fine : Bool
  kernel : ℕ
  zero_time : ℕ

-- and that it does
record Computed (bytes events ns : List ℕ) (x : Expected) : Type 0 where
  accepted : plan_verdict bytes ≡ verdict 0 0
  runs : AllRun bytes events (fresh (plan_of bytes)) ns
  count : ticks_of (calls bytes events ns) ≡ x.ticks
  has-deadlines : has_deadlines bytes ≡ x.deadlines
  no_miss : is_fine (all_records (calls bytes events ns)) ≡ x.fine
  early : is_fine (before 8 (all_records (calls bytes events ns))) ≡ true
  records : length (all_records (calls bytes events ns)) ≡ x.kernel
  zero_records : length (zero_run bytes events x.ticks).entries ≡ x.zero_time

-- P1 in two calls, P4, P3 with its miss, the sample with deadline 0; the supervisor with its events, twice
computed : Computed p1 [] (5 ∷ 7 ∷ []) (record { ticks = 12; deadlines = true; fine = true; kernel = 7; zero_time = 7 })
    × Computed p4 [] (12 ∷ []) (record { ticks = 12; deadlines = true; fine = true; kernel = 7; zero_time = 7 })
    × Computed p3 [] (12 ∷ []) (record { ticks = 12; deadlines = true; fine = false; kernel = 5; zero_time = 7 })
    × Computed p0 [] (12 ∷ []) (record { ticks = 12; deadlines = false; fine = true; kernel = 7; zero_time = 4 })
    × Computed (supervisor_with 1) released (4 ∷ 3 ∷ []) (record { ticks = 7; deadlines = true; fine = true; kernel = 8; zero_time = 8 })
    × Computed (supervisor_with 3) released (7 ∷ []) (record { ticks = 7; deadlines = true; fine = true; kernel = 8; zero_time = 8 })
unfolding computing_sample before
computed = (
  record { accepted = refl; runs = (refl, (refl, tt)); count = refl; has-deadlines = refl; no_miss = refl; early = refl; records = refl; zero_records = refl },
  record { accepted = refl; runs = (refl, tt); count = refl; has-deadlines = refl; no_miss = refl; early = refl; records = refl; zero_records = refl },
  record { accepted = refl; runs = (refl, tt); count = refl; has-deadlines = refl; no_miss = refl; early = refl; records = refl; zero_records = refl },
  record { accepted = refl; runs = (refl, tt); count = refl; has-deadlines = refl; no_miss = refl; early = refl; records = refl; zero_records = refl },
  record { accepted = refl; runs = (refl, (refl, tt)); count = refl; has-deadlines = refl; no_miss = refl; early = refl; records = refl; zero_records = refl },
  record { accepted = refl; runs = (refl, tt); count = refl; has-deadlines = refl; no_miss = refl; early = refl; records = refl; zero_records = refl },
)

-- plans that differ only in execution times and priorities: P4 and P3 beside P1, the supervisor beside itself
p1-p4_alike : DifferOnlyInExecutionAndPriority (plan_of p1) (plan_of p4)
unfolding computing_sample
p1-p4_alike = record { signals = refl; count = refl; tasks = go }
  where
    go : (i : ℕ) → i < 2 → TaskAlike (task_at (plan_of p1) i) (task_at (plan_of p4) i)
    go zero l = record { period = refl; deadline = refl; offset = refl; kind = refl; initial = refl; inputs = refl; outputs = refl; transitions = refl; actions = refl }
    go (suc zero) l = record { period = refl; deadline = refl; offset = refl; kind = refl; initial = refl; inputs = refl; outputs = refl; transitions = refl; actions = refl }
    go (suc (suc i)) l = absurd (omega arith)

p1-p3_alike : DifferOnlyInExecutionAndPriority (plan_of p1) (plan_of p3)
unfolding computing_sample
p1-p3_alike = record { signals = refl; count = refl; tasks = go }
  where
    go : (i : ℕ) → i < 2 → TaskAlike (task_at (plan_of p1) i) (task_at (plan_of p3) i)
    go zero l = record { period = refl; deadline = refl; offset = refl; kind = refl; initial = refl; inputs = refl; outputs = refl; transitions = refl; actions = refl }
    go (suc zero) l = record { period = refl; deadline = refl; offset = refl; kind = refl; initial = refl; inputs = refl; outputs = refl; transitions = refl; actions = refl }
    go (suc (suc i)) l = absurd (omega arith)

supervisors_alike : DifferOnlyInExecutionAndPriority (plan_of (supervisor_with 1)) (plan_of (supervisor_with 3))
unfolding computing_sample
supervisors_alike = record { signals = refl; count = refl; tasks = go }
  where
    go : (i : ℕ) → i < 1 → TaskAlike (task_at (plan_of (supervisor_with 1)) i) (task_at (plan_of (supervisor_with 3)) i)
    go zero l = record { period = refl; deadline = refl; offset = refl; kind = refl; initial = refl; inputs = refl; outputs = refl; transitions = refl; actions = refl }
    go (suc i) l = absurd (omega arith)

-- ---- the premises can be met
service : {bytes events ns : List ℕ} {x : Expected} → Computed bytes events ns x → Service bytes events (started bytes) (calls bytes events ns)
service {bytes} {events} {ns} c =
    record { starts = starts_of bytes c.accepted; accepted = refl; in_turn = turns_of bytes events (fresh (plan_of bytes)) ns c.runs }

-- P4 in one call
pub p4-reads : let c = called (Ok tt) p4 [] (fresh (plan_of p4)) 12 100 in CallReads p4 [] c.lent c.left c.outcome
unfolding all_records
p4-reads =
    let c = computed.1 in
    let s = fresh (plan_of p4) in
    one-call p4 [] (started p4) (starts_of p4 c.accepted) refl (with_deadlines p4 c.has-deadlines) 12 _ _ _ (runs_of (Ok tt) p4 [] s 12 100 (sym c.runs.0))
    (every_append (λ e. e.kind ≢ miss_kind) (records_of (called (Ok tt) p4 [] s 12 100)) [] (fine _ c.no_miss)).0

-- 5 ticks of it are run where 12 are
five_run : (ran p4 [] (fresh (plan_of p4)) 5 100).verdict ≡ verdict 0 0
unfolding computing_sample
five_run = refl

-- and twelve where twelve are asked
twelve_run : (ran p4 [] (fresh (plan_of p4)) 12 100).ticks ≡ 12
unfolding computing_sample
twelve_run = refl

-- so asked for 5 ticks instead it reads them
pub p4-asked_for_5 : let c = called (Ok tt) p4 [] (fresh (plan_of p4)) 5 100 in (c.outcome.ticks ≡ 5) × (c.outcome.state.signals ≡ (zero_run p4 [] 5).state.signals)
unfolding all_records
p4-asked_for_5 =
    let c = computed.1 in
    let s = fresh (plan_of p4) in
    let all = twelve_run in
    after-each_tick p4 [] (started p4) (starts_of p4 c.accepted) refl (with_deadlines p4 c.has-deadlines) 12 _ _ _ (runs_of (Ok tt) p4 [] s 12 100 (sym c.runs.0))
    (every_append (λ e. e.kind ≢ miss_kind) (records_of (called (Ok tt) p4 [] s 12 100)) [] (fine _ c.no_miss)).0
    5 (omega arith) _ _ (runs_of (Ok tt) p4 [] s 5 100 (sym five_run))

-- P1 in two calls
pub p1-reads : ServiceReads p1 [] (started p1) (calls p1 [] (5 ∷ 7 ∷ []))
p1-reads = let c = computed.0 in many_calls p1 [] (started p1) (calls p1 [] (5 ∷ 7 ∷ [])) (service c) (with_deadlines p1 c.has-deadlines) (fine _ c.no_miss)

-- the supervisor under its events in two calls
pub supervisor-reads : ServiceReads (supervisor_with 1) released (started (supervisor_with 1)) (calls (supervisor_with 1) released (4 ∷ 3 ∷ []))
supervisor-reads =
    let c = computed.4 in
    many_calls (supervisor_with 1) released (started (supervisor_with 1)) (calls (supervisor_with 1) released (4 ∷ 3 ∷ [])) (service c)
    (with_deadlines (supervisor_with 1) c.has-deadlines) (fine _ c.no_miss)

-- P3 up to its miss at tick 8
pub p3-reads : ReadsBefore 8 p3 [] (calls p3 [] (12 ∷ []))
p3-reads =
    let c = computed.2 in
    let count = c.count in
    before-a_miss p3 [] (started p3) (calls p3 [] (12 ∷ [])) (service c) (with_deadlines p3 c.has-deadlines) 8 (omega arith) (fine _ c.early)

-- P1 and P4: "each task's lines as in P1"
pub p1-p4 : let cs = calls p1 [] (5 ∷ 7 ∷ []) in let ds = calls p4 [] (12 ∷ []) in
    ShowSame (last_state (started p1).state cs) (all_records cs) (last_state (started p4).state ds) (all_records ds)
p1-p4 =
    let c = computed.0 in
    let d = computed.1 in
    two_plans p1 p4 [] (started p1) (started p4) (calls p1 [] (5 ∷ 7 ∷ [])) (calls p4 [] (12 ∷ [])) (service c) (service d)
    (with_deadlines p1 c.has-deadlines) (with_deadlines p4 d.has-deadlines) p1-p4_alike
    (c.count ∙ sym d.count) (fine _ c.no_miss) (fine _ d.no_miss)

-- the supervisor with execution 1 and with 3, under its events
pub supervisors : let cs = calls (supervisor_with 1) released (4 ∷ 3 ∷ []) in let ds = calls (supervisor_with 3) released (7 ∷ []) in
    ShowSame (last_state (started (supervisor_with 1)).state cs) (all_records cs) (last_state (started (supervisor_with 3)).state ds) (all_records ds)
supervisors =
    let c = computed.4 in
    let d = computed.5 in
    two_plans (supervisor_with 1) (supervisor_with 3) released (started (supervisor_with 1)) (started (supervisor_with 3)) _ _ (service c) (service d)
    (with_deadlines (supervisor_with 1) c.has-deadlines) (with_deadlines (supervisor_with 3) d.has-deadlines) supervisors_alike
    (c.count ∙ sym d.count) (fine _ c.no_miss) (fine _ d.no_miss)

-- P1 and P3 before tick 8, at which P3 misses
pub p1-p3 : ShowSameBefore 8 p1 p3 [] (all_records (calls p1 [] (5 ∷ 7 ∷ []))) (all_records (calls p3 [] (12 ∷ [])))
p1-p3 =
    let c = computed.0 in
    let d = computed.2 in
    let count = c.count in
    let other = d.count in
    two_plans_before p1 p3 [] (started p1) (started p3) (calls p1 [] (5 ∷ 7 ∷ [])) (calls p3 [] (12 ∷ [])) (service c) (service d)
    (with_deadlines p1 c.has-deadlines) (with_deadlines p3 d.has-deadlines) p1-p3_alike 8 (omega arith) (omega arith) (fine _ c.early) (fine _ d.early)

-- ---- and none can be dropped
-- the records of the kernel and of the zero-time reading, counted
apart : (bytes events ns : List ℕ) (x : Expected) → Computed bytes events ns x → x.kernel ≢ x.zero_time
    → ServiceReads bytes events (started bytes) (calls bytes events ns) → ⊥
apart bytes events ns x c differ h =
    differ
    (sym c.records ∙ ap length h.records ∙ ap (λ (k : ℕ). length (zero_run bytes events k).entries) c.count ∙ c.zero_records)

-- P3 meets all premises but that nothing is missed, and is not read so
pub p3-apart : let cs = calls p3 [] (12 ∷ []) in
    Service p3 [] (started p3) cs × WithoutDeadline0 (plan_of p3) × (ServiceReads p3 [] (started p3) cs → ⊥)
p3-apart =
    let c = computed.2 in
    (service c, with_deadlines p3 c.has-deadlines, apart p3 [] (12 ∷ []) _ c (λ e. omega arith))

-- the sample with deadline 0 meets all premises but this, and is not read so
pub p0_apart : let cs = calls p0 [] (12 ∷ []) in
    Service p0 [] (started p0) cs × NoMiss (all_records cs) × (ServiceReads p0 [] (started p0) cs → ⊥)
p0_apart =
    let c = computed.3 in
    (service c, fine _ c.no_miss, apart p0 [] (12 ∷ []) _ c (λ e. omega arith))
