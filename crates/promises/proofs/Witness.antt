-- The promises are not empty, and need what they ask: document 01's sample plan P1, and P3, where task 0 misses; beside them two
-- plans and two event lists for which a conclusion is false.
use Rattle.std.specs.Prelude.{Ok, Err}
use Prim.Native.Nat.{ℕ, ◌+◌, ◌<◌}
use mathlib.Core.Path.{◌≡◌, refl, ap, ◌∙◌, sym, subst}
use mathlib.Core.Logic.{◌≢◌, inl, inr}
use mathlib.Core.Bool.{true}
use mathlib.Core.List.{List, [], ◌∷◌}
use native.Mathlib.Omega.{arith}
use lib.ListN.{length, get_or}
use Rattle.limits.specs.Limits.{max_time}
use Rattle.answers.specs.Answers.{Verdict, verdict, said}
use Rattle.answers.specs.declared.Refusal.TheVariants.{StateUnfit, TraceFull}
use Rattle.plan.specs.File.{plan_of, task_at}
use Rattle.plan.specs.Rules.{plan_verdict}
use Rattle.events.specs.Events.{events_of, events_verdict}
use Rattle.trace.specs.Trace.{write_entry, of_tick}
use Rattle.state.specs.State.{value_at, state_at, fresh, zero_state}
use Rattle.state.specs.Fits.{fits}
use Rattle.state.specs.Fitting.{Fits}
use Rattle.state.specs.declared.State.{State}
use Rattle.state.specs.declared.Status.{Status}
use Rattle.state.specs.declared.Status.TheVariants.{READY, ACTIVE, FINISHED, ERROR}
use Rattle.state.proofs.Fitting.{fits-exactly}
use Rattle.tick.specs.Tick.{tick}
use Rattle.tick.proofs.View.{next_tick}
use Rattle.kernel.specs.Call.{Starts}
use Rattle.kernel.specs.declared.Started.{Started}
use Rattle.zero.specs.Zero.{kernel_run, Called, InTurn, ticks_of, all_records, last_state, Service}
use Rattle.zero.proofs.Sample.{sample_with, p1, p3, sets_at0, started, ran, called, runs_of, computing_sample}
use Rattle.promises.specs.Promises.{Untouched, StopsBefore, CalledFrom, AllRun, Composed, NoWrite, held_for, AtOnce, nothing, everything, sum_of, total_of, OnlyMoves, InError}
use Rattle.promises.proofs.Numbers.{refusal_leaves, refused_start, full_stops}
use Rattle.promises.proofs.Compose.{runs-compose}
use Rattle.promises.proofs.Honest.{returned_fits, never_unfit, runs-split}
use Rattle.promises.proofs.Conserved.{conserved, east_and_west}
use Rattle.promises.proofs.Atomic.{run_at_once, service_at_once}
use Rattle.promises.proofs.Errors.{errors_last}

-- ---- plans beside P1 and P3
-- an add in place of the move
abbrev adds : List ℕ
adds = sample_with 2 8 3 4 3 0 1

-- signal 3 twice among the outputs, which 8 refuses
abbrev twice : List ℕ
twice = sample_with 2 8 3 3 4 1 1

-- ---- what they come to after n ticks from the fresh state
-- the state
abbrev reached : List ℕ → List ℕ → ℕ → State
reached bytes events n = (kernel_run bytes events n).state

-- where task 0 stands
abbrev task0 : List ℕ → ℕ → Status
task0 bytes n = (state_at (reached bytes [] n).tasks 0).status

-- both safes of task 0 together
abbrev both : List ℕ → ℕ → ℕ
both bytes n = total_of (plan_of bytes) 0 (0 ∷ 1 ∷ []) (reached bytes [] n).signals

-- the first safe alone
abbrev alone : List ℕ → ℕ → ℕ
alone bytes n = total_of (plan_of bytes) 0 (0 ∷ []) (reached bytes [] n).signals

-- ---- calls
-- 5 ticks, with room for seven records
abbrev first : Called
first = called (Ok tt) p1 [] (fresh (plan_of p1)) 5 35

-- then 7
abbrev second : Called
second = called (Ok tt) p1 [] first.outcome.state 7 35

-- 12 at once
abbrev one : Called
one = called (Ok tt) p1 [] (fresh (plan_of p1)) 12 35

-- 12 at once with "a trace one word short"
abbrev short : Called
short = called (Err TraceFull) p1 [] (fresh (plan_of p1)) 12 34

-- 5 ticks, one word short of their two records
abbrev full : Called
full = called (Err TraceFull) p1 [] (fresh (plan_of p1)) 5 9

-- then 7
abbrev later : Called
later = called (Ok tt) p1 [] full.outcome.state 7 35

-- 7 after the 5, one word short of their five records
abbrev narrow : Called
narrow = called (Err TraceFull) p1 [] first.outcome.state 7 24

-- 8 at once, and 9
abbrev eight : Called
eight = called (Ok tt) p1 [] (fresh (plan_of p1)) 8 35

abbrev nine : Called
nine = called (Ok tt) p1 [] (fresh (plan_of p1)) 9 35

-- 9 of P3, after which task 0 is in ERROR
abbrev missed : Called
missed = called (Ok tt) p3 [] (fresh (plan_of p3)) 9 35

-- 7 after the 5, with other events
abbrev other : Called
other = called (Err StateUnfit) p1 (sets_at0 2) first.outcome.state 7 35

-- ---- one tick
-- the signal of task 0's first output after it
abbrev shown : List ℕ → List ℕ → State → ℕ
shown bytes events s = value_at (tick (plan_of bytes) (events_of events) s).state.signals (get_or (task_at (plan_of bytes) 0).outputs 0 0)

-- and before
abbrev seen : List ℕ → State → ℕ
seen bytes s = value_at s.signals (get_or (task_at (plan_of bytes) 0).outputs 0 0)

-- and the value that it holds for it
abbrev holds : List ℕ → List ℕ → State → ℕ
holds bytes events s = get_or (held_for (plan_of bytes) 0 s (tick (plan_of bytes) (events_of events) s).state) 0 0

-- a state at the last instant
abbrev late : State
late = record { tick = max_time; place = 0; signals = (fresh (plan_of p1)).signals; tasks = (fresh (plan_of p1)).tasks }

-- ---- what is computed
-- a plan is accepted, without events too; both safes at first, and what the first has after 12 ticks
record Computed (bytes : List ℕ) (left : ℕ) : Type 0 where
  plan : plan_verdict bytes ≡ verdict 0 0
  events : events_verdict bytes [] ≡ verdict 0 0
  initial : total_of (plan_of bytes) 0 (0 ∷ 1 ∷ []) (plan_of bytes).signals ≡ 20
  first : alone bytes 12 ≡ left

-- the answers of the calls, and some of their counts
record Answered : Type 0 where
  in_5 : (ran p1 [] (fresh (plan_of p1)) 5 35).verdict ≡ verdict 0 0
  in_7 : (ran p1 [] first.outcome.state 7 35).verdict ≡ verdict 0 0
  in_12 : (ran p1 [] (fresh (plan_of p1)) 12 35).verdict ≡ verdict 0 0
  in_34_words : (ran p1 [] (fresh (plan_of p1)) 12 34).verdict ≡ verdict 14 0
  in_9_words : (ran p1 [] (fresh (plan_of p1)) 5 9).verdict ≡ verdict 14 0
  in_7_later : (ran p1 [] full.outcome.state 7 35).verdict ≡ verdict 0 0
  in_24_words : (ran p1 [] first.outcome.state 7 24).verdict ≡ verdict 14 0
  with_others : (ran p1 (sets_at0 2) first.outcome.state 7 35).verdict ≡ verdict 12 0
  accepted : events_verdict p1 (sets_at0 2) ≡ verdict 0 0
  count_5 : first.outcome.records ≡ 2
  count_7 : second.outcome.records ≡ 5
  ticks-full : full.outcome.ticks ≡ 0
  ticks-later : later.outcome.ticks ≡ 7
  ticks-12 : one.outcome.ticks ≡ 12
  in_8 : (ran p1 [] (fresh (plan_of p1)) 8 35).verdict ≡ verdict 0 0
  in_9 : (ran p1 [] (fresh (plan_of p1)) 9 35).verdict ≡ verdict 0 0
  p3-in_9 : (ran p3 [] (fresh (plan_of p3)) 9 35).verdict ≡ verdict 0 0
  ticks-8 : ticks_of (eight ∷ []) ≡ 8
  ticks-9 : ticks_of (nine ∷ []) ≡ 9
  all-12 : ticks_of (one ∷ []) ≡ 12
  ticks-short : short.outcome.ticks ≡ 10
  p3-error : (state_at missed.outcome.state.tasks 0).status ≡ ERROR
  late_fits : fits (plan_of p1) (events_of []) late ≡ true

-- tick 8 of P1, tick 0 with the event that 11 refuses, tick 8 of the plan that 8 refuses; what holds after some ticks
record Stepped : Type 0 where
  records : (tick (plan_of p1) (events_of []) (reached p1 [] 8)).entries ≡ write_entry 8 0 3 15 ∷ write_entry 8 0 4 5 ∷ []
  before : (value_at (reached p1 [] 8).signals 3 ≡ 20) × (value_at (reached p1 [] 8).signals 4 ≡ 0)
  behind : (value_at (reached p1 [] 9).signals 3 ≡ 15) × (value_at (reached p1 [] 9).signals 4 ≡ 5)
  finished : task0 p1 5 ≡ FINISHED
  ready : task0 p1 9 ≡ READY
  active : task0 p3 8 ≡ ACTIVE
  set_shown : shown p1 (sets_at0 3) (fresh (plan_of p1)) ≡ 7
  set_seen : seen p1 (fresh (plan_of p1)) ≡ 20
  set_holds : holds p1 (sets_at0 3) (fresh (plan_of p1)) ≡ 20
  twice_shown : shown twice [] (reached twice [] 8) ≡ 25
  twice_seen : seen twice (reached twice [] 8) ≡ 20
  twice_holds : holds twice [] (reached twice [] 8) ≡ 15
  outputs : (length (task_at (plan_of p1) 0).outputs ≡ 2) × (length (task_at (plan_of twice) 0).outputs ≡ 2)
  refused_11 : events_verdict p1 (sets_at0 3) ≡ verdict 11 0
  refused_8 : plan_verdict twice ≡ verdict 8 0
  accepted : plan_verdict adds ≡ verdict 0 0
  added : both adds 12 ≡ 25
  set : total_of (plan_of p1) 0 (0 ∷ 1 ∷ []) (reached p1 (sets_at0 3) 1).signals ≡ 7

-- all of it
computed : Computed p1 15 × Computed p3 20 × Answered × Stepped
unfolding computing_sample sum_of
computed = (
  record { plan = refl; events = refl; initial = refl; first = refl },
  record { plan = refl; events = refl; initial = refl; first = refl },
  record {
    in_5 = refl;
    in_7 = refl;
    in_12 = refl;
    in_34_words = refl;
    in_9_words = refl;
    in_7_later = refl;
    in_24_words = refl;
    with_others = refl;
    accepted = refl;
    count_5 = refl;
    count_7 = refl;
    ticks-full = refl;
    ticks-later = refl;
    ticks-12 = refl;
    in_8 = refl;
    in_9 = refl;
    p3-in_9 = refl;
    ticks-8 = refl;
    ticks-9 = refl;
    all-12 = refl;
    ticks-short = refl;
    p3-error = refl;
    late_fits = refl;
  },
  record {
    records = refl;
    before = (refl, refl);
    behind = (refl, refl);
    finished = refl;
    ready = refl;
    active = refl;
    set_shown = refl;
    set_seen = refl;
    set_holds = refl;
    twice_shown = refl;
    twice_seen = refl;
    twice_holds = refl;
    outputs = (refl, refl);
    refused_11 = refl;
    refused_8 = refl;
    accepted = refl;
    added = refl;
    set = refl;
  },
)

-- of the calls
answered : Answered
answered = computed.2

-- and of the ticks
stepped : Stepped
stepped = computed.3

-- the number of P1 is 0
good : (plan_verdict p1).number ≡ 0
good = ap (λ (v : Verdict). v.number) computed.0.plan

-- both safes of task 0, which one move touches
only_moves : OnlyMoves (task_at (plan_of p1) 0) (0 ∷ 1 ∷ []) × OnlyMoves (task_at (plan_of p3) 0) (0 ∷ 1 ∷ [])
unfolding computing_sample
only_moves = (
  record { outputs = (omega arith, (omega arith, tt)); once = (((λ e. omega arith), tt), (tt, tt)); reports = λ e. absurd (omega (arith, e)); actions = (inl (refl, inl refl, inr (inl refl)), tt) },
  record { outputs = (omega arith, (omega arith, tt)); once = (((λ e. omega arith), tt), (tt, tt)); reports = λ e. absurd (omega (arith, e)); actions = (inl (refl, inl refl, inr (inl refl)), tt) },
)

-- the first three calls are what the entry gives
first_runs : CalledFrom p1 [] (fresh (plan_of p1)) first
first_runs = runs_of (Ok tt) p1 [] (fresh (plan_of p1)) 5 35 (sym answered.in_5)

-- then 7
second_runs : CalledFrom p1 [] first.outcome.state second
second_runs = runs_of (Ok tt) p1 [] first.outcome.state 7 35 (sym answered.in_7)

-- 12 at once
one-runs : CalledFrom p1 [] (fresh (plan_of p1)) one
one-runs = runs_of (Ok tt) p1 [] (fresh (plan_of p1)) 12 35 (sym answered.in_12)

-- the fresh start is what its entry gives
starts_p1 : Starts p1 (started p1)
starts_p1 = record { answer = sym computed.0.plan; state = rw computed.0.plan }

-- one call each from it
service_of : (c : Called) → CalledFrom p1 [] (fresh (plan_of p1)) c → Service p1 [] (started p1) (c ∷ [])
service_of c runs = record { starts = starts_p1; accepted = refl; in_turn = (runs, tt) }

-- and two in turn
service : Service p1 [] (started p1) (first ∷ second ∷ [])
service = record { starts = starts_p1; accepted = refl; in_turn = (first_runs, (second_runs, tt)) }

-- ---- condition 1
-- 12 leaves the state and the trace as they were
pub other-untouched : Untouched first.outcome.state other.lent other.left other.outcome
other-untouched =
    refusal_leaves p1 (sets_at0 2) first.outcome.state 7 other.lent other.left other.outcome
    (runs_of (Err StateUnfit) p1 (sets_at0 2) first.outcome.state 7 35 (sym answered.with_others)) (omega arith, omega arith)

-- not so 0: 12 ticks were run
pub run_not_untouched : Untouched (fresh (plan_of p1)) one.lent one.left one.outcome → ⊥
run_not_untouched h = let a = answered.ticks-12 in let b = h.ticks in absurd (omega arith)

-- a plan that 8 refuses starts all zero
pub twice_starts_zero : (r : Started) → Starts twice r → r.state ≡ zero_state
twice_starts_zero r h =
    refused_start twice r h
    (λ z. let e = ap (λ (v : Verdict). v.number) (h.answer ∙ stepped.refused_8) in absurd (omega arith))

-- "a trace one word short": 10 of 12 ticks are run, and stand
pub short_stops : (short.outcome.ticks ≡ 10) × StopsBefore (plan_of p1) (events_of []) (fresh (plan_of p1)) 12 short.lent short.left short.outcome
short_stops = (
  answered.ticks-short,
  full_stops p1 [] (fresh (plan_of p1)) 12 short.lent short.left short.outcome
      (runs_of (Err TraceFull) p1 [] (fresh (plan_of p1)) 12 34 (sym answered.in_34_words)) refl,
)

-- ---- runs compose
-- 5 ticks and then 7 are 12: 2 records and 5
pub five_and_seven : Composed first second one
five_and_seven =
    let a = answered.count_5 in
    let b = answered.count_7 in
    runs-compose p1 [] (fresh (plan_of p1)) first second one refl first_runs refl second_runs refl one-runs (omega arith)

-- not with "a trace one word short"
pub not_one_word_short : CalledFrom p1 [] (fresh (plan_of p1)) short × (Composed first second short → ⊥)
not_one_word_short =
    (runs_of (Err TraceFull) p1 [] (fresh (plan_of p1)) 12 34 (sym answered.in_34_words), λ h. let e = h.answer in absurd (omega (arith, e)))

-- nor after a call whose trace was full: it ran no tick
pub not_after_full : CalledFrom p1 [] (fresh (plan_of p1)) full × CalledFrom p1 [] full.outcome.state later
    × (Composed full later one → ⊥)
not_after_full =
    let a = answered.ticks-full in
    let b = answered.ticks-later in
    let c = answered.ticks-12 in (
      runs_of (Err TraceFull) p1 [] (fresh (plan_of p1)) 5 9 (sym answered.in_9_words),
      runs_of (Ok tt) p1 [] full.outcome.state 7 35 (sym answered.in_7_later),
      λ h. let e = h.ticks in absurd (omega arith),
    )

-- 12 ticks are 5 and then 7
pub twelve_in_two : AllRun first × AllRun second
twelve_in_two =
    runs-split p1 [] (fresh (plan_of p1)) first second one refl one-runs refl first_runs (omega arith) second_runs (omega arith)

-- not where the second's trace is shorter: one word short of its five records
pub not_with_less : CalledFrom p1 [] first.outcome.state narrow × (AllRun narrow → ⊥)
not_with_less =
    (runs_of (Err TraceFull) p1 [] first.outcome.state 7 24 (sym answered.in_24_words), λ e. absurd (omega (arith, e)))

-- ---- a state that the kernel returned fits
-- after both calls
pub returned_by_p1 : Fits (plan_of p1) (events_of []) second.outcome.state
unfolding last_state
returned_by_p1 = returned_fits p1 [] (started p1) (first ∷ second ∷ []) service

-- a further call, whatever it asks, does not answer 12
pub never_12 : (c : Called) → CalledFrom p1 [] second.outcome.state c → (said c.outcome.answer).number ≢ 12
unfolding last_state
never_12 = never_unfit p1 [] (started p1) (first ∷ second ∷ []) service

-- one with other accepted events may
pub other-events_12 : (events_verdict p1 (sets_at0 2) ≡ verdict 0 0) × CalledFrom p1 (sets_at0 2) first.outcome.state other
    × ((said other.outcome.answer).number ≡ 12)
other-events_12 =
    (answered.accepted, runs_of (Err StateUnfit) p1 (sets_at0 2) first.outcome.state 7 35 (sym answered.with_others), refl)

-- at 1,000,000 a state fits, and after a further tick it does not
pub not_after_the_last : Fits (plan_of p1) (events_of []) late
    × (Fits (plan_of p1) (events_of []) (tick (plan_of p1) (events_of []) late).state → ⊥)
not_after_the_last = (
  (fits-exactly p1 good (events_of []) late).0 answered.late_fits,
  λ h.
      let next = next_tick (plan_of p1) (events_of []) late in
      let most = h.tick in
      absurd (omega (arith, next, most)),
)

-- ---- writes of one execution stand together
-- in tick 8 of P1 task 0 writes 15 and 5 to signals 3 and 4, which had 20 and 0: "8 2 0 3 15", "8 2 0 4 5"
pub p1-writes : ((tick (plan_of p1) (events_of []) (reached p1 [] 8)).entries ≡ write_entry 8 0 3 15 ∷ write_entry 8 0 4 5 ∷ [])
    × ((value_at (reached p1 [] 8).signals 3 ≡ 20) × (value_at (reached p1 [] 8).signals 4 ≡ 0))
    × ((value_at (reached p1 [] 9).signals 3 ≡ 15) × (value_at (reached p1 [] 9).signals 4 ≡ 5))
p1-writes = (stepped.records, stepped.before, stepped.behind)

-- in every tick it writes nothing or all at once
pub p1-at_once : (n : ℕ) → n < max_time → let u = tick (plan_of p1) (events_of []) (reached p1 [] n) in AtOnce (plan_of p1) 0 (reached p1 [] n) u.entries u.state
unfolding computing_sample
p1-at_once = run_at_once p1 [] good (ap (λ (v : Verdict). v.number) computed.0.events) 0 (omega arith)

-- and in tick 8 not nothing
pub p1-not_nothing : NoWrite 0 (tick (plan_of p1) (events_of []) (reached p1 [] 8)).entries → ⊥
p1-not_nothing h = (subst (NoWrite 0) stepped.records h).0 refl refl

-- between the state that comes back after 8 ticks and that after 9 too
pub p1-eighth : AtOnce (plan_of p1) 0 eight.outcome.state (of_tick 8 (all_records (one ∷ []))) nine.outcome.state
unfolding computing_sample
p1-eighth =
    service_at_once p1 [] (started p1) (one ∷ []) (service_of one one-runs) 0 (omega arith) 8 (omega arith)
    (started p1) (eight ∷ []) (service_of eight (runs_of (Ok tt) p1 [] (fresh (plan_of p1)) 8 35 (sym answered.in_8))) answered.ticks-8
    (started p1) (nine ∷ []) (service_of nine (runs_of (Ok tt) p1 [] (fresh (plan_of p1)) 9 35 (sym answered.in_9))) answered.ticks-9

-- task 0 writes nothing or all at once in a tick of the definition
abbrev OnceIn : List ℕ → List ℕ → State → Type 0
OnceIn bytes events s = let u = tick (plan_of bytes) (events_of events) s in AtOnce (plan_of bytes) 0 s u.entries u.state

-- the signal of the first output has a value that it did not have and that was not held for it
not_at_once : (bytes events : List ℕ) (s : State) → 0 < length (task_at (plan_of bytes) 0).outputs → shown bytes events s ≢ seen bytes s
    → shown bytes events s ≢ holds bytes events s → OnceIn bytes events s → ⊥
not_at_once bytes events s some f g (nothing n h) = f (h 0 some)
not_at_once bytes events s some f g (everything n h) = g (h 0 some)

-- not with events that 11 refuses: signal 3 is 7 after tick 0, and task 0 wrote nothing
pub not_with_a_set : (events_verdict p1 (sets_at0 3) ≡ verdict 11 0) × (OnceIn p1 (sets_at0 3) (fresh (plan_of p1)) → ⊥)
not_with_a_set =
    let a = stepped.set_shown in
    let b = stepped.set_seen in
    let c = stepped.set_holds in
    let d = stepped.outputs.0 in
    (stepped.refused_11, not_at_once p1 (sets_at0 3) (fresh (plan_of p1)) (omega arith) (λ e. omega arith) (λ e. omega arith))

-- nor for a plan that 8 refuses: 15 and 25 are written to signal 3, and 25 is left
pub not_twice : (plan_verdict twice ≡ verdict 8 0) × (OnceIn twice [] (reached twice [] 8) → ⊥)
not_twice =
    let a = stepped.twice_shown in
    let b = stepped.twice_seen in
    let c = stepped.twice_holds in
    let d = stepped.outputs.1 in
    (stepped.refused_8, not_at_once twice [] (reached twice [] 8) (omega arith) (λ e. omega arith) (λ e. omega arith))

-- ---- a move is atomic
-- 20 in all after every tick, in P1 and in P3, where task 0 misses
pub always_20 : (n : ℕ) → (both p1 n ≡ 20) × (both p3 n ≡ 20)
unfolding computing_sample
always_20 n = (
  conserved p1 good 0 (omega arith) (0 ∷ 1 ∷ []) only_moves.0 [] (ap (λ v. v.number) computed.0.events) n ∙ computed.0.initial,
  conserved p3 (ap (λ v. v.number) computed.1.plan) 0 (omega arith) (0 ∷ 1 ∷ []) only_moves.1 [] (ap (λ v. v.number) computed.1.events) n ∙ computed.1.initial,
)

-- and so has the state that both calls of P1 return: signals 3 and 4 are the east safe and the west safe
pub returned_20 : value_at second.outcome.state.signals 3 + value_at second.outcome.state.signals 4 ≡ 20
unfolding computing_sample
returned_20 = east_and_west p1 [] (started p1) (first ∷ second ∷ []) service 0 (omega arith) 0 1 only_moves.0

-- not with one end outside the list: the first safe of P1 alone has 20 at first and 15 after 12 ticks
pub not_alone : ((n : ℕ) → alone p1 n ≡ 20) → ⊥
not_alone h = let e = sym computed.0.first ∙ h 12 in absurd (omega arith)

-- nor with an add: 25 after 12 ticks
pub not_added : (plan_verdict adds ≡ verdict 0 0) × (((n : ℕ) → both adds n ≡ 20) → ⊥)
not_added = (stepped.accepted, λ h. let e = sym stepped.added ∙ h 12 in absurd (omega arith))

-- nor with events that 11 refuses: 7 after tick 0
pub not_set : ((n : ℕ) → total_of (plan_of p1) 0 (0 ∷ 1 ∷ []) (reached p1 (sets_at0 3) n).signals ≡ 20) → ⊥
not_set h = let e = sym stepped.set ∙ h 1 in absurd (omega arith)

-- ---- every ERROR lasts
-- task 0 of P3 is ACTIVE before tick 8, and in ERROR after it and after any further calls
pub p3-error : (task0 p3 8 ≡ ACTIVE) × ((more : List Called) → InTurn p3 [] missed.outcome.state more → InError 0 (last_state missed.outcome.state more))
unfolding last_state
p3-error = (
  stepped.active,
  λ more turns.
      errors_last p3 [] (started p3) (missed ∷ []) more
      (record {
        starts = record { answer = sym computed.1.plan; state = rw computed.1.plan };
        accepted = refl;
        in_turn = (runs_of (Ok tt) p3 [] (fresh (plan_of p3)) 9 35 (sym answered.p3-in_9), tt);
      })
      turns 0 answered.p3-error,
)

-- FINISHED does not: task 0 of P1 after 5 ticks, and after 9
pub finished-ends : (task0 p1 5 ≡ FINISHED) × (task0 p1 9 ≡ READY)
finished-ends = (stepped.finished, stepped.ready)
