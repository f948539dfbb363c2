-- Runs compose: m ticks, and then n ticks from the state reached, are m + n ticks.
use Prim.Native.Nat.{ℕ, zero, suc, ◌+◌, ◌-◌, ◌*◌, ◌≤◌}
use mathlib.Core.Path.{◌≡◌, refl, sym, ◌∙◌, ap, ap₂}
use mathlib.Core.Bool.{Bool, true, false, cond}
use mathlib.Core.List.{List, ◌++◌}
use native.Mathlib.Omega.{arith}
use lib.ListN.{length, length-append}
use lib.Dec.{leb, eqb}
use borrow.Author.Tests.{eqb-true, eqb-false, eq-eqb, leb-true, le-leb}
use Rattle.limits.specs.Limits.{max_time}
use Rattle.answers.specs.Answers.{Verdict, verdict}
use Rattle.plan.specs.File.{plan_of}
use Rattle.events.specs.Events.{events_of}
use Rattle.trace.specs.Trace.{trace_after}
use Rattle.trace.specs.declared.Entry.{Entry}
use Rattle.state.specs.Fits.{fits}
use Rattle.state.specs.declared.State.{State}
use Rattle.state.proofs.Fitting.{fits-exactly}
use Rattle.tick.specs.Tick.{Ticked, tick}
use Rattle.tick.proofs.View.{next_tick}
use Rattle.kernel.specs.Call.{call_verdict, CallResult, stopped, onward, run_room, call}
use Rattle.kernel.proofs.Verdict.{state_decides}
use Rattle.kernel.proofs.Ready.{events_good, plan_good, fitting, may_run}
use Rattle.zero.specs.Zero.{ticks, Called, records_of}
use Rattle.zero.proofs.Ticks.{ticks-state, ticks-entries, ticks-later}
use Rattle.zero.proofs.Calls.{call-trace, call-records}
use Rattle.promises.specs.Promises.{CalledFrom, AllRun, Composed}
use Rattle.promises.specs.Theorems.{RunsCompose}

-- ---- a run within a trace
-- all n ticks, and their records
abbrev all_of : (State → Ticked) → ℕ → State → CallResult
all_of step n s = record { verdict = verdict 0 0; ticks = n; state = (ticks step n s).state; entries = (ticks step n s).entries }

-- the records of n ticks fit exactly when number 0 is given
pub room_zero : (step : State → Ticked) (room n : ℕ) (s : State) → (run_room step room n s).verdict.number ≡ 0 → 5 * length (ticks step n s).entries ≤ room
unfolding run_room ticks
room_zero step room zero s z = omega arith
room_zero step room (suc n) s z =
    go (leb (5 * length (step s).entries) room) refl z (room_zero step (room - 5 * length (step s).entries) n (step s).state)
  where
    r : CallResult
    r = run_room step (room - 5 * length (step s).entries) n (step s).state

    rest : List Entry
    rest = (ticks step n (step s).state).entries

    go : (b : Bool) → leb (5 * length (step s).entries) room ≡ b → (cond b (onward (step s) r) (stopped (verdict 14 0) s)).verdict.number ≡ 0
        → (r.verdict.number ≡ 0 → 5 * length rest ≤ room - 5 * length (step s).entries) → 5 * length ((step s).entries ++ rest) ≤ room
    go true e z f =
        let first = leb-true (5 * length (step s).entries) room e in
        let later = f z in
        rw (length-append (step s).entries rest) (omega arith)
    go false e z f = absurd (omega (arith, z))

-- and then the run is as many ticks
pub room_all : (step : State → Ticked) (room n : ℕ) (s : State) → 5 * length (ticks step n s).entries ≤ room → run_room step room n s ≡ all_of step n s
unfolding run_room ticks
room_all step room zero s h = refl
room_all step room (suc n) s h =
    let size = length-append (step s).entries (ticks step n (step s).state).entries in
    let first : leb (5 * length (step s).entries) room ≡ true = le-leb (5 * length (step s).entries) room (omega arith) in
    rw (first, room_all step (room - 5 * length (step s).entries) n (step s).state (omega arith))

-- ---- a call
module _ (plan_bytes event_bytes : List ℕ) where
  abbrev step : State → Ticked
  step = tick (plan_of plan_bytes) (events_of event_bytes)

  -- "the next tick's number"
  pub ticks-tick : (n : ℕ) (s : State) → (ticks step n s).state.tick ≡ s.tick + n
  ticks-tick n s = ticks-later step (next_tick (plan_of plan_bytes) (events_of event_bytes)) n s

  module _ (s : State) where
    -- a call with number 0: no rule refuses it, and all records fit
    pub call-zero : (asked room : ℕ) → (call plan_bytes event_bytes s asked room).verdict.number ≡ 0
        → ((call_verdict plan_bytes event_bytes s asked).number ≡ 0) × (5 * length (ticks step asked s).entries ≤ room)
    call-zero asked room z = go (eqb (call_verdict plan_bytes event_bytes s asked).number 0) refl z
      where
        go : (b : Bool) → eqb (call_verdict plan_bytes event_bytes s asked).number 0 ≡ b
            → (cond b (run_room step room asked s) (stopped (call_verdict plan_bytes event_bytes s asked) s)).verdict.number ≡ 0
            → ((call_verdict plan_bytes event_bytes s asked).number ≡ 0) × (5 * length (ticks step asked s).entries ≤ room)
        go true e z = (eqb-true _ 0 e, room_zero step room asked s z)
        go false e z = absurd (eqb-false _ 0 e z)

    -- and the other way round
    pub call-all : (asked room : ℕ) → (call_verdict plan_bytes event_bytes s asked).number ≡ 0 → 5 * length (ticks step asked s).entries ≤ room
        → call plan_bytes event_bytes s asked room ≡ all_of step asked s
    call-all asked room good h = rw (eq-eqb _ 0 good) (room_all step room asked s h)

    -- no rule refuses a call of a state that fits, with time left
    pub verdict-zero : (asked more : ℕ) → (call_verdict plan_bytes event_bytes s asked).number ≡ 0 → s.tick + more ≤ max_time
        → (call_verdict plan_bytes event_bytes s more).number ≡ 0
    verdict-zero asked more good soon =
        let fit : fits (plan_of plan_bytes) (events_of event_bytes) s ≡ true
        = (fits-exactly plan_bytes (plan_good plan_bytes event_bytes s asked good) (events_of event_bytes) s).1 (fitting plan_bytes event_bytes s asked good) in
        ap (λ (v : Verdict). v.number) (state_decides plan_bytes event_bytes s more (eq-eqb _ 0 (events_good plan_bytes event_bytes s asked good)))
        ∙ rw (fit, le-leb _ _ soon)

  -- ---- what the entry gave
  module _ (s : State) (c : Called) (runs : CalledFrom plan_bytes event_bytes s c) where
    -- with number 0, and all asked ticks
    pub called-zero : AllRun c → ((call_verdict plan_bytes event_bytes s c.asked).number ≡ 0) × (5 * length (ticks step c.asked s).entries ≤ length c.lent)
    called-zero z = call-zero s c.asked (length c.lent) (sym (ap (λ (v : Verdict). v.number) runs.answer) ∙ z)

    -- it is all ticks
    pub called_is : AllRun c → call plan_bytes event_bytes s c.asked (length c.lent) ≡ all_of step c.asked s
    called_is z = let h = called-zero z in call-all s c.asked (length c.lent) h.0 h.1

    -- as many as were asked
    pub called-ticks : AllRun c → c.outcome.ticks ≡ c.asked
    called-ticks z = runs.ticks ∙ ap (λ (r : CallResult). r.ticks) (called_is z)

    -- as many records
    pub called-count : AllRun c → c.outcome.records ≡ length (ticks step c.asked s).entries
    called-count z = runs.records ∙ ap (λ (r : CallResult). length r.entries) (called_is z)

    -- the state after them
    pub called-state : AllRun c → c.outcome.state ≡ (ticks step c.asked s).state
    called-state z = runs.state ∙ ap (λ (r : CallResult). r.state) (called_is z)

    -- and their records
    pub called-records : AllRun c → records_of c ≡ (ticks step c.asked s).entries
    called-records z =
        call-records plan_bytes event_bytes s c.asked c.lent c.left c.outcome runs
        ∙ ap (λ (n : ℕ). (ticks step n s).entries) (called-ticks z)

  -- ---- two calls, one after the other, and one call of as many ticks with a trace that has room for all records
  module _ (s : State) (first second one : Called) (asked : one.asked ≡ first.asked + second.asked)
      (runs₁ : CalledFrom plan_bytes event_bytes s first) (all₁ : AllRun first)
      (runs₂ : CalledFrom plan_bytes event_bytes first.outcome.state second) (all₂ : AllRun second)
      (runs : CalledFrom plan_bytes event_bytes s one)
      (room : 5 * (first.outcome.records + second.outcome.records) ≤ length one.lent) where
    -- the records joined
    joined : records_of first ++ records_of second ≡ (ticks step one.asked s).entries
    joined =
        ap₂ ◌++◌ (called-records s first runs₁ all₁)
        (called-records first.outcome.state second runs₂ all₂ ∙ ap (λ (x : State). (ticks step second.asked x).entries) (called-state s first runs₁ all₁))
        ∙ ticks-entries step first.asked second.asked s
        ∙ ap (λ (k : ℕ). (ticks step k s).entries) (sym asked)

    -- as many as both left
    both_records : length (ticks step one.asked s).entries ≡ first.outcome.records + second.outcome.records
    both_records =
        let a = called-count s first runs₁ all₁ in
        let b = called-count first.outcome.state second runs₂ all₂ in
        let c = ap length (sym joined) ∙ length-append (records_of first) (records_of second) in
        let d = ap length (called-records s first runs₁ all₁) in
        let e = ap length (called-records first.outcome.state second runs₂ all₂) in
        omega arith

    -- no rule refuses it
    one-good : (call_verdict plan_bytes event_bytes s one.asked).number ≡ 0
    one-good =
        let late = (may_run plan_bytes event_bytes first.outcome.state second.asked (called-zero first.outcome.state second runs₂ all₂).0).ticks in
        let reached = ap (λ (x : State). x.tick) (called-state s first runs₁ all₁) ∙ ticks-tick first.asked s in
        verdict-zero s first.asked one.asked (called-zero s first runs₁ all₁).0 (omega (arith, late, reached, asked))

    -- it is all ticks
    one-is : call plan_bytes event_bytes s one.asked (length one.lent) ≡ all_of step one.asked s
    one-is = call-all s one.asked (length one.lent) one-good (rw both_records room)

    -- and its answer is 0
    one-zero : AllRun one
    one-zero = ap (λ (v : Verdict). v.number) (runs.answer ∙ ap (λ (r : CallResult). r.verdict) one-is)

    -- so the one call gave what the two gave
    composed : Composed first second one
    composed = record {
      answer = one-zero;
      state =
          called-state s one runs one-zero ∙ ap (λ (k : ℕ). (ticks step k s).state) asked ∙ sym (ticks-state step first.asked second.asked s)
          ∙ ap (λ (x : State). (ticks step second.asked x).state) (sym (called-state s first runs₁ all₁))
          ∙ sym (called-state first.outcome.state second runs₂ all₂);
      ticks =
          called-ticks s one runs one-zero ∙ asked
          ∙ ap₂ ◌+◌ (sym (called-ticks s first runs₁ all₁)) (sym (called-ticks first.outcome.state second runs₂ all₂));
      count = called-count s one runs one-zero ∙ both_records;
      records = called-records s one runs one-zero ∙ sym joined;
      trace =
          call-trace plan_bytes event_bytes s one.asked one.lent one.left one.outcome runs
          ∙ ap (λ es. trace_after es one.lent) (ap (λ (k : ℕ). (ticks step k s).entries) (called-ticks s one runs one-zero) ∙ sym joined);
    }

pub runs-compose : RunsCompose
runs-compose plan_bytes event_bytes s first second one asked runs₁ all₁ runs₂ all₂ runs room =
    composed plan_bytes event_bytes s first second one asked runs₁ all₁ runs₂ all₂ runs room
