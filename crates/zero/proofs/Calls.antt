-- What the entries give is a run of `tick`: as many ticks as they say, with these records, from the fresh state on.
use Prim.Native.Nat.{ℕ, zero, suc, ◌-◌, ◌*◌}
use mathlib.Core.Path.{◌≡◌, refl, sym, ◌∙◌, ap, ap₂}
use mathlib.Core.Bool.{Bool, true, false, cond}
use mathlib.Core.List.{List, [], ◌∷◌, ◌++◌}
use lib.ListN.{length, drop}
use lib.Dec.{leb, eqb}
use borrow.Author.Tests.{eq-eqb}
use Rattle.lists.specs.Lists.{Every}
use Rattle.answers.specs.Answers.{Verdict, verdict, said}
use Rattle.plan.specs.File.{plan_of}
use Rattle.plan.specs.Rules.{plan_verdict}
use Rattle.events.specs.Events.{events_of}
use Rattle.trace.specs.Trace.{trace_after, records_in}
use Rattle.trace.proofs.Laws.{records_laid}
use Rattle.state.specs.State.{fresh, zero_state}
use Rattle.state.specs.declared.State.{State}
use Rattle.tick.specs.Tick.{Ticked, tick}
use Rattle.kernel.specs.Call.{Starts, call_verdict, CallResult, stopped, onward, run_room, call, Runs}
use Rattle.kernel.specs.declared.Started.{Started}
use Rattle.kernel.specs.declared.Outcome.{Outcome}
use Rattle.zero.specs.Zero.{ticks, Called, records_of, InTurn, ticks_of, all_records, last_state}
use Rattle.zero.proofs.Ticks.{ticks-state, ticks-entries}

-- ---- a run, up to the tick whose records do not fit
record Ticking (step : State → Ticked) (s : State) (r : CallResult) : Type 0 where
  state : r.state ≡ (ticks step r.ticks s).state
  entries : r.entries ≡ (ticks step r.ticks s).entries

-- a run within a trace is as many ticks as it says
room_ticks : (step : State → Ticked) (room n : ℕ) (s : State) → Ticking step s (run_room step room n s)
unfolding run_room ticks
room_ticks step room zero s = record { state = refl; entries = refl }
room_ticks step room (suc n) s = go (leb (5 * length (step s).entries) room) (room_ticks step (room - 5 * length (step s).entries) n (step s).state)
  where
    r : CallResult
    r = run_room step (room - 5 * length (step s).entries) n (step s).state

    go : (b : Bool) → Ticking step (step s).state r → Ticking step s (cond b (onward (step s) r) (stopped (verdict 14 0) s))
    go true h = record { state = h.state; entries = ap (λ es. (step s).entries ++ es) h.entries }
    go false h = record { state = refl; entries = refl }

module _ (plan_bytes event_bytes : List ℕ) where
  abbrev step : State → Ticked
  step = tick (plan_of plan_bytes) (events_of event_bytes)

  -- so is a call, refused or not
  call-ticks : (s : State) (asked room : ℕ) → Ticking step s (call plan_bytes event_bytes s asked room)
  unfolding ticks
  call-ticks s asked room = go (eqb v.number 0)
    where
      v : Verdict
      v = call_verdict plan_bytes event_bytes s asked

      go : (b : Bool) → Ticking step s (cond b (run_room step room asked s) (stopped v s))
      go true = room_ticks step room asked s
      go false = record { state = refl; entries = refl }

  -- ---- one call
  module _ (s : State) (asked : ℕ) (lent left : List ℕ) (r : Outcome) (runs : Runs plan_bytes event_bytes s asked lent left r) where
    abbrev ran : CallResult
    ran = call plan_bytes event_bytes s asked (length lent)

    -- the state that it returned
    pub call-state : r.state ≡ (ticks step r.ticks s).state
    call-state = runs.state ∙ (call-ticks s asked (length lent)).state ∙ ap (λ (n : ℕ). (ticks step n s).state) (sym runs.ticks)

    -- the records of the definition
    entries_are : ran.entries ≡ (ticks step r.ticks s).entries
    entries_are = (call-ticks s asked (length lent)).entries ∙ ap (λ (n : ℕ). (ticks step n s).entries) (sym runs.ticks)

    -- the words of the trace
    pub call-trace : left ≡ trace_after (ticks step r.ticks s).entries lent
    call-trace = runs.trace ∙ ap (λ es. trace_after es lent) entries_are

    -- the records that it left
    pub call-records : records_in left r.records ≡ (ticks step r.ticks s).entries
    call-records =
        ap₂ records_in runs.trace runs.records ∙ records_laid ran.entries (drop (5 * length ran.entries) lent) ∙ entries_are

  -- ---- calls in turn
  -- the state after the last
  pub calls_state : (s : State) (cs : List Called) → InTurn plan_bytes event_bytes s cs → last_state s cs ≡ (ticks step (ticks_of cs) s).state
  unfolding last_state ticks_of ticks
  calls_state s [] h = refl
  calls_state s (c ∷ cs) h =
      calls_state c.outcome.state cs h.1
      ∙ ap (λ (x : State). (ticks step (ticks_of cs) x).state) (call-state s c.asked c.lent c.left c.outcome h.0)
      ∙ ticks-state step c.outcome.ticks (ticks_of cs) s

  -- their records, joined
  pub calls_records : (s : State) (cs : List Called) → InTurn plan_bytes event_bytes s cs → all_records cs ≡ (ticks step (ticks_of cs) s).entries
  unfolding all_records ticks_of ticks
  calls_records s [] h = refl
  calls_records s (c ∷ cs) h =
      ap₂ ◌++◌ (call-records s c.asked c.lent c.left c.outcome h.0)
      (calls_records c.outcome.state cs h.1
      ∙ ap (λ (x : State). (ticks step (ticks_of cs) x).entries) (call-state s c.asked c.lent c.left c.outcome h.0))
      ∙ ticks-entries step c.outcome.ticks (ticks_of cs) s

  -- the words of each trace
  pub calls_traces : (s : State) (cs : List Called) → InTurn plan_bytes event_bytes s cs → Every (λ c. c.left ≡ trace_after (records_of c) c.lent) cs
  calls_traces s [] h = tt
  calls_traces s (c ∷ cs) h = (
    call-trace s c.asked c.lent c.left c.outcome h.0
        ∙ ap (λ es. trace_after es c.lent) (sym (call-records s c.asked c.lent c.left c.outcome h.0)),
    calls_traces c.outcome.state cs h.1,
  )

-- ---- a fresh start that accepts the plan
module _ (plan_bytes : List ℕ) (started : Started) (starts : Starts plan_bytes started) (accepted : (said started.answer).number ≡ 0) where
  -- the plan has number 0
  pub started_good : (plan_verdict plan_bytes).number ≡ 0
  started_good = sym (ap (λ (v : Verdict). v.number) starts.answer) ∙ accepted

  -- the state is the fresh one
  pub started_fresh : started.state ≡ fresh (plan_of plan_bytes)
  started_fresh =
      starts.state ∙ ap (λ (b : Bool). cond b (fresh (plan_of plan_bytes)) zero_state) (eq-eqb (plan_verdict plan_bytes).number 0 started_good)
