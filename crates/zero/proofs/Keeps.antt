-- What every tick with accepted events keeps, every call keeps, refused or not, and so do calls in turn.
use Prim.Native.Nat.{ℕ, zero, suc, ◌+◌, ◌-◌, ◌*◌, ◌≤◌, ◌<◌}
use mathlib.Core.Path.{◌≡◌, refl, subst⁻¹}
use mathlib.Core.Bool.{Bool, true, false, cond}
use mathlib.Core.List.{List, [], ◌∷◌}
use native.Mathlib.Omega.{arith}
use lib.ListN.{length}
use lib.Dec.{leb, eqb}
use borrow.Author.Tests.{eqb-true}
use Rattle.limits.specs.Limits.{max_time}
use Rattle.answers.specs.Answers.{verdict}
use Rattle.plan.specs.File.{plan_of}
use Rattle.events.specs.Events.{events_of}
use Rattle.events.specs.Accepted.{AcceptedEvents}
use Rattle.events.proofs.Acceptance.{accepted_exactly}
use Rattle.state.specs.declared.State.{State}
use Rattle.tick.specs.Tick.{Ticked, tick}
use Rattle.tick.proofs.View.{next_tick}
use Rattle.kernel.specs.Call.{call_verdict, CallResult, stopped, onward, run_room, call}
use Rattle.kernel.proofs.Ready.{events_good, may_run}
use Rattle.zero.specs.Zero.{Called, InTurn, last_state}

module _ (plan_bytes event_bytes : List ℕ) where
  abbrev step : State → Ticked
  step = tick (plan_of plan_bytes) (events_of event_bytes)

  module _ (P : State → Type 0) (keeps : AcceptedEvents plan_bytes event_bytes → (s : State) → s.tick < max_time → P s → P (step s).state) where
    -- a run, up to the tick whose records do not fit
    room_keeps : AcceptedEvents plan_bytes event_bytes → (room n : ℕ) (s : State) → s.tick + n ≤ max_time → P s → P (run_room step room n s).state
    unfolding run_room
    room_keeps list room zero s soon p = p
    room_keeps list room (suc n) s soon p =
        go (leb (5 * length (step s).entries) room)
        (room_keeps list (room - 5 * length (step s).entries) n (step s).state (let next = next_tick (plan_of plan_bytes) (events_of event_bytes) s in omega arith) (keeps list s (omega arith) p))
      where
        r : CallResult
        r = run_room step (room - 5 * length (step s).entries) n (step s).state

        go : (b : Bool) → P r.state → P (cond b (onward (step s) r) (stopped (verdict 14 0) s)).state
        go true h = h
        go false h = p

    -- a call
    pub call-keeps : (s : State) (asked room : ℕ) → P s → P (call plan_bytes event_bytes s asked room).state
    call-keeps s asked room p = go (eqb (call_verdict plan_bytes event_bytes s asked).number 0) refl
      where
        go : (b : Bool) → eqb (call_verdict plan_bytes event_bytes s asked).number 0 ≡ b
            → P (cond b (run_room step room asked s) (stopped (call_verdict plan_bytes event_bytes s asked) s)).state
        go true e =
            let zero-now = eqb-true (call_verdict plan_bytes event_bytes s asked).number 0 e in
            room_keeps ((accepted_exactly plan_bytes event_bytes).1 (events_good plan_bytes event_bytes s asked zero-now)).1 room asked s
            (may_run plan_bytes event_bytes s asked zero-now).ticks p
        go false e = p

    -- calls in turn
    pub calls_keep : (s : State) (cs : List Called) → InTurn plan_bytes event_bytes s cs → P s → P (last_state s cs)
    unfolding last_state
    calls_keep s [] h p = p
    calls_keep s (c ∷ cs) h p = calls_keep c.outcome.state cs h.1 (subst⁻¹ P h.0.state (call-keeps s c.asked (length c.lent) p))
