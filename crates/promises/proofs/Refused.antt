-- Calls in turn that ran a tick had accepted events.
use Prim.Native.Nat.{ℕ, ◌<◌}
use mathlib.Core.Path.{◌≡◌, refl, ◌∙◌, ap}
use mathlib.Core.Bool.{Bool, true, false, cond}
use mathlib.Core.List.{List, [], ◌∷◌}
use native.Mathlib.Omega.{arith}
use lib.ListN.{length}
use lib.Dec.{eqb}
use borrow.Author.Tests.{eqb-true}
use Rattle.answers.specs.Answers.{Verdict}
use Rattle.plan.specs.File.{plan_of}
use Rattle.events.specs.Events.{events_of, events_verdict}
use Rattle.state.specs.declared.State.{State}
use Rattle.tick.specs.Tick.{tick}
use Rattle.kernel.specs.Call.{call_verdict, stopped, run_room, call}
use Rattle.kernel.proofs.Verdict.{check_decides}
use Rattle.zero.specs.Zero.{Called, InTurn, ticks_of}

-- with refused events no call runs a tick
module _ (plan_bytes event_bytes : List ℕ) (refused : eqb (events_verdict plan_bytes event_bytes).number 0 ≡ false) where
  none_run : (s : State) (asked room : ℕ) → (call plan_bytes event_bytes s asked room).ticks ≡ 0
  none_run s asked room =
      ap (λ (b : Bool). (cond b (run_room (tick (plan_of plan_bytes) (events_of event_bytes)) room asked s) (stopped (call_verdict plan_bytes event_bytes s asked) s)).ticks)
      (ap (λ (v : Verdict). eqb v.number 0) (check_decides plan_bytes event_bytes s asked refused) ∙ refused)

  -- nor do calls in turn
  none_all : (s : State) (cs : List Called) → InTurn plan_bytes event_bytes s cs → ticks_of cs ≡ 0
  unfolding ticks_of
  none_all s [] h = refl
  none_all s (c ∷ cs) h =
      let first = h.0.ticks ∙ none_run s c.asked (length c.lent) in
      let rest = none_all c.outcome.state cs h.1 in
      omega arith

-- so where one ran, they are accepted
pub service_events : (plan_bytes event_bytes : List ℕ) (s : State) (calls : List Called) → InTurn plan_bytes event_bytes s calls → 0 < ticks_of calls
    → (events_verdict plan_bytes event_bytes).number ≡ 0
service_events plan_bytes event_bytes s calls turns some = go (eqb (events_verdict plan_bytes event_bytes).number 0) refl
  where
    go : (b : Bool) → eqb (events_verdict plan_bytes event_bytes).number 0 ≡ b → (events_verdict plan_bytes event_bytes).number ≡ 0
    go true e = eqb-true (events_verdict plan_bytes event_bytes).number 0 e
    go false e = absurd (let none = none_all plan_bytes event_bytes e s calls turns in omega arith)
