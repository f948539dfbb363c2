-- A call whose records all fit into a trace comes to the same in any longer one.
use Prim.Native.Nat.{ℕ, zero, suc, ◌-◌, ◌*◌, ◌≤◌}
use mathlib.Core.Path.{◌≡◌, refl}
use mathlib.Core.Bool.{Bool, true, false, cond}
use mathlib.Core.List.{List}
use native.Mathlib.Omega.{arith}
use lib.ListN.{length}
use lib.Dec.{leb, eqb}
use borrow.Author.Tests.{leb-true, le-leb}
use Rattle.answers.specs.Answers.{verdict}
use Rattle.plan.specs.File.{plan_of}
use Rattle.events.specs.Events.{events_of}
use Rattle.state.specs.declared.State.{State}
use Rattle.tick.specs.Tick.{Ticked, tick}
use Rattle.kernel.specs.Call.{call_verdict, CallResult, stopped, onward, run_room, call}

-- so many ticks with number 0
run_roomier : (step : State → Ticked) (room longer n : ℕ) (s : State) → room ≤ longer → (run_room step room n s).verdict.number ≡ 0
    → run_room step longer n s ≡ run_room step room n s
unfolding run_room
run_roomier step room longer zero s more z = refl
run_roomier step room longer (suc n) s more z =
    go (leb (5 * length (step s).entries) room) refl z
    (run_roomier step (room - 5 * length (step s).entries) (longer - 5 * length (step s).entries) n (step s).state (omega arith))
  where
    r : ℕ → CallResult
    r words = run_room step (words - 5 * length (step s).entries) n (step s).state

    go : (b : Bool) → leb (5 * length (step s).entries) room ≡ b → (cond b (onward (step s) (r room)) (stopped (verdict 14 0) s)).verdict.number ≡ 0
        → ((r room).verdict.number ≡ 0 → r longer ≡ r room)
        → cond (leb (5 * length (step s).entries) longer) (onward (step s) (r longer)) (stopped (verdict 14 0) s)
        ≡ cond b (onward (step s) (r room)) (stopped (verdict 14 0) s)
    go true e z' later =
        let fit = leb-true (5 * length (step s).entries) room e in
        rw (le-leb (5 * length (step s).entries) longer (omega arith), later z')
    go false e z' later = absurd (omega (arith, z'))

-- a call with number 0
pub call-roomier : (plan events : List ℕ) (s : State) (asked room longer : ℕ) → room ≤ longer → (call plan events s asked room).verdict.number ≡ 0
    → call plan events s asked longer ≡ call plan events s asked room
call-roomier plan events s asked room longer more = go (eqb (call_verdict plan events s asked).number 0)
  where
    step : State → Ticked
    step = tick (plan_of plan) (events_of events)

    go : (b : Bool) → (cond b (run_room step room asked s) (stopped (call_verdict plan events s asked) s)).verdict.number ≡ 0
        → cond b (run_room step longer asked s) (stopped (call_verdict plan events s asked) s)
        ≡ cond b (run_room step room asked s) (stopped (call_verdict plan events s asked) s)
    go true z = run_roomier step room longer asked s more z
    go false z = refl
