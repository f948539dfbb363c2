-- A call that is asked for no more ticks than another one ran, from the same state with the same trace, runs all of them.
use Prim.Native.Nat.{ℕ, zero, suc, ◌+◌, ◌-◌, ◌*◌, ◌≤◌}
use native.Mathlib.Nat.{le_of_suc-le-suc, not-suc-le-zero}
use mathlib.Core.Path.{◌≡◌, refl, ◌∙◌, ap, subst}
use mathlib.Core.Bool.{Bool, true, false, cond}
use mathlib.Core.List.{List}
use native.Mathlib.Omega.{arith}
use lib.ListN.{length}
use lib.Dec.{leb, eqb}
use borrow.Author.Tests.{eqb-true, eq-eqb, le-leb}
use Rattle.limits.specs.Limits.{max_time}
use Rattle.answers.specs.Answers.{Verdict, verdict}
use Rattle.plan.specs.File.{plan_of}
use Rattle.events.specs.Events.{events_of}
use Rattle.state.specs.declared.State.{State}
use Rattle.state.specs.Fits.{fits}
use Rattle.state.proofs.Fitting.{fits-exactly}
use Rattle.tick.specs.Tick.{Ticked, tick}
use Rattle.kernel.specs.Call.{call_verdict, CallResult, stopped, onward, run_room, call, Runs}
use Rattle.kernel.specs.declared.Outcome.{Outcome}
use Rattle.kernel.proofs.Verdict.{state_decides}
use Rattle.kernel.proofs.Ready.{events_good, plan_good, fitting, may_run}

-- ---- a run
-- it runs at most the ticks asked
room_most : (step : State → Ticked) (room n : ℕ) (s : State) → (run_room step room n s).ticks ≤ n
unfolding run_room
room_most step room zero s = omega arith
room_most step room (suc n) s = go (leb (5 * length (step s).entries) room) (room_most step (room - 5 * length (step s).entries) n (step s).state)
  where
    r : CallResult
    r = run_room step (room - 5 * length (step s).entries) n (step s).state

    go : (b : Bool) → r.ticks ≤ n → (cond b (onward (step s) r) (stopped (verdict 14 0) s)).ticks ≤ suc n
    go true h = omega arith
    go false h = omega arith

-- asked for no more than it ran, it runs all
room_fewer : (step : State → Ticked) (room n k : ℕ) (s : State) → k ≤ (run_room step room n s).ticks → (run_room step room k s).ticks ≡ k
unfolding run_room
room_fewer step room n zero s h = refl
room_fewer step room zero (suc k) s h = absurd (not-suc-le-zero h)
room_fewer step room (suc n) (suc k) s h =
    go (leb (5 * length (step s).entries) room) (λ l. room_fewer step (room - 5 * length (step s).entries) n k (step s).state l) h
  where
    r : ℕ → CallResult
    r m = run_room step (room - 5 * length (step s).entries) m (step s).state

    go : (b : Bool) → (k ≤ (r n).ticks → (r k).ticks ≡ k) → suc k ≤ (cond b (onward (step s) (r n)) (stopped (verdict 14 0) s)).ticks
        → (cond b (onward (step s) (r k)) (stopped (verdict 14 0) s)).ticks ≡ suc k
    go true f l = ap suc (f (le_of_suc-le-suc l))
    go false f l = absurd (not-suc-le-zero l)

-- ---- a call
module _ (plan_bytes event_bytes : List ℕ) (s : State) where
  -- no rule refuses it either
  verdict-fewer : (asked k : ℕ) → k ≤ asked → (call_verdict plan_bytes event_bytes s asked).number ≡ 0 → (call_verdict plan_bytes event_bytes s k).number ≡ 0
  verdict-fewer asked k l good =
      let events = events_good plan_bytes event_bytes s asked good in
      let fit : fits (plan_of plan_bytes) (events_of event_bytes) s ≡ true
      = (fits-exactly plan_bytes (plan_good plan_bytes event_bytes s asked good) (events_of event_bytes) s).1 (fitting plan_bytes event_bytes s asked good) in
      let most : s.tick + asked ≤ max_time = (may_run plan_bytes event_bytes s asked good).ticks in
      let soon : leb (s.tick + k) max_time ≡ true = le-leb (s.tick + k) max_time (omega arith) in
      ap (λ (v : Verdict). v.number) (state_decides plan_bytes event_bytes s k (eq-eqb _ 0 events)) ∙ rw (fit, soon)

  -- the same of a call
  call-fewer : (asked k room : ℕ) → k ≤ (call plan_bytes event_bytes s asked room).ticks → (call plan_bytes event_bytes s k room).ticks ≡ k
  unfolding run_room
  call-fewer asked k room h = go (eqb (call_verdict plan_bytes event_bytes s asked).number 0) refl h
    where
      step : State → Ticked
      step = tick (plan_of plan_bytes) (events_of event_bytes)

      none : (b : Bool) (v : Verdict) → (cond b (run_room step room 0 s) (stopped v s)).ticks ≡ 0
      none true v = refl
      none false v = refl

      go : (b : Bool) → eqb (call_verdict plan_bytes event_bytes s asked).number 0 ≡ b
          → k ≤ (cond b (run_room step room asked s) (stopped (call_verdict plan_bytes event_bytes s asked) s)).ticks
          → (call plan_bytes event_bytes s k room).ticks ≡ k
      go true e l =
          let most = room_most step room asked s in
          let good = verdict-fewer asked k (omega arith) (eqb-true _ 0 e) in
          ap (λ (b : Bool). (cond b (run_room step room k s) (stopped (call_verdict plan_bytes event_bytes s k) s)).ticks) (eq-eqb _ 0 good) ∙ room_fewer step room asked k s l
      go false e l =
          let z : 0 ≡ k = omega arith in
          subst (λ (j : ℕ). (call plan_bytes event_bytes s j room).ticks ≡ j) z (none (eqb (call_verdict plan_bytes event_bytes s 0).number 0) (call_verdict plan_bytes event_bytes s 0))

  -- and of what the entry gives
  pub asked_fewer : (asked k : ℕ) (lent left left' : List ℕ) (r r' : Outcome) → Runs plan_bytes event_bytes s asked lent left r
      → Runs plan_bytes event_bytes s k lent left' r' → k ≤ r.ticks → r'.ticks ≡ k
  asked_fewer asked k lent left left' r r' runs runs' l = runs'.ticks ∙ call-fewer asked k (length lent) (subst (λ n. k ≤ n) runs.ticks l)
