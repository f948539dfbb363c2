-- Number 12 never answers a caller who hands on the state that the kernel returned; and a call that ran all its ticks can be made in two.
use Prim.Native.Nat.{ℕ, ◌+◌, ◌≤◌}
use mathlib.Core.Path.{◌≡◌, refl, sym, ap, subst, ◌∙◌}
use mathlib.Core.Logic.{◌≢◌, ◌⊎◌, inl, inr}
use mathlib.Core.Bool.{Bool, true, false, cond}
use mathlib.Core.List.{List, [], ◌∷◌}
use native.Mathlib.Omega.{arith}
use lib.ListN.{length, length-append}
use lib.Dec.{eqb, leb}
use borrow.Author.Tests.{eq-eqb, le-leb}
use Rattle.limits.specs.Limits.{max_time}
use Rattle.answers.specs.Answers.{Verdict}
use Rattle.plan.specs.File.{plan_of}
use Rattle.plan.specs.Rules.{plan_verdict}
use Rattle.events.specs.Events.{events_of, events_verdict}
use Rattle.state.specs.State.{fresh}
use Rattle.state.specs.Fits.{fits}
use Rattle.state.specs.Fitting.{Fits}
use Rattle.state.specs.declared.State.{State}
use Rattle.state.proofs.Fitting.{fits-exactly}
use Rattle.state.proofs.Fresh.{fresh-fits}
use Rattle.tick.specs.Tick.{Ticked, tick}
use Rattle.kernel.specs.Call.{call_verdict, CallResult, stopped, run_room, call}
use Rattle.kernel.proofs.Verdict.{check_decides, state_decides}
use Rattle.kernel.proofs.Ready.{events_good, plan_good, fitting, may_run}
use Rattle.zero.specs.Zero.{ticks, Called, last_state}
use Rattle.zero.proofs.Ticks.{ticks-entries}
use Rattle.zero.proofs.Calls.{started_fresh}
use Rattle.zero.proofs.Keeps.{calls_keep}
use Rattle.zero.proofs.Theorems.{good}
use Rattle.promises.specs.Promises.{CalledFrom, AllRun}
use Rattle.promises.specs.Theorems.{AReturnedStateFits, AReturnedStateIsNeverRefused, RunsSplit}
use Rattle.promises.proofs.Compose.{call-all, verdict-zero, called-zero, called-state, ticks-tick}
use Rattle.promises.proofs.Fitted.{tick-fitting}
use Rattle.promises.proofs.Numbers.{check_below, room_number}

module _ (plan_bytes event_bytes : List ℕ) (good : (plan_verdict plan_bytes).number ≡ 0) (s : State) (fit : Fits (plan_of plan_bytes) (events_of event_bytes) s) where
  -- a state that fits passes the test
  tested : fits (plan_of plan_bytes) (events_of event_bytes) s ≡ true
  tested = (fits-exactly plan_bytes good (events_of event_bytes) s).1 fit

  -- with accepted events and time left no rule refuses
  pub fitting_zero : (asked : ℕ) → (events_verdict plan_bytes event_bytes).number ≡ 0 → s.tick + asked ≤ max_time → (call_verdict plan_bytes event_bytes s asked).number ≡ 0
  fitting_zero asked accepted soon =
      ap (λ (v : Verdict). v.number) (state_decides plan_bytes event_bytes s asked (eq-eqb _ 0 accepted)) ∙ rw (tested, le-leb (s.tick + asked) max_time soon)

  -- no rule refuses with 12
  verdict-not : (asked : ℕ) → (call_verdict plan_bytes event_bytes s asked).number ≢ 12
  verdict-not asked e = go (eqb (events_verdict plan_bytes event_bytes).number 0) refl (leb (s.tick + asked) max_time) refl
    where
      go : (b : Bool) → eqb (events_verdict plan_bytes event_bytes).number 0 ≡ b → (l : Bool) → leb (s.tick + asked) max_time ≡ l → ⊥
      go true z true w =
          let v : (call_verdict plan_bytes event_bytes s asked).number ≡ 0 = ap (λ (v : Verdict). v.number) (state_decides plan_bytes event_bytes s asked z) ∙ rw (tested, w) in
          absurd (omega (arith, v, e))
      go true z false w =
          let v : (call_verdict plan_bytes event_bytes s asked).number ≡ 13 = ap (λ (v : Verdict). v.number) (state_decides plan_bytes event_bytes s asked z) ∙ rw (tested, w) in
          absurd (omega (arith, v, e))
      go false z l w =
          let v = ap (λ (v : Verdict). v.number) (check_decides plan_bytes event_bytes s asked z) in
          let low = check_below plan_bytes event_bytes in
          absurd (omega (arith, v, e, low))

  -- nor does a call
  pub call-not : (asked room : ℕ) → (call plan_bytes event_bytes s asked room).verdict.number ≢ 12
  call-not asked room = go (eqb (call_verdict plan_bytes event_bytes s asked).number 0)
    where
      neither : (n : ℕ) → (n ≡ 0) ⊎ (n ≡ 14) → n ≢ 12
      neither n (inl e) z = absurd (omega arith)
      neither n (inr e) z = absurd (omega arith)

      go : (b : Bool) → (cond b (run_room (tick (plan_of plan_bytes) (events_of event_bytes)) room asked s) (stopped (call_verdict plan_bytes event_bytes s asked) s)).verdict.number ≢ 12
      go true e = neither _ (room_number (tick (plan_of plan_bytes) (events_of event_bytes)) room asked s) e
      go false e = verdict-not asked e

-- ---- after a fresh start that accepts the plan and any calls in turn
-- a call keeps a state that fits
pub called-fits : (plan_bytes event_bytes : List ℕ) → (plan_verdict plan_bytes).number ≡ 0 → (s : State) (c : Called) → CalledFrom plan_bytes event_bytes s c
    → Fits (plan_of plan_bytes) (events_of event_bytes) s → Fits (plan_of plan_bytes) (events_of event_bytes) c.outcome.state
unfolding last_state
called-fits plan_bytes event_bytes accepted s c runs fit =
    calls_keep plan_bytes event_bytes (Fits (plan_of plan_bytes) (events_of event_bytes)) (λ list s early fit. tick-fitting plan_bytes event_bytes accepted list s fit early)
    s (c ∷ []) (runs, tt) fit

-- the state after the last call fits
pub returned_fits : AReturnedStateFits
returned_fits plan_bytes event_bytes started calls service =
    let accepted = good plan_bytes event_bytes started calls service in
    calls_keep plan_bytes event_bytes (Fits (plan_of plan_bytes) (events_of event_bytes)) (λ list s early fit. tick-fitting plan_bytes event_bytes accepted list s fit early)
    started.state calls service.in_turn
    (subst (Fits (plan_of plan_bytes) (events_of event_bytes)) (sym (started_fresh plan_bytes started service.starts service.accepted))
    ((fits-exactly plan_bytes accepted (events_of event_bytes) (fresh (plan_of plan_bytes))).0 (fresh-fits plan_bytes accepted (events_of event_bytes))))

-- and a further call with it never answers 12
pub never_unfit : AReturnedStateIsNeverRefused
never_unfit plan_bytes event_bytes started calls service c runs e =
    call-not plan_bytes event_bytes (good plan_bytes event_bytes started calls service) (last_state started.state calls)
    (returned_fits plan_bytes event_bytes started calls service) c.asked (length c.lent) (sym (ap (λ (v : Verdict). v.number) runs.answer) ∙ e)

-- ---- runs compose, the other way round: a call that ran all its ticks can be made in two, with traces as long as its own
module _ (plan_bytes event_bytes : List ℕ) (s : State) (first second one : Called) (asked : one.asked ≡ first.asked + second.asked)
    (runs : CalledFrom plan_bytes event_bytes s one) (all : AllRun one)
    (runs₁ : CalledFrom plan_bytes event_bytes s first) (long₁ : length one.lent ≤ length first.lent)
    (runs₂ : CalledFrom plan_bytes event_bytes first.outcome.state second) (long₂ : length one.lent ≤ length second.lent) where
  abbrev step : State → Ticked
  step = tick (plan_of plan_bytes) (events_of event_bytes)

  -- no rule refused the one
  zero_one : (call_verdict plan_bytes event_bytes s one.asked).number ≡ 0
  zero_one = (called-zero plan_bytes event_bytes s one runs all).0

  -- there was time for it
  enough_time : s.tick + one.asked ≤ max_time
  enough_time = (may_run plan_bytes event_bytes s one.asked zero_one).ticks

  -- its records are those of the two, joined
  sizes : length (ticks step first.asked s).entries + length (ticks step second.asked (ticks step first.asked s).state).entries ≡ length (ticks step one.asked s).entries
  sizes =
      sym (length-append (ticks step first.asked s).entries (ticks step second.asked (ticks step first.asked s).state).entries)
      ∙ ap length (ticks-entries step first.asked second.asked s ∙ ap (λ (k : ℕ). (ticks step k s).entries) (sym asked))

  -- the first runs all its ticks
  first_all : AllRun first
  first_all =
      let room = (called-zero plan_bytes event_bytes s one runs all).1 in
      let size = sizes in
      let soon = enough_time in
      ap (λ (v : Verdict). v.number)
      (runs₁.answer
      ∙ ap (λ (r : CallResult). r.verdict) (call-all plan_bytes event_bytes s first.asked (length first.lent) (verdict-zero plan_bytes event_bytes s one.asked first.asked zero_one (omega arith)) (omega arith)))

  -- the state between them is the one reached
  between : first.outcome.state ≡ (ticks step first.asked s).state
  between = called-state plan_bytes event_bytes s first runs₁ first_all

  -- and so does the second: that state fits
  second_all : AllRun second
  second_all =
      let room = (called-zero plan_bytes event_bytes s one runs all).1 in
      let size = sizes in
      let soon = enough_time in
      let late = ap (λ (x : State). x.tick) between ∙ ticks-tick plan_bytes event_bytes first.asked s in
      let fit = called-fits plan_bytes event_bytes (plan_good plan_bytes event_bytes s one.asked zero_one) s first runs₁ (fitting plan_bytes event_bytes s one.asked zero_one) in
      let same = ap (λ (x : State). length (ticks step second.asked x).entries) between in
      ap (λ (v : Verdict). v.number)
      (runs₂.answer
      ∙ ap (λ (r : CallResult). r.verdict) (call-all plan_bytes event_bytes first.outcome.state second.asked (length second.lent)
      (fitting_zero plan_bytes event_bytes (plan_good plan_bytes event_bytes s one.asked zero_one) first.outcome.state fit second.asked (events_good plan_bytes event_bytes s one.asked zero_one) (omega arith)) (omega arith)))

-- both run all their ticks
pub runs-split : RunsSplit
runs-split plan_bytes event_bytes s first second one asked runs all runs₁ long₁ runs₂ long₂ = (
  first_all plan_bytes event_bytes s first second one asked runs all runs₁ long₁ runs₂ long₂,
  second_all plan_bytes event_bytes s first second one asked runs all runs₁ long₁ runs₂ long₂,
)
