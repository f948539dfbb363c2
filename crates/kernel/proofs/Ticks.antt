-- A run over the arrays is document 01's run of the state that they hold.
use Prim.Native.Nat.{ℕ, zero, suc, ◌+◌, ◌-◌, ◌*◌}
use native.Mathlib.Nat.{add-zero}
use mathlib.Core.Path.{◌≡◌, ap, ◌∙◌}
use mathlib.Core.Bool.{Bool, true, false, cond}
use mathlib.Core.List.{List}
use native.Mathlib.Omega.{arith}
use lib.ListN.{length}
use lib.Dec.{leb}
use Rattle.words.specs.Words.{words_of}
use Rattle.answers.specs.Answers.{verdict}
use Rattle.plan.specs.File.{plan_of}
use Rattle.plan.specs.Rules.{plan_verdict}
use Rattle.plan_schedule.specs.Schedule.{schedule_of}
use Rattle.events.specs.Events.{Event, events_of, passed, events_verdict}
use Rattle.state.specs.declared.State.{State}
use Rattle.arrays.specs.Arrays.{Arrays, Step, Sized}
use Rattle.tick.specs.Tick.{events_at, tick, ends}
use Rattle.steps.specs.Flat.{runs_flat}
use Rattle.step.specs.Step.{Given, given, with_events, step_flat}
use Rattle.run.specs.Run.{Went, halted, further, run_flat}
use Rattle.whole.specs.Whole.{whole}
use Rattle.whole.proofs.Schedule.{rows_of}
use Rattle.whole.proofs.Events.{ends_next, events_between}
use Rattle.whole.proofs.Running.{served_by}
use Rattle.whole.proofs.Tick.{stepped, set_length, steps_same, steps_sized}
use Rattle.kernel.specs.Call.{CallResult, stopped, onward, run_room}

-- the state that the arrays hold
abbrev pub state_of : ℕ → ℕ → Arrays → State
state_of t place a = record { tick = t; place = place; signals = a.signals; tasks = whole a }

-- what a run over the arrays from tick t on comes to
abbrev pub ran_of : ℕ → Went → CallResult
ran_of t w = record {
  verdict = cond w.full (verdict 14 0) (verdict 0 0);
  ticks = w.ticks;
  state = state_of (t + w.ticks) w.place w.arrays;
  entries = w.entries;
}

-- one tick before a run, where its records fit
join : (b : Bool) (t p : ℕ) (a : Arrays) (u : Step) (s : State) (r : CallResult) (w : Went) → r ≡ ran_of (t + 1) w
    → cond b (onward (record { state = s; entries = u.entries }) r) (stopped (verdict 14 0) (state_of t p a)) ≡ ran_of t (cond b (further u w) (halted true p a))
join true t p a u s r w e =
    let q : t + suc w.ticks ≡ t + 1 + w.ticks = omega arith in
    rw (e, q)
join false t p a u s r w e = rw (add-zero t)

module _ (plan_bytes event_bytes : List ℕ) (plan_good : (plan_verdict plan_bytes).number ≡ 0) (events_good : (events_verdict plan_bytes event_bytes).number ≡ 0) where
  abbrev events : List Event
  events = events_of event_bytes

  abbrev pub known : Given
  known = given plan_bytes (schedule_of plan_bytes).rows (schedule_of plan_bytes).count event_bytes

  module _ (t : ℕ) (a : Arrays) (sized : Sized a) where
    abbrev ready : Arrays
    ready = with_events (events_at t events) a

    ready-sized : Sized ready
    ready-sized = record { signals = set_length (events_at t events) a.signals ∙ sized.signals; tasks = sized.tasks; latched = sized.latched; held = sized.held }

    flat_is : step_flat known t (passed t events) a ≡ stepped t (events_at t events) (words_of plan_bytes) (schedule_of plan_bytes).rows (schedule_of plan_bytes).count ready
    unfolding step_flat runs_flat
    flat_is = rw (events_between plan_bytes event_bytes events_good t)

    -- one tick
    pub tick_is : tick (plan_of plan_bytes) events (state_of t (passed t events) a)
        ≡ record { state = state_of (t + 1) (passed (t + 1) events) (step_flat known t (passed t events) a).arrays; entries = (step_flat known t (passed t events) a).entries }
    unfolding tick
    tick_is =
        ap (ends events t) (steps_same (plan_of plan_bytes) (words_of plan_bytes) (schedule_of plan_bytes).rows (schedule_of plan_bytes).count (rows_of plan_bytes plan_good) (served_by plan_bytes plan_good) t events ready ready-sized)
        ∙ rw flat_is

    pub tick-sized : Sized (step_flat known t (passed t events) a).arrays
    tick-sized =
        rw flat_is
        (steps_sized (plan_of plan_bytes) (words_of plan_bytes) (schedule_of plan_bytes).rows (schedule_of plan_bytes).count (rows_of plan_bytes plan_good) (served_by plan_bytes plan_good) t events ready ready-sized)

  -- any number of ticks
  pub run_is : (n room t : ℕ) (a : Arrays) → Sized a
      → run_room (tick (plan_of plan_bytes) events) room n (state_of t (passed t events) a) ≡ ran_of t (run_flat known room n t (passed t events) a)
  unfolding run_room run_flat
  run_is zero room t a z = rw (add-zero t)
  run_is (suc n) room t a z =
      let u = step_flat known t (passed t events) a in
      rw (tick_is t a z, ends_next plan_bytes event_bytes events_good t)
      (join (leb (5 * length u.entries) room) t (passed t events) a u (state_of (t + 1) (passed (t + 1) events) u.arrays) _ _
      (run_is n (room - 5 * length u.entries) (t + 1) u.arrays (tick-sized t a z)))
