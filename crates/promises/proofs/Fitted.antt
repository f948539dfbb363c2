-- A tick keeps a state that fits.
use Prim.Native.Nat.{ℕ, zero, suc, ◌+◌, ◌≤◌, ◌<◌}
use mathlib.Core.Path.{◌≡◌, refl, subst⁻¹, ◌∙◌}
use mathlib.Core.Logic.{◌⊎◌, inl, inr}
use mathlib.Core.Bool.{Bool, true, false}
use mathlib.Core.List.{List}
use native.Mathlib.Omega.{arith}
use lib.ListN.{length, set}
use lib.Dec.{ltb}
use borrow.Author.Tests.{ltb-true, ltb-false}
use Rattle.limits.specs.Limits.{max_signals, max_time}
use Rattle.lists.specs.Lists.{Every, PaddedFrom}
use Rattle.lists.proofs.Laws.{set_padded}
use Rattle.lists.proofs.Tests.{every_at, every_from, every_weaker}
use Rattle.plan.specs.File.{Plan, plan_of, task_at}
use Rattle.plan.specs.Rules.{plan_verdict}
use Rattle.plan.specs.Order.{order}
use Rattle.plan.proofs.Laws.{signals_length}
use Rattle.plan.proofs.Order.{order_below}
use Rattle.plan.proofs.Tasks.{few_tasks, order-numbers, timing_of, body_of}
use Rattle.events.specs.Events.{Event, events_of}
use Rattle.events.specs.Accepted.{Sets, AcceptedEvents}
use Rattle.events.proofs.Acceptance as lists
use Rattle.events.proofs.Sets.{each-sets}
use Rattle.state.specs.State.{state_at, nowhere}
use Rattle.state.specs.Fitting.{PortSizes, AllZero, Fits}
use Rattle.state.specs.declared.TaskState.{TaskState}
use Rattle.state.specs.declared.State.{State}
use Rattle.tick.specs.Turns.{deadline_turn, waits, is_active, run_turn}
use Rattle.tick.specs.Tick.{events_at, begins, deadlines, after_releases, tick}
use Rattle.tick.proofs.Timed.{Flight, StandsAt, deadline_stands, release-stands, run_stands}
use Rattle.tick.proofs.Ports.{PortsFit, deadline_ports, release-ports, run_ports, fits-stands, fits-ports, both_fit, ports_sized}
use Rattle.tick.proofs.Writes.{every_now, set_keeps, writes_keep}
use Rattle.tick.proofs.Signals.{deadline_signals, run_signals, releases-signals}
use Rattle.tick.proofs.View.{each_keeps, runs-keeps, next_tick, turned, tick-at, tick-beyond, tick-length}
use Rattle.zero.specs.Zero.{ticks}
use Rattle.promises.specs.Theorems.{ATickKeepsAStateThatFits}

module _ (plan_bytes event_bytes : List ℕ) (good : (plan_verdict plan_bytes).number ≡ 0) (list : AcceptedEvents plan_bytes event_bytes) where
  abbrev plan : Plan
  plan = plan_of plan_bytes

  -- the events
  abbrev events : List Event
  events = events_of event_bytes

  -- "64 signals .. always zero from S on"
  abbrev Image : List ℕ → Type 0
  Image g = PaddedFrom (length plan.signals) max_signals g

  -- a signal of the plan is set
  set_image : (y : ℕ) → y < length plan.signals → (g : List ℕ) (v : ℕ) → Image g → Image (set g y v)
  set_image y l g v h = set_padded (length plan.signals) max_signals g y v l h

  -- a task writes: its outputs are signals of the plan
  outputs_keep : (i : ℕ) → i < length plan.tasks → Every (λ y. (g : List ℕ) (v : ℕ) → Image g → Image (set g y v)) (task_at plan i).outputs
  outputs_keep i l = every_weaker (λ y. y < length plan.signals) _ set_image (task_at plan i).outputs (body_of plan_bytes good i l).outputs

  module _ (s : State) (fit : Fits plan events s) where
    abbrev t : ℕ
    t = s.tick

    -- those of this tick
    abbrev now : List Event
    now = events_at t events

    -- after step 0
    zeroth : Image (begins events s).signals
    zeroth =
        set_keeps Image now
        (every_weaker (λ e. e.kind ≡ 2 → Sets plan_bytes e) (λ e. e.kind ≡ 2 → (g : List ℕ) → Image g → Image (set g e.target e.value))
        (λ e f two g h. set_image e.target (rw (signals_length plan_bytes) (f two).signal) g e.value h) now
        (every_now (λ e. e.kind ≡ 2 → Sets plan_bytes e) t events (each-sets plan_bytes event_bytes list)))
        s.signals (record { size = fit.sizes.signals; zeros = fit.signals })

    -- after step 1
    first : Image (deadlines plan events s).signals
    first =
        each_keeps plan (deadline_turn t) (λ m. Image m.signals) (λ i. i < length plan.tasks)
        (λ i m l p.
        deadline_signals Image t i (task_at plan i) (state_at m.tasks i) m.signals p (λ held. writes_keep Image (task_at plan i).outputs held (outputs_keep i l) m.signals p))
        (order plan) (begins events s) (order_below plan) zeroth

    -- the signals after the tick
    image : Image (tick plan events s).state.signals
    unfolding tick
    image =
        let m = after_releases waits plan events s in
        runs-keeps plan t (λ m. Image m.signals) m
        (λ i q p. run_signals Image t i (task_at plan i) (state_at m.tasks i) m.signals p (λ held. writes_keep Image (task_at plan i).outputs held (outputs_keep i q.1) m.signals p))
        (subst⁻¹ Image (releases-signals waits plan events t (deadlines plan events s)) first)

    -- a task of the plan after the tick
    abbrev Both : ℕ → TaskState → Type 0
    Both i x = StandsAt Flight (t + 1) (task_at plan i) x × PortsFit (task_at plan i) x

    -- from its own turns
    both : (i : ℕ) → i < length plan.tasks → Both i (state_at (tick plan events s).state.tasks i)
    both i l =
        let k = task_at plan i in
        let x = state_at s.tasks i in
        let y = (deadline_turn t i k x).state in
        let most = few_tasks plan_bytes good in
        let size = fit.sizes.tasks in
        let sized = every_at PortSizes nowhere s.tasks fit.sizes.ports i (omega arith) in
        let g = (deadlines plan events s).signals in
        let a = release-stands t g now i k (timing_of plan_bytes good i l) y (deadline_stands t i k x (fits-stands t k x (fit.tasks i l))) in
        let b = release-ports waits t g now i k y (λ z h. h) (deadline_ports t i k x (fits-ports t k x sized (fit.tasks i l))) in
        go (tick-at plan events s (order-numbers plan_bytes good) i l (omega arith)) a b
      where
        after : TaskState
        after = state_at (tick plan events s).state.tasks i

        z : TaskState
        z = turned waits plan events s i

        go : (after ≡ z) ⊎ ((is_active z.status ≡ true) × (after ≡ (run_turn t i (task_at plan i) z).state))
            → StandsAt Flight (t + 1) (task_at plan i) z → PortsFit (task_at plan i) z → Both i after
        go (inl e) a b = subst⁻¹ (Both i) e (a, b)
        go (inr h) a b =
            subst⁻¹ (Both i) h.1
            (run_stands t i (task_at plan i) z (t + 1) h.0 a, run_ports (length plan.signals) (task_at plan i) (body_of plan_bytes good i l) t i z b)

    -- a tick keeps a state that fits
    pub tick-fitting : t < max_time → Fits plan events (tick plan events s).state
    unfolding tick
    tick-fitting early = record {
      sizes = record {
        signals = image.size;
        tasks = tick-length plan events s ∙ fit.sizes.tasks;
        ports = every_from PortSizes nowhere (tick plan events s).state.tasks (λ i l. sized i l (ltb i (length plan.tasks)) refl);
      };
      tick = omega arith;
      place = refl;
      signals = image.zeros;
      tasks = λ i l. both_fit (t + 1) (task_at plan i) (state_at (tick plan events s).state.tasks i) (both i l).0 (both i l).1;
      rest = λ i from. subst⁻¹ AllZero (tick-beyond plan events s i from) (fit.rest i from);
    }
      where
        sized : (i : ℕ) → i < length (tick plan events s).state.tasks → (b : Bool) → ltb i (length plan.tasks) ≡ b → PortSizes (state_at (tick plan events s).state.tasks i)
        sized i l true e = ports_sized (task_at plan i) (state_at (tick plan events s).state.tasks i) (both i (ltb-true i (length plan.tasks) e)).1
        sized i l false e =
            let size = tick-length plan events s in
            subst⁻¹ PortSizes (tick-beyond plan events s i (ltb-false i (length plan.tasks) e)) (every_at PortSizes nowhere s.tasks fit.sizes.ports i (omega arith))

  -- any number of ticks
  pub ticks-fit : (n : ℕ) (s : State) → s.tick + n ≤ max_time → Fits plan events s → Fits plan events (ticks (tick plan events) n s).state
  unfolding ticks
  ticks-fit zero s soon fit = fit
  ticks-fit (suc n) s soon fit =
      let next = next_tick plan events s in
      ticks-fit n (tick plan events s).state (omega arith) (tick-fitting s fit (omega arith))

-- of accepted plans and events
pub tick-fits : ATickKeepsAStateThatFits
tick-fits plan_bytes event_bytes good events s fit early = tick-fitting plan_bytes event_bytes good ((lists.accepted_exactly plan_bytes event_bytes).1 events).1 s fit early
