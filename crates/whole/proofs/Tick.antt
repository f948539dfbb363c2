-- The steps together: a tick over the arrays of a state is document 01's tick of that state.
use Prim.Native.Nat.{ℕ}
use mathlib.Core.Path.{◌≡◌, refl, ap, sym, ◌∙◌}
use mathlib.Core.Bool.{Bool, true, false, cond}
use mathlib.Core.List.{List, [], ◌∷◌, ◌++◌}
use lib.ListN.{length, set, length-set}
use lib.Dec.{eqb}
use Rattle.words.specs.Words.{words_of}
use Rattle.plan.specs.File.{Plan, plan_of}
use Rattle.plan.specs.Order.{order}
use Rattle.plan.specs.Rules.{plan_verdict}
use Rattle.plan_schedule.specs.Schedule.{schedule_of}
use Rattle.events.specs.Events.{Event}
use Rattle.state.specs.Fitting as fitting
use Rattle.state.specs.declared.TaskState.{TaskState}
use Rattle.state.specs.declared.State.{State}
use Rattle.arrays.specs.Arrays.{Arrays, Step, Sized}
use Rattle.tick.specs.Turns.{deadline_turn, waits}
use Rattle.tick.specs.Tick.{Moment, events_at, set_now, each, releases, runs, ends, tick}
use Rattle.steps.specs.Flat.{each_row, lapse, grant}
use Rattle.whole.specs.Whole.{moment_of, apart, Rows}
use Rattle.whole.proofs.Laws.{landed}
use Rattle.whole.proofs.Schedule.{rows_of}
use Rattle.whole.proofs.Apart.{apart-sized, whole_apart}
use Rattle.whole.proofs.Deadlines.{deadlines-same, deadlines-sized}
use Rattle.whole.proofs.Releases.{releases-same, releases-sized}
use Rattle.whole.proofs.Running.{ran, Served, runs_same, runs-sized, served_by}

-- steps 1, 2 and 3 over the arrays
abbrev pub stepped : ℕ → List Event → List ℕ → List ℕ → ℕ → Arrays → Step
stepped t now ws rows n a =
    let u = each_row (lapse t rows) n 0 a in
    let v = each_row (grant t rows now) n 0 u.arrays in
    let w = ran t ws rows n v.arrays in
    record { arrays = w.arrays; entries = (u.entries ++ v.entries) ++ w.entries }

-- the arrays of a state, with step 0 done
abbrev pub set_apart : List Event → State → Arrays
set_apart now s = record { signals = set_now now s.signals; tasks = (apart s).tasks; latched = (apart s).latched; held = (apart s).held }

pub set_length : (now : List Event) (signals : List ℕ) → length (set_now now signals) ≡ length signals
unfolding set_now
set_length [] signals = refl
set_length (e ∷ now) signals = set_length now (cond (eqb e.kind 2) (set signals e.target e.value) signals) ∙ go (eqb e.kind 2)
  where
    go : (b : Bool) → length (cond b (set signals e.target e.value) signals) ≡ length signals
    go true = length-set signals e.target e.value
    go false = refl

module _ (plan : Plan) (ws rows : List ℕ) (n : ℕ) (said : Rows plan rows n) (served : Served plan ws) where
  module _ (t : ℕ) (events : List Event) (a : Arrays) (sized : Sized a) where
    abbrev now : List Event
    now = events_at t events

    abbrev u : Step
    u = each_row (lapse t rows) n 0 a

    abbrev v : Step
    v = each_row (grant t rows now) n 0 u.arrays

    sized-u : Sized u.arrays
    sized-u = deadlines-sized t plan rows n said a sized

    sized-v : Sized v.arrays
    sized-v = releases-sized t now plan rows n said u.arrays sized-u

    pub steps_same : runs plan t (releases waits plan events t (each plan (deadline_turn t) (order plan) (moment_of a []))) ≡ landed [] (stepped t (events_at t events) ws rows n a)
    steps_same =
        ap (λ (m : Moment). runs plan t (releases waits plan events t m)) (deadlines-same t plan rows n said a [] sized)
        ∙ ap (runs plan t) (releases-same t now plan rows n said u.arrays sized-u u.entries)
        ∙ runs_same t plan ws rows n said served v.arrays sized-v (u.entries ++ v.entries)

    pub steps_sized : Sized (stepped t (events_at t events) ws rows n a).arrays
    steps_sized = runs-sized t plan ws rows n said served v.arrays sized-v

  module _ (events : List Event) (s : State) (sized : fitting.StateSizes s) where
    pub set_sized : Sized (set_apart (events_at s.tick events) s)
    set_sized =
        let z = apart-sized s sized in
        record { signals = set_length (events_at s.tick events) s.signals ∙ z.signals; tasks = z.tasks; latched = z.latched; held = z.held }

    -- the tick of a state, by its arrays
    pub tick-same : tick plan events s
        ≡ ends events s.tick (landed [] (stepped s.tick (events_at s.tick events) ws rows n (set_apart (events_at s.tick events) s)))
    unfolding tick
    tick-same =
        ap (λ (xs : List TaskState). ends events s.tick (runs plan s.tick (releases waits plan events s.tick (each plan (deadline_turn s.tick) (order plan) (record { signals = set_now (events_at s.tick events) s.signals; tasks = xs; entries = [] })))))
        (sym (whole_apart s sized))
        ∙ ap (ends events s.tick) (steps_same s.tick events (set_apart (events_at s.tick events) s) set_sized)

-- of an accepted plan and its schedule
pub tick-accepted : (bytes : List ℕ) → (plan_verdict bytes).number ≡ 0 → (events : List Event) (s : State) → fitting.StateSizes s
    → tick (plan_of bytes) events s
    ≡ ends events s.tick
    (landed []
    (stepped s.tick (events_at s.tick events) (words_of bytes) (schedule_of bytes).rows (schedule_of bytes).count (set_apart (events_at s.tick events) s)))
tick-accepted bytes good events s sized =
    tick-same (plan_of bytes) (words_of bytes) (schedule_of bytes).rows (schedule_of bytes).count (rows_of bytes good) (served_by bytes good) events s sized
