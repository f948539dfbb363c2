-- One tick over the arrays: the four steps, one after the other.
use Rattle.std.specs.Prelude.{ℕ, ◌+◌, ◌-◌, ◌*◌, ◌<◌, ◌≤◌, ◌^◌, ◌≡◌, List, ◌++◌, length}
use Rattle.limits.specs.Limits.{max_tasks}
use Rattle.words.specs.Words.{words_of}
use Rattle.events.specs.Events.{Event, event_count}
use Rattle.trace.specs.Trace.{over}
use Rattle.arrays.specs.Arrays.{Arrays, Step}
use Rattle.tick.specs.Tick.{set_now}
use Rattle.steps.specs.Flat.{each_row, called, lapse, grant, runs_flat, end_from, between}
use Rattle.step.specs.declared.Clock.{Clock}

-- what a run does not change: the words of the plan, its schedule and the number of rows, the events
pub record Given : Type 0 where
  pub plan : List ℕ
  pub rows : List ℕ
  pub count : ℕ
  pub events : List ℕ
  pub records : ℕ

abbrev pub given : List ℕ → List ℕ → ℕ → List ℕ → Given
given plan_bytes rows count event_bytes =
    record { plan = words_of plan_bytes; rows = rows; count = count; events = words_of event_bytes; records = event_count event_bytes }

-- the place after the events of tick t, which start at a place
abbrev pub place_after : Given → ℕ → ℕ → ℕ
place_after g t place = end_from g.events t (g.records - place) place

-- 0. set events take effect
abbrev pub with_events : List Event → Arrays → Arrays
with_events now a = record { signals = set_now now a.signals; tasks = a.tasks; latched = a.latched; held = a.held }

-- "At tick t: 0. .. 1. .. 2. .. 3."
unfoldable pub step_flat : Given → ℕ → ℕ → Arrays → Step
step_flat g t place a =
    let now = between g.events place (place_after g t place) in
    let s₁ = each_row (lapse t g.rows) g.count 0 (with_events now a) in
    let s₂ = each_row (grant t g.rows now) g.count 0 s₁.arrays in
    let s₃ = runs_flat t g.plan g.rows g.count s₂.arrays in
    record { arrays = s₃.arrays; entries = s₁.entries ++ s₂.entries ++ s₃.entries }

-- the same, where in steps 1 and 2 only the rows have their turn whose bit stands in a word
unfoldable pub step_called : ℕ → Given → ℕ → ℕ → Arrays → Step
step_called calls g t place a =
    let now = between g.events place (place_after g t place) in
    let s₁ = each_row (called calls (lapse t g.rows)) g.count 0 (with_events now a) in
    let s₂ = each_row (called calls (grant t g.rows now)) g.count 0 s₁.arrays in
    let s₃ = runs_flat t g.plan g.rows g.count s₂.arrays in
    record { arrays = s₃.arrays; entries = s₁.entries ++ s₂.entries ++ s₃.entries }

-- what the code needs to add without wrapping
pub record Ready (count records : ℕ) (clock : Clock) : Type 0 where
  pub rows : count ≤ max_tasks
  pub events : records < 2 ^ 30
  pub place : clock.place ≤ records
  pub tick : clock.tick < 2 ^ 31
  pub word : clock.at < 2 ^ 62

-- what one tick leaves, by the definition
pub record Stepped (clock clock' : Clock) (after : Arrays) (old-trace new-trace : List ℕ) (g : Given) (before : Arrays) : Type 0 where
  pub arrays : after ≡ (step_flat g clock.tick clock.place before).arrays
  pub trace : new-trace ≡ over old-trace clock.at (step_flat g clock.tick clock.place before).entries
  pub tick : clock'.tick ≡ clock.tick + 1
  pub place : clock'.place ≡ place_after g clock.tick clock.place
  pub word : clock'.at ≡ clock.at + 5 * length (step_flat g clock.tick clock.place before).entries
