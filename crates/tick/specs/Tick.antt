-- Document 01, 'One tick' and the zero-time reading.
use Rattle.std.specs.Prelude.{ℕ, ◌+◌, Bool, cond, List, [], ◌∷◌, ◌++◌, set, ltb, eqb}
use Rattle.std.proofs.Math.Option.{Option, none, some}
use Rattle.plan.specs.File.{Task, Plan, task_at}
use Rattle.plan.specs.Order.{numbers, order}
use Rattle.events.specs.Events.{Event, passed}
use Rattle.trace.specs.declared.Entry.{Entry}
use Rattle.state.specs.State.{state_at}
use Rattle.state.specs.declared.TaskState.{TaskState}
use Rattle.state.specs.declared.State.{State}
use Rattle.tick.specs.Turns.{Write, Turn, deadline_turn, release_turn, waits, finish, is_active, run_turn}

-- what the steps of a tick change
pub record Moment : Type 0 where
  pub signals : List ℕ
  pub tasks : List TaskState
  pub entries : List Entry

unfoldable pub write_all : List Write → List ℕ → List ℕ
write_all [] signals = signals
write_all (w ∷ ws) signals = write_all ws (set signals w.signal w.value)

-- what each task does in its turn of a step, by its number
abbrev pub Act : Type 0
Act = ℕ → Task → TaskState → Turn

-- one task's turn
abbrev pub visit : Plan → Act → ℕ → Moment → Moment
visit plan act i m =
    let u = act i (task_at plan i) (state_at m.tasks i) in
    record { signals = write_all u.writes m.signals; tasks = set m.tasks i u.state; entries = m.entries ++ u.entries }

-- each task of a list of task numbers, in its order; records "as the steps come"
unfoldable pub each : Plan → Act → List ℕ → Moment → Moment
each plan act [] m = m
each plan act (i ∷ is) m = each plan act is (visit plan act i m)

-- the events of instant t, in list order
unfoldable pub events_at : ℕ → List Event → List Event
events_at t [] = []
events_at t (e ∷ es) = cond (eqb e.instant t) (e ∷ events_at t es) (events_at t es)

-- 0. "Set events of instant t take effect in list order."
unfoldable pub set_now : List Event → List ℕ → List ℕ
set_now [] signals = signals
set_now (e ∷ now) signals = set_now now (cond (eqb e.kind 2) (set signals e.target e.value) signals)

-- a tick begins: step 0 is done, and nothing is recorded yet
abbrev pub begins : List Event → State → Moment
begins events s = record { signals = set_now (events_at s.tick events) s.signals; tasks = s.tasks; entries = [] }

-- 0, then 1. "In order of priority, each task in flight with D > 0 and t = r + D"
abbrev pub deadlines : Plan → List Event → State → Moment
deadlines plan events s = each plan (deadline_turn s.tick) (order plan) (begins events s)

-- 2. "In order of priority, releases." Every task latches the signals as step 1 left them
abbrev pub releases : (Task → TaskState → TaskState) → Plan → List Event → ℕ → Moment → Moment
releases start plan events t m = each plan (release_turn start t m.signals (events_at t events)) (order plan) m

-- steps 0, 1 and 2
abbrev pub after_releases : (Task → TaskState → TaskState) → Plan → List Event → State → Moment
after_releases start plan events s = releases start plan events s.tick (deadlines plan events s)

-- the more urgent of a task and the best so far, if any
unfoldable pub better : Plan → ℕ → Option ℕ → ℕ
better plan i none = i
better plan i (some j) = cond (ltb (task_at plan i).priority (task_at plan j).priority) i j

-- the most urgent of those of a list of task numbers that pass a test, and of the best so far, if any
unfoldable pub most_urgent : Plan → (ℕ → Bool) → List ℕ → Option ℕ → Option ℕ
most_urgent plan test [] best = best
most_urgent plan test (i ∷ is) best = most_urgent plan test is (cond (test i) (some (better plan i best)) best)

-- the running task
abbrev pub running : Plan → List TaskState → Option ℕ
running plan xs = most_urgent plan (λ i. is_active (state_at xs i).status) (numbers plan) none

unfoldable pub visit_if : Plan → Act → Option ℕ → Moment → Moment
visit_if plan act none m = m
visit_if plan act (some i) m = visit plan act i m

-- 3. "The most urgent ACTIVE task loses one remaining tick."
abbrev pub runs : Plan → ℕ → Moment → Moment
runs plan t m = visit_if plan (run_turn t) (running plan m.tasks) m

-- ---- one tick: the stepped state and its records
pub record Ticked : Type 0 where
  pub state : State
  pub entries : List Entry

-- the next tick's number, and the event place before it
abbrev pub ends : List Event → ℕ → Moment → Ticked
ends events t m =
    record { state = record { tick = t + 1; place = passed (t + 1) events; signals = m.signals; tasks = m.tasks }; entries = m.entries }

-- "At tick t": steps 0, 1, 2 and 3
unfoldable pub tick : Plan → List Event → State → Ticked
tick plan events s = ends events s.tick (runs plan s.tick (after_releases waits plan events s))

-- "The zero-time reading .. has steps 0, 1 and 2 with one change and no step 3: a released task's body runs at once on its
-- latched inputs and held outputs, and the task is FINISHED until r + D."
unfoldable pub zero_tick : Plan → List Event → State → Ticked
zero_tick plan events s = ends events s.tick (after_releases finish plan events s)
