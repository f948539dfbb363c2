-- Which records a turn can have, and that what holds of every record of a turn holds of every record of a step, and of a tick.
use Prim.Native.Nat.{ℕ, ◌-◌}
use mathlib.Core.Path.{◌≡◌, refl, sym}
use mathlib.Core.Logic.{◌≢◌}
use mathlib.Core.List.{List, [], ◌∷◌}
use mathlib.Core.Option.{Option, none, some}
use Rattle.lists.specs.Lists.{Every}
use Rattle.lists.proofs.Tests.{every_append, every_join, every_replicate}
use Rattle.plan.specs.File.{Task, Plan, task_at}
use Rattle.plan.specs.Order.{order}
use Rattle.events.specs.Events.{Event}
use Rattle.trace.specs.Trace.{release_kind, miss_kind, overrun_kind, ignored_kind, entry, write_entry, own}
use Rattle.trace.specs.declared.Entry.{Entry}
use Rattle.trace.proofs.Records.{own-none}
use Rattle.state.specs.State.{state_at}
use Rattle.state.specs.declared.Status.TheVariants.{ACTIVE}
use Rattle.state.specs.declared.TaskState.{TaskState}
use Rattle.state.specs.declared.State.{State}
use Rattle.tick.specs.Turns.{Write, Turn, finish, writes_of, deadline_turn, waits, release_turn, run_turn}
use Rattle.tick.specs.Tick.{Moment, Act, visit, each, events_at, begins, deadlines, running, visit_if, after_releases, tick}
use Rattle.tick.proofs.Cases.{Deadline, rests, misses, writes, deadline_is, calls_now, Release, starts, overruns, stays, release-is, Running, goes_on, finishes, writes_at_once, run_is}
use Rattle.tick.proofs.Values.{write_entries}

-- ---- one turn: P is what is asked of a record
module _ (P : Entry → Type 0) (t i : ℕ) where
  -- write records
  writes_every : ((s v : ℕ) → P (write_entry t i s v)) → (ws : List Write) → Every P (write_entries t i ws)
  writes_every f [] = tt
  writes_every f (w ∷ ws) = (f w.signal w.value, writes_every f ws)

  module _ (k : Task) (x : TaskState) where
    -- step 1: writes, or the miss of an ACTIVE task
    pub deadline_every : ((s v : ℕ) → P (write_entry t i s v)) → (x.status ≡ ACTIVE → P (entry t miss_kind i)) → Every P (deadline_turn t i k x).entries
    deadline_every f g = go (deadline_is t i k x)
      where
        go : {u : Turn} → Deadline t i k x u → Every P u.entries
        go (rests h) = tt
        go (misses a z) = (g a, tt)
        go (writes h z) = writes_every f (writes_of k.outputs x.held)

    -- step 2: a release, an overrun, ignored events
    pub release-every : (start : Task → TaskState → TaskState) (signals : List ℕ) (now : List Event)
        → P (entry t release_kind i) → P (entry t overrun_kind i) → P (entry t ignored_kind i) → Every P (release_turn start t signals now i k x).entries
    release-every start signals now f g h = go (release-is start t signals now i k x)
      where
        go : {u : Turn} → Release start t signals now i k x u → Every P u.entries
        go (starts e a) = (f, every_replicate P (calls_now i k now - 1) (entry t ignored_kind i) h)
        go (overruns e p d a) = (g, tt)
        go (stays w) = every_replicate P (calls_now i k now) (entry t ignored_kind i) h

    -- step 3: writes
    pub run_every : ((s v : ℕ) → P (write_entry t i s v)) → Every P (run_turn t i k x).entries
    run_every f = go (run_is t i k x)
      where
        go : {u : Turn} → Running t i k x u → Every P u.entries
        go (goes_on d) = tt
        go (finishes z d) = tt
        go (writes_at_once z d) = writes_every f (writes_of k.outputs (finish k x).held)

-- ---- the steps
module _ (P : Entry → Type 0) (plan : Plan) (act : Act) where
  -- no record of a turn takes one back: what holds of all held of those before
  pub each-earlier : (is : List ℕ) (m : Moment) → Every P (each plan act is m).entries → Every P m.entries
  unfolding each
  each-earlier [] m h = h
  each-earlier (i ∷ is) m h = (every_append P m.entries _ (each-earlier is (visit plan act i m) h)).0

  -- the same of the running task's turn
  pub if_earlier : (o : Option ℕ) (m : Moment) → Every P (visit_if plan act o m).entries → Every P m.entries
  unfolding visit_if
  if_earlier none m h = h
  if_earlier (some i) m h = (every_append P m.entries _ h).0

  module _ (turn : (i : ℕ) (x : TaskState) → Every P (act i (task_at plan i) x).entries) where
    -- one task
    visit-every : (i : ℕ) (m : Moment) → Every P m.entries → Every P (visit plan act i m).entries
    visit-every i m h = every_join P m.entries _ h (turn i (state_at m.tasks i))

    -- tasks in turn
    pub each-every : (is : List ℕ) (m : Moment) → Every P m.entries → Every P (each plan act is m).entries
    unfolding each
    each-every [] m h = h
    each-every (i ∷ is) m h = each-every is (visit plan act i m) (visit-every i m h)

    -- the running task, if any
    pub if_every : (o : Option ℕ) (m : Moment) → Every P m.entries → Every P (visit_if plan act o m).entries
    unfolding visit_if
    if_every none m h = h
    if_every (some i) m h = visit-every i m h

-- ---- a tick: of any task that has a turn in it, at its instant
module _ (P : Entry → Type 0) (plan : Plan) (events : List Event) (s : State)
    (writes : (i signal value : ℕ) → P (write_entry s.tick i signal value)) (others : (i kind : ℕ) → P (entry s.tick kind i)) where
  -- steps 0, 1 and 2, whether a released task waits or its body runs at once
  pub released_every : (start : Task → TaskState → TaskState) → Every P (after_releases start plan events s).entries
  released_every start =
      let t = s.tick in
      let m = deadlines plan events s in
      each-every P plan (release_turn start t m.signals (events_at t events))
      (λ i x. release-every P t i (task_at plan i) x start m.signals (events_at t events) (others i release_kind) (others i overrun_kind) (others i ignored_kind))
      (order plan) m
      (each-every P plan (deadline_turn t) (λ i x. deadline_every P t i (task_at plan i) x (writes i) (λ a. others i miss_kind)) (order plan) (begins events s) tt)

  -- all of it
  pub tick-every : Every P (tick plan events s).entries
  unfolding tick
  tick-every =
      let m = after_releases waits plan events s in
      if_every P plan (run_turn s.tick) (λ i x. run_every P s.tick i (task_at plan i) x (writes i)) (running plan m.tasks) m (released_every waits)

-- "instant": a tick's records have its number
pub tick-instants : (plan : Plan) (events : List Event) (s : State) → Every (λ e. e.instant ≡ s.tick) (tick plan events s).entries
tick-instants plan events s = tick-every (λ e. e.instant ≡ s.tick) plan events s (λ i signal value. refl) (λ i kind. refl)

-- ---- "task": a turn's records are its task's
module _ (t i j : ℕ) (k : Task) (x : TaskState) (d : j ≢ i) where
  -- no record of task i is one of task j
  other : i ≢ j
  other e = d (sym e)

  -- step 1
  pub deadline_owned : own j (deadline_turn t i k x).entries ≡ []
  deadline_owned = own-none j _ (deadline_every (λ e. e.task ≢ j) t i k x (λ s v. other) (λ a. other))

  -- step 2
  pub release-owned : (start : Task → TaskState → TaskState) (signals : List ℕ) (now : List Event) → own j (release_turn start t signals now i k x).entries ≡ []
  release-owned start signals now = own-none j _ (release-every (λ e. e.task ≢ j) t i k x start signals now other other other)

  -- step 3
  pub run_owned : own j (run_turn t i k x).entries ≡ []
  run_owned = own-none j _ (run_every (λ e. e.task ≢ j) t i k x (λ s v. other))
