-- "Nothing misses in it": no record of the zero-time reading is a miss, whatever the plan and the events.
use Prim.Native.Nat.{ℕ, zero, suc, ◌+◌}
use mathlib.Core.Path.{◌≡◌, refl, sym, ap, ◌∙◌}
use mathlib.Core.Logic.{◌≢◌}
use mathlib.Core.List.{List, [], ◌∷◌}
use native.Mathlib.Omega.{arith}
use lib.ListN.{set}
use Rattle.limits.specs.Limits.{max_tasks}
use Rattle.lists.specs.Lists.{tab, Every}
use Rattle.lists.proofs.Tests.{every_join}
use Rattle.plan.specs.File.{Task, Plan, plan_of, task_at}
use Rattle.plan.specs.Order.{order}
use Rattle.events.specs.Events.{Event, events_of}
use Rattle.trace.specs.Trace.{miss_kind}
use Rattle.state.specs.State.{state_at, fresh}
use Rattle.state.specs.declared.Status.TheVariants.{READY, ACTIVE, FINISHED, ERROR}
use Rattle.state.specs.declared.TaskState.{TaskState}
use Rattle.state.specs.declared.State.{State}
use Rattle.state.proofs.Statuses.{ready-active, active-finished, active-error}
use Rattle.tick.specs.Turns.{Turn, finish, deadline_turn, release_turn}
use Rattle.tick.specs.Tick.{Moment, Act, visit, each, events_at, deadlines, zero_tick}
use Rattle.tick.proofs.Cases.{Release, starts, overruns, stays, release-is}
use Rattle.tick.proofs.Records.{deadline_every, release-every}
use Rattle.tick.proofs.Active.{deadline_active}
use Rattle.zero.specs.Zero.{NoMiss, ticks}
use Rattle.zero.specs.Theorems.{NothingMissesInIt}
use Rattle.zero.proofs.Ahead.{get_or-ready}

-- a task that is not ACTIVE
abbrev Calm : TaskState → Type 0
Calm x = x.status ≢ ACTIVE

-- a turn after which it is not, and without a miss
abbrev CalmTurn : Turn → Type 0
CalmTurn u = Calm u.state × NoMiss u.entries

-- ---- one turn
-- step 1 of a task that is not ACTIVE
deadline_calm : (t i : ℕ) (k : Task) (x : TaskState) → Calm x → CalmTurn (deadline_turn t i k x)
deadline_calm t i k x h = (
  λ e. h (ap (λ (y : TaskState). y.status) (sym (deadline_active t i k x e)) ∙ e),
  deadline_every (λ e. e.kind ≢ miss_kind) t i k x (λ s v e. absurd (omega (arith, e))) (λ a. absurd (h a)),
)

-- step 2, where a released body runs at once
release-calm : (t : ℕ) (signals : List ℕ) (now : List Event) (i : ℕ) (k : Task) (x : TaskState) → Calm x → CalmTurn (release_turn finish t signals now i k x)
release-calm t signals now i k x h = (
  go (release-is finish t signals now i k x),
  release-every (λ e. e.kind ≢ miss_kind) t i k x finish signals now (λ e. absurd (omega (arith, e))) (λ e. absurd (omega (arith, e))) (λ e. absurd (omega (arith, e))),
)
  where
    go : {u : Turn} → Release finish t signals now i k x u → Calm u.state
    go (starts e a) = λ f. active-finished FINISHED f refl
    go (overruns e p d a) = λ f. active-error ERROR f refl
    go (stays u) = h

-- ---- all tasks
-- each task of a list
calm_at : (xs : List TaskState) (i : ℕ) → Every Calm xs → Calm (state_at xs i)
calm_at [] i h = ready-active READY refl
calm_at (x ∷ xs) zero h = h.0
calm_at (x ∷ xs) (suc i) h = calm_at xs i h.1

-- one task set
calm_set : (xs : List TaskState) (i : ℕ) (v : TaskState) → Calm v → Every Calm xs → Every Calm (set xs i v)
calm_set [] i v c h = tt
calm_set (x ∷ xs) zero v c h = (c, h.1)
calm_set (x ∷ xs) (suc i) v c h = (h.0, calm_set xs i v c h.1)

-- no task ACTIVE, and no miss so far
abbrev CalmMoment : Moment → Type 0
CalmMoment m = Every Calm m.tasks × NoMiss m.entries

-- tasks in turn
each-calm : (plan : Plan) (act : Act) → ((i : ℕ) (k : Task) (x : TaskState) → Calm x → CalmTurn (act i k x)) → (is : List ℕ) (m : Moment)
    → CalmMoment m → CalmMoment (each plan act is m)
unfolding each
each-calm plan act turn [] m h = h
each-calm plan act turn (i ∷ is) m h =
    let c = turn i (task_at plan i) (state_at m.tasks i) (calm_at m.tasks i h.0) in
    each-calm plan act turn is (visit plan act i m) (calm_set m.tasks i _ c.0 h.0, every_join (λ e. e.kind ≢ miss_kind) m.entries _ h.1 c.1)

-- ---- n ticks
module _ (plan : Plan) (events : List Event) where
  -- one tick of the zero-time reading
  tick_calm : (s : State) → Every Calm s.tasks → Every Calm (zero_tick plan events s).state.tasks × NoMiss (zero_tick plan events s).entries
  unfolding zero_tick
  tick_calm s h =
      let t = s.tick in
      let m = deadlines plan events s in
      let c = each-calm plan (deadline_turn t) (deadline_calm t) (order plan) _ (h, tt) in
      each-calm plan (release_turn finish t m.signals (events_at t events)) (release-calm t m.signals (events_at t events)) (order plan) m c

  -- any number of them
  ticks-calm : (n : ℕ) (s : State) → Every Calm s.tasks → NoMiss (ticks (zero_tick plan events) n s).entries
  unfolding ticks
  ticks-calm zero s h = tt
  ticks-calm (suc n) s h =
      let u = zero_tick plan events s in
      let c = tick_calm s h in
      every_join (λ e. e.kind ≢ miss_kind) u.entries _ c.1 (ticks-calm n u.state c.0)

-- a list of READY tasks
tab-calm : (f : ℕ → TaskState) → ((i : ℕ) → (f i).status ≡ READY) → (i n : ℕ) → Every Calm (tab f i n)
unfolding tab
tab-calm f h i zero = tt
tab-calm f h i (suc n) = (ready-active (f i).status (h i), tab-calm f h (i + 1) n)

-- the fresh state
fresh-calm : (plan : Plan) → Every Calm (fresh plan).tasks
unfolding fresh
fresh-calm plan = tab-calm _ (get_or-ready plan.signals plan.tasks) 0 max_tasks

-- so no run of it has one
pub nothing_misses : NothingMissesInIt
nothing_misses plan_bytes event_bytes n =
    ticks-calm (plan_of plan_bytes) (events_of event_bytes) n (fresh (plan_of plan_bytes)) (fresh-calm (plan_of plan_bytes))
