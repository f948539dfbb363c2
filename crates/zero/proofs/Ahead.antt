-- One plan: the kernel's ticks are those of the zero-time reading, as long as no deadline is missed. The zero-time state is the
-- kernel's state with every ACTIVE task's body already run.
use Prim.Native.Nat.{ℕ, zero, suc, ◌+◌, ◌-◌}
use mathlib.Core.Path.{◌≡◌, refl, sym, ◌∙◌, ap, subst⁻¹}
use mathlib.Core.Logic.{◌≢◌, inl, inr}
use mathlib.Core.Bool.{true, false}
use mathlib.Core.List.{List, [], ◌∷◌, map, append-nil}
use mathlib.Core.Option.{Option, none, some}
use lib.ListN.{get_or, set}
use lib.Seq.{set-get_or}
use Rattle.limits.specs.Limits.{max_tasks}
use Rattle.lists.specs.Lists.{tab, Every, If}
use Rattle.lists.proofs.Tests.{every_all, every_append, every_weaker}
use Rattle.plan.specs.File.{Task, Plan, no_task, task_at}
use Rattle.plan.specs.Order.{numbers, order}
use Rattle.events.specs.Events.{Event}
use Rattle.trace.specs.Trace.{miss_kind}
use Rattle.trace.specs.declared.Entry.{Entry}
use Rattle.state.specs.State.{state_at, nowhere, idle, fresh_task, fresh}
use Rattle.state.specs.Fitting.{InFlight}
use Rattle.state.specs.declared.Status.{Status}
use Rattle.state.specs.declared.Status.TheVariants.{READY, ACTIVE, FINISHED, ERROR}
use Rattle.state.specs.declared.TaskState.{TaskState}
use Rattle.state.specs.declared.State.{State}
use Rattle.state.proofs.Statuses.{ready-active, ready-finished, active-finished, active-error}
use Rattle.tick.specs.Turns.{Turn, quiet, finish, write_out, at_deadline, deadline_turn, waits, release_turn, is_active, loses, run_turn}
use Rattle.tick.specs.Tick.{Moment, Act, write_all, visit, each, events_at, begins, deadlines, releases, after_releases, running, visit_if, runs, Ticked, ends, tick, zero_tick}
use Rattle.tick.proofs.Cases.{active-is, Deadline, rests, misses, writes, deadline_is, deadline_ready, deadline_error, deadline_later, deadline_written}
use Rattle.tick.proofs.Cases.{calls_now, start_turn, Release, starts, overruns, stays, release-is, release-asked, release-stays, Running, goes_on, finishes, writes_at_once, run_is}
use Rattle.tick.proofs.Records.{each-earlier, if_earlier}
use Rattle.tick.proofs.Urgent.{urgent_is}
use Rattle.zero.specs.Zero.{NoMiss, ticks}

-- ---- the kernel's state with every ACTIVE task's body already run
unfoldable pub ahead_of : Status → Task → TaskState → TaskState
ahead_of READY k x = x
ahead_of ACTIVE k x = finish k x
ahead_of FINISHED k x = x
ahead_of ERROR k x = x

-- one task state
abbrev pub ahead : Task → TaskState → TaskState
ahead k x = ahead_of x.status k x

-- a list of task states, beside the tasks of a plan
unfoldable pub ahead_all : List Task → List TaskState → List TaskState
ahead_all ks [] = []
ahead_all [] (x ∷ xs) = ahead no_task x ∷ ahead_all [] xs
ahead_all (k ∷ ks) (x ∷ xs) = ahead k x ∷ ahead_all ks xs

-- the state that a turn leaves
abbrev ahead_turn : Task → Turn → Turn
ahead_turn k u = record { state = ahead k u.state; writes = u.writes; entries = u.entries }

-- what the steps of a tick change
abbrev ahead_moment : Plan → Moment → Moment
ahead_moment plan m = record { signals = m.signals; tasks = ahead_all plan.tasks m.tasks; entries = m.entries }

-- the state of the kernel
abbrev pub ahead_state : Plan → State → State
ahead_state plan s = record { tick = s.tick; place = s.place; signals = s.signals; tasks = ahead_all plan.tasks s.tasks }

-- what a tick leaves
abbrev pub ahead_ticked : Plan → Ticked → Ticked
ahead_ticked plan u = record { state = ahead_state plan u.state; entries = u.entries }

-- ---- lists of task states: reading one, and setting one
-- reading one
get_ahead : (ks : List Task) (xs : List TaskState) (i : ℕ) → get_or (ahead_all ks xs) i nowhere ≡ ahead (get_or ks i no_task) (get_or xs i nowhere)
unfolding ahead_all ahead_of
get_ahead ks [] i = refl
get_ahead [] (x ∷ xs) zero = refl
get_ahead [] (x ∷ xs) (suc i) = get_ahead [] xs i
get_ahead (k ∷ ks) (x ∷ xs) zero = refl
get_ahead (k ∷ ks) (x ∷ xs) (suc i) = get_ahead ks xs i

-- setting one
set_ahead : (ks : List Task) (xs : List TaskState) (i : ℕ) (v : TaskState) → set (ahead_all ks xs) i (ahead (get_or ks i no_task) v) ≡ ahead_all ks (set xs i v)
unfolding ahead_all
set_ahead ks [] i v = refl
set_ahead [] (x ∷ xs) zero v = refl
set_ahead [] (x ∷ xs) (suc i) v = ap {B = List TaskState} (λ r. ahead no_task x ∷ r) (set_ahead [] xs i v)
set_ahead (k ∷ ks) (x ∷ xs) zero v = refl
set_ahead (k ∷ ks) (x ∷ xs) (suc i) v = ap {B = List TaskState} (λ r. ahead k x ∷ r) (set_ahead ks xs i v)

-- ---- one task, one turn
-- a body leaves the release instant
ahead_release : (k : Task) (x : TaskState) → (ahead k x).release ≡ x.release
unfolding ahead_of
ahead_release k x = elim x.status as (λ p. (ahead_of p k x).release ≡ x.release) [ READY ↦ refl | ACTIVE ↦ refl | FINISHED ↦ refl | ERROR ↦ refl ]

-- an ACTIVE task's body is run
active-ahead : (k : Task) (x : TaskState) → x.status ≡ ACTIVE → ahead k x ≡ finish k x
unfolding ahead_of
active-ahead k x e = rw e

-- any other is as it was
pub same_ahead : (k : Task) (x : TaskState) → x.status ≢ ACTIVE → ahead k x ≡ x
unfolding ahead_of
same_ahead k x d = go x.status d
  where
    go : (p : Status) → p ≢ ACTIVE → ahead_of p k x ≡ x
    go READY d = refl
    go ACTIVE d = absurd (d refl)
    go FINISHED d = refl
    go ERROR d = refl

-- none becomes READY by it
ahead_ready : (k : Task) (x : TaskState) → (ahead k x).status ≡ READY → x.status ≡ READY
unfolding ahead_of
ahead_ready k x h = go x.status refl h
  where
    go : (p : Status) → x.status ≡ p → (ahead_of p k x).status ≡ READY → x.status ≡ READY
    go READY e h = e
    go ACTIVE e h = absurd (ready-finished FINISHED h refl)
    go FINISHED e h = h
    go ERROR e h = h

-- step 1: where nothing is missed, a task whose body is run already does the same
deadline_ahead : (t i : ℕ) (k : Task) (x : TaskState) → NoMiss (deadline_turn t i k x).entries → deadline_turn t i k (ahead k x) ≡ ahead_turn k (deadline_turn t i k x)
unfolding ahead_of
deadline_ahead t i k x h = go (deadline_is t i k x) h
  where
    -- at rest: it is as it was
    resting : deadline_turn t i k x ≡ quiet x → x.status ≢ ACTIVE → deadline_turn t i k (ahead k x) ≡ quiet (ahead k x)
    resting q d = subst⁻¹ (λ (y : TaskState). deadline_turn t i k y ≡ quiet y) (same_ahead k x d) q

    -- in flight: its deadline is not now
    flying : at_deadline t k x.release ≡ false → deadline_turn t i k (ahead k x) ≡ quiet (ahead k x)
    flying z = deadline_later t i k (ahead k x) (ap (at_deadline t k) (ahead_release k x) ∙ z)

    calm : (p : Status) → x.status ≡ p → (InFlight x.status → at_deadline t k x.release ≡ false) → deadline_turn t i k (ahead k x) ≡ quiet (ahead k x)
    calm READY e f = resting (deadline_ready t i k x e) (ready-active x.status e)
    calm ACTIVE e f = flying (f (inl e))
    calm FINISHED e f = flying (f (inr e))
    calm ERROR e f = resting (deadline_error t i k x e) (λ a. active-error x.status a e)

    go : {u : Turn} → Deadline t i k x u → NoMiss u.entries → deadline_turn t i k (ahead k x) ≡ ahead_turn k u
    go (rests f) g = calm x.status refl f
    go (misses a z) g = absurd (g.0 refl)
    go (writes e z) g =
        subst⁻¹ (λ (y : TaskState). deadline_turn t i k y ≡ ahead_turn k (write_out t i k x)) (same_ahead k x (λ a. active-finished x.status a e))
        (deadline_written t i k x e z)

-- step 2: a task that waits, seen with its body run, is a task whose body runs at once
release-ahead : (t : ℕ) (signals : List ℕ) (now : List Event) (i : ℕ) (k : Task) (x : TaskState) → k.deadline ≢ 0
    → release_turn finish t signals now i k (ahead k x) ≡ ahead_turn k (release_turn waits t signals now i k x)
unfolding ahead_of
release-ahead t signals now i k x d = go (release-is waits t signals now i k x)
  where
    go : {u : Turn} → Release waits t signals now i k x u → release_turn finish t signals now i k (ahead k x) ≡ ahead_turn k u
    go (starts e a) =
        subst⁻¹ (λ (y : TaskState). release_turn finish t signals now i k y ≡ start_turn finish t signals i k x (calls_now i k now - 1))
        (same_ahead k x (ready-active x.status e)) (release-asked finish t signals now i k x e a)
    go (overruns e p z a) = absurd (d z)
    go (stays u) =
        release-stays finish t signals now i k (ahead k x) (record { ready = λ e. u.ready (ahead_ready k x e); active = λ e p z. absurd (d z) })

-- step 3: nothing that the zero-time reading sees
run_ahead : (t i : ℕ) (k : Task) (x : TaskState) → is_active x.status ≡ true → k.deadline ≢ 0 → ahead_turn k (run_turn t i k x) ≡ quiet (ahead k x)
unfolding ahead_of
run_ahead t i k x a d = go (run_is t i k x)
  where
    seen : ahead k x ≡ finish k x
    seen = active-ahead k x (active-is x.status a)

    go : {u : Turn} → Running t i k x u → ahead_turn k u ≡ quiet (ahead k x)
    go (goes_on w) = ap quiet (active-ahead k (loses x) (active-is x.status a) ∙ sym seen)
    go (finishes z w) = ap quiet (sym seen)
    go (writes_at_once z w) = absurd (d w)

-- ---- all tasks, in the order given
-- a turn that agrees for one task agrees for the moment
visit-ahead : (plan : Plan) (act act' : Act) (i : ℕ) (m : Moment)
    → act' i (task_at plan i) (ahead (task_at plan i) (state_at m.tasks i)) ≡ ahead_turn (task_at plan i) (act i (task_at plan i) (state_at m.tasks i))
    → visit plan act' i (ahead_moment plan m) ≡ ahead_moment plan (visit plan act i m)
visit-ahead plan act act' i m h = rw (get_ahead, h, set_ahead)

-- a step: act in the kernel, act' in the zero-time reading; P is what the tasks in turn are known to be, E what their records are
module _ (plan : Plan) (act act' : Act) (P : ℕ → Type 0) (E : Entry → Type 0)
    (agree : (i : ℕ) (x : TaskState) → P i → Every E (act i (task_at plan i) x).entries
    → act' i (task_at plan i) (ahead (task_at plan i) x) ≡ ahead_turn (task_at plan i) (act i (task_at plan i) x)) where
  -- turns that agree for each task agree for all in turn
  each-ahead : (is : List ℕ) (m : Moment) → Every P is → Every E (each plan act is m).entries → each plan act' is (ahead_moment plan m) ≡ ahead_moment plan (each plan act is m)
  unfolding each
  each-ahead [] m d h = refl
  each-ahead (i ∷ is) m d h =
      let now = (every_append E m.entries (act i (task_at plan i) (state_at m.tasks i)).entries (each-earlier E plan act is (visit plan act i m) h)).1 in
      ap (each plan act' is) (visit-ahead plan act act' i m (agree i (state_at m.tasks i) d.0 now)) ∙ each-ahead is (visit plan act i m) d.1 h

-- task i has a deadline
abbrev pub HasDeadline : Plan → ℕ → Type 0
HasDeadline plan i = (task_at plan i).deadline ≢ 0

-- a turn in which nothing happens
visit-quiet : (plan : Plan) (i : ℕ) (m : Moment) → visit plan (λ _ _ x. quiet x) i m ≡ m
unfolding write_all
visit-quiet plan i m = simp (set-get_or, append-nil)

-- step 3, as the zero-time reading sees it
run_one : (plan : Plan) (t : ℕ) (o : Option ℕ) (m : Moment) → If (λ i. (is_active (state_at m.tasks i).status ≡ true) × HasDeadline plan i) o
    → ahead_moment plan (visit_if plan (run_turn t) o m) ≡ ahead_moment plan m
unfolding visit_if
run_one plan t none m h = refl
run_one plan t (some i) m h =
    sym (visit-ahead plan (run_turn t) (λ _ _ x. quiet x) i m (sym (run_ahead t i (task_at plan i) (state_at m.tasks i) h.0 h.1)))
    ∙ visit-quiet plan i (ahead_moment plan m)

-- whichever task runs
runs-quiet : (plan : Plan) (t : ℕ) (m : Moment) → Every (HasDeadline plan) (numbers plan) → ahead_moment plan (runs plan t m) ≡ ahead_moment plan m
runs-quiet plan t m d =
    run_one plan t _ m
    (urgent_is plan (λ i. is_active (state_at m.tasks i).status) (λ i. (is_active (state_at m.tasks i).status ≡ true) × HasDeadline plan i) (numbers plan) none
    (every_weaker (HasDeadline plan) (λ i. is_active (state_at m.tasks i).status ≡ true → (is_active (state_at m.tasks i).status ≡ true) × HasDeadline plan i) (λ i d a. (a, d)) (numbers plan) d) tt)

-- ---- one tick
module _ (plan : Plan) (events : List Event) where
  -- steps 0 and 1, where nothing is missed
  deadlines-ahead : (s : State) → NoMiss (deadlines plan events s).entries → deadlines plan events (ahead_state plan s) ≡ ahead_moment plan (deadlines plan events s)
  deadlines-ahead s h =
      each-ahead plan (deadline_turn s.tick) (deadline_turn s.tick) (λ i. Unit {0}) (λ e. e.kind ≢ miss_kind) (λ i x u g. deadline_ahead s.tick i (task_at plan i) x g)
      (order plan) (begins events s) (every_all (λ i. Unit {0}) (order plan) (λ i. tt)) h

  -- a tick without a miss has none in step 1
  no_miss_first : (s : State) → NoMiss (tick plan events s).entries → NoMiss (deadlines plan events s).entries
  unfolding tick
  no_miss_first s h =
      let E : Entry → Type 0 = λ e. e.kind ≢ miss_kind in
      let m₁ = deadlines plan events s in
      let m₂ = after_releases waits plan events s in
      each-earlier E plan (release_turn waits s.tick m₁.signals (events_at s.tick events)) (order plan) m₁
      (if_earlier E plan (run_turn s.tick) (running plan m₂.tasks) m₂ h)

  module _ (all : Every (HasDeadline plan) (numbers plan)) (d : Every (HasDeadline plan) (order plan)) where
    -- step 2
    releases-ahead : (t : ℕ) (m : Moment) → releases finish plan events t (ahead_moment plan m) ≡ ahead_moment plan (releases waits plan events t m)
    releases-ahead t m =
        each-ahead plan (release_turn waits t m.signals (events_at t events)) (release_turn finish t m.signals (events_at t events)) (HasDeadline plan) (λ e. Unit {0})
        (λ i x e u. release-ahead t m.signals (events_at t events) i (task_at plan i) x e) (order plan) m d
        (every_all (λ e. Unit {0}) (releases waits plan events t m).entries (λ e. tt))

    -- a tick of the kernel whose step 1 has no miss, seen with every body run, is a tick of the zero-time reading
    pub tick-ahead : (s : State) → NoMiss (deadlines plan events s).entries → zero_tick plan events (ahead_state plan s) ≡ ahead_ticked plan (tick plan events s)
    unfolding tick zero_tick
    tick-ahead s h =
        let t = s.tick in
        let m₁ = deadlines plan events s in
        let m₂ = after_releases waits plan events s in
        ap (ends events t) (ap (releases finish plan events t) (deadlines-ahead s h) ∙ releases-ahead t m₁ ∙ sym (runs-quiet plan t m₂ all))

    -- ---- n ticks
    -- n such ticks
    ticks-ahead : (n : ℕ) (s : State) → NoMiss (ticks (tick plan events) n s).entries
        → ticks (zero_tick plan events) n (ahead_state plan s) ≡ ahead_ticked plan (ticks (tick plan events) n s)
    unfolding ticks
    ticks-ahead zero s h = refl
    ticks-ahead (suc n) s h =
        let u = tick plan events s in
        let both = every_append (λ e. e.kind ≢ miss_kind) u.entries (ticks (tick plan events) n u.state).entries h in
        let e = tick-ahead s (no_miss_first s both.0) in
        let r = ticks-ahead n u.state both.1 in
        rw (e, r)

-- ---- a fresh state has no ACTIVE task
-- every task of a fresh state is READY
pub get_or-ready : (signals : List ℕ) (js : List Task) (i : ℕ) → (get_or (map (fresh_task signals) js) i idle).status ≡ READY
unfolding fresh_task
get_or-ready s [] i = refl
get_or-ready s (j ∷ js) zero = refl
get_or-ready s (j ∷ js) (suc i) = get_or-ready s js i

-- a list of READY tasks
tab-ahead : (f : ℕ → TaskState) → ((i : ℕ) → (f i).status ≡ READY) → (ks : List Task) (i n : ℕ) → ahead_all ks (tab f i n) ≡ tab f i n
unfolding ahead_all tab
tab-ahead f h ks i zero = refl
tab-ahead f h [] i (suc n) = rw (same_ahead no_task (f i) (ready-active (f i).status (h i)), tab-ahead f h [] (i + 1) n)
tab-ahead f h (k ∷ ks) i (suc n) = rw (same_ahead k (f i) (ready-active (f i).status (h i)), tab-ahead f h ks (i + 1) n)

-- the fresh state is the same in both
fresh-ahead : (plan : Plan) → ahead_state plan (fresh plan) ≡ fresh plan
unfolding fresh
fresh-ahead plan =
    ap (λ (xs : List TaskState). record { tick = 0; place = 0; signals = (fresh plan).signals; tasks = xs })
    (tab-ahead _ (get_or-ready plan.signals plan.tasks) plan.tasks 0 max_tasks)

-- n ticks of the kernel from the fresh state, with no miss, are n ticks of the zero-time reading
pub zero_time : (plan : Plan) (events : List Event) (n : ℕ) → Every (HasDeadline plan) (numbers plan) → Every (HasDeadline plan) (order plan)
    → NoMiss (ticks (tick plan events) n (fresh plan)).entries
    → ticks (zero_tick plan events) n (fresh plan) ≡ ahead_ticked plan (ticks (tick plan events) n (fresh plan))
zero_time plan events n all d h = ap (ticks (zero_tick plan events) n) (sym (fresh-ahead plan)) ∙ ticks-ahead plan events all d n (fresh plan) h
