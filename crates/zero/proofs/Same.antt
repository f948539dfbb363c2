-- Two plans that differ only in execution times and priorities: their zero-time readings leave the same signals and task
-- states, and each task's same records.
use Prim.Native.Nat.{ℕ, zero, suc, ◌+◌}
use mathlib.Core.Path.{◌≡◌, refl, sym, ◌∙◌, ap, ap₂}
use mathlib.Core.Logic.{◌≢◌}
use mathlib.Core.Bool.{Bool, true, false}
use mathlib.Core.List.{List, [], ◌∷◌, map}
use lib.ListN.{length, get_or-eq_default}
use lib.Dec.{ltb}
use borrow.Author.Tests.{ltb-true, ltb-false}
use Rattle.limits.specs.Limits.{max_ports, max_priority, max_tasks, max_signals}
use Rattle.lists.specs.Lists.{Pairwise}
use Rattle.lists.proofs.Laws.{tab-same}
use Rattle.plan.specs.File.{Task, Plan, no_task, task_at, all_outputs}
use Rattle.plan.specs.Order.{numbers, with_priority, in_order, order}
use Rattle.plan.proofs.Order.{Perm}
use Rattle.events.specs.Events.{Event}
use Rattle.body.specs.Body.{Result, body, supervise, control}
use Rattle.state.specs.State.{state_at, value_at, pad, fresh_task, fresh}
use Rattle.state.specs.Steps.{fresh_at}
use Rattle.state.proofs.Laws.{fresh-task_at}
use Rattle.state.specs.declared.Status.TheVariants.{FINISHED}
use Rattle.state.specs.declared.TaskState.{TaskState}
use Rattle.state.specs.declared.State.{State}
use Rattle.tick.specs.Turns.{timed, valued, finish, deadline_turn, release, release_turn}
use Rattle.tick.specs.Tick.{Moment, Act, visit, each, events_at, begins, zero_tick}
use Rattle.tick.proofs.Cases.{deadline_reads, release-reads}
use Rattle.zero.specs.Zero.{ticks, TaskAlike, DifferOnlyInExecutionAndPriority}
use Rattle.zero.specs.Theorems.{ExecutionTimesAreNotRead}
use Rattle.zero.proofs.Plain.{plain_deadlines, plain_releases, plain_tick, Shows, shows_eq, shows_sym, shows_trans, ticks-show}

-- ---- the plain tick reads neither priorities nor execution times
module _ (k l : Task) (same : TaskAlike k l) where
  -- a turn of step 1
  deadline_same : (t i : ℕ) (x : TaskState) → deadline_turn t i k x ≡ deadline_turn t i l x
  deadline_same t i x = deadline_reads t i k l x same.deadline same.outputs

  -- the body
  body_same : (latched : List ℕ) (machine : ℕ) (held : List ℕ) → body k latched machine held ≡ body l latched machine held
  unfolding body supervise control
  body_same latched machine held = rw (same.kind, same.transitions, same.actions)

  -- a released task whose body runs at once: its execution time is not read
  finish-same : (t : ℕ) (signals : List ℕ) (x : TaskState) → finish k (release t signals k x) ≡ finish l (release t signals l x)
  finish-same t signals x =
      ap (λ (inputs : List ℕ). left (latched inputs) (body k (latched inputs) x.machine x.held)) same.inputs
      ∙ ap (left (latched l.inputs)) (body_same (latched l.inputs) x.machine x.held)
    where
      latched : List ℕ → List ℕ
      latched inputs = pad max_ports 0 (map (value_at signals) inputs)

      left : List ℕ → Result → TaskState
      left xs r = timed FINISHED 0 t (valued r.machine xs r.held x)

  -- a turn of step 2
  release-same : (t : ℕ) (signals : List ℕ) (now : List Event) (i : ℕ) (x : TaskState) → release_turn finish t signals now i k x ≡ release_turn finish t signals now i l x
  release-same t signals now i x = release-reads t i k l x same.deadline finish signals now same.period same.offset (finish-same t signals x)

  -- a fresh task
  fresh-same : (signals : List ℕ) → fresh_task signals k ≡ fresh_task signals l
  unfolding fresh_task
  fresh-same signals = rw (same.initial, same.outputs)

-- a task is alike to itself
same_refl : (k : Task) → TaskAlike k k
same_refl k = record { period = refl; deadline = refl; offset = refl; kind = refl; initial = refl; inputs = refl; outputs = refl; transitions = refl; actions = refl }

module _ (plan other : Plan) (same : DifferOnlyInExecutionAndPriority plan other) where
  -- past the last task as well
  tasks_same : (i : ℕ) → TaskAlike (task_at plan i) (task_at other i)
  tasks_same i = go (ltb i (length plan.tasks)) refl
    where
      go : (b : Bool) → ltb i (length plan.tasks) ≡ b → TaskAlike (task_at plan i) (task_at other i)
      go true e = same.tasks i (ltb-true i _ e)
      go false e =
          let past = ltb-false i (length plan.tasks) e in
          rw (get_or-eq_default plan.tasks no_task {n = i} past, get_or-eq_default other.tasks no_task {n = i} (rw (← same.count) past)) (same_refl no_task)

  -- tasks in turn
  each_same : (act : Act) → ((i : ℕ) (x : TaskState) → act i (task_at plan i) x ≡ act i (task_at other i) x)
      → (is : List ℕ) (m : Moment) → each plan act is m ≡ each other act is m
  unfolding each
  each_same act h [] m = refl
  each_same act h (i ∷ is) m = each_same act h is (visit plan act i m) ∙ ap (each other act is) (rw (h i (state_at m.tasks i)))

  -- one tick
  plain_same : (events : List Event) (s : State) → plain_tick plan events s ≡ plain_tick other events s
  unfolding plain_tick plain_releases plain_deadlines
  plain_same events s =
      let t = s.tick in
      let m = begins events s in
      let m₁ = each other (deadline_turn t) (numbers other) m in
      rw (
        same.count,
        each_same (deadline_turn t) (λ i. deadline_same (task_at plan i) (task_at other i) (tasks_same i) t i) (numbers other) m,
        each_same (release_turn finish t m₁.signals (events_at t events))
            (λ i. release-same (task_at plan i) (task_at other i) (tasks_same i) t m₁.signals (events_at t events) i) (numbers other) m₁,
      )

  -- any number of ticks
  plain_ticks : (events : List Event) (n : ℕ) (s : State) → ticks (plain_tick plan events) n s ≡ ticks (plain_tick other events) n s
  unfolding ticks
  plain_ticks events zero s = refl
  plain_ticks events (suc n) s = rw (plain_same events s, plain_ticks events n (plain_tick other events s).state)

  -- the fresh state neither
  starts_same : fresh plan ≡ fresh other
  unfolding fresh
  starts_same =
      ap₂ (λ (g : List ℕ) (xs : List TaskState). record { tick = 0; place = 0; signals = pad max_signals 0 g; tasks = xs }) same.signals
      (tab-same _ _ 0 max_tasks (λ i. fresh-task_at plan i ∙ at i ∙ sym (fresh-task_at other i)))
    where
      at : (i : ℕ) → fresh_at plan i ≡ fresh_at other i
      at i = rw (same.signals, same.count, fresh-same (task_at plan i) (task_at other i) (tasks_same i) other.signals)

-- ---- two plans that differ only in execution times and priorities, under the same events: after any number of ticks of their
-- zero-time readings, the same state and each task's same records
pub zero_same : (plan other : Plan) → DifferOnlyInExecutionAndPriority plan other → Perm (order plan) (numbers plan) → Perm (order other) (numbers other)
    → Pairwise ◌≢◌ (all_outputs plan.tasks) → Pairwise ◌≢◌ (all_outputs other.tasks)
    → (events : List Event) (n : ℕ) → Shows (ticks (zero_tick plan events) n (fresh plan)) (ticks (zero_tick other events) n (fresh other))
zero_same plan other same o o' r r' events n =
    let e = ap (ticks (plain_tick plan events) n) (starts_same plan other same) ∙ plain_ticks plan other same events n (fresh other) in
    shows_trans (ticks-show plan events o r n (fresh plan)) (shows_trans (shows_eq e) (shows_sym (ticks-show other events o' r' n (fresh other))))

-- ---- "execution times are not read": where the priorities are the same as well, so is everything
module _ (plan other : Plan) (same : DifferOnlyInExecutionAndPriority plan other) (ranked : (i : ℕ) → (task_at plan i).priority ≡ (task_at other i).priority) where
  -- those of one priority
  with_same : (p : ℕ) (is : List ℕ) → with_priority plan p is ≡ with_priority other p is
  unfolding with_priority
  with_same p [] = refl
  with_same p (i ∷ is) = rw (ranked i, with_same p is)

  -- those of n priorities
  in_order_same : (p n : ℕ) (is : List ℕ) → in_order plan p n is ≡ in_order other p n is
  unfolding in_order
  in_order_same p zero is = refl
  in_order_same p (suc n) is = rw (with_same p is, in_order_same (p + 1) n is)

  -- all tasks
  order_same : order plan ≡ order other
  unfolding order
  order_same = rw same.count (in_order_same 1 max_priority (numbers other))

  -- one tick of the zero-time reading
  tick-same : (events : List Event) (s : State) → zero_tick plan events s ≡ zero_tick other events s
  unfolding zero_tick
  tick-same events s =
      let t = s.tick in
      let m = begins events s in
      let m₁ = each other (deadline_turn t) (order other) m in
      rw (
        order_same,
        each_same plan other same (deadline_turn t) (λ i. deadline_same (task_at plan i) (task_at other i) (tasks_same plan other same i) t i) (order other) m,
        each_same plan other same (release_turn finish t m₁.signals (events_at t events))
            (λ i. release-same (task_at plan i) (task_at other i) (tasks_same plan other same i) t m₁.signals (events_at t events) i) (order other) m₁,
      )

  -- any number of ticks from any state
  ticks-same : (events : List Event) (n : ℕ) (s : State) → ticks (zero_tick plan events) n s ≡ ticks (zero_tick other events) n s
  unfolding ticks
  ticks-same events zero s = refl
  ticks-same events (suc n) s = rw (tick-same events s, ticks-same events n (zero_tick other events s).state)

-- and from the fresh state
pub execution_not_read : ExecutionTimesAreNotRead
execution_not_read plan other same ranked events n =
    ap (ticks (zero_tick plan events) n) (starts_same plan other same) ∙ ticks-same plan other same ranked events n (fresh other)
