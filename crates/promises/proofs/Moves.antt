-- A move is seen whole or not at all: from a fresh start, after every tick of every run, misses or not, listed outputs that only
-- moves touch add up to what they were at first. So 'the east safe debited and the west safe not yet credited' is never what a
-- reader of the signals sees.
use Prim.Native.Nat.{ℕ, ◌<◌}
use mathlib.Core.Path.{◌≡◌, ◌∙◌, subst, subst⁻¹}
use mathlib.Core.Logic.{◌≢◌, ◌⊎◌, inl, inr}
use mathlib.Core.List.{List}
use native.Mathlib.Omega.{arith}
use native.Mathlib.Decide.{ℕ_discrete}
use lib.ListN.{length, get_or, set, length-set}
use lib.Seq.{get_or-set_other}
use Rattle.limits.specs.Limits.{max_signals}
use Rattle.lists.proofs.Tests.{every_weaker}
use Rattle.plan.specs.File.{Task, Plan, plan_of, task_at}
use Rattle.plan.specs.Rules.{plan_verdict}
use Rattle.plan.specs.Order.{order}
use Rattle.plan.proofs.Order.{order_below}
use Rattle.plan.proofs.Tasks.{in_plan, body_of, few_outputs, outputs_below, outputs_differ, output_apart}
use Rattle.events.specs.Events.{Event, events_of}
use Rattle.events.specs.Accepted.{Sets, AcceptedEvents}
use Rattle.events.proofs.Sets.{each-sets}
use Rattle.state.specs.State.{value_at, state_at}
use Rattle.state.specs.declared.TaskState.{TaskState}
use Rattle.state.specs.declared.State.{State}
use Rattle.tick.specs.Turns.{Turn, finish, writes_of, deadline_turn, release, waits, release_turn, run_turn}
use Rattle.tick.specs.Tick.{Moment, Act, write_all, visit, events_at, set_now, begins, deadlines, after_releases, runs, tick}
use Rattle.tick.proofs.Values.{SameValues, deadline_values, release-values, run_values, NothingWritten, AllWritten, deadline_writing, release-writing, run_writing}
use Rattle.tick.proofs.Writes.{every_now, set_keeps, writes_none, written_length, unwritten, written}
use Rattle.tick.proofs.Signals.{deadline_signals, release-signals, run_signals}
use Rattle.tick.proofs.View.{each_keeps, runs-keeps, visit-same, visit-other, visit-length}
use Rattle.promises.specs.Promises.{total_of, OnlyMoves}
use Rattle.promises.proofs.Sums.{sum_same, Holds, body-holds}

module _ (plan_bytes : List ℕ) (good : (plan_verdict plan_bytes).number ≡ 0) (i : ℕ) (li : i < length (plan_of plan_bytes).tasks) (ps : List ℕ)
    (only : OnlyMoves (task_at (plan_of plan_bytes) i) ps) where
  abbrev plan : Plan
  plan = plan_of plan_bytes

  -- the task
  abbrev k : Task
  k = task_at plan i

  -- what they add up to at first
  abbrev pub total : ℕ
  total = total_of plan i ps plan.signals

  -- the signals show it
  record Shown (g : List ℕ) : Type 0 where
    size : length g ≡ max_signals
    sum : total_of plan i ps g ≡ total

  -- signals of which the listed ones are as they were
  shown_same : (g g' : List ℕ) → length g' ≡ length g
      → ((p : ℕ) → p < length k.outputs → get_or g' (get_or k.outputs p 0) 0 ≡ get_or g (get_or k.outputs p 0) 0) → Shown g → Shown g'
  shown_same g g' size same h = record {
    size = size ∙ h.size;
    sum =
        sum_same (λ p. value_at g' (get_or k.outputs p 0)) (λ p. value_at g (get_or k.outputs p 0)) ps
        (every_weaker (λ p. p < length k.outputs) (λ p. value_at g' (get_or k.outputs p 0) ≡ value_at g (get_or k.outputs p 0)) same ps only.outputs)
        ∙ h.sum;
  }

  -- another task writes
  others_write : (j : ℕ) → j < length plan.tasks → i ≢ j → (held g : List ℕ) → Shown g → Shown (write_all (writes_of (task_at plan j).outputs held) g)
  others_write j lj d held g h =
      shown_same g _ (written_length (task_at plan j).outputs held g)
      (λ p l. unwritten (get_or k.outputs p 0) (task_at plan j).outputs held g (output_apart plan_bytes good i j p li lj d l)) h

  -- the task itself writes: all its held outputs, at once
  itself_writes : (held g : List ℕ) → Holds ps total held → Shown g → Shown (write_all (writes_of k.outputs held) g)
  itself_writes held g a h =
      let size = h.size in
      let size' = a.size in
      let most = few_outputs plan_bytes good i li in
      record {
        size = written_length k.outputs held g ∙ h.size;
        sum =
            sum_same (λ p. value_at (write_all (writes_of k.outputs held) g) (get_or k.outputs p 0)) (λ p. get_or held p 0) ps
            (every_weaker (λ p. p < length k.outputs) _
            (λ p l. written k.outputs held g (outputs_differ plan_bytes good i li) (omega arith) (rw h.size (outputs_below plan_bytes good i li)) p l) ps only.outputs)
            ∙ a.sum;
      }

  -- ---- turns
  -- what a turn of the task leaves
  abbrev Fine : Turn → List ℕ → Type 0
  Fine u g = Holds ps total u.state.held × Shown (write_all u.writes g)

  -- it writes nothing, or the held outputs that it leaves
  turn_fine : (t : ℕ) (u : Turn) (g : List ℕ) {A : Type 0} → NothingWritten u ⊎ (A × AllWritten t i k u) → Holds ps total u.state.held → Shown g → Fine u g
  turn_fine t u g (inl n) a h = (a, subst⁻¹ (λ ws. Shown (write_all ws g)) n.writes (subst⁻¹ Shown (writes_none g) h))
  turn_fine t u g (inr w) a h = (a, subst⁻¹ (λ ws. Shown (write_all ws g)) w.1.writes (itself_writes u.state.held g a h))

  module _ (x : TaskState) (g : List ℕ) (a : Holds ps total x.held) (h : Shown g) where
    -- the same held outputs
    kept : (y : TaskState) → SameValues x y → Holds ps total y.held
    kept y e = subst⁻¹ (Holds ps total) e.held a

    -- step 1
    deadline_fine : (t : ℕ) → Fine (deadline_turn t i k x) g
    deadline_fine t = turn_fine t _ g (deadline_writing t i k x) (kept _ (deadline_values t i k x)) h

    -- step 2
    release-fine : (t : ℕ) (signals : List ℕ) (now : List Event) → Fine (release_turn waits t signals now i k x) g
    release-fine t signals now = turn_fine t u g {A = Unit {0}} (inl (release-writing waits t signals now i k x)) (go (release-values waits t signals now i k x)) h
      where
        u : Turn
        u = release_turn waits t signals now i k x

        go : SameValues x u.state ⊎ (u.state ≡ waits k (release t signals k x)) → Holds ps total u.state.held
        go (inl e) = kept u.state e
        go (inr e) = subst⁻¹ (λ (y : TaskState). Holds ps total y.held) e a

    -- "its body runs once"
    finished : Holds ps total (finish k x).held
    finished = body-holds ps total (length plan.signals) k (body_of plan_bytes good i li) (few_outputs plan_bytes good i li) only x.latched x.machine x.held a

    -- step 3
    run_fine : (t : ℕ) → Fine (run_turn t i k x) g
    run_fine t = turn_fine t u g (run_writing t i k x) (go (run_values t i k x)) h
      where
        u : Turn
        u = run_turn t i k x

        go : SameValues x u.state ⊎ SameValues (finish k x) u.state → Holds ps total u.state.held
        go (inl e) = kept u.state e
        go (inr e) = subst⁻¹ (Holds ps total) e.held finished

  -- ---- moments
  record Whole (m : Moment) : Type 0 where
    there : i < length m.tasks
    held : Holds ps total (state_at m.tasks i).held
    signals : Shown m.signals

  module _ (act : Act) (own : (x : TaskState) (g : List ℕ) → Holds ps total x.held → Shown g → Fine (act i k x) g)
      (other : (j : ℕ) → j < length plan.tasks → i ≢ j → (x : TaskState) (g : List ℕ) → Shown g → Shown (write_all (act j (task_at plan j) x).writes g)) where
    -- one task's turn
    visit-whole : (j : ℕ) (m : Moment) → j < length plan.tasks → Whole m → Whole (visit plan act j m)
    visit-whole j m l h = go (ℕ_discrete i j)
      where
        at_i : Whole (visit plan act i m)
        at_i =
            let u = own (state_at m.tasks i) m.signals h.held h.signals in
            let there = h.there in
            record {
              there = let size = visit-length plan act i m in omega arith;
              held = subst⁻¹ (λ y. Holds ps total y.held) (visit-same plan act i m h.there) u.0;
              signals = u.1;
            }

        go : Dec (i ≡ j) → Whole (visit plan act j m)
        go (yes e) = subst (λ q. Whole (visit plan act q m)) e at_i
        go (no d) =
            let there = h.there in
            record {
              there = let size = visit-length plan act j m in omega arith;
              held = subst⁻¹ (λ y. Holds ps total y.held) (visit-other plan act j i m d) h.held;
              signals = other j l d (state_at m.tasks j) m.signals h.signals;
            }

  -- ---- one tick, with accepted events
  -- a state of which the task's held outputs and the signals show the total
  pub record WholeState (s : State) : Type 0 where
    pub there : i < length s.tasks
    pub held : Holds ps total (state_at s.tasks i).held
    pub size : length s.signals ≡ max_signals
    pub sum : total_of plan i ps s.signals ≡ total

  module _ (event_bytes : List ℕ) (list : AcceptedEvents plan_bytes event_bytes) where
    abbrev events : List Event
    events = events_of event_bytes

    -- "Kind 2 sets a signal that no task writes."
    set_shown : (t : ℕ) (g : List ℕ) → Shown g → Shown (set_now (events_at t events) g)
    set_shown t =
        set_keeps Shown (events_at t events)
        (every_weaker (λ e. e.kind ≡ 2 → Sets plan_bytes e) (λ e. e.kind ≡ 2 → (g : List ℕ) → Shown g → Shown (set g e.target e.value))
        (λ e f two g h. shown_same g _ (length-set g e.target e.value) (λ p l. get_or-set_other g e.target (get_or k.outputs p 0) e.value 0 ((f two).unwritten i p (in_plan plan_bytes good i li) l)) h)
        (events_at t events) (every_now (λ e. e.kind ≡ 2 → Sets plan_bytes e) t events (each-sets plan_bytes event_bytes list)))

    -- all steps of a tick
    pub tick-whole : (s : State) → WholeState s → WholeState (tick plan events s).state
    unfolding tick
    tick-whole s h =
        let t = s.tick in
        let m₁ = deadlines plan events s in
        let w₀ : Whole (begins events s)
        = record { there = h.there; held = h.held; signals = set_shown t s.signals (record { size = h.size; sum = h.sum }) } in
        let w₁ : Whole m₁
        = each_keeps plan (deadline_turn t) Whole (λ j. j < length plan.tasks)
        (visit-whole (deadline_turn t) (λ x g a b. deadline_fine x g a b t) (λ j l d x g b. deadline_signals Shown t j (task_at plan j) x g b (λ held. others_write j l d held g b)))
        (order plan) _ (order_below plan) w₀ in
        let w₂ : Whole (after_releases waits plan events s)
        = each_keeps plan (release_turn waits t m₁.signals (events_at t events)) Whole (λ j. j < length plan.tasks)
        (visit-whole (release_turn waits t m₁.signals (events_at t events))
        (λ x g a b. release-fine x g a b t m₁.signals (events_at t events))
        (λ j l d x g b. release-signals Shown t j (task_at plan j) x g b waits m₁.signals (events_at t events)))
        (order plan) m₁ (order_below plan) w₁ in
        let w₃ : Whole (runs plan t (after_releases waits plan events s))
        = runs-keeps plan t Whole (after_releases waits plan events s)
        (λ j q w. visit-whole (run_turn t) (λ x g a b. run_fine x g a b t) (λ j l d x g b. run_signals Shown t j (task_at plan j) x g b (λ held. others_write j l d held g b)) j (after_releases waits plan events s) q.1 w)
        w₂ in
        record { there = w₃.there; held = w₃.held; size = w₃.signals.size; sum = w₃.signals.sum }
