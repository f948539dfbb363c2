-- A task's write records of one execution stand together, at one instant, one for each output in position order; and the signals
-- that it writes change all at once.
use Prim.Native.Nat.{ℕ, suc, ◌+◌, ◌≤◌, ◌<◌}
use mathlib.Core.Path.{◌≡◌, refl, sym, ◌∙◌, ap, ap₂, subst, subst⁻¹}
use mathlib.Core.Logic.{◌≢◌, ◌⊎◌, inl, inr}
use mathlib.Core.Bool.{Bool, true, false}
use mathlib.Core.List.{List, [], ◌∷◌, ◌++◌, append_assoc, append-nil}
use mathlib.Core.Option.{Option, none, some}
use native.Mathlib.Omega.{arith}
use native.Mathlib.Nat.{zero-add}
use native.Mathlib.Decide.{ℕ_discrete}
use lib.ListN.{length, get_or, set, length-set}
use lib.Seq.{get_or-set_other}
use lib.Dec.{eqb}
use borrow.Author.Tests.{eqb-true, eqb-false}
use Rattle.limits.specs.Limits.{max_ports, max_signals, max_time}
use Rattle.lists.specs.Lists.{tab, Every, Pairwise, If}
use Rattle.lists.proofs.Tests.{every_at, every_both, every_weaker, every_join}
use Rattle.plan.specs.File.{Task, Plan, plan_of, task_at}
use Rattle.plan.specs.Rules.{plan_verdict}
use Rattle.plan.specs.Order.{order}
use Rattle.plan.proofs.Order.{order_below}
use Rattle.plan.proofs.Tasks.{few_tasks, order-once, in_plan, few_outputs, outputs_below, outputs_differ, output_apart}
use Rattle.events.specs.Events.{Event, events_of}
use Rattle.events.specs.Accepted.{Sets, AcceptedEvents}
use Rattle.events.proofs.Sets.{each-sets}
use Rattle.trace.specs.Trace.{write_kind, write_entry}
use Rattle.trace.specs.declared.Entry.{Entry}
use Rattle.state.specs.State.{value_at, state_at, nowhere}
use Rattle.state.specs.Fitting.{PortSizes, Fits}
use Rattle.state.specs.declared.TaskState.{TaskState}
use Rattle.state.specs.declared.State.{State}
use Rattle.tick.specs.Turns.{Turn, writes_of, deadline_turn, waits, release_turn, run_turn}
use Rattle.tick.specs.Tick.{Moment, Act, write_all, visit, each, events_at, begins, deadlines, releases, after_releases, running, visit_if, runs, tick}
use Rattle.tick.proofs.Values.{write_entries, NothingWritten, AllWritten, deadline_values, deadline_writing, release-writing, run_writing}
use Rattle.tick.proofs.Records.{deadline_every, run_every}
use Rattle.tick.proofs.Writes.{every_now, set_keeps, writes_none, written_length, unwritten, written}
use Rattle.tick.proofs.Signals.{deadline_signals, run_signals}
use Rattle.tick.proofs.Urgent.{Runnable, running-is}
use Rattle.tick.proofs.View.{each_keeps, runs-keeps, released_length, visit-same, visit-other}
use Rattle.promises.specs.Promises.{NoWrite, write_records, Together, held_for, AtOnce, nothing, everything}
use Rattle.promises.proofs.Fitted.{tick-fitting}

-- ---- records
-- the records of writes are one for each output, in position order
writes_are : (t i a : ℕ) (f g : ℕ → ℕ) (outs held : List ℕ) → length outs ≤ length held
    → ((p : ℕ) → p < length outs → get_or outs p 0 ≡ f (a + p)) → ((p : ℕ) → p < length outs → get_or held p 0 ≡ g (a + p))
    → write_entries t i (writes_of outs held) ≡ tab (λ p. write_entry t i (f p) (g p)) a (length outs)
unfolding writes_of tab
writes_are t i a f g [] held few ef eg = refl
writes_are t i a f g (y ∷ ys) [] few ef eg = absurd (omega arith)
writes_are t i a f g (y ∷ ys) (v ∷ vs) few ef eg =
    let z : a + 0 ≡ a = omega arith in
    ap₂ ◌∷◌ (ap₂ (write_entry t i) (ef 0 (omega arith) ∙ ap f z) (eg 0 (omega arith) ∙ ap g z))
    (writes_are t i (a + 1) f g ys vs (omega arith)
    (λ p l. let w : a + suc p ≡ a + 1 + p = omega arith in ef (suc p) (omega arith) ∙ ap f w)
    (λ p l. let w : a + suc p ≡ a + 1 + p = omega arith in eg (suc p) (omega arith) ∙ ap g w))

module _ (plan_bytes : List ℕ) (good : (plan_verdict plan_bytes).number ≡ 0) (i : ℕ) (li : i < length (plan_of plan_bytes).tasks) where
  abbrev plan : Plan
  plan = plan_of plan_bytes

  -- the task
  abbrev k : Task
  k = task_at plan i

  -- the signals that the task writes have values of a rule
  record Values (f : ℕ → ℕ) (g : List ℕ) : Type 0 where
    size : length g ≡ max_signals
    value : (p : ℕ) → p < length k.outputs → value_at g (get_or k.outputs p 0) ≡ f p

  -- signals of which those are as they were
  values_same : (f : ℕ → ℕ) (g g' : List ℕ) → length g' ≡ length g
      → ((p : ℕ) → p < length k.outputs → get_or g' (get_or k.outputs p 0) 0 ≡ get_or g (get_or k.outputs p 0) 0) → Values f g → Values f g'
  values_same f g g' size same h = record { size = size ∙ h.size; value = λ p l. same p l ∙ h.value p l }

  -- another task writes
  others_write : (j : ℕ) → j < length plan.tasks → i ≢ j → (f : ℕ → ℕ) (held g : List ℕ) → Values f g → Values f (write_all (writes_of (task_at plan j).outputs held) g)
  others_write j lj d f held g h =
      values_same f g _ (written_length (task_at plan j).outputs held g)
      (λ p l. unwritten (get_or k.outputs p 0) (task_at plan j).outputs held g (output_apart plan_bytes good i j p li lj d l)) h

  -- f: the values of these signals before the task writes
  module _ (t : ℕ) (f : ℕ → ℕ) where
    -- ---- turns
    -- one that neither writes to its signals nor records a write of it
    record Silent (u : Turn) : Type 0 where
      entries : NoWrite i u.entries
      signals : (v : ℕ → ℕ) (g : List ℕ) → Values v g → Values v (write_all u.writes g)

    -- one that writes its held outputs
    record Writes (held : List ℕ) (u : Turn) : Type 0 where
      entries : u.entries ≡ write_entries t i (writes_of k.outputs held)
      signals : u.writes ≡ writes_of k.outputs held

    -- where nothing is written
    nothing_silent : (u : Turn) → NothingWritten u → Silent u
    nothing_silent u n = record {
      entries = every_weaker (λ e. e.kind ≢ write_kind) (λ e. e.kind ≡ write_kind → e.task ≢ i) (λ e d z. absurd (d z)) u.entries n.entries;
      signals = λ v g h. subst⁻¹ (λ ws. Values v (write_all ws g)) n.writes (subst⁻¹ (Values v) (writes_none g) h);
    }

    -- step 1, of another task
    deadline_other : (j : ℕ) → j < length plan.tasks → i ≢ j → (x : TaskState) → Silent (deadline_turn t j (task_at plan j) x)
    deadline_other j l d x = record {
      entries = deadline_every (λ e. e.kind ≡ write_kind → e.task ≢ i) t j (task_at plan j) x (λ s v z e. d (sym e)) (λ a z e. d (sym e));
      signals = λ v g h. deadline_signals (Values v) t j (task_at plan j) x g h (λ held. others_write j l d v held g h);
    }

    -- of the task itself: it writes only where D > 0
    deadline_own : (x : TaskState) → Silent (deadline_turn t i k x) ⊎ ((k.deadline ≢ 0) × Writes x.held (deadline_turn t i k x))
    deadline_own x = go (deadline_writing t i k x)
      where
        u : Turn
        u = deadline_turn t i k x

        go : NothingWritten u ⊎ ((k.deadline ≢ 0) × AllWritten t i k u) → Silent u ⊎ ((k.deadline ≢ 0) × Writes x.held u)
        go (inl n) = inl (nothing_silent u n)
        go (inr a) = inr (a.0, subst (λ held. Writes held u) (deadline_values t i k x).held (record { entries = a.1.entries; signals = a.1.writes }))

    -- step 2, of any task
    release-silent : (j : ℕ) (signals : List ℕ) (now : List Event) (x : TaskState) → Silent (release_turn waits t signals now j (task_at plan j) x)
    release-silent j signals now x = nothing_silent _ (release-writing waits t signals now j (task_at plan j) x)

    -- step 3, of another task
    run_other : (j : ℕ) → j < length plan.tasks → i ≢ j → (x : TaskState) → Silent (run_turn t j (task_at plan j) x)
    run_other j l d x = record {
      entries = run_every (λ e. e.kind ≡ write_kind → e.task ≢ i) t j (task_at plan j) x (λ s v z e. d (sym e));
      signals = λ v g h. run_signals (Values v) t j (task_at plan j) x g h (λ held. others_write j l d v held g h);
    }

    -- of the task itself: it writes only where D = 0
    run_own : (x : TaskState) → Silent (run_turn t i k x) ⊎ ((k.deadline ≡ 0) × Writes (run_turn t i k x).state.held (run_turn t i k x))
    run_own x = go (run_writing t i k x)
      where
        u : Turn
        u = run_turn t i k x

        go : NothingWritten u ⊎ ((k.deadline ≡ 0) × AllWritten t i k u) → Silent u ⊎ ((k.deadline ≡ 0) × Writes u.state.held u)
        go (inl n) = inl (nothing_silent u n)
        go (inr a) = inr (a.0, record { entries = a.1.entries; signals = a.1.writes })

    -- ---- moments
    -- the task has written nothing
    record Quiet (m : Moment) : Type 0 where
      entries : NoWrite i m.entries
      signals : Values f m.signals

    -- it has written once
    record Done (held : List ℕ) (m : Moment) : Type 0 where
      entries : Together t i k held m.entries
      signals : Values (λ p. get_or held p 0) m.signals

    -- one or the other
    abbrev Either : List ℕ → Moment → Type 0
    Either held m = Quiet m ⊎ Done held m

    module _ (act : Act) where
      silent_quiet : (j : ℕ) (m : Moment) → Silent (act j (task_at plan j) (state_at m.tasks j)) → Quiet m → Quiet (visit plan act j m)
      silent_quiet j m u h = record { entries = every_join _ m.entries _ h.entries u.entries; signals = u.signals f m.signals h.signals }

      silent_either : (held : List ℕ) (j : ℕ) (m : Moment) → Silent (act j (task_at plan j) (state_at m.tasks j)) → Either held m → Either held (visit plan act j m)
      silent_either held j m u (inl h) = inl (silent_quiet j m u h)
      silent_either held j m u (inr h) =
          let es = (act j (task_at plan j) (state_at m.tasks j)).entries in
          let w = h.entries in
          inr (record {
            entries = record {
              earlier = w.earlier;
              later = w.later ++ es;
              split = ap (λ (r : List Entry). r ++ es) w.split ∙ append_assoc (w.earlier ++ write_records t i k held) w.later es;
              none_earlier = w.none_earlier;
              none_later = every_join _ w.later es w.none_later u.entries;
            };
            signals = u.signals (λ p. get_or held p 0) m.signals h.signals;
          })

      -- the task writes
      writes_done : (held : List ℕ) (m : Moment) → length held ≡ max_ports → Writes held (act i k (state_at m.tasks i)) → Quiet m → Done held (visit plan act i m)
      writes_done held m size u h =
          let most = few_outputs plan_bytes good i li in
          let block : (act i k (state_at m.tasks i)).entries ≡ write_records t i k held
          = u.entries
          ∙ writes_are t i 0 (λ p. get_or k.outputs p 0) (λ p. get_or held p 0) k.outputs held (omega arith)
          (λ p l. ap (λ (q : ℕ). get_or k.outputs q 0) (sym (zero-add p))) (λ p l. ap (λ (q : ℕ). get_or held q 0) (sym (zero-add p))) in
          record {
            entries = record {
              earlier = m.entries;
              later = [];
              split = ap (λ (r : List Entry). m.entries ++ r) block ∙ sym (append-nil (m.entries ++ write_records t i k held));
              none_earlier = h.entries;
              none_later = tt;
            };
            signals = subst⁻¹ (λ ws. Values (λ p. get_or held p 0) (write_all ws m.signals)) u.signals (record {
              size = written_length k.outputs held m.signals ∙ h.signals.size;
              value = λ p l. written k.outputs held m.signals (outputs_differ plan_bytes good i li) (omega arith) (rw h.signals.size (outputs_below plan_bytes good i li)) p l;
            });
          }

      -- each task once: the task writes at its turn or not
      each-once : (held : List ℕ) (x : TaskState) → length held ≡ max_ports → Silent (act i k x) ⊎ Writes held (act i k x)
          → ((j : ℕ) → j < length plan.tasks → i ≢ j → (y : TaskState) → Silent (act j (task_at plan j) y))
          → (is : List ℕ) (m : Moment) → Pairwise ◌≢◌ is → Every (λ j. j < length plan.tasks) is → Quiet m → state_at m.tasks i ≡ x → Either held (each plan act is m)
      unfolding each
      each-once held x size own other [] m w q h e = inl h
      each-once held x size own other (j ∷ js) m w q h e =
          go (ℕ_discrete i j) (λ d. each-once held x size own other js (visit plan act j m) w.1 q.1 (silent_quiet j m (other j q.0 d (state_at m.tasks j)) h) (visit-other plan act j i m d ∙ e))
        where
          turn : (y : TaskState) → y ≡ x → Silent (act i k y) ⊎ Writes held (act i k y)
          turn y same = subst⁻¹ (λ z. Silent (act i k z) ⊎ Writes held (act i k z)) same own

          taken : Silent (act i k (state_at m.tasks i)) ⊎ Writes held (act i k (state_at m.tasks i)) → Either held (visit plan act i m)
          taken (inl u) = inl (silent_quiet i m u h)
          taken (inr u) = inr (writes_done held m size u h)

          go : Dec (i ≡ j) → (i ≢ j → Either held (each plan act js (visit plan act j m))) → Either held (each plan act js (visit plan act j m))
          go (yes same) later =
              each_keeps plan act (Either held) (λ n. (n < length plan.tasks) × (i ≢ n)) (λ n m' g r. silent_either held n m' (other n g.0 g.1 (state_at m'.tasks n)) r)
              js (visit plan act j m)
              ((every_both (λ n. n < length plan.tasks) (λ n. i ≢ n) js).1 (q.1, every_weaker (λ n. j ≢ n) (λ n. i ≢ n) (λ n d z. d (sym same ∙ z)) js w.0))
              (subst (λ n. Either held (visit plan act n m)) same (taken (turn (state_at m.tasks i) e)))
          go (no d) later = later d

-- ---- one tick from a state that fits
module _ (plan_bytes event_bytes : List ℕ) (good : (plan_verdict plan_bytes).number ≡ 0) (list : AcceptedEvents plan_bytes event_bytes) (i : ℕ)
    (li : i < length (plan_of plan_bytes).tasks) (s : State) (fit : Fits (plan_of plan_bytes) (events_of event_bytes) s) (early : s.tick < max_time) where
  abbrev the_plan : Plan
  the_plan = plan_of plan_bytes

  -- the events
  abbrev events : List Event
  events = events_of event_bytes

  -- the tick
  abbrev t : ℕ
  t = s.tick

  -- the task
  abbrev the_task : Task
  the_task = task_at the_plan i

  -- the values before
  abbrev v₀ : ℕ → ℕ
  v₀ p = value_at s.signals (get_or the_task.outputs p 0)

  -- it has written nothing
  abbrev QuietAt : Moment → Type 0
  QuietAt = Quiet plan_bytes good i li t v₀

  -- it has written once
  abbrev DoneAt : List ℕ → Moment → Type 0
  DoneAt = Done plan_bytes good i li t v₀

  -- "8 held outputs"
  held_size : (u : State) → Fits the_plan events u → length (state_at u.tasks i).held ≡ max_ports
  held_size u h = let most = few_tasks plan_bytes good in let size = h.sizes.tasks in (every_at PortSizes nowhere u.tasks h.sizes.ports i (omega arith)).held

  -- step 0: "Kind 2 sets a signal that no task writes."
  zeroth : QuietAt (begins events s)
  zeroth = record {
    entries = tt;
    signals =
        set_keeps (Values plan_bytes good i li v₀) (events_at t events)
        (every_weaker (λ e. e.kind ≡ 2 → Sets plan_bytes e) (λ e. e.kind ≡ 2 → (g : List ℕ) → Values plan_bytes good i li v₀ g → Values plan_bytes good i li v₀ (set g e.target e.value))
        (λ e w two g h. values_same plan_bytes good i li v₀ g _ (length-set g e.target e.value)
        (λ p l. get_or-set_other g e.target (get_or the_task.outputs p 0) e.value 0 ((w two).unwritten i p (in_plan plan_bytes good i li) l)) h)
        (events_at t events) (every_now (λ e. e.kind ≡ 2 → Sets plan_bytes e) t events (each-sets plan_bytes event_bytes list)))
        s.signals (record { size = fit.sizes.signals; value = λ p l. refl });
  }

  -- step 2 of any tasks keeps it
  second : (held : List ℕ) (m : Moment) → QuietAt m ⊎ DoneAt held m → QuietAt (releases waits the_plan events t m) ⊎ DoneAt held (releases waits the_plan events t m)
  second held m h =
      each_keeps the_plan (release_turn waits t m.signals (events_at t events)) (λ n. QuietAt n ⊎ DoneAt held n) (λ j. j < length the_plan.tasks)
      (λ j n l r. silent_either plan_bytes good i li t v₀ (release_turn waits t m.signals (events_at t events)) held j n
      (release-silent plan_bytes good i li t v₀ j m.signals (events_at t events) (state_at n.tasks j)) r)
      (order the_plan) m (order_below the_plan) h

  -- with D > 0 it writes in step 1, or not at all
  with_deadline : the_task.deadline ≢ 0 → let m = runs the_plan t (after_releases waits the_plan events s) in QuietAt m ⊎ DoneAt (state_at s.tasks i).held m
  with_deadline d =
      let held = (state_at s.tasks i).held in
      let x = state_at s.tasks i in
      let first = each-once plan_bytes good i li t v₀ (deadline_turn t) held x (held_size s fit) (own (deadline_own plan_bytes good i li t v₀ x)) (deadline_other plan_bytes good i li t v₀)
      (order the_plan) (begins events s) (order-once plan_bytes good) (order_below the_plan) zeroth refl in
      runs-keeps the_plan t (λ m. QuietAt m ⊎ DoneAt held m) (after_releases waits the_plan events s)
      (λ j q r. silent_either plan_bytes good i li t v₀ (run_turn t) held j (after_releases waits the_plan events s) (silent j q.1 (state_at (after_releases waits the_plan events s).tasks j) (ℕ_discrete i j)) r)
      (second held (deadlines the_plan events s) first)
    where
      own : {A B C : Type 0} → A ⊎ (B × C) → A ⊎ C
      own (inl a) = inl a
      own (inr b) = inr b.1

      itself : (x : TaskState) → Silent plan_bytes good i li t v₀ (run_turn t i the_task x) ⊎ ((the_task.deadline ≡ 0) × Writes plan_bytes good i li t v₀ (run_turn t i the_task x).state.held (run_turn t i the_task x))
          → Silent plan_bytes good i li t v₀ (run_turn t i the_task x)
      itself x (inl u) = u
      itself x (inr w) = absurd (d w.0)

      silent : (j : ℕ) → j < length the_plan.tasks → (x : TaskState) → Dec (i ≡ j) → Silent plan_bytes good i li t v₀ (run_turn t j (task_at the_plan j) x)
      silent j l x (yes e) = subst (λ n. Silent plan_bytes good i li t v₀ (run_turn t n (task_at the_plan n) x)) e (itself x (run_own plan_bytes good i li t v₀ x))
      silent j l x (no e) = run_other plan_bytes good i li t v₀ j l e x

  -- with D = 0 in step 3, or not at all
  without_deadline : the_task.deadline ≡ 0 → let m = runs the_plan t (after_releases waits the_plan events s) in length (state_at m.tasks i).held ≡ max_ports → QuietAt m ⊎ DoneAt (state_at m.tasks i).held m
  unfolding visit_if
  without_deadline z size = go (running the_plan (after_releases waits the_plan events s).tasks) (running-is the_plan (after_releases waits the_plan events s).tasks) size
    where
      itself : (x : TaskState) → Silent plan_bytes good i li t v₀ (deadline_turn t i the_task x) ⊎ ((the_task.deadline ≢ 0) × Writes plan_bytes good i li t v₀ x.held (deadline_turn t i the_task x))
          → Silent plan_bytes good i li t v₀ (deadline_turn t i the_task x)
      itself x (inl u) = u
      itself x (inr w) = absurd (w.0 z)

      silent : (j : ℕ) → j < length the_plan.tasks → (x : TaskState) → Dec (i ≡ j) → Silent plan_bytes good i li t v₀ (deadline_turn t j (task_at the_plan j) x)
      silent j l x (yes e) = subst (λ n. Silent plan_bytes good i li t v₀ (deadline_turn t n (task_at the_plan n) x)) e (itself x (deadline_own plan_bytes good i li t v₀ x))
      silent j l x (no e) = deadline_other plan_bytes good i li t v₀ j l e x

      first : QuietAt (deadlines the_plan events s)
      first =
          each_keeps the_plan (deadline_turn t) QuietAt (λ j. j < length the_plan.tasks)
          (λ j m l h. silent_quiet plan_bytes good i li t v₀ (deadline_turn t) j m (silent j l (state_at m.tasks j) (ℕ_discrete i j)) h)
          (order the_plan) (begins events s) (order_below the_plan) zeroth

      after : QuietAt (after_releases waits the_plan events s)
      after =
          each_keeps the_plan (release_turn waits t (deadlines the_plan events s).signals (events_at t events)) QuietAt (λ j. j < length the_plan.tasks)
          (λ j n l r. silent_quiet plan_bytes good i li t v₀ (release_turn waits t (deadlines the_plan events s).signals (events_at t events)) j n
          (release-silent plan_bytes good i li t v₀ j (deadlines the_plan events s).signals (events_at t events) (state_at n.tasks j)) r)
          (order the_plan) (deadlines the_plan events s) (order_below the_plan) first

      runs-itself : (m : Moment) → i < length m.tasks → QuietAt m → length (state_at (visit the_plan (run_turn t) i m).tasks i).held ≡ max_ports
          → QuietAt (visit the_plan (run_turn t) i m) ⊎ DoneAt (state_at (visit the_plan (run_turn t) i m).tasks i).held (visit the_plan (run_turn t) i m)
      runs-itself m l h size = turn (run_own plan_bytes good i li t v₀ (state_at m.tasks i))
        where
          same : state_at (visit the_plan (run_turn t) i m).tasks i ≡ (run_turn t i the_task (state_at m.tasks i)).state
          same = visit-same the_plan (run_turn t) i m l

          turn : Silent plan_bytes good i li t v₀ (run_turn t i the_task (state_at m.tasks i)) ⊎ ((the_task.deadline ≡ 0) × Writes plan_bytes good i li t v₀ (run_turn t i the_task (state_at m.tasks i)).state.held (run_turn t i the_task (state_at m.tasks i)))
              → QuietAt (visit the_plan (run_turn t) i m) ⊎ DoneAt (state_at (visit the_plan (run_turn t) i m).tasks i).held (visit the_plan (run_turn t) i m)
          turn (inl u) = inl (silent_quiet plan_bytes good i li t v₀ (run_turn t) i m u h)
          turn (inr w) =
              inr (writes_done plan_bytes good i li t v₀ (run_turn t) (state_at (visit the_plan (run_turn t) i m).tasks i).held m size
              (subst⁻¹ (λ y. Writes plan_bytes good i li t v₀ y.held (run_turn t i the_task (state_at m.tasks i))) same w.1) h)

      go : (o : Option ℕ) → If (Runnable the_plan (after_releases waits the_plan events s).tasks) o → let m = visit_if the_plan (run_turn t) o (after_releases waits the_plan events s) in length (state_at m.tasks i).held ≡ max_ports
          → QuietAt m ⊎ DoneAt (state_at m.tasks i).held m
      go none q size = inl after
      go (some j) q size = which (ℕ_discrete i j)
        where
          which : Dec (i ≡ j) → QuietAt (visit the_plan (run_turn t) j (after_releases waits the_plan events s)) ⊎ DoneAt (state_at (visit the_plan (run_turn t) j (after_releases waits the_plan events s)).tasks i).held (visit the_plan (run_turn t) j (after_releases waits the_plan events s))
          which (yes e) =
              let back : j ≡ i = sym e in
              subst (λ n. QuietAt (visit the_plan (run_turn t) n (after_releases waits the_plan events s)) ⊎ DoneAt (state_at (visit the_plan (run_turn t) n (after_releases waits the_plan events s)).tasks i).held (visit the_plan (run_turn t) n (after_releases waits the_plan events s))) e
              (runs-itself (after_releases waits the_plan events s) (let a = released_length waits the_plan events s in let b = fit.sizes.tasks in let c = few_tasks plan_bytes good in omega arith) after
              (subst (λ n. length (state_at (visit the_plan (run_turn t) n (after_releases waits the_plan events s)).tasks i).held ≡ max_ports) back size))
          which (no d) = inl (silent_quiet plan_bytes good i li t v₀ (run_turn t) j (after_releases waits the_plan events s) (run_other plan_bytes good i li t v₀ j q.1 d (state_at (after_releases waits the_plan events s).tasks j)) after)

  -- after the tick
  abbrev last : Moment
  last = runs the_plan t (after_releases waits the_plan events s)

  -- a task's writes of a tick: nothing, or everything at once
  pub tick-at_once : AtOnce the_plan i s (tick the_plan events s).entries (tick the_plan events s).state
  unfolding tick
  tick-at_once = go (eqb the_task.deadline 0) refl
    where
      seen : (held : List ℕ) → held_for the_plan i s (tick the_plan events s).state ≡ held → QuietAt last ⊎ DoneAt held last
          → AtOnce the_plan i s last.entries (tick the_plan events s).state
      seen held e (inl h) = nothing h.entries h.signals.value
      seen held e (inr h) =
          everything (subst⁻¹ (λ r. Together t i the_task r last.entries) e h.entries)
          (subst⁻¹ (λ r. (p : ℕ) → p < length the_task.outputs → value_at last.signals (get_or the_task.outputs p 0) ≡ get_or r p 0) e h.signals.value)

      go : (b : Bool) → eqb the_task.deadline 0 ≡ b → AtOnce the_plan i s last.entries (tick the_plan events s).state
      go true e =
          seen (state_at last.tasks i).held (rw e)
          (without_deadline (eqb-true the_task.deadline 0 e) (held_size (tick the_plan events s).state (tick-fitting plan_bytes event_bytes good list s fit early)))
      go false e = seen (state_at s.tasks i).held (rw e) (with_deadline (eqb-false the_task.deadline 0 e))
