-- One task's view of a tick: its own turns of steps 1 and 2, and of step 3 if it is the running task, give its state after.
use Prim.Native.Nat.{ℕ, zero, suc, ◌+◌, ◌≤◌, ◌<◌}
use mathlib.Core.Path.{◌≡◌, refl, sym, ◌∙◌, ap, subst⁻¹}
use mathlib.Core.Logic.{◌≢◌, ◌⊎◌, inl, inr}
use mathlib.Core.Bool.{true}
use mathlib.Core.List.{List, [], ◌∷◌}
use mathlib.Core.Option.{Option, none, some}
use native.Mathlib.Omega.{arith}
use native.Mathlib.Decide.{ℕ_discrete}
use lib.ListN.{length, length-set}
use lib.Seq.{set_comm, get_or-set_other, get_or-set_same}
use Rattle.lists.specs.Lists.{tab, Every, If}
use Rattle.lists.proofs.Tests.{every_weaker}
use Rattle.plan.specs.File.{Task, Plan, task_at}
use Rattle.plan.specs.Order.{numbers, order}
use Rattle.plan.proofs.Order.{Perm, pnil, pcons, pswap, ptrans, order_below}
use Rattle.events.specs.Events.{Event}
use Rattle.state.specs.State.{state_at, nowhere}
use Rattle.state.specs.declared.TaskState.{TaskState}
use Rattle.state.specs.declared.State.{State}
use Rattle.tick.specs.Turns.{deadline_turn, release_turn, waits, finish, is_active, run_turn}
use Rattle.tick.specs.Tick.{Moment, Act, visit, each, events_at, begins, deadlines, after_releases, running, visit_if, runs, tick, zero_tick}
use Rattle.tick.proofs.Urgent.{Runnable, running-is}

-- ---- turns in a row
module _ (plan : Plan) (act : Act) where
  -- the task whose turn it is
  pub visit-same : (i : ℕ) (m : Moment) → i < length m.tasks → state_at (visit plan act i m).tasks i ≡ (act i (task_at plan i) (state_at m.tasks i)).state
  visit-same i m l = get_or-set_same m.tasks i _ nowhere l

  -- any other
  pub visit-other : (i j : ℕ) (m : Moment) → j ≢ i → state_at (visit plan act i m).tasks j ≡ state_at m.tasks j
  visit-other i j m d = get_or-set_other m.tasks i j _ nowhere d

  -- as many task states as before
  pub visit-length : (i : ℕ) (m : Moment) → length (visit plan act i m).tasks ≡ length m.tasks
  visit-length i m = length-set m.tasks i _

  -- after any turns
  pub each-length : (is : List ℕ) (m : Moment) → length (each plan act is m).tasks ≡ length m.tasks
  unfolding each
  each-length [] m = refl
  each-length (i ∷ is) m = each-length is (visit plan act i m) ∙ visit-length i m

  -- a task that is none of a list
  pub each-other : (is : List ℕ) (j : ℕ) (m : Moment) → Every (λ i. j ≢ i) is → state_at (each plan act is m).tasks j ≡ state_at m.tasks j
  unfolding each
  each-other [] j m h = refl
  each-other (i ∷ is) j m h = each-other is j (visit plan act i m) h.1 ∙ visit-other i j m h.0

  -- what each turn keeps, all of them keep
  pub each_keeps : (P : Moment → Type 0) (Q : ℕ → Type 0) → ((i : ℕ) (m : Moment) → Q i → P m → P (visit plan act i m))
      → (is : List ℕ) (m : Moment) → Every Q is → P m → P (each plan act is m)
  unfolding each
  each_keeps P Q f [] m q h = h
  each_keeps P Q f (i ∷ is) m q h = each_keeps P Q f is (visit plan act i m) q.1 (f i m q.0 h)

  -- ---- the task states do not depend on the order
  each_same : (is : List ℕ) (m n : Moment) → m.tasks ≡ n.tasks → (each plan act is m).tasks ≡ (each plan act is n).tasks
  unfolding each
  each_same [] m n e = e
  each_same (i ∷ is) m n e = each_same is (visit plan act i m) (visit plan act i n) (rw e)

  -- two turns in either order
  swap_tasks : (i j : ℕ) (m : Moment) → (visit plan act i (visit plan act j m)).tasks ≡ (visit plan act j (visit plan act i m)).tasks
  swap_tasks i j m = go (ℕ_discrete i j)
    where
      go : Dec (i ≡ j) → (visit plan act i (visit plan act j m)).tasks ≡ (visit plan act j (visit plan act i m)).tasks
      go (yes e) = rw e
      go (no d) =
          let d' : j ≢ i = λ e. d (sym e) in
          rw (get_or-set_other m.tasks j i _ nowhere d, get_or-set_other m.tasks i j _ nowhere d') (set_comm m.tasks j i _ _ d')

  -- any order
  each-perm : {xs ys : List ℕ} → Perm xs ys → (m : Moment) → (each plan act xs m).tasks ≡ (each plan act ys m).tasks
  unfolding each
  each-perm pnil m = refl
  each-perm (pcons {x = i} p) m = each-perm p (visit plan act i m)
  each-perm (pswap {x = i} {y = j} {xs = is}) m = each_same is _ _ (swap_tasks j i m)
  each-perm (ptrans p q) m = each-perm p m ∙ each-perm q m

  -- tasks from a on: not one before them
  each_below : (a n i : ℕ) (m : Moment) → i < a → state_at (each plan act (tab (λ j. j) a n) m).tasks i ≡ state_at m.tasks i
  unfolding each tab
  each_below a zero i m l = refl
  each_below a (suc n) i m l = each_below (a + 1) n i (visit plan act a m) (omega arith) ∙ visit-other a i m (omega arith)

  -- and each of them by its own turn
  each-up_at : (a n i : ℕ) (m : Moment) → a ≤ i → i < a + n → i < length m.tasks
      → state_at (each plan act (tab (λ j. j) a n) m).tasks i ≡ (act i (task_at plan i) (state_at m.tasks i)).state
  unfolding each tab
  each-up_at a zero i m l g h = absurd (omega arith)
  each-up_at a (suc n) i m l g h = go (ℕ_discrete i a) (λ l'. each-up_at (a + 1) n i (visit plan act a m) (omega arith) (omega arith) (omega (arith, visit-length a m)))
    where
      go : Dec (i ≡ a)
          → (a < i → state_at (each plan act (tab (λ j. j) (a + 1) n) (visit plan act a m)).tasks i ≡ (act i (task_at plan i) (state_at (visit plan act a m).tasks i)).state)
          → state_at (each plan act (tab (λ j. j) (a + 1) n) (visit plan act a m)).tasks i ≡ (act i (task_at plan i) (state_at m.tasks i)).state
      go (yes e) ih = each_below (a + 1) n i (visit plan act a m) (omega arith) ∙ rw e (visit-same a m (rw e at h))
      go (no d) ih = ih (omega arith) ∙ ap (λ x. (act i (task_at plan i) x).state) (visit-other a i m d)

  -- each task's state is its own turn's
  pub each_at : Perm (order plan) (numbers plan) → (i : ℕ) (m : Moment) → i < length plan.tasks → i < length m.tasks
      → state_at (each plan act (order plan) m).tasks i ≡ (act i (task_at plan i) (state_at m.tasks i)).state
  each_at p i m l h = ap (λ xs. state_at xs i) (each-perm p m) ∙ each-up_at 0 (length plan.tasks) i m (omega arith) (omega arith) h

  -- what a turn makes of each task of the plan, all turns make of it
  pub each-reaches : Perm (order plan) (numbers plan) → (Q R : ℕ → TaskState → Type 0)
      → ((i : ℕ) → i < length plan.tasks → (x : TaskState) → Q i x → R i (act i (task_at plan i) x).state)
      → (m : Moment) → ((i : ℕ) → i < length plan.tasks → (i < length m.tasks) × Q i (state_at m.tasks i))
      → (i : ℕ) → i < length plan.tasks → R i (state_at (each plan act (order plan) m).tasks i)
  each-reaches p Q R turn m h i l = subst⁻¹ (R i) (each_at p i m l (h i l).0) (turn i l (state_at m.tasks i) (h i l).1)

-- what each turn of a runnable task keeps, step 3 keeps
pub runs-keeps : (plan : Plan) (t : ℕ) (P : Moment → Type 0) (m : Moment) → ((i : ℕ) → Runnable plan m.tasks i → P m → P (visit plan (run_turn t) i m)) → P m → P (runs plan t m)
unfolding visit_if
runs-keeps plan t P m f h = go (running plan m.tasks) (running-is plan m.tasks)
  where
    go : (o : Option ℕ) → If (Runnable plan m.tasks) o → P (visit_if plan (run_turn t) o m)
    go none q = h
    go (some i) q = f i q h

-- ---- steps 0, 1 and 2, whether a released task waits or its body runs at once
-- a task's turn of step 2 in a tick from s
abbrev pub releasing : (Task → TaskState → TaskState) → Plan → List Event → State → Act
releasing start plan events s = release_turn start s.tick (deadlines plan events s).signals (events_at s.tick events)

-- a task's state after its turns of steps 1 and 2
abbrev pub turned : (Task → TaskState → TaskState) → Plan → List Event → State → ℕ → TaskState
turned start plan events s i = (releasing start plan events s i (task_at plan i) (deadline_turn s.tick i (task_at plan i) (state_at s.tasks i)).state).state

module _ (start : Task → TaskState → TaskState) (plan : Plan) (events : List Event) (s : State) where
  -- as many task states as before
  pub released_length : length (after_releases start plan events s).tasks ≡ length s.tasks
  released_length =
      each-length plan (releasing start plan events s) (order plan) (deadlines plan events s)
      ∙ each-length plan (deadline_turn s.tick) (order plan) (begins events s)

  module _ (perm : Perm (order plan) (numbers plan)) (i : ℕ) (l : i < length plan.tasks) (h : i < length s.tasks) where
    -- after step 1
    pub deadlines-at : state_at (deadlines plan events s).tasks i ≡ (deadline_turn s.tick i (task_at plan i) (state_at s.tasks i)).state
    deadlines-at = each_at plan (deadline_turn s.tick) perm i (begins events s) l h

    -- after step 2
    pub released_at : state_at (after_releases start plan events s).tasks i ≡ turned start plan events s i
    released_at =
        let size = each-length plan (deadline_turn s.tick) (order plan) (begins events s) in
        each_at plan (releasing start plan events s) perm i (deadlines plan events s) l (omega arith)
        ∙ ap (λ (x : TaskState). (releasing start plan events s i (task_at plan i) x).state) deadlines-at

  -- no task of the plan
  pub released_beyond : (i : ℕ) → length plan.tasks ≤ i → state_at (after_releases start plan events s).tasks i ≡ state_at s.tasks i
  released_beyond i l =
      let none = every_weaker (λ j. j < length plan.tasks) (λ j. i ≢ j) (λ j g e. absurd (omega arith)) (order plan) (order_below plan) in
      each-other plan (releasing start plan events s) (order plan) i (deadlines plan events s) none
      ∙ each-other plan (deadline_turn s.tick) (order plan) i (begins events s) none

-- ---- what a tick does to one task
module _ (plan : Plan) (events : List Event) (s : State) where
  -- after steps 0, 1 and 2
  abbrev mid : Moment
  mid = after_releases waits plan events s

  -- "the next tick's number"
  pub next_tick : (tick plan events s).state.tick ≡ s.tick + 1
  unfolding tick
  next_tick = refl

  -- as many task states as before
  pub tick-length : length (tick plan events s).state.tasks ≡ length s.tasks
  unfolding tick
  tick-length =
      runs-keeps plan s.tick (λ m. length m.tasks ≡ length s.tasks) mid (λ i q e. visit-length plan (run_turn s.tick) i mid ∙ e)
      (released_length waits plan events s)

  -- step 3, by whether it is the running task
  ran-at : (i : ℕ) (o : Option ℕ) (m : Moment) → o ≡ some i → i < length m.tasks
      → state_at (visit_if plan (run_turn s.tick) o m).tasks i ≡ (run_turn s.tick i (task_at plan i) (state_at m.tasks i)).state
  unfolding visit_if
  ran-at i o m e l = rw e (visit-same plan (run_turn s.tick) i m l)

  rested_at : (i : ℕ) (o : Option ℕ) (m : Moment) → o ≢ some i → state_at (visit_if plan (run_turn s.tick) o m).tasks i ≡ state_at m.tasks i
  unfolding visit_if
  rested_at i none m d = refl
  rested_at i (some j) m d = visit-other plan (run_turn s.tick) j i m (λ e. d (ap some (sym e)))

  module _ (perm : Perm (order plan) (numbers plan)) (i : ℕ) (l : i < length plan.tasks) (h : i < length s.tasks) where
    -- it runs
    pub tick-ran : running plan mid.tasks ≡ some i
        → state_at (tick plan events s).state.tasks i ≡ (run_turn s.tick i (task_at plan i) (turned waits plan events s i)).state
    unfolding tick
    tick-ran e =
        ran-at i (running plan mid.tasks) mid e (omega (arith, released_length waits plan events s))
        ∙ ap (λ (x : TaskState). (run_turn s.tick i (task_at plan i) x).state) (released_at waits plan events s perm i l h)

    -- it does not
    pub tick-rested : running plan mid.tasks ≢ some i → state_at (tick plan events s).state.tasks i ≡ turned waits plan events s i
    unfolding tick
    tick-rested d = rested_at i (running plan mid.tasks) mid d ∙ released_at waits plan events s perm i l h

    -- one or the other, and what runs is ACTIVE
    pub tick-at : (state_at (tick plan events s).state.tasks i ≡ turned waits plan events s i)
        ⊎ ((is_active (turned waits plan events s i).status ≡ true)
        × (state_at (tick plan events s).state.tasks i ≡ (run_turn s.tick i (task_at plan i) (turned waits plan events s i)).state))
    tick-at = go (running plan mid.tasks) refl (running-is plan mid.tasks)
      where
        same : state_at mid.tasks i ≡ turned waits plan events s i
        same = released_at waits plan events s perm i l h

        go : (o : Option ℕ) → running plan mid.tasks ≡ o → If (Runnable plan mid.tasks) o
            → (state_at (tick plan events s).state.tasks i ≡ turned waits plan events s i)
            ⊎ ((is_active (turned waits plan events s i).status ≡ true)
            × (state_at (tick plan events s).state.tasks i ≡ (run_turn s.tick i (task_at plan i) (turned waits plan events s i)).state))
        go none e q = inl (tick-rested (λ f. let z : ◌≡◌ {A = ℕ} 0 1 = cc in absurd (omega arith)))
        go (some j) e q = which (ℕ_discrete i j)
          where
            which : Dec (i ≡ j) → (state_at (tick plan events s).state.tasks i ≡ turned waits plan events s i)
                ⊎ ((is_active (turned waits plan events s i).status ≡ true)
                × (state_at (tick plan events s).state.tasks i ≡ (run_turn s.tick i (task_at plan i) (turned waits plan events s i)).state))
            which (yes f) = inr (ap (λ (x : TaskState). is_active x.status) (sym same) ∙ rw f q.0, tick-ran (e ∙ ap some (sym f)))
            which (no d) = inl (tick-rested (λ f. d (cc)))

  -- no task of the plan
  pub tick-beyond : (i : ℕ) → length plan.tasks ≤ i → state_at (tick plan events s).state.tasks i ≡ state_at s.tasks i
  unfolding tick
  tick-beyond i l =
      runs-keeps plan s.tick (λ m. state_at m.tasks i ≡ state_at s.tasks i) mid
      (λ j q e. visit-other plan (run_turn s.tick) j i mid (let g = q.1 in λ f. absurd (omega arith)) ∙ e)
      (released_beyond waits plan events s i l)

  -- ---- the same of the zero-time reading, which has no step 3
  pub zero_length : length (zero_tick plan events s).state.tasks ≡ length s.tasks
  unfolding zero_tick
  zero_length = released_length finish plan events s

  pub zero_at : Perm (order plan) (numbers plan) → (i : ℕ) → i < length plan.tasks → i < length s.tasks
      → state_at (zero_tick plan events s).state.tasks i ≡ turned finish plan events s i
  unfolding zero_tick
  zero_at perm i l h = released_at finish plan events s perm i l h
