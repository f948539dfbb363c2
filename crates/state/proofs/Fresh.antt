-- A fresh start fits: so number 12 is never the answer to the state that a fresh start returned.
use Prim.Native.Nat.{ℕ, ◌<◌}
use mathlib.Core.Path.{◌≡◌, refl, ap, ◌∙◌}
use mathlib.Core.Bool.{Bool, true, false, cond}
use mathlib.Core.List.{List, [], ◌∷◌, map}
use mathlib.Core.Logic.{◌⊎◌, inl, inr}
use native.Mathlib.Omega.{arith}
use native.Mathlib.Nat.{zero-add}
use lib.ListN.{length, length-map}
use lib.Dec.{ltb}
use borrow.Author.Tests.{ltb-true, le-ltb}
use Rattle.limits.specs.Limits.{max_ports, max_signals, max_tasks}
use Rattle.words.specs.Words.{words_of}
use Rattle.lists.specs.Lists.{all}
use Rattle.lists.proofs.Laws.{length-tab, get_or-tab}
use Rattle.lists.proofs.Tests.{tests, choices}
use Rattle.plan.specs.File.{Task, task_count, Plan, plan_of, task_at}
use Rattle.plan.specs.Rules.{plan_verdict}
use Rattle.plan.specs.Accepted.{Kind}
use Rattle.plan.proofs.Laws.{tasks_length}
use Rattle.plan.proofs.Facts.{accepted, task_body_lem}
use Rattle.events.specs.Events.{Event, passed}
use Rattle.state.specs.State.{value_at, state_at, nowhere, idle, fresh_task, fresh, zero_state, sized_task, sized}
use Rattle.state.specs.Fits.{machine_rule, task_fits, is_idle, task_rule, fits}
use Rattle.state.specs.Fitting.{AFreshStateFits}
use Rattle.state.specs.Steps.{fresh_at}
use Rattle.state.proofs.Laws.{fresh-task_at}
use Rattle.state.proofs.Zeros.{zeros_replicate, zeros_pad, all-tab}

-- ---- sizes
fresh_task-sized : (signals : List ℕ) (k : Task) → sized_task (fresh_task signals k) ≡ true
unfolding fresh_task
fresh_task-sized signals k = rw length-tab

fresh_at-sized : (plan : Plan) (i : ℕ) → sized_task (fresh_at plan i) ≡ true
fresh_at-sized plan i = go (ltb i (length plan.tasks))
  where
    go : (t : Bool) → sized_task (cond t (fresh_task plan.signals (task_at plan i)) idle) ≡ true
    go true = fresh_task-sized plan.signals (task_at plan i)
    go false = refl

pub fresh-sized : (plan : Plan) → sized (fresh plan) ≡ true
unfolding sized fresh
fresh-sized plan =
    rw (length-tab, length-tab) ((all-tab sized_task _ 0 max_tasks).1 (λ i low high. ap sized_task (fresh-task_at plan i) ∙ fresh_at-sized plan i))

pub zero_sized : sized zero_state ≡ true
unfolding sized zero_state all
zero_sized = refl

-- ---- one task
fresh-machine : (k : Task) → Kind k → machine_rule k k.initial ≡ true
fresh-machine k h = simp (choices, tests) ((λ one. (h.supervisor one).initial), (λ other. go other h.either))
  where
    go : (k.kind ≡ 1 → ⊥) → (k.kind ≡ 1) ⊎ (k.kind ≡ 2) → k.initial ≡ 0
    go other (inl one) = absurd (other one)
    go other (inr two) = (h.controller two).initial

fresh_task-fits : (signals : List ℕ) (k : Task) → Kind k → task_fits 0 k (fresh_task signals k) ≡ true
unfolding task_fits fresh_task
fresh_task-fits signals k h =
    let outputs = map (value_at signals) k.outputs in
    let size : length outputs ≡ length k.outputs = length-map k.outputs (value_at signals) in
    rw (zeros_replicate (length k.inputs) max_ports, zeros_pad (length k.outputs) max_ports outputs (omega arith), fresh-machine k h)

idle-fits : is_idle idle ≡ true
unfolding all
idle-fits = refl

-- ---- the whole state
none_passed : (events : List Event) → passed 0 events ≡ 0
unfolding passed
none_passed [] = refl
none_passed (e ∷ rest) = rw (le-ltb e.instant 0 (omega arith), none_passed rest)

module _ (plan_bytes : List ℕ) (good : (plan_verdict plan_bytes).number ≡ 0) where
  abbrev plan : Plan
  plan = plan_of plan_bytes

  fresh_at-fits : (i : ℕ) → task_rule plan 0 i (fresh_at plan i) ≡ true
  unfolding task_rule
  fresh_at-fits i = go (ltb i (length plan.tasks)) refl
    where
      go : (t : Bool) → ltb i (length plan.tasks) ≡ t
          → cond t (task_fits 0 (task_at plan i) (cond t (fresh_task plan.signals (task_at plan i)) idle)) (is_idle (cond t (fresh_task plan.signals (task_at plan i)) idle)) ≡ true
      go true e =
          let less : i < task_count (words_of plan_bytes) = rw (tasks_length plan_bytes) at (ltb-true i (length plan.tasks) e) in
          fresh_task-fits plan.signals (task_at plan i) (task_body_lem plan_bytes (accepted plan_bytes good) i less).kind
      go false e = idle-fits

  fresh-state_at : (i : ℕ) → i < max_tasks → state_at (fresh plan).tasks i ≡ fresh_at plan i
  unfolding fresh
  fresh-state_at i less = get_or-tab _ nowhere 0 max_tasks i less ∙ rw (zero-add i) (fresh-task_at plan i)

  -- each clause of the whole state
  clauses_hold : (events : List Event) → fits plan events (fresh plan) ≡ true
  unfolding fits fresh
  clauses_hold events =
      let signals = zeros_pad (length plan.signals) max_signals plan.signals (omega arith) in
      let tasks = (all-tab (λ i. task_rule plan 0 i (state_at (fresh plan).tasks i)) (λ i. i) 0 max_tasks).1 (λ i low high. ap (task_rule plan 0 i) (fresh-state_at i high) ∙ fresh_at-fits i) in
      rw (fresh-sized plan, none_passed events, signals, tasks)

-- with whatever events
pub fresh-fits : AFreshStateFits
fresh-fits plan_bytes good events = clauses_hold plan_bytes good events
