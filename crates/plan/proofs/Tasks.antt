-- What an accepted plan gives of its tasks by their numbers: timing, body, the order of priority, and where their outputs go.
use Prim.Native.Nat.{ℕ, zero, suc, ◌≤◌, ◌<◌}
use mathlib.Core.Path.{◌≡◌, refl, sym, ap}
use mathlib.Core.List.{List, [], ◌∷◌}
use mathlib.Core.Logic.{◌≢◌}
use native.Mathlib.Omega.{arith}
use lib.ListN.{length, get_or}
use Rattle.limits.specs.Limits.{max_ports, max_priority, max_signals, max_tasks}
use Rattle.words.specs.Words.{words_of}
use Rattle.lists.specs.Lists.{Between, Every, Pairwise}
use Rattle.lists.proofs.Tests.{every_iff, every_swap, every_append, every_weaker, every_from, pairwise_append, pairwise_from}
use Rattle.plan.specs.File.{Task, Plan, plan_of, task_at, no_task, task_count, all_outputs}
use Rattle.plan.specs.Rules.{plan_verdict}
use Rattle.plan.specs.Order.{numbers, order}
use Rattle.plan.specs.Accepted.{Timing, Body}
use Rattle.plan.proofs.Laws.{signals_length, tasks_length}
use Rattle.plan.proofs.Facts.{accepted, task_timing, task_body_lem, task_sizes, priority_once, output_task, output_once}
use Rattle.plan.proofs.Order.{Perm, each-task, order-perm, order-distinct}

-- ---- never 8: the outputs of two tasks have none in common
-- two lists of numbers with none in common
abbrev pub Disjoint : List ℕ → List ℕ → Type 0
Disjoint xs ys = Every (λ x. Every (λ y. x ≢ y) ys) xs

-- either way round
disjoint_sym : (xs ys : List ℕ) → Disjoint xs ys → Disjoint ys xs
disjoint_sym xs ys d =
    (every_iff (λ y. Every (λ x. x ≢ y) xs) (λ y. Every (λ x. y ≢ x) xs) ys
    (λ y. every_iff (λ x. x ≢ y) (λ x. y ≢ x) xs (λ x. ((λ f e. f (sym e)), (λ f e. f (sym e)))))).0
    (every_swap ◌≢◌ xs ys d)

-- what holds of all outputs holds of each task's
each-outputs : (P : ℕ → Type 0) (ks : List Task) (j : ℕ) → Every P (all_outputs ks) → Every P (get_or ks j no_task).outputs
unfolding all_outputs
each-outputs P [] j h = tt
each-outputs P (k ∷ ks) zero h = (every_append P k.outputs (all_outputs ks) h).0
each-outputs P (k ∷ ks) (suc j) h = each-outputs P ks j (every_append P k.outputs (all_outputs ks) h).1

-- numbers that are no output are none of a task's
first_disjoint : (xs : List ℕ) (ks : List Task) (j : ℕ) → Disjoint xs (all_outputs ks) → Disjoint xs (get_or ks j no_task).outputs
first_disjoint [] ks j h = tt
first_disjoint (x ∷ xs) ks j h = (each-outputs (λ y. x ≢ y) ks j h.0, first_disjoint xs ks j h.1)

-- the outputs of two tasks
pub outputs_disjoint : (ks : List Task) (i j : ℕ) → i ≢ j → Pairwise ◌≢◌ (all_outputs ks) → Disjoint (get_or ks i no_task).outputs (get_or ks j no_task).outputs
unfolding all_outputs
outputs_disjoint [] i j d h = tt
outputs_disjoint (k ∷ ks) zero zero d h = absurd (d refl)
outputs_disjoint (k ∷ ks) zero (suc j) d h = first_disjoint k.outputs ks j (pairwise_append ◌≢◌ k.outputs (all_outputs ks) h).2
outputs_disjoint (k ∷ ks) (suc i) zero d h =
    disjoint_sym k.outputs (get_or ks i no_task).outputs (first_disjoint k.outputs ks i (pairwise_append ◌≢◌ k.outputs (all_outputs ks) h).2)
outputs_disjoint (k ∷ ks) (suc i) (suc j) d h = outputs_disjoint ks i j (λ e. d (ap suc e)) (pairwise_append ◌≢◌ k.outputs (all_outputs ks) h).1

-- ---- an accepted plan
module _ (plan_bytes : List ℕ) (good : (plan_verdict plan_bytes).number ≡ 0) where
  abbrev plan : Plan
  plan = plan_of plan_bytes

  -- "tasks T, 1..16"
  pub few_tasks : length plan.tasks ≤ max_tasks
  few_tasks = let most = (accepted plan_bytes good).head.tasks.1 in let size = tasks_length plan_bytes in omega arith

  -- "priority 1..16" for each task
  priorities : Every (λ i. Between 1 max_priority (task_at plan i).priority) (numbers plan)
  priorities =
      every_weaker (λ i. Timing (task_at plan i)) (λ i. Between 1 max_priority (task_at plan i).priority) (λ i t. t.priority) (numbers plan)
      (each-task Timing plan (accepted plan_bytes good).timing)

  -- so the order of priority is the task numbers in another order
  pub order-numbers : Perm (order plan) (numbers plan)
  order-numbers = order-perm plan priorities

  -- and each stands in it once
  pub order-once : Pairwise ◌≢◌ (order plan)
  order-once = order-distinct plan priorities

  -- never 8: no two outputs are one signal
  pub outputs_once : Pairwise ◌≢◌ (all_outputs plan.tasks)
  outputs_once = (accepted plan_bytes good).outputs

  module _ (i : ℕ) (l : i < length plan.tasks) where
    -- a task's number is below T
    pub in_plan : i < task_count (words_of plan_bytes)
    in_plan = rw (tasks_length plan_bytes) at l

    -- number 5 does not answer
    pub timing_of : Timing (task_at plan i)
    timing_of = task_timing plan_bytes (accepted plan_bytes good) i in_plan

    -- nor 6
    pub body_of : Body (length plan.signals) (task_at plan i)
    body_of = rw (signals_length plan_bytes) (task_body_lem plan_bytes (accepted plan_bytes good) i in_plan)

    -- "no [is] at most 8"
    pub few_outputs : length (task_at plan i).outputs ≤ max_ports
    few_outputs = (task_sizes plan_bytes (accepted plan_bytes good) i in_plan).outputs

    -- "Signal numbers are below S.", and S is at most 64
    pub outputs_below : Every (λ y. y < max_signals) (task_at plan i).outputs
    outputs_below =
        let most = (accepted plan_bytes good).head.signals.1 in
        let size = signals_length plan_bytes in
        every_weaker (λ y. y < length plan.signals) (λ y. y < max_signals) (λ y less. omega arith) (task_at plan i).outputs body_of.outputs

    -- a task's outputs differ
    pub outputs_differ : Pairwise ◌≢◌ (task_at plan i).outputs
    outputs_differ = pairwise_from (task_at plan i).outputs (λ p q a b e. output_once plan_bytes (accepted plan_bytes good) i p q in_plan a b e)

  -- never 7: one task has a priority
  pub urgency_once : (i j : ℕ) → i < length plan.tasks → j < length plan.tasks → (task_at plan i).priority ≡ (task_at plan j).priority → i ≡ j
  urgency_once i j li lj = priority_once plan_bytes (accepted plan_bytes good) i j (in_plan i li) (in_plan j lj)

  -- one task's output is none of another's
  pub output_apart : (i j p : ℕ) → i < length plan.tasks → j < length plan.tasks → i ≢ j → p < length (task_at plan i).outputs
      → Every (λ y. get_or (task_at plan i).outputs p 0 ≢ y) (task_at plan j).outputs
  output_apart i j p li lj d lp =
      every_from (λ y. get_or (task_at plan i).outputs p 0 ≢ y) 0 (task_at plan j).outputs
      (λ q lq e. d (output_task plan_bytes (accepted plan_bytes good) i j p q (in_plan i li) (in_plan j lj) lp lq e))
