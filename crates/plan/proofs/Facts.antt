-- What an accepted plan is known by, entry by entry and task by task.
use Prim.Native.Nat.{ℕ, zero, suc, ◌+◌, ◌-◌, ◌*◌, ◌/◌, ◌<◌, ◌≤◌}
use mathlib.Core.Path.{◌≡◌, sym, ap, subst, ◌∙◌}
use mathlib.Core.List.{List, [], ◌∷◌}
use mathlib.Core.Logic.{◌≢◌}
use native.Mathlib.Omega.{arith}
use native.Mathlib.Nat.{zero-add}
use lib.ListN.{length, get_or, length-take, length-drop}
use Rattle.limits.specs.Limits.{max_ports, max_transitions, max_actions}
use Rattle.words.specs.Words.{words_of}
use Rattle.words.proofs.Laws.{words_length}
use Rattle.lists.specs.Lists.{Every, Pairwise}
use Rattle.lists.proofs.Laws.{length-tab, get_or-tab, map-tab}
use Rattle.lists.proofs.Tests.{every_at, every_append, every_swap, pairwise_append, pairwise_once}
use Rattle.plan.specs.File.{signal_count, task_count, start_of, length_of, body_of, Task, input_count, output_count, transition_count, action_count, task_of, task_bodies, plan_of, task_at, no_task, all_outputs}
use Rattle.plan.specs.Rules.{plan_verdict}
use Rattle.plan.specs.Accepted.{Contents, Shape, Timing, Body, Accepted}
use Rattle.plan.proofs.Laws.{tasks_length}
use Rattle.plan.proofs.Acceptance.{accepted_exactly}

-- ---- ni, no, nt and na are the lengths of a task's lists
pub inputs_length : (ws : List ℕ) → length (task_of ws).inputs ≡ input_count ws
unfolding task_of
inputs_length ws = length-tab _ 0 (input_count ws)

pub outputs_length : (ws : List ℕ) → length (task_of ws).outputs ≡ output_count ws
unfolding task_of
outputs_length ws = length-tab _ 0 (output_count ws)

pub transitions_length : (ws : List ℕ) → length (task_of ws).transitions ≡ transition_count ws
unfolding task_of
transitions_length ws = length-tab _ 0 (transition_count ws)

pub actions_length : (ws : List ℕ) → length (task_of ws).actions ≡ action_count ws
unfolding task_of
actions_length ws = length-tab _ 0 (action_count ws)

-- ---- the bodies of a plan lie inside its file
module _ (ws : List ℕ) (c : Contents ws) where
  -- n entries before the last one
  inside_from : (n k : ℕ) → k + n ≡ task_count ws → start_of ws k + length_of ws k ≤ length ws
  inside_from zero k e =
      let same : task_count ws ≡ k = omega arith in
      let ends : start_of ws k + length_of ws k ≡ length ws = subst (λ t. start_of ws t + length_of ws t ≡ length ws) same c.last in
      omega arith
  inside_from (suc n) k e =
      let later = inside_from n (k + 1) (omega arith) in
      let next = c.next k (omega arith) in
      omega arith

  pub contents-inside : (k : ℕ) → k ≤ task_count ws → start_of ws k + length_of ws k ≤ length ws
  contents-inside k h = inside_from (task_count ws - k) k (omega arith)

  pub body-length : (k : ℕ) → k ≤ task_count ws → length (body_of ws k) ≡ length_of ws k
  body-length k h = let inside = contents-inside k h in simp (length-take, length-drop) (omega arith)

-- ---- task i of a plan
pub task_is : (bytes : List ℕ) (i : ℕ) → i < task_count (words_of bytes) → task_at (plan_of bytes) i ≡ task_of (body_of (words_of bytes) (i + 1))
unfolding plan_of
task_is bytes i h =
    let ws = words_of bytes in
    ap (λ (ks : List Task). get_or ks i no_task) (map-tab task_of (λ j. body_of ws (j + 1)) 0 (task_count ws))
    ∙ get_or-tab (λ j. task_of (body_of ws (j + 1))) no_task 0 (task_count ws) i h
    ∙ ap (λ (j : ℕ). task_of (body_of ws (j + 1))) (zero-add i)

-- ---- no signal stands at two places among all outputs
abbrev Disjoint : Task → Task → Type 0
Disjoint k l = Every (λ y. Every (λ x. x ≢ y) k.outputs) l.outputs

every_outputs : (P : ℕ → Type 0) (ks : List Task) → Every P (all_outputs ks) → Every (λ k. Every P k.outputs) ks
unfolding all_outputs
every_outputs P [] h = tt
every_outputs P (k ∷ ks) h = let r = every_append P k.outputs (all_outputs ks) h in (r.0, every_outputs P ks r.1)

outputs_apart : (ks : List Task)
    → Pairwise ◌≢◌ (all_outputs ks) → Every (λ k. Pairwise ◌≢◌ k.outputs) ks × Pairwise Disjoint ks
unfolding all_outputs
outputs_apart [] h = (tt, tt)
outputs_apart (k ∷ ks) h =
    let p = pairwise_append ◌≢◌ k.outputs (all_outputs ks) h in
    let others = every_swap ◌≢◌ k.outputs (all_outputs ks) p.2 in
    let r = outputs_apart ks p.1 in
    ((p.0, r.0), (every_outputs (λ y. Every (λ x. x ≢ y) k.outputs) ks others, r.1))

-- ---- an accepted plan
-- a task's lists fit where the kernel keeps them
pub record Sizes (k : Task) : Type 0 where
  pub inputs : length k.inputs ≤ max_ports
  pub outputs : length k.outputs ≤ max_ports
  pub transitions : length k.transitions ≤ max_transitions
  pub actions : length k.actions ≤ max_actions

pub accepted : (bytes : List ℕ) → (plan_verdict bytes).number ≡ 0 → Accepted bytes
accepted bytes = (accepted_exactly bytes).1

module _ (bytes : List ℕ) where
  abbrev ws : List ℕ
  ws = words_of bytes

  abbrev task : ℕ → Task
  task i = task_at (plan_of bytes) i

  module _ (plan : Accepted bytes) where
    pub bytes_length : length bytes ≡ length ws * 4
    bytes_length = let whole = plan.size.whole in let e = words_length bytes in omega arith

    -- the body of task i, as a part of the file's words and of its bytes
    pub task_inside : (i : ℕ) → i < task_count ws → start_of ws (i + 1) + length_of ws (i + 1) ≤ length ws
    task_inside i h = contents-inside ws plan.contents (i + 1) (omega arith)

    pub task_length : (i : ℕ) → i < task_count ws → length (body_of ws (i + 1)) ≡ length_of ws (i + 1)
    task_length i h = body-length ws plan.contents (i + 1) (omega arith)

    pub task_bytes : (i : ℕ) → i < task_count ws → start_of ws (i + 1) + length_of ws (i + 1) ≤ length bytes / 4
    task_bytes i h = rw (← words_length bytes) (task_inside i h)

    pub task_shape : (i : ℕ) → i < task_count ws → Shape (body_of ws (i + 1))
    task_shape i h =
        rw (get_or-tab (λ j. body_of ws (j + 1)) [] 0 (task_count ws) i h, zero-add i) at
        (every_at Shape [] (task_bodies ws) plan.shapes i (rw (length-tab (λ j. body_of ws (j + 1)) 0 (task_count ws)) h))

    at_place : (i : ℕ) → i < task_count ws → i < length (plan_of bytes).tasks
    at_place i h = rw (tasks_length bytes) h

    pub task_timing : (i : ℕ) → i < task_count ws → Timing (task i)
    task_timing i h = every_at Timing no_task (plan_of bytes).tasks plan.timing i (at_place i h)

    pub task_body_lem : (i : ℕ) → i < task_count ws → Body (signal_count ws) (task i)
    task_body_lem i h = every_at (Body (signal_count ws)) no_task (plan_of bytes).tasks plan.bodies i (at_place i h)

    pub task_sizes : (i : ℕ) → i < task_count ws → Sizes (task i)
    task_sizes i h =
        let b = body_of ws (i + 1) in
        let s = task_shape i h in
        rw (task_is bytes i h) (record {
          inputs = rw (inputs_length b) s.inputs;
          outputs = rw (outputs_length b) s.outputs;
          transitions = rw (transitions_length b) s.transitions;
          actions = rw (actions_length b) s.actions;
        })

    -- one task has a priority; one task, at one place, has an output
    pub priority_once : (i j : ℕ) → i < task_count ws → j < task_count ws → (task i).priority ≡ (task j).priority → i ≡ j
    priority_once i j hi hj e =
        pairwise_once (λ x y. x.priority ≢ y.priority) no_task (plan_of bytes).tasks plan.priorities i j (at_place i hi) (at_place j hj)
        (λ d. d e) (λ d. d (sym e))

    apart : Every (λ k. Pairwise ◌≢◌ k.outputs) (plan_of bytes).tasks × Pairwise Disjoint (plan_of bytes).tasks
    apart = outputs_apart (plan_of bytes).tasks plan.outputs

    pub output_task : (i j p q : ℕ) → i < task_count ws → j < task_count ws → p < length (task i).outputs → q < length (task j).outputs
        → get_or (task i).outputs p 0 ≡ get_or (task j).outputs q 0 → i ≡ j
    output_task i j p q hi hj hp hq e =
        pairwise_once Disjoint no_task (plan_of bytes).tasks apart.1 i j (at_place i hi) (at_place j hj)
        (λ d. every_at _ 0 (task i).outputs (every_at _ 0 (task j).outputs d q hq) p hp e)
        (λ d. every_at _ 0 (task j).outputs (every_at _ 0 (task i).outputs d p hp) q hq (sym e))

    pub output_once : (i p q : ℕ) → i < task_count ws → p < length (task i).outputs → q < length (task i).outputs
        → get_or (task i).outputs p 0 ≡ get_or (task i).outputs q 0 → p ≡ q
    output_once i p q hi hp hq e =
        let own = every_at (λ k. Pairwise ◌≢◌ k.outputs) no_task (plan_of bytes).tasks apart.0 i (at_place i hi) in
        pairwise_once ◌≢◌ 0 (task i).outputs own p q hp hq (λ d. d e) (λ d. d (sym e))
