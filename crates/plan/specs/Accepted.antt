-- Document 01, 'The plan file', once more: when a plan is accepted, as a person would write it from the paper.
use Rattle.std.specs.Prelude.{ℕ, ◌+◌, ◌*◌, ◌%◌, ◌<◌, ◌≤◌, ◌≡◌, List, ◌≢◌, ◌⊎◌, length}
use Rattle.limits.specs.Limits.{max_signals, max_tasks, max_priority, max_ports, max_transitions, max_actions, max_order, max_state, max_time, max_plan_bytes}
use Rattle.words.specs.Words.{words_of}
use Rattle.lists.specs.Lists.{Between, Every, Pairwise}
use Rattle.plan.specs.File.{word, signal_count, task_count, start_of, length_of, Transition, Action, Task, input_count, output_count, transition_count, action_count, task_bodies, plan_of, all_outputs}

-- never 1: whole words, and as many bytes as a file may have
pub record Size (bytes : List ℕ) : Type 0 where
  pub whole : length bytes % 4 ≡ 0
  pub limits : Between 12 max_plan_bytes (length bytes)

-- "Word 0: version 1. Word 1: signals S, 1..64. Word 2: tasks T, 1..16."
pub record Head (ws : List ℕ) : Type 0 where
  pub version : word ws 0 ≡ 1
  pub signals : Between 1 max_signals (signal_count ws)
  pub tasks : Between 1 max_tasks (task_count ws)

-- "Then T + 1 pairs (start word, length in words): first the signals body, then tasks 0..T−1."
pub record Contents (ws : List ℕ) : Type 0 where
  -- never "contents cut short": all pairs stand in the file
  pub room : 3 + 2 * (task_count ws + 1) ≤ length ws
  -- "The first start is 3 + 2 × (T + 1)"
  pub first : start_of ws 0 ≡ 3 + 2 * (task_count ws + 1)
  -- "each next start is the end of the body before"
  pub next : (k : ℕ) → k < task_count ws → start_of ws (k + 1) ≡ start_of ws k + length_of ws k
  -- "the last body ends at the file's end"
  pub last : start_of ws (task_count ws) + length_of ws (task_count ws) ≡ length ws
  -- "Signals body: S initial values."
  pub signals : length_of ws 0 ≡ signal_count ws

-- never 4: the counts stand in the body, within their limits, and it has the length that they say
pub record Shape (ws : List ℕ) : Type 0 where
  pub counts : 11 ≤ length ws
  -- "ni and no are at most 8, nt and na at most 32"
  pub inputs : input_count ws ≤ max_ports
  pub outputs : output_count ws ≤ max_ports
  pub transitions : transition_count ws ≤ max_transitions
  pub actions : action_count ws ≤ max_actions
  -- "Its length is 11 + ni + no + 4 × nt + 5 × na."
  pub formula : length ws ≡ 11 + input_count ws + output_count ws + 4 * transition_count ws + 5 * action_count ws

-- "Timing: priority 1..16, 1 the most urgent; execution 1..1,000,000; period and deadline 0..1,000,000."
pub record Timing (k : Task) : Type 0 where
  pub priority : Between 1 max_priority k.priority
  pub execution : Between 1 max_time k.execution
  pub period : k.period ≤ max_time
  pub deadline : k.deadline ≤ max_time
  -- "Period 0 means event-driven, and then offset is 0."
  pub event_driven : k.period ≡ 0 → k.offset ≡ 0
  -- "Otherwise deadline ≤ period and offset < period."
  pub periodic : k.period ≢ 0 → (k.deadline ≤ k.period) × (k.offset < k.period)

-- "Kind 1 (supervisor) has initial state 1..16 and no ≥ 2."
pub record Supervisor (k : Task) : Type 0 where
  pub initial : Between 1 max_state k.initial
  pub outputs : 2 ≤ length k.outputs

-- "Kind 2 (controller) has initial state 0, nt = 0, ni ≥ 2."
pub record Controller (k : Task) : Type 0 where
  pub initial : k.initial ≡ 0
  pub transitions : length k.transitions ≡ 0
  pub inputs : 2 ≤ length k.inputs

-- "the kind is 1 or 2"
pub record Kind (k : Task) : Type 0 where
  pub either : (k.kind ≡ 1) ⊎ (k.kind ≡ 2)
  pub supervisor : k.kind ≡ 1 → Supervisor k
  pub controller : k.kind ≡ 2 → Controller k

-- "States in transitions .. are 1..16. A transition's input position is below ni, its order 1..32"
pub record TransitionGood (ni : ℕ) (x : Transition) : Type 0 where
  pub from : Between 1 max_state x.from
  pub to : Between 1 max_state x.to
  pub input : x.input < ni
  pub order : Between 1 max_order x.order

-- "States in .. actions are 1..16."; "An action's kind is 1..4; a is below no"
pub record ActionGood (k : Task) (x : Action) : Type 0 where
  pub state : Between 1 max_state x.state
  pub kind : Between 1 4 x.kind
  pub a : x.a < length k.outputs
  -- "for kind 4, b is below no and not a"
  pub move : x.kind ≡ 4 → (x.b < length k.outputs) × (x.b ≢ x.a)
  -- "for the others b = 0"
  pub other : x.kind ≢ 4 → x.b ≡ 0
  -- "c is an input position below ni, except in kind 1, where it is any value"
  pub c : x.kind ≢ 1 → x.c < length k.inputs
  -- "A supervisor's a, and b in kind 4, are at least 2."
  pub supervisor_a : k.kind ≡ 1 → 2 ≤ x.a
  pub supervisor_b : k.kind ≡ 1 → x.kind ≡ 4 → 2 ≤ x.b

-- the body rules of a task, in a plan of s signals
pub record Body (s : ℕ) (k : Task) : Type 0 where
  pub kind : Kind k
  -- "Signal numbers are below S."
  pub inputs : Every (λ x. x < s) k.inputs
  pub outputs : Every (λ x. x < s) k.outputs
  pub transitions : Every (TransitionGood (length k.inputs)) k.transitions
  -- "its order .. different from the others with the same 'from'"
  pub orders : Pairwise (λ x y. x.from ≡ y.from → x.order ≢ y.order) k.transitions
  pub actions : Every (ActionGood k) k.actions

pub record Accepted (bytes : List ℕ) : Type 0 where
  pub size : Size bytes
  pub head : Head (words_of bytes)
  pub contents : Contents (words_of bytes)
  -- each task's body, and the task that it says
  pub shapes : Every Shape (task_bodies (words_of bytes))
  pub timing : Every Timing (plan_of bytes).tasks
  pub bodies : Every (Body (signal_count (words_of bytes))) (plan_of bytes).tasks
  -- never 7: no two have one priority
  pub priorities : Pairwise (λ x y. x.priority ≢ y.priority) (plan_of bytes).tasks
  -- never 8: no two outputs are one signal
  pub outputs : Pairwise ◌≢◌ (all_outputs (plan_of bytes).tasks)
