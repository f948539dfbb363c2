-- Document 01, 'The plan file': what its words say.
use Rattle.std.specs.Prelude.{ℕ, ◌+◌, ◌*◌, List, [], map, ◌++◌, ◌∷◌, get_or}
use Rattle.words.specs.Words.{words_of, part_of}
use Rattle.lists.specs.Lists.{tab, part}

-- word n of a list of words
abbrev pub word : List ℕ → ℕ → ℕ
word ws n = get_or ws n 0

-- n words from a word on
abbrev pub values : List ℕ → ℕ → ℕ → List ℕ
values ws start n = tab (λ j. word ws (start + j)) 0 n

-- ---- "Word 0: version 1. Word 1: signals S, 1..64. Word 2: tasks T, 1..16."
abbrev pub version : List ℕ → ℕ
version ws = word ws 0

abbrev pub signal_count : List ℕ → ℕ
signal_count ws = word ws 1

abbrev pub task_count : List ℕ → ℕ
task_count ws = word ws 2

-- "Then T + 1 pairs (start word, length in words): first the signals body, then tasks 0..T−1"
abbrev pub start_of : List ℕ → ℕ → ℕ
start_of ws k = word ws (3 + k * 2)

abbrev pub length_of : List ℕ → ℕ → ℕ
length_of ws k = word ws (4 + k * 2)

-- the body of entry k
abbrev pub body_of : List ℕ → ℕ → List ℕ
body_of ws k = part ws (start_of ws k) (length_of ws k)

-- the bytes of task i's body, cut to the file where its entry reaches beyond
abbrev pub body_part : List ℕ → ℕ → List ℕ
body_part bytes i = part_of bytes (start_of (words_of bytes) (i + 1)) (length_of (words_of bytes) (i + 1))

-- ---- "Task body: priority, period, deadline, execution time, offset, kind, initial state, ni, no, nt, na; then ni input
-- signals, no output signals, nt transitions (from, input position, order, to), na actions (state, kind, a, b, c)."
pub record Transition : Type 0 where
  pub from : ℕ
  pub input : ℕ
  pub order : ℕ
  pub to : ℕ

pub record Action : Type 0 where
  pub state : ℕ
  pub kind : ℕ
  pub a : ℕ
  pub b : ℕ
  pub c : ℕ

pub record Task : Type 0 where
  pub priority : ℕ
  pub period : ℕ
  pub deadline : ℕ
  pub execution : ℕ
  pub offset : ℕ
  pub kind : ℕ
  pub initial : ℕ
  pub inputs : List ℕ
  pub outputs : List ℕ
  pub transitions : List Transition
  pub actions : List Action

abbrev pub input_count : List ℕ → ℕ
input_count ws = word ws 7

abbrev pub output_count : List ℕ → ℕ
output_count ws = word ws 8

abbrev pub transition_count : List ℕ → ℕ
transition_count ws = word ws 9

abbrev pub action_count : List ℕ → ℕ
action_count ws = word ws 10

-- the word of a body at which each list starts
abbrev pub inputs_at : ℕ
inputs_at = 11

abbrev pub outputs_at : List ℕ → ℕ
outputs_at ws = inputs_at + input_count ws

abbrev pub transitions_at : List ℕ → ℕ
transitions_at ws = outputs_at ws + output_count ws

abbrev pub actions_at : List ℕ → ℕ
actions_at ws = transitions_at ws + transition_count ws * 4

-- "(from, input position, order, to)": the transition at a word
abbrev pub transition_at : List ℕ → ℕ → Transition
transition_at ws at = record { from = word ws at; input = word ws (at + 1); order = word ws (at + 2); to = word ws (at + 3) }

-- "(state, kind, a, b, c)": the action at a word
abbrev pub action_at : List ℕ → ℕ → Action
action_at ws at =
    record { state = word ws at; kind = word ws (at + 1); a = word ws (at + 2); b = word ws (at + 3); c = word ws (at + 4) }

-- n transitions from a word on
abbrev pub transitions_from : List ℕ → ℕ → ℕ → List Transition
transitions_from ws first n = tab (λ j. transition_at ws (first + j * 4)) 0 n

-- n actions from a word on
abbrev pub actions_from : List ℕ → ℕ → ℕ → List Action
actions_from ws first n = tab (λ j. action_at ws (first + j * 5)) 0 n

unfoldable pub task_of : List ℕ → Task
task_of ws = record {
  priority = word ws 0;
  period = word ws 1;
  deadline = word ws 2;
  execution = word ws 3;
  offset = word ws 4;
  kind = word ws 5;
  initial = word ws 6;
  inputs = values ws inputs_at (input_count ws);
  outputs = values ws (outputs_at ws) (output_count ws);
  transitions = transitions_from ws (transitions_at ws) (transition_count ws);
  actions = actions_from ws (actions_at ws) (action_count ws);
}

-- ---- the whole plan
pub record Plan : Type 0 where
  pub signals : List ℕ
  pub tasks : List Task

-- the bodies of tasks 0..T−1
abbrev pub task_bodies : List ℕ → List (List ℕ)
task_bodies ws = tab (λ i. body_of ws (i + 1)) 0 (task_count ws)

-- "Signals body: S initial values."
unfoldable pub plan_of : List ℕ → Plan
plan_of bytes =
    let ws = words_of bytes in
    record { signals = values ws (start_of ws 0) (signal_count ws); tasks = map task_of (task_bodies ws) }

-- what stands past the last task
abbrev pub no_task : Task
no_task = record {
  priority = 0;
  period = 0;
  deadline = 0;
  execution = 0;
  offset = 0;
  kind = 0;
  initial = 0;
  inputs = [];
  outputs = [];
  transitions = [];
  actions = [];
}

-- task i of a plan
abbrev pub task_at : Plan → ℕ → Task
task_at plan i = get_or plan.tasks i no_task

-- all outputs of a list of tasks, in order
unfoldable pub all_outputs : List Task → List ℕ
all_outputs [] = []
all_outputs (k ∷ ks) = k.outputs ++ all_outputs ks
