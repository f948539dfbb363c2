-- The state taken apart: the arrays of numbers that the steps of a tick are lent.
use Rattle.std.specs.Prelude.{ℕ, ◌+◌, ◌*◌, ◌≡◌, List, [], length, get_or, set}
use Rattle.limits.specs.Limits.{max_signals, max_tasks, max_ports}
use Rattle.trace.specs.Trace.{over}
use Rattle.trace.specs.declared.Entry.{Entry}

-- the signals; four numbers of each task (status, remaining ticks, release instant, machine state); eight latched inputs and
-- eight held outputs of each task
pub record Arrays : Type 0 where
  pub signals : List ℕ
  pub tasks : List ℕ
  pub latched : List ℕ
  pub held : List ℕ

-- they have their lengths
pub record Sized (a : Arrays) : Type 0 where
  pub signals : length a.signals ≡ max_signals
  pub tasks : length a.tasks ≡ max_tasks * 4
  pub latched : length a.latched ≡ max_tasks * max_ports
  pub held : length a.held ≡ max_tasks * max_ports

-- the statuses as numbers
abbrev pub ready : ℕ
ready = 0

abbrev pub active : ℕ
active = 1

abbrev pub finished : ℕ
finished = 2

abbrev pub error : ℕ
error = 3

-- field f of task i: 0 status, 1 remaining, 2 release, 3 machine state
abbrev pub field : List ℕ → ℕ → ℕ → ℕ
field tasks i f = get_or tasks (i * 4 + f) 0

-- the tasks with field f of task i changed
abbrev pub with_field : List ℕ → ℕ → ℕ → ℕ → List ℕ
with_field tasks i f x = set tasks (i * 4 + f) x

-- the fields of a row of the schedule, by the place at which each stands; the input and output signals start at theirs
abbrev pub row_task : ℕ
row_task = 0

abbrev pub row_period : ℕ
row_period = 1

abbrev pub row_deadline : ℕ
row_deadline = 2

abbrev pub row_execution : ℕ
row_execution = 3

abbrev pub row_offset : ℕ
row_offset = 4

abbrev pub row_kind : ℕ
row_kind = 5

abbrev pub row_start : ℕ
row_start = 6

abbrev pub row_input_count : ℕ
row_input_count = 7

abbrev pub row_output_count : ℕ
row_output_count = 8

abbrev pub row_transition_count : ℕ
row_transition_count = 9

abbrev pub row_action_count : ℕ
row_action_count = 10

abbrev pub row_inputs : ℕ
row_inputs = 16

abbrev pub row_outputs : ℕ
row_outputs = 24

abbrev pub row_width : ℕ
row_width = 32

-- field f of row j of the schedule
abbrev pub row_field : List ℕ → ℕ → ℕ → ℕ
row_field rows j f = get_or rows (j * row_width + f) 0

-- what a step comes to: the arrays after it, and its records
pub record Step : Type 0 where
  pub arrays : Arrays
  pub entries : List Entry

abbrev pub still : Arrays → Step
still a = record { arrays = a; entries = [] }

-- what a function over the lent arrays and the lent trace does, by what a definition says of it: `from` is the word of the
-- trace at which its records start, and it returns the word at which they end
pub record Does (new : Arrays) (old-trace new-trace : List ℕ) (from end : ℕ) (s : Step) : Type 0 where
  pub arrays : new ≡ s.arrays
  pub trace : new-trace ≡ over old-trace from s.entries
  pub ends : end ≡ from + 5 * length s.entries
