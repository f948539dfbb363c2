-- Document 01, 'Sample plan and neighbours of each limit': the marked examples P1 to P11 as one list. Each goes from the bytes
-- of a plan and of events to the lines that the program prints.
use Rattle.std.specs.Prelude.{ℕ, zero, suc, ◌+◌, ◌*◌, ◌/◌, ◌%◌, ◌≡◌, Bool, cond, ◌&&◌, List, [], ◌∷◌, ◌++◌, map, length, get_or, take, drop, leb, ltb, eqb}
use Rattle.words.specs.Words.{word_at}
use Rattle.answers.specs.Answers.{said}
use Rattle.plan.specs.File.{Transition, Action, Task, Plan}
use Rattle.events.specs.Events.{Event}
use Rattle.trace.specs.Trace.{records_in}
use Rattle.trace.specs.declared.Entry.{Entry}
use Rattle.kernel.specs.Call.{start_state, Starts, CallResult, call, Runs}
use Rattle.kernel.specs.declared.Started.{Started}
use Rattle.kernel.specs.declared.Outcome.{Outcome}

-- ---- 'Trace and printing': what the program prints
-- "It starts fresh with a trace of 15,000 words"
abbrev pub trace_words : ℕ
trace_words = 15000

-- what its run comes to, from the ticks asked, the plan's bytes and the events' bytes
abbrev pub program_run : ℕ → List ℕ → List ℕ → CallResult
program_run ticks plan_bytes event_bytes = call plan_bytes event_bytes (start_state plan_bytes) ticks trace_words

-- "a line per record: its five words"
abbrev pub record_line : Entry → List ℕ
record_line e = e.instant ∷ e.kind ∷ e.task ∷ e.signal ∷ e.value ∷ []

-- "ticks run and the number returned, then a line per record"
abbrev pub run_lines : CallResult → List (List ℕ)
run_lines r = (r.ticks ∷ r.verdict.number ∷ []) ∷ map record_line r.entries

-- the numbers of each printed line
abbrev pub printed : ℕ → List ℕ → List ℕ → List (List ℕ)
printed ticks plan_bytes event_bytes = run_lines (program_run ticks plan_bytes event_bytes)

-- ---- the same from standard input: "three words (ticks, plan bytes, event bytes), the plan, the events, nothing more"
abbrev pub plan_end : List ℕ → ℕ
plan_end input = 12 + word_at input 1

-- never 15: "program only: input shorter than 12 bytes, or its length not 12 + plan bytes + event bytes; before all others"
abbrev pub input_rule : List ℕ → Bool
input_rule input = leb 12 (length input) && eqb (length input) (plan_end input + word_at input 2)

-- "On 15, and on 1..13, that is the first line alone, with 0 ticks."
abbrev pub printed_on : List ℕ → List (List ℕ)
printed_on input =
    cond (input_rule input)
    (printed (word_at input 0) (take (word_at input 1) (drop 12 input)) (drop (plan_end input) input))
    ((0 ∷ 15 ∷ []) ∷ [])

-- ---- the same of what the entries answer
-- the lines of an outcome and of the trace that is left
abbrev pub outcome_lines : Outcome → List ℕ → List (List ℕ)
outcome_lines r trace = (r.ticks ∷ (said r.answer).number ∷ []) ∷ map record_line (records_in trace r.records)

-- ---- the lines as text, byte for byte
-- a digit; '0' is 48
abbrev pub digit : ℕ → List ℕ
digit d = (48 + d) ∷ []

-- "in decimal": a number of so many digits at most
unfoldable pub decimal : ℕ → ℕ → List ℕ
decimal zero n = []
decimal (suc more) n = cond (ltb n 10) (digit n) (decimal more (n / 10) ++ digit (n % 10))

-- "one space between"; a word has ten digits at most
unfoldable pub spaced : List ℕ → List ℕ
spaced [] = []
spaced (n ∷ []) = decimal 10 n
spaced (n ∷ m ∷ rest) = decimal 10 n ++ (32 ∷ spaced (m ∷ rest))

-- each line ends in a line feed
unfoldable pub line_texts : List (List ℕ) → List ℕ
line_texts [] = []
line_texts (l ∷ ls) = spaced l ++ (10 ∷ line_texts ls)

-- "done" and a space, then the lines
abbrev pub text : List (List ℕ) → List ℕ
text ls = 100 ∷ 111 ∷ 110 ∷ 101 ∷ 32 ∷ line_texts ls

-- ---- 'The plan file': its bytes from what it says, with the contents counted
-- "Words of 4 bytes, lowest byte first."
unfoldable pub bytes_of : List ℕ → List ℕ
bytes_of [] = []
bytes_of (w ∷ ws) = w % 256 ∷ w / 256 % 256 ∷ w / 65536 % 256 ∷ w / 16777216 % 256 ∷ bytes_of ws

-- the words of each of a list, one after the other
unfoldable pub in_a_row : {A : Type 0} → (A → List ℕ) → List A → List ℕ
in_a_row words_in [] = []
in_a_row words_in (x ∷ xs) = words_in x ++ in_a_row words_in xs

-- "transitions (from, input position, order, to)"
abbrev pub transition_words : Transition → List ℕ
transition_words x = x.from ∷ x.input ∷ x.order ∷ x.to ∷ []

-- "actions (state, kind, a, b, c)"
abbrev pub action_words : Action → List ℕ
action_words x = x.state ∷ x.kind ∷ x.a ∷ x.b ∷ x.c ∷ []

-- "priority, period, deadline, execution time, offset, kind, initial state, ni, no, nt, na"
abbrev pub head_words : Task → List ℕ
head_words k =
    k.priority ∷ k.period ∷ k.deadline ∷ k.execution ∷ k.offset ∷ k.kind ∷ k.initial ∷ length k.inputs
    ∷ length k.outputs ∷ length k.transitions ∷ length k.actions ∷ []

-- "then ni input signals, no output signals, nt transitions, na actions"
unfoldable pub task_words : Task → List ℕ
task_words k = head_words k ++ (k.inputs ++ (k.outputs ++ (in_a_row transition_words k.transitions ++ in_a_row action_words k.actions)))

-- "pairs (start word, length in words)": "each next start is the end of the body before"
unfoldable pub contents : ℕ → List (List ℕ) → List ℕ
contents start [] = []
contents start (body ∷ bodies) = start ∷ length body ∷ contents (start + length body) bodies

-- "first the signals body, then tasks 0..T−1"
abbrev pub bodies_of : Plan → List (List ℕ)
bodies_of plan = plan.signals ∷ map task_words plan.tasks

-- "Word 0: version 1. Word 1: signals S. Word 2: tasks T. Then T + 1 pairs"; "The first start is 3 + 2 × (T + 1)"
unfoldable pub file_of : Plan → List ℕ
file_of plan =
    let pairs = contents (3 + 2 * (length plan.tasks + 1)) (bodies_of plan) in
    bytes_of (1 ∷ length plan.signals ∷ length plan.tasks ∷ pairs ++ in_a_row (λ ws. ws) (bodies_of plan))

-- "Records of four words: instant, kind, target, value."
abbrev pub event_words : Event → List ℕ
event_words e = e.instant ∷ e.kind ∷ e.target ∷ e.value ∷ []

-- the bytes of an event list
unfoldable pub event_file : List Event → List ℕ
event_file events = bytes_of (in_a_row event_words events)

-- ---- the sample, and what the marked examples change in it
-- an action, by its five words
abbrev pub action : ℕ → ℕ → ℕ → ℕ → ℕ → Action
action state kind a b c = record { state = state; kind = kind; a = a; b = b; c = c }

-- a transition, by its four words
abbrev pub transition : ℕ → ℕ → ℕ → ℕ → Transition
transition from input order to = record { from = from; input = input; order = order; to = to }

-- "Task 0: priority 2, period 10, deadline 8, execution 3, offset 0, controller, inputs 0 1 2, outputs 3 4, action (1, 4, 0, 1, 2)"
-- with its priority, its execution time and its action
unfoldable pub task0 : ℕ → ℕ → Action → Task
task0 priority execution act = record {
  priority = priority;
  period = 10;
  deadline = 8;
  execution = execution;
  offset = 0;
  kind = 2;
  initial = 0;
  inputs = 0 ∷ 1 ∷ 2 ∷ [];
  outputs = 3 ∷ 4 ∷ [];
  transitions = [];
  actions = act ∷ [];
}

-- "Task 1: priority 1, period 5, deadline 4, execution 2, offset 0, controller, inputs 0 1, nothing else", with its priority
unfoldable pub task1 : ℕ → Task
task1 priority = record {
  priority = priority;
  period = 5;
  deadline = 4;
  execution = 2;
  offset = 0;
  kind = 2;
  initial = 0;
  inputs = 0 ∷ 1 ∷ [];
  outputs = [];
  transitions = [];
  actions = [];
}

-- the action of the sample: move input 2, the amount, from the first output to the second
abbrev pub moves : Action
moves = action 1 4 0 1 2

-- add input 2 to the first output
abbrev pub adds : Action
adds = action 1 3 0 0 2

-- "signals 1, 1, 5, 20, 0", with the amount and the values of the two outputs; the file of such a plan
unfoldable pub sample : ℕ → ℕ → ℕ → Task → Task → List ℕ
sample amount first second k₀ k₁ = file_of (record { signals = 1 ∷ 1 ∷ amount ∷ first ∷ second ∷ []; tasks = k₀ ∷ k₁ ∷ [] })

-- an event-driven supervisor with deadline 3, in state 1, whose inputs are both true; each new state sets the third output
unfoldable pub supervisor : List Transition → List ℕ
supervisor transitions =
    file_of
    (record {
      signals = 1 ∷ 7 ∷ 0 ∷ 0 ∷ 0 ∷ [];
      tasks =
          record {
            priority = 16;
            period = 0;
            deadline = 3;
            execution = 1;
            offset = 0;
            kind = 1;
            initial = 1;
            inputs = 0 ∷ 1 ∷ [];
            outputs = 2 ∷ 3 ∷ 4 ∷ [];
            transitions = transitions;
            actions = action 2 1 2 0 22 ∷ action 3 1 2 0 33 ∷ [];
          }
          ∷ [];
    })

-- an event that releases task 0
abbrev pub release_at : ℕ → Event
release_at instant = record { instant = instant; kind = 1; target = 0; value = 0 }

-- ---- the lines
-- "done", ticks run and the number returned
abbrev pub done : ℕ → ℕ → List ℕ
done ticks number = ticks ∷ number ∷ []

-- a record, by its five words
abbrev pub line : ℕ → ℕ → ℕ → ℕ → ℕ → List ℕ
line instant kind task signal value = instant ∷ kind ∷ task ∷ signal ∷ value ∷ []

-- what the sample prints, with the two values that task 0 writes
unfoldable pub sample_lines : ℕ → ℕ → List (List ℕ)
sample_lines first second =
    done 12 0
    ∷ line 0 1 1 0 0
    ∷ line 0 1 0 0 0
    ∷ line 5 1 1 0 0
    ∷ line 8 2 0 3 first
    ∷ line 8 2 0 4 second
    ∷ line 10 1 1 0 0
    ∷ line 10 1 0 0 0
    ∷ []

-- ---- a marked example: its number, what the program is given, and the lines that it prints
pub record Marked : Type 0 where
  pub number : ℕ
  pub ticks : ℕ
  pub plan : List ℕ
  pub events : List ℕ
  pub lines : List (List ℕ)

-- it prints them
abbrev pub Prints : Marked → Type 0
Prints m = printed m.ticks m.plan m.events ≡ m.lines

-- so does whatever meets the contracts of the two entries, with a trace of 15,000 words
abbrev pub EntriesPrint : Marked → Type 0
EntriesPrint m =
    (s : Started) (lent left : List ℕ) (r : Outcome) → length lent ≡ trace_words → Starts m.plan s
    → Runs m.plan m.events s.state m.ticks lent left r → outcome_lines r left ≡ m.lines

-- what stands on standard input
abbrev pub input_of : Marked → List ℕ
input_of m = bytes_of (m.ticks ∷ length m.plan ∷ length m.events ∷ []) ++ (m.plan ++ m.events)

-- "(P1) the sample"
unfoldable pub p1 : Marked
p1 = record { number = 1; ticks = 12; plan = sample 5 20 0 (task0 2 3 moves) (task1 1); events = []; lines = sample_lines 15 5 }

-- "(P2) task 0 with execution 4: same lines"
unfoldable pub p2 : Marked
p2 = record { number = 2; ticks = 12; plan = sample 5 20 0 (task0 2 4 moves) (task1 1); events = []; lines = sample_lines 15 5 }

-- "(P3) with 5: `8 3 0 0 0` replaces both writes, the last line is absent"
unfoldable pub p3 : Marked
p3 = record {
  number = 3;
  ticks = 12;
  plan = sample 5 20 0 (task0 2 5 moves) (task1 1);
  events = [];
  lines = done 12 0 ∷ line 0 1 1 0 0 ∷ line 0 1 0 0 0 ∷ line 5 1 1 0 0 ∷ line 8 3 0 0 0 ∷ line 10 1 1 0 0 ∷ [];
}

-- "(P4) priorities swapped and task 0 with execution 2: each task's lines as in P1"
unfoldable pub p4 : Marked
p4 = record {
  number = 4;
  ticks = 12;
  plan = sample 5 20 0 (task0 1 2 moves) (task1 2);
  events = [];
  lines =
      done 12 0
      ∷ line 0 1 0 0 0
      ∷ line 0 1 1 0 0
      ∷ line 5 1 1 0 0
      ∷ line 8 2 0 3 15
      ∷ line 8 2 0 4 5
      ∷ line 10 1 0 0 0
      ∷ line 10 1 1 0 0
      ∷ [];
}

-- "(P5) swapped with execution 3: task 1 misses at 4"
unfoldable pub p5 : Marked
p5 = record {
  number = 5;
  ticks = 12;
  plan = sample 5 20 0 (task0 1 3 moves) (task1 2);
  events = [];
  lines =
      done 12 0
      ∷ line 0 1 0 0 0
      ∷ line 0 1 1 0 0
      ∷ line 4 3 1 0 0
      ∷ line 8 2 0 3 15
      ∷ line 8 2 0 4 5
      ∷ line 10 1 0 0 0
      ∷ [];
}

-- "(P6) amount 20: writes 0 and 20"
unfoldable pub p6 : Marked
p6 = record { number = 6; ticks = 12; plan = sample 20 20 0 (task0 2 3 moves) (task1 1); events = []; lines = sample_lines 0 20 }

-- "(P7) amount 21: writes 20 and 0"
unfoldable pub p7 : Marked
p7 = record { number = 7; ticks = 12; plan = sample 21 20 0 (task0 2 3 moves) (task1 1); events = []; lines = sample_lines 20 0 }

-- "(P8) move of 4 onto 4,294,967,291 done"
unfoldable pub p8_done : Marked
p8_done = record {
  number = 8;
  ticks = 12;
  plan = sample 4 20 4294967291 (task0 2 3 moves) (task1 1);
  events = [];
  lines = sample_lines 16 4294967295;
}

-- "(P8) .. of 5 not"
unfoldable pub p8_not : Marked
p8_not = record {
  number = 8;
  ticks = 12;
  plan = sample 5 20 4294967291 (task0 2 3 moves) (task1 1);
  events = [];
  lines = sample_lines 20 4294967291;
}

-- "(P9) add 1 to 4,294,967,295 gives 0"
unfoldable pub p9 : Marked
p9 = record {
  number = 9;
  ticks = 12;
  plan = sample 1 4294967295 0 (task0 2 3 adds) (task1 1);
  events = [];
  lines = sample_lines 0 0;
}

-- "(P10) inputs true for orders 2 and 1: order 1 fires"
unfoldable pub p10 : Marked
p10 = record {
  number = 10;
  ticks = 5;
  plan = supervisor (transition 1 0 2 2 ∷ transition 1 1 1 3 ∷ []);
  events = event_file (release_at 0 ∷ []);
  lines = done 5 0 ∷ line 0 1 0 0 0 ∷ line 3 2 0 2 3 ∷ line 3 2 0 3 1 ∷ line 3 2 0 4 33 ∷ [];
}

-- "(P11) event at exactly r + D accepted"
unfoldable pub p11_accepted : Marked
p11_accepted = record {
  number = 11;
  ticks = 7;
  plan = supervisor (transition 1 0 1 2 ∷ []);
  events = event_file (release_at 0 ∷ release_at 3 ∷ []);
  lines =
      done 7 0
      ∷ line 0 1 0 0 0
      ∷ line 3 2 0 2 2
      ∷ line 3 2 0 3 1
      ∷ line 3 2 0 4 22
      ∷ line 3 1 0 0 0
      ∷ line 6 2 0 2 2
      ∷ line 6 2 0 3 0
      ∷ line 6 2 0 4 22
      ∷ [];
}

-- "(P11) .. one tick earlier ignored"
unfoldable pub p11_ignored : Marked
p11_ignored = record {
  number = 11;
  ticks = 7;
  plan = supervisor (transition 1 0 1 2 ∷ []);
  events = event_file (release_at 0 ∷ release_at 2 ∷ []);
  lines = done 7 0 ∷ line 0 1 0 0 0 ∷ line 2 5 0 0 0 ∷ line 3 2 0 2 2 ∷ line 3 2 0 3 1 ∷ line 3 2 0 4 22 ∷ [];
}

-- "Marked P": P1 to P11, P8 and P11 with two runs each
abbrev pub marked : List Marked
marked = p1 ∷ p2 ∷ p3 ∷ p4 ∷ p5 ∷ p6 ∷ p7 ∷ p8_done ∷ p8_not ∷ p9 ∷ p10 ∷ p11_accepted ∷ p11_ignored ∷ []

-- ---- P4: "each task's lines"
-- the lines of a task among lines of records
unfoldable pub own_among : ℕ → List (List ℕ) → List (List ℕ)
own_among i [] = []
own_among i (l ∷ ls) = cond (eqb (get_or l 2 0) i) (l ∷ own_among i ls) (own_among i ls)

-- its lines among printed lines, of which the first is no record
unfoldable pub own_lines : ℕ → List (List ℕ) → List (List ℕ)
own_lines i [] = []
own_lines i (first ∷ records) = own_among i records
