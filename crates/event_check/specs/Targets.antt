-- How the check asks rule 11: with two words of 64 marks, for the signals that tasks write and for the event-driven tasks.
-- proofs/Targets.antt shows that this is the papers' rule (events/specs/Events.antt) where the plan is accepted.
use Rattle.std.specs.Prelude.{ℕ, zero, suc, ◌+◌, Bool, cond, not, ◌&&◌, ◌||◌, List, ◌∷◌, ltb, eqb}
use Rattle.marks.specs.Marks.{seen, mark}
use Rattle.lists.specs.Lists.{tab}
use Rattle.answers.specs.Answers.{Rule, rule}
use Rattle.plan.specs.File.{word, signal_count, task_count, body_of, Task, task_of, all_outputs}
use Rattle.plan_check.specs.Clash.{mark_all}
use Rattle.events.specs.Events.{Event, event_size_rule, event_rules, events_of}
use Rattle.event_check.specs.declared.EventTargets.{EventTargets}

-- "Kind 1 releases an event-driven task, value 0."
abbrev pub releases_by : EventTargets → Event → Bool
releases_by targets e =
    eqb e.kind 1 && ltb e.target targets.tasks && seen targets.driven e.target && eqb e.value 0

-- "Kind 2 sets a signal that no task writes."
abbrev pub sets_by : EventTargets → Event → Bool
sets_by targets e = eqb e.kind 2 && ltb e.target targets.signals && not (seen targets.written e.target)

abbrev pub content_by : EventTargets → Event → Bool
content_by targets e = releases_by targets e || sets_by targets e

-- the signals that tasks write, as marks
abbrev pub written_by : List Task → ℕ
written_by tasks = mark_all 0 (all_outputs tasks)

-- marks with task i, where its period, word 1 of its body, is 0: "Period 0 means event-driven"
abbrev pub with_driven : List ℕ → ℕ → ℕ → ℕ
with_driven ws i marks = cond (eqb (word (body_of ws (i + 1)) 1) 0) (mark marks i) marks

-- the event-driven ones of the first n tasks, as marks
unfoldable pub driven_by : List ℕ → ℕ → ℕ
driven_by ws zero = 0
driven_by ws (suc n) = with_driven ws n (driven_by ws n)

-- what rule 11 asks of the words of a plan
abbrev pub targets_by : List ℕ → EventTargets
targets_by ws = record {
  tasks = task_count ws;
  signals = signal_count ws;
  written = written_by (tab (λ i. task_of (body_of ws (i + 1))) 0 (task_count ws));
  driven = driven_by ws (task_count ws);
}

-- the rules 9, 10, 11 as the check asks them
abbrev pub list_by : List ℕ → List ℕ → List Rule
list_by ws event_bytes = rule 9 0 (event_size_rule event_bytes) ∷ event_rules (content_by (targets_by ws)) 0 0 (events_of event_bytes)
