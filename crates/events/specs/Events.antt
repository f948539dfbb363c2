-- Document 01, 'The event list' and 'Numbers returned': what the words of an event list say, its rules 9..11, and the number
-- and place of a refusal.
use Rattle.std.specs.Prelude.{ℕ, ◌+◌, ◌*◌, ◌/◌, ◌%◌, Bool, cond, ◌&&◌, ◌||◌, List, [], ◌∷◌, ◌++◌, length, leb, ltb, eqb}
use Rattle.limits.specs.Limits.{max_event_bytes, last_instant}
use Rattle.words.specs.Words.{words_of}
use Rattle.lists.specs.Lists.{tab, between, absent}
use Rattle.answers.specs.Answers.{Rule, rule, Verdict, first_broken}
use Rattle.plan.specs.File.{word, Plan, plan_of, task_at, all_outputs}
use Rattle.plan.specs.Rules.{plan_rules}

-- ---- "Records of four words: instant, kind, target, value."
pub record Event : Type 0 where
  pub instant : ℕ
  pub kind : ℕ
  pub target : ℕ
  pub value : ℕ

-- record j of a list of words
abbrev pub event_of : List ℕ → ℕ → Event
event_of ws j =
    let at = j * 4 in
    record { instant = word ws at; kind = word ws (at + 1); target = word ws (at + 2); value = word ws (at + 3) }

-- how many whole records there are, of 16 bytes each
abbrev pub event_count : List ℕ → ℕ
event_count bytes = length bytes / 16

abbrev pub events_of : List ℕ → List Event
events_of bytes = tab (event_of (words_of bytes)) 0 (event_count bytes)

-- ---- 9: "event bytes not a multiple of 16, or above 16,384"
abbrev pub event_size_rule : List ℕ → Bool
event_size_rule bytes = eqb (length bytes % 16) 0 && leb (length bytes) max_event_bytes

-- ---- 10: "an instant falls or exceeds 999,999", after a record of instant last
abbrev pub instant_rule : ℕ → Event → Bool
instant_rule last e = between last last_instant e.instant

-- ---- 11: "event kind, target or value wrong"
-- "Kind 1 releases an event-driven task, value 0."
abbrev pub release_event_rule : Plan → Event → Bool
release_event_rule plan e =
    eqb e.kind 1 && ltb e.target (length plan.tasks) && eqb (task_at plan e.target).period 0 && eqb e.value 0

-- "Kind 2 sets a signal that no task writes."
abbrev pub set_event_rule : Plan → Event → Bool
set_event_rule plan e = eqb e.kind 2 && ltb e.target (length plan.signals) && absent e.target (all_outputs plan.tasks)

abbrev pub content_rule : Plan → Event → Bool
content_rule plan e = release_event_rule plan e || set_event_rule plan e

-- ---- 10 and 11 of one event: record i, after a record of instant last; good is the rule 11 of the plan at hand
abbrev pub one_event : (Event → Bool) → ℕ → ℕ → Event → List Rule
one_event good i last e = rule 10 i (instant_rule last e) ∷ rule 11 i (good e) ∷ []

-- the events from record i on
unfoldable pub event_rules : (Event → Bool) → ℕ → ℕ → List Event → List Rule
event_rules good i last [] = []
event_rules good i last (e ∷ rest) = one_event good i last e ++ event_rules good (i + 1) e.instant rest

-- 9, then 10 and 11 of each event; the first instant is compared with 0
abbrev pub event_list_rules : List ℕ → List ℕ → List Rule
event_list_rules plan_bytes event_bytes =
    rule 9 0 (event_size_rule event_bytes) ∷ event_rules (content_rule (plan_of plan_bytes)) 0 0 (events_of event_bytes)

-- those of the plan before those of the events
abbrev pub check_rules : List ℕ → List ℕ → List Rule
check_rules plan_bytes event_bytes = plan_rules plan_bytes ++ event_list_rules plan_bytes event_bytes

-- the number and place of a plan with an event list
abbrev pub events_verdict : List ℕ → List ℕ → Verdict
events_verdict plan_bytes event_bytes = first_broken (check_rules plan_bytes event_bytes)

-- ---- the event place: how many events are before tick t
unfoldable pub passed : ℕ → List Event → ℕ
passed t [] = 0
passed t (e ∷ rest) = cond (ltb e.instant t) 1 0 + passed t rest
