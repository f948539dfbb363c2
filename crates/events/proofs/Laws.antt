-- What follows of the rules of event lists: their numbers, and one record at a time.
use Prim.Native.Nat.{ℕ, ◌+◌, ◌-◌, ◌<◌, ◌≤◌}
use mathlib.Core.Path.{◌≡◌, ap, ◌∙◌}
use mathlib.Core.Bool.{Bool}
use mathlib.Core.List.{List, [], ◌∷◌, ◌++◌}
use native.Mathlib.Omega.{arith}
use native.Mathlib.Nat.{zero-add}
use lib.ListN.{length, get_or}
use Rattle.lists.specs.Lists.{tab}
use Rattle.lists.proofs.Laws.{tab-more, tab-done, length-tab, get_or-tab}
use Rattle.words.specs.Words.{words_of}
use Rattle.answers.specs.Answers.{verdict, first_broken, or_else}
use Rattle.answers.proofs.Laws.{Numbered, broken_append}
use Rattle.plan.specs.File.{plan_of}
use Rattle.plan.specs.Rules.{plan_rules, plan_verdict}
use Rattle.plan.proofs.Laws.{numbered_append, plan_numbered}
use Rattle.events.specs.Events.{Event, event_of, event_count, events_of, content_rule, one_event, event_rules, event_list_rules, check_rules, events_verdict}

-- ---- the list of events by its records
pub events_length : (bytes : List ℕ) → length (events_of bytes) ≡ event_count bytes
events_length bytes = length-tab (event_of (words_of bytes)) 0 (event_count bytes)

pub event_at : (bytes : List ℕ) (d : Event) (j : ℕ) → j < event_count bytes → get_or (events_of bytes) j d ≡ event_of (words_of bytes) j
event_at bytes d j less = get_or-tab (event_of (words_of bytes)) d 0 (event_count bytes) j less ∙ ap (event_of (words_of bytes)) (zero-add j)

-- ---- no rule has number 0
pub numbered_events : (good : Event → Bool) (i last : ℕ) (events : List Event) → Numbered (event_rules good i last events)
unfolding event_rules
numbered_events good i last [] = tt
numbered_events good i last (e ∷ rest) = (omega arith, (omega arith, numbered_events good (i + 1) e.instant rest))

pub numbered_check : (plan_bytes event_bytes : List ℕ) → Numbered (check_rules plan_bytes event_bytes)
numbered_check plan_bytes event_bytes =
    numbered_append (plan_rules plan_bytes) (event_list_rules plan_bytes event_bytes) (plan_numbered plan_bytes) (omega arith, numbered_events (content_rule (plan_of plan_bytes)) 0 0 _)

-- ---- the plan's verdict decides, and where it accepts that of the event list alone
pub plan_first : (plan_bytes event_bytes : List ℕ)
    → events_verdict plan_bytes event_bytes ≡ or_else (plan_verdict plan_bytes) (first_broken (event_list_rules plan_bytes event_bytes))
plan_first plan_bytes event_bytes = broken_append (plan_rules plan_bytes) (event_list_rules plan_bytes event_bytes) (plan_numbered plan_bytes)

-- ---- one record at a time: k done of n, last is the instant of the record before
module _ (good : Event → Bool) (f : ℕ → Event) (n k last : ℕ) where
  pub events_more : k < n
      → event_rules good k last (tab f k (n - k))
      ≡ one_event good k last (f k) ++ event_rules good (k + 1) (f k).instant (tab f (k + 1) (n - (k + 1)))
  unfolding event_rules
  events_more h = rw (tab-more f n k h)

  pub events_done : n ≤ k → event_rules good k last (tab f k (n - k)) ≡ []
  unfolding event_rules
  events_done h = rw (tab-done f n k h)

  pub verdict-more : k < n
      → first_broken (event_rules good k last (tab f k (n - k)))
      ≡ or_else (first_broken (one_event good k last (f k)))
      (first_broken (event_rules good (k + 1) (f k).instant (tab f (k + 1) (n - (k + 1)))))
  verdict-more h =
      ap first_broken (events_more h)
      ∙ broken_append (one_event good k last (f k)) (event_rules good (k + 1) (f k).instant (tab f (k + 1) (n - (k + 1)))) (omega arith, (omega arith, tt))

  pub verdict-done : n ≤ k → first_broken (event_rules good k last (tab f k (n - k))) ≡ verdict 0 0
  unfolding first_broken
  verdict-done h = ap first_broken (events_done h)
