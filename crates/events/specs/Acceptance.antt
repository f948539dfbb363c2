-- Document 01, 'The event list' and 'Numbers returned': what is proved of the verdict on a plan with an event list, whatever
-- their bytes are.
use Rattle.std.specs.Prelude.{ℕ, ◌≡◌, List, ◌↔◌}
use Rattle.answers.specs.Decides.{Decides}
use Rattle.plan.specs.Accepted.{Accepted}
use Rattle.events.specs.Events.{check_rules, events_verdict}
use Rattle.events.specs.Accepted.{AcceptedEvents}

-- "0: accepted": the number is 0 exactly when the plan keeps the rules and so does the event list, as a person would write them
-- from the paper
abbrev pub EventsAcceptedExactlyWhenTheRulesHold : Type 0
EventsAcceptedExactlyWhenTheRulesHold =
    (plan_bytes event_bytes : List ℕ) → (Accepted plan_bytes × AcceptedEvents plan_bytes event_bytes) ↔ ((events_verdict plan_bytes event_bytes).number ≡ 0)

-- "then 7, 8; 9; for each event in turn 10, 11": a refusal has the number and the place of a broken rule before which, in this
-- order, every rule holds
abbrev pub EventsRefusedByTheFirstBrokenRule : Type 0
EventsRefusedByTheFirstBrokenRule =
    (plan_bytes event_bytes : List ℕ) → Decides (check_rules plan_bytes event_bytes) (events_verdict plan_bytes event_bytes)
