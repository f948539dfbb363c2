-- Document 01, 'The event list': the kinds of events, and the number that stands for each in a record.
use Rattle.std.specs.Prelude.{ℕ, ◌≡◌, ◌≢◌, Result, MatchResult}
use Rattle.plan.specs.declared.NoKind.{NoKind}
use Rattle.events.specs.declared.EventKind.{EventKind}
use Rattle.events.specs.declared.EventKind.TheVariants.{Release, Set}

-- "Kind 1 releases", "Kind 2 sets"
abbrev pub event_kind_number : EventKind → ℕ
event_kind_number Release = 1
event_kind_number Set = 2

-- what a word says: the kind whose number it is, or that it is the number of none
abbrev pub IsEventKind : ℕ → Result EventKind NoKind → Type 0
IsEventKind n r = MatchResult r (λ kind. event_kind_number kind ≡ n) (λ _. (kind : EventKind) → event_kind_number kind ≢ n)
