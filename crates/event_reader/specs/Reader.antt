-- Document 01, 'The event list': "An event reader stands at one place in the lent list and moves on over it; where no whole
-- record is left it says so and stays."
use Rattle.std.specs.Prelude.{ℕ, ◌+◌, cond, List, ltb}
use Rattle.words.specs.Words.{words_of}
use Rattle.events.specs.Events.{Event, event_of, event_count}
use Rattle.event_reader.specs.declared.Reading.{Reading}
use Rattle.event_reader.specs.declared.Reading.TheVariants.{Record, End}

-- a record as it is handed out, with the place after it
abbrev pub handed_out : Event → ℕ → Reading
handed_out e next = Record e.instant e.kind e.target e.value next

-- what stands at a place of a list of bytes: record number place, or "no whole record is left"
abbrev pub read_at : List ℕ → ℕ → Reading
read_at bytes place = cond (ltb place (event_count bytes)) (handed_out (event_of (words_of bytes) place) (place + 1)) (End place)

-- the place that a reader moves on to: "where no whole record is left it .. stays"
abbrev pub place_after : List ℕ → ℕ → ℕ
place_after bytes place = cond (ltb place (event_count bytes)) (place + 1) place
