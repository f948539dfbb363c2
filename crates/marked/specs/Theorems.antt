-- Document 01, 'Sample plan and neighbours of each limit': what is proved of the marked examples.
use Rattle.std.specs.Prelude.{ℕ, ◌≡◌, List, [], ◌∷◌, map, length}
use Rattle.lists.specs.Lists.{Every}
use Rattle.kernel.specs.Call.{Starts, Runs}
use Rattle.kernel.specs.declared.Started.{Started}
use Rattle.kernel.specs.declared.Outcome.{Outcome}
use Rattle.marked.specs.Marked.{trace_words, printed, printed_on, outcome_lines, text, Prints, EntriesPrint, input_of, p1, p4, marked, own_lines}

-- "P1 to P11 are proved of the definitions by a single statement over a list": each prints its lines
abbrev pub EachMarkedExamplePrintsItsLines : Type 0
EachMarkedExamplePrintsItsLines = Every Prints marked

-- P1 to P11 stand in that list, and none is left out
abbrev pub TheMarkedExamplesAreP1ToP11 : Type 0
TheMarkedExamplesAreP1ToP11 = map (λ m. m.number) marked ≡ 1 ∷ 2 ∷ 3 ∷ 4 ∷ 5 ∷ 6 ∷ 7 ∷ 8 ∷ 8 ∷ 9 ∷ 10 ∷ 11 ∷ 11 ∷ []

-- P4: "each task's lines as in P1"
abbrev pub P4PrintsEachTasksLinesAsP1Does : Type 0
P4PrintsEachTasksLinesAsP1Does =
    (i : ℕ) → own_lines i (printed p4.ticks p4.plan p4.events) ≡ own_lines i (printed p1.ticks p1.plan p1.events)

-- ---- the same of whatever meets the contracts of the entries
-- from a fresh start on, with a trace of 15,000 words, they print what the definitions say, whatever the plan and the events are
abbrev pub TheEntriesPrintWhatTheDefinitionsSay : Type 0
TheEntriesPrintWhatTheDefinitionsSay =
    (ticks : ℕ) (plan events : List ℕ) (s : Started) (lent left : List ℕ) (r : Outcome) → length lent ≡ trace_words
    → Starts plan s → Runs plan events s.state ticks lent left r → outcome_lines r left ≡ printed ticks plan events

-- so they print the lines of each marked example
abbrev pub TheEntriesPrintEachMarkedExample : Type 0
TheEntriesPrintEachMarkedExample = Every EntriesPrint marked

-- ---- the same from standard input
abbrev pub EachMarkedExamplePrintsItsLinesFromStandardInput : Type 0
EachMarkedExamplePrintsItsLinesFromStandardInput = Every (λ m. printed_on (input_of m) ≡ m.lines) marked

-- ---- the sample, byte for byte
-- "192 bytes; contents (9, 5), (14, 21), (35, 13)", after 12 ticks, 192 bytes and no events: the file examples/sample
abbrev pub TheSampleIsTheseBytes : Type 0
TheSampleIsTheseBytes =
    input_of p1 ≡
    12 ∷ 0 ∷ 0 ∷ 0 ∷ 192 ∷ 0 ∷ 0 ∷ 0 ∷ 0 ∷ 0 ∷ 0 ∷ 0 ∷ 1 ∷ 0 ∷ 0 ∷ 0
    ∷ 5 ∷ 0 ∷ 0 ∷ 0 ∷ 2 ∷ 0 ∷ 0 ∷ 0 ∷ 9 ∷ 0 ∷ 0 ∷ 0 ∷ 5 ∷ 0 ∷ 0 ∷ 0
    ∷ 14 ∷ 0 ∷ 0 ∷ 0 ∷ 21 ∷ 0 ∷ 0 ∷ 0 ∷ 35 ∷ 0 ∷ 0 ∷ 0 ∷ 13 ∷ 0 ∷ 0 ∷ 0
    ∷ 1 ∷ 0 ∷ 0 ∷ 0 ∷ 1 ∷ 0 ∷ 0 ∷ 0 ∷ 5 ∷ 0 ∷ 0 ∷ 0 ∷ 20 ∷ 0 ∷ 0 ∷ 0
    ∷ 0 ∷ 0 ∷ 0 ∷ 0 ∷ 2 ∷ 0 ∷ 0 ∷ 0 ∷ 10 ∷ 0 ∷ 0 ∷ 0 ∷ 8 ∷ 0 ∷ 0 ∷ 0
    ∷ 3 ∷ 0 ∷ 0 ∷ 0 ∷ 0 ∷ 0 ∷ 0 ∷ 0 ∷ 2 ∷ 0 ∷ 0 ∷ 0 ∷ 0 ∷ 0 ∷ 0 ∷ 0
    ∷ 3 ∷ 0 ∷ 0 ∷ 0 ∷ 2 ∷ 0 ∷ 0 ∷ 0 ∷ 0 ∷ 0 ∷ 0 ∷ 0 ∷ 1 ∷ 0 ∷ 0 ∷ 0
    ∷ 0 ∷ 0 ∷ 0 ∷ 0 ∷ 1 ∷ 0 ∷ 0 ∷ 0 ∷ 2 ∷ 0 ∷ 0 ∷ 0 ∷ 3 ∷ 0 ∷ 0 ∷ 0
    ∷ 4 ∷ 0 ∷ 0 ∷ 0 ∷ 1 ∷ 0 ∷ 0 ∷ 0 ∷ 4 ∷ 0 ∷ 0 ∷ 0 ∷ 0 ∷ 0 ∷ 0 ∷ 0
    ∷ 1 ∷ 0 ∷ 0 ∷ 0 ∷ 2 ∷ 0 ∷ 0 ∷ 0 ∷ 1 ∷ 0 ∷ 0 ∷ 0 ∷ 5 ∷ 0 ∷ 0 ∷ 0
    ∷ 4 ∷ 0 ∷ 0 ∷ 0 ∷ 2 ∷ 0 ∷ 0 ∷ 0 ∷ 0 ∷ 0 ∷ 0 ∷ 0 ∷ 2 ∷ 0 ∷ 0 ∷ 0
    ∷ 0 ∷ 0 ∷ 0 ∷ 0 ∷ 2 ∷ 0 ∷ 0 ∷ 0 ∷ 0 ∷ 0 ∷ 0 ∷ 0 ∷ 0 ∷ 0 ∷ 0 ∷ 0
    ∷ 0 ∷ 0 ∷ 0 ∷ 0 ∷ 0 ∷ 0 ∷ 0 ∷ 0 ∷ 1 ∷ 0 ∷ 0 ∷ 0
    ∷ []

-- "Twelve ticks, no events, print": the paper's eight lines
abbrev pub TheSamplePrintsTheseBytes : Type 0
TheSamplePrintsTheseBytes =
    text p1.lines ≡
    100 ∷ 111 ∷ 110 ∷ 101 ∷ 32 ∷ 49 ∷ 50 ∷ 32 ∷ 48 ∷ 10
    ∷ 48 ∷ 32 ∷ 49 ∷ 32 ∷ 49 ∷ 32 ∷ 48 ∷ 32 ∷ 48 ∷ 10
    ∷ 48 ∷ 32 ∷ 49 ∷ 32 ∷ 48 ∷ 32 ∷ 48 ∷ 32 ∷ 48 ∷ 10
    ∷ 53 ∷ 32 ∷ 49 ∷ 32 ∷ 49 ∷ 32 ∷ 48 ∷ 32 ∷ 48 ∷ 10
    ∷ 56 ∷ 32 ∷ 50 ∷ 32 ∷ 48 ∷ 32 ∷ 51 ∷ 32 ∷ 49 ∷ 53 ∷ 10
    ∷ 56 ∷ 32 ∷ 50 ∷ 32 ∷ 48 ∷ 32 ∷ 52 ∷ 32 ∷ 53 ∷ 10
    ∷ 49 ∷ 48 ∷ 32 ∷ 49 ∷ 32 ∷ 49 ∷ 32 ∷ 48 ∷ 32 ∷ 48 ∷ 10
    ∷ 49 ∷ 48 ∷ 32 ∷ 49 ∷ 32 ∷ 48 ∷ 32 ∷ 48 ∷ 32 ∷ 48 ∷ 10
    ∷ []
