-- P1 to P11 of the definitions that the contracts cite: each prints its lines.
use Prim.Native.Nat.{ℕ, zero, suc}
use mathlib.Core.Path.{◌≡◌, refl, sym, ap, ◌∙◌}
use mathlib.Core.List.{List, [], ◌∷◌}
use lib.ListN.{length}
use lib.Dec.{eqb-zero-suc, eqb-suc-suc}
use Rattle.lists.specs.Lists.{Every}
use Rattle.answers.specs.Answers.{said}
use Rattle.trace.specs.Trace.{trace_after}
use Rattle.trace.proofs.Laws.{records_laid}
use Rattle.kernel.specs.Call.{start_state, CallResult, call}
use Rattle.kernel.specs.declared.Outcome.{Outcome}
use Rattle.marked.specs.Marked.{run_lines, outcome_lines, decimal, spaced, line_texts, sample_lines, Marked, Prints, EntriesPrint, p1, p4, marked, own_among, own_lines}
use Rattle.marked.specs.Theorems.{EachMarkedExamplePrintsItsLines, TheMarkedExamplesAreP1ToP11, P4PrintsEachTasksLinesAsP1Does}
use Rattle.marked.specs.Theorems.{TheEntriesPrintWhatTheDefinitionsSay, TheEntriesPrintEachMarkedExample}
use Rattle.marked.specs.Theorems.{EachMarkedExamplePrintsItsLinesFromStandardInput, TheSampleIsTheseBytes, TheSamplePrintsTheseBytes}
use Rattle.marked.proofs.Computing.{computing_examples, computing_marked}

-- one after the other
pub marked-prints : EachMarkedExamplePrintsItsLines
unfolding computing_marked
marked-prints = (refl, (refl, (refl, (refl, (refl, (refl, (refl, (refl, (refl, (refl, (refl, (refl, (refl, tt)))))))))))))

-- none is left out
pub marked-numbers : TheMarkedExamplesAreP1ToP11
unfolding computing_examples
marked-numbers = refl

-- the lines of P4 and of P1, task by task
own_lines-same : (i : ℕ) → own_lines i p4.lines ≡ own_lines i p1.lines
unfolding sample_lines p1 p4 own_among own_lines
own_lines-same zero = refl
own_lines-same (suc zero) = refl
own_lines-same (suc (suc i)) = rw (eqb-zero-suc (suc i), eqb-suc-suc 0 (suc i) ∙ eqb-zero-suc i)

-- P4: "each task's lines as in P1"
pub p4-own : P4PrintsEachTasksLinesAsP1Does
p4-own i = ap (own_lines i) marked-prints.1.1.1.0 ∙ own_lines-same i ∙ sym (ap (own_lines i) marked-prints.0)

-- ---- the same of whatever meets the contracts of the entries
-- an outcome that is a run prints the run's lines
outcome_prints : (ran : CallResult) (lent left : List ℕ) (r : Outcome) → said r.answer ≡ ran.verdict → r.ticks ≡ ran.ticks
    → r.records ≡ length ran.entries → left ≡ trace_after ran.entries lent → outcome_lines r left ≡ run_lines ran
outcome_prints ran lent left r answers ticks records trace = rw (answers, ticks, records, trace, records_laid ran.entries _)

-- so the entries, from a fresh start on, print what the definitions say
pub entries_print : TheEntriesPrintWhatTheDefinitionsSay
entries_print ticks plan events s lent left r size start run =
    outcome_prints (call plan events s.state ticks (length lent)) lent left r run.answer run.ticks run.records run.trace
    ∙ ap (λ x. run_lines (call plan events x ticks (length lent))) start.state
    ∙ ap (λ n. run_lines (call plan events (start_state plan) ticks n)) size

-- for each of a list of examples that prints its lines
all-entries_print : (ms : List Marked) → Every Prints ms → Every EntriesPrint ms
all-entries_print [] h = tt
all-entries_print (m ∷ ms) h =
    ((λ s lent left r size start run. entries_print m.ticks m.plan m.events s lent left r size start run ∙ h.0), all-entries_print ms h.1)

-- P1 to P11
pub marked-entries_print : TheEntriesPrintEachMarkedExample
marked-entries_print = all-entries_print marked marked-prints

-- ---- the same from standard input
-- as above, after three words are read
pub marked-on_input : EachMarkedExamplePrintsItsLinesFromStandardInput
unfolding computing_marked
marked-on_input = (refl, (refl, (refl, (refl, (refl, (refl, (refl, (refl, (refl, (refl, (refl, (refl, (refl, tt)))))))))))))

-- ---- the sample, byte for byte
-- what the program is given
pub sample-input : TheSampleIsTheseBytes
unfolding computing_examples
sample-input = refl

-- what it prints
pub sample-text : TheSamplePrintsTheseBytes
unfolding decimal spaced line_texts sample_lines p1
sample-text = refl
