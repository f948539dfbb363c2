-- Document 01, 'Strength of the contracts': "For each input, refused ones too, a public function's contract determines answer,
-- state and trace to the last word; that no second answer satisfies it is proved".
use Rattle.std.specs.Prelude.{ℕ, ◌≡◌, List}
use Rattle.std.specs.Borrow.{Bor}
use Rattle.answers.specs.Answers.{Verdict, said, Answer}
use Rattle.plan_body.specs.Body.{Handed}
use Rattle.state.specs.declared.State.{State}
use Rattle.kernel.specs.Call.{Starts, Runs}
use Rattle.kernel.specs.declared.Started.{Started}
use Rattle.kernel.specs.declared.Outcome.{Outcome}

-- a contract `r ≡ v`: one result meets it
abbrev pub OneResultMeetsAnEquation : Type 1
OneResultMeetsAnEquation = (A : Type 0) (v r r' : A) → r ≡ v → r' ≡ v → r ≡ r'

-- a contract `said r ≡ v`: one answer meets it. So of plan_check's `check`, plan_task's `task_answer` and event_check's `check`,
-- whatever they are given
abbrev pub OneAnswerMeetsAVerdict : Type 0
OneAnswerMeetsAVerdict = (v : Verdict) (r r' : Answer) → said r ≡ v → said r' ≡ v → r ≡ r'

-- the body reader: of a file and a task one part, the same bytes at the same place, and one pair of number and place
abbrev pub OnePartMeetsTheBodyReadersContract : Type 0
OnePartMeetsTheBodyReadersContract =
    (file : Bor (List ℕ)) (i : ℕ) (part part' : Bor (List ℕ)) (told told' : List ℕ) → Handed file i part told → Handed file i part' told'
    → (part.ref_ptr ≡ part'.ref_ptr) × (part.now ≡ part'.now) × (told ≡ told')

-- the fresh start: one answer and one state for a plan, refused ones too
abbrev pub OneAnswerMeetsTheFreshStartsContract : Type 0
OneAnswerMeetsTheFreshStartsContract = (plan : List ℕ) (r r' : Started) → Starts plan r → Starts plan r' → r ≡ r'

-- the run: one answer, one count of ticks, one of records, one state, and one trace to the last word, refused calls too
abbrev pub OneOutcomeMeetsTheRunsContract : Type 0
OneOutcomeMeetsTheRunsContract =
    (plan events : List ℕ) (s : State) (asked : ℕ) (lent left left' : List ℕ) (r r' : Outcome)
    → Runs plan events s asked lent left r → Runs plan events s asked lent left' r' → (r ≡ r') × (left ≡ left')

-- the method that runs one tick: the same, its contract is that of a run of 1
abbrev pub OneOutcomeMeetsTheTicksContract : Type 0
OneOutcomeMeetsTheTicksContract =
    (plan events : List ℕ) (s : State) (lent left left' : List ℕ) (r r' : Outcome)
    → Runs plan events s 1 lent left r → Runs plan events s 1 lent left' r' → (r ≡ r') × (left ≡ left')
