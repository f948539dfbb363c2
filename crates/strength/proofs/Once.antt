-- "that no second answer satisfies it is proved": what the contract of a public function asks of a result, one result has.
use Prim.Native.Nat.{ℕ}
use mathlib.Core.Path.{◌≡◌, sym, ap, ◌∙◌}
use Rattle.answers.specs.Answers.{said, Answer}
use Rattle.answers.proofs.Laws.{said-once}
use Rattle.state.specs.declared.State.{State}
use Rattle.kernel.specs.declared.Started.{Started}
use Rattle.kernel.specs.declared.Outcome.{Outcome}
use Rattle.strength.specs.Once.{OneResultMeetsAnEquation, OneAnswerMeetsAVerdict, OnePartMeetsTheBodyReadersContract, OneAnswerMeetsTheFreshStartsContract, OneOutcomeMeetsTheRunsContract, OneOutcomeMeetsTheTicksContract}

-- both are that value
pub result_once : OneResultMeetsAnEquation
result_once A v r r' e e' = e ∙ sym e'

-- both say it, and one answer does
pub answer-once : OneAnswerMeetsAVerdict
answer-once v r r' e e' = said-once r r' (result_once _ v (said r) (said r') e e')

-- place and bytes of the part are equations, and so is the pair
pub part-once : OnePartMeetsTheBodyReadersContract
part-once file i part part' told told' h h' = (
  result_once _ _ _ _ h.body.stands h'.body.stands,
  result_once _ _ _ _ h.body.holds h'.body.holds,
  result_once _ _ _ _ h.said h'.said,
)

-- two answers of a fresh start with the same fields
started_same : (r r' : Started) → r.answer ≡ r'.answer → r.state ≡ r'.state → r ≡ r'
started_same r r' answers states =
    ap (λ (x : Answer). record { answer = x; state = r.state }) answers ∙ ap (λ (x : State). record { answer = r'.answer; state = x }) states

-- answer and state of the fresh start
pub starts_once : OneAnswerMeetsTheFreshStartsContract
starts_once plan r r' h h' =
    started_same r r' (answer-once _ r.answer r'.answer h.answer h'.answer) (result_once _ _ _ _ h.state h'.state)

-- two outcomes with the same fields
outcome_same : (r r' : Outcome) → r.answer ≡ r'.answer → r.ticks ≡ r'.ticks → r.records ≡ r'.records → r.state ≡ r'.state → r ≡ r'
outcome_same r r' answers ticks records states =
    ap (λ (x : Answer). record { answer = x; ticks = r.ticks; records = r.records; state = r.state }) answers
    ∙ ap (λ (x : ℕ). record { answer = r'.answer; ticks = x; records = r.records; state = r.state }) ticks
    ∙ ap (λ (x : ℕ). record { answer = r'.answer; ticks = r'.ticks; records = x; state = r.state }) records
    ∙ ap (λ (x : State). record { answer = r'.answer; ticks = r'.ticks; records = r'.records; state = x }) states

-- all fields of the run's outcome, and the trace
pub runs-once : OneOutcomeMeetsTheRunsContract
runs-once plan events s asked lent left left' r r' h h' = (
  outcome_same r r' (answer-once _ r.answer r'.answer h.answer h'.answer) (result_once _ _ _ _ h.ticks h'.ticks)
      (result_once _ _ _ _ h.records h'.records) (result_once _ _ _ _ h.state h'.state),
  result_once _ _ _ _ h.trace h'.trace,
)

-- the same of one tick
pub tick-once : OneOutcomeMeetsTheTicksContract
tick-once plan events s lent left left' r r' h h' = runs-once plan events s 1 lent left left' r r' h h'
