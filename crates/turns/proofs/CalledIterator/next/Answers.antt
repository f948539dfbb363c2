use native.Mathlib.Omega.{arith}
use borrow.Author.Rules.{rules}
use Rattle.turns.proofs.Laws.{next_from}
use Rattle.turns.proofs.CalledIterator.next.Goals as goal

pub returns-then-row-self-clause-goes : goal.returns-then-row-self-clause-goes
returns-then-row-self-clause-goes c = let m = next_from _ _ _ c.next-row.ensures in
    record { on = λ _. ((omega arith, omega arith), tt, omega arith); keeps = (omega arith, omega arith); rests = search rules }
