use mathlib.Core.Path.{sym}
use borrow.Author.Rules.{rules}
use Rattle.turns.proofs.Laws.{next_is}
use Rattle.turns.proofs.next.Goals as goal

pub returns : goal.returns
returns c = sym (next_is _ _ (search rules))
