use mathlib.Core.Path.{sym, ◌∙◌}
use native.Mathlib.Omega.{arith}
use Rattle.words.proofs.Laws.{word-is}
use Rattle.words.proofs.known.Goals as goal

pub returns : goal.returns
returns c = c.four.ensures ∙ sym (word-is _ _ (omega arith))
