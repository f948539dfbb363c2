use mathlib.Core.Path.{sym, ◌∙◌}
use Rattle.words.proofs.Laws.{word-is, word_out}
use Rattle.words.proofs.word.Goals as goal

pub returns-then-i-bytes : goal.returns-then-i-bytes
returns-then-i-bytes c = c.four.ensures ∙ sym (word-is _ _ c.if-i-bytes.true)

pub returns-else-i-bytes : goal.returns-else-i-bytes
returns-else-i-bytes c = sym (word_out _ _ c.if-i-bytes.false)
