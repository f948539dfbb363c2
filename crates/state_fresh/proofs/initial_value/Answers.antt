use mathlib.Core.Path.{sym}
use Rattle.state.proofs.Laws.{value_in, value_out}
use Rattle.state_fresh.proofs.initial_value.Goals as goal

pub returns-then-signal-word : goal.returns-then-signal-word
returns-then-signal-word c = rw (c.word-then-signal-word.ensures, c.start_of.ensures) (sym (value_in _ _ (rw c.word.ensures at c.if-signal-word.true)))

pub returns-else-signal-word : goal.returns-else-signal-word
returns-else-signal-word c = sym (value_out _ _ (rw c.word.ensures at c.if-signal-word.false))
