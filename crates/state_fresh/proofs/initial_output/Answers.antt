use mathlib.Core.Path.{sym}
use Rattle.state.proofs.Laws.{output_in, output_out}
use Rattle.state_fresh.proofs.initial_output.Goals as goal

pub returns-then-position-word : goal.returns-then-position-word
returns-then-position-word c = rw (c.initial_value.ensures, c.word-then-position-word.ensures, c.outputs_at.ensures.value) (sym (output_in _ _ _ (rw c.word.ensures at c.if-position-word.true)))

pub returns-else-position-word : goal.returns-else-position-word
returns-else-position-word c = sym (output_out _ _ _ (rw c.word.ensures at c.if-position-word.false))
