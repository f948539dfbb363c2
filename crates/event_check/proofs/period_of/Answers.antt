use mathlib.Core.Path.{◌∙◌}
use Rattle.words.proofs.Laws.{part-words}
use Rattle.event_check.proofs.period_of.Goals as goal

pub returns : goal.returns
returns c = c.word.ensures ∙ rw (c.task_part.ensures, part-words)
