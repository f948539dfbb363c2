use Rattle.words.specs.Words.{words_of}
use Rattle.steps.specs.Flat.{between}
use Rattle.quiet.proofs.Asked.{AskedLater}
use Rattle.quiet.proofs.asked_tasks.Given as goal

abbrev pub invariant-loop-p : goal.invariant-loop-p
invariant-loop-p l = AskedLater l.tasks (between (words_of l.events) l.first l.last) (between (words_of l.events) l.p l.last)
