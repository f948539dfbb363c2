use Rattle.marks.specs.Marks.{seen}
use Rattle.steps.specs.Flat.{task_of_row}
use Rattle.quiet.specs.Quiet.{AllIn}
use Rattle.quiet.proofs.rows_of.Given as goal

abbrev pub invariant-loop-j : goal.invariant-loop-j
invariant-loop-j l = AllIn (λ k. seen l.tasks (task_of_row l.rows k)) l.j l.all
