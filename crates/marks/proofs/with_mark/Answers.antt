use native.Mathlib.Omega.{arith}
use Rattle.marks.proofs.Laws.{marked_by_lem}
use Rattle.marks.proofs.with_mark.Goals as goal

pub returns : goal.returns
returns c = marked_by_lem 64 c.args.marks (omega arith)
