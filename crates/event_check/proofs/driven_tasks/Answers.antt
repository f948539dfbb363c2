use mathlib.Core.Path.{◌≡◌, ap, ◌∙◌}
use native.Mathlib.Omega.{arith}
use borrow.Author.Rules.{rules}
use Rattle.event_check.specs.Targets.{driven_by}
use Rattle.event_check.proofs.Laws.{driven_more}
use Rattle.event_check.proofs.driven_tasks.Goals as goal

pub loop-i-init : goal.loop-i-init
unfolding driven_by
loop-i-init c = search rules

pub loop-i-preserved : goal.loop-i-preserved
loop-i-preserved c = (rw (driven_more, ← c.loop-i.invariant) c.with_driven-marks.ensures)

pub returns : goal.returns
returns c = let all : c.loop-i.i ≡ c.args.tasks = omega arith in
    c.loop-i.invariant ∙ ap (driven_by _) all
