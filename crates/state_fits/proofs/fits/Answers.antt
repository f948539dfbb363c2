use borrow.Author.Rules.{rules}
use Rattle.plan.proofs.Laws.{signals_length}
use Rattle.state.specs.Fits.{fits}
use Rattle.state.proofs.Laws.{place_told}
use Rattle.state.proofs.Sizes.{state_sized}
use Rattle.state_fits.proofs.Tasks.{apart}
use Rattle.state_fits.proofs.fits.Goals as goal

pub returns : goal.returns
unfolding fits
returns c = let plan = c.args.plan.now in
    let state = c.args.state in
    let right = state_sized state _ c.well_formed.1.1.0 in
    let place = place_told plan c.args.events.now c.requires state.tick state.place in
    let tasks = apart plan state.tick state.tasks c.min-count.result (search rules) (rw (c.min-count.ensures, c.word.ensures)) in
    rw (
      right,
      ← place,
      ← c.place_holds.ensures,
      signals_length,
      ← c.word-2.ensures,
      ← c.zeros_from.ensures,
      tasks,
      ← c.tasks_fit.ensures,
      ← c.rest_idle.ensures,
    )
