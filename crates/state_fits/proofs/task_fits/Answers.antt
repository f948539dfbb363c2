use Rattle.state.specs.Fits.{task_fits}
use Rattle.plan.proofs.Facts.{inputs_length, outputs_length}
use Rattle.state_fits.proofs.task_fits.Goals as goal

pub returns : goal.returns
unfolding task_fits
returns c = rw (
  c.status_holds.ensures,
  c.zeros_from.ensures,
  c.zeros_from-2.ensures,
  c.machine_holds.ensures,
  c.word.ensures,
  c.word-2.ensures,
  inputs_length,
  outputs_length,
)
