use Rattle.events.proofs.KindNumbers.{no_set}
use Rattle.step_events.proofs.set_signal.Goals as goal

pub returns-in-Err : goal.returns-in-Err
returns-in-Err c = rw (← c.word.ensures, no_set c.word.result c.in-Err.ensures)
