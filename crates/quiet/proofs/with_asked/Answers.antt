use Rattle.events.proofs.KindNumbers.{no_release}
use Rattle.quiet.proofs.with_asked.Goals as goal

pub returns-in-Err : goal.returns-in-Err
returns-in-Err c = rw (← c.word.ensures, no_release c.word.result c.in-Err.ensures)
