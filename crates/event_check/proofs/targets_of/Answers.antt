use Rattle.event_check.proofs.targets_of.Goals as goal

pub returns : goal.returns
returns c = rw (c.driven_tasks-driven.ensures, c.written_signals-written.ensures, c.word-signals.ensures, c.word-tasks.ensures)
