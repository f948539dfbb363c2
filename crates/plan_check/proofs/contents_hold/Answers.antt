use Rattle.words.proofs.Laws.{words_length}
use Rattle.plan_check.proofs.contents_hold.Goals as goal

pub returns : goal.returns
returns c = rw (c.entries_chain.ensures, c.word-signals.ensures, c.word-tasks.ensures, c.length_of-size.ensures, words_length)
