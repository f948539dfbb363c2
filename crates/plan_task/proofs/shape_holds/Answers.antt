use Rattle.words.proofs.Laws.{words_length}
use Rattle.plan_task.proofs.shape_holds.Goals as goal

pub returns : goal.returns
returns c = simp words_length (cc)
