use Rattle.answers.proofs.Laws.{ok_is_0}
use Rattle.answers.proofs.accepted.Goals as goal

pub returns : goal.returns
returns c = let e = ok_is_0 c.args.answer in cc
