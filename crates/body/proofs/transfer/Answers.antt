use Rattle.std.proofs.Common.{arith}
use Rattle.std.proofs.lemmas.Grind.{common_steps}
use Rattle.body.specs.Body.{move}
use Rattle.body.proofs.transfer.Goals as goal

pub returns-in-Some-Some : goal.returns-in-Some-Some
unfolding move
returns-in-Some-Some c = grind (arith, common_steps)

pub returns : goal.returns
unfolding move
returns c = grind (arith, common_steps)

pub returns-2 : goal.returns-2
unfolding move
returns-2 c = grind (arith, common_steps)
