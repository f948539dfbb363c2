use Rattle.std.proofs.Common.{rules}
use Rattle.state.proofs.Made.{made}
use Rattle.state_fresh.proofs.fresh_outputs.Goals as goal

pub returns : goal.returns
returns c = made _ _ _ _ _ 0 (λ i x next less called. search rules) c.from_fn.ensures.items
