use Rattle.std.proofs.Common.{rules, ◌∙◌}
use Rattle.std.proofs.lemmas.Iterator.{YieldsList-from_slice}
use Rattle.std.proofs.lemmas.Iterator.Adapters.{YieldsList-from_skip}
use Rattle.std.proofs.lemmas.Iterator.Search.{all_from_yields_List}
use Rattle.state.proofs.Zeros.{all-listed}
use Rattle.state_fits.proofs.rest_idle.Goals as goal

pub returns : goal.returns
returns c =
    all_from_yields_List _ _ _ _ c.all.ensures.ran (YieldsList-from_skip _ (YieldsList-from_slice c.args.tasks cc) cc) (λ x b q called. search rules)
    ∙ all-listed _ _
