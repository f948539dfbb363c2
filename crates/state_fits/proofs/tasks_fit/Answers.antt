use Rattle.std.proofs.Common.{rules, ap, ◌∙◌, refl}
use Rattle.std.proofs.lemmas.Iterator.{YieldsList-from_range}
use Rattle.std.proofs.lemmas.Iterator.Search.{all_from_yields_List}
use Rattle.lists.specs.Lists.{all}
use Rattle.state.proofs.Zeros.{all-listed}
use Rattle.state_fits.proofs.Tasks.{counted}
use Rattle.state_fits.proofs.tasks_fit.Goals as goal

pub returns : goal.returns
returns c =
    all_from_yields_List _ _ _ _ c.all.ensures.ran (YieldsList-from_range 0 c.args.count c.args.count refl (search rules)) (λ x b q called. search rules)
    ∙ all-listed _ _ ∙ ap (all _) (counted 0 c.args.count)
