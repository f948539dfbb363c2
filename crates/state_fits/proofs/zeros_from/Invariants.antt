use mathlib.Core.Path.{◌≡◌}
use mathlib.Core.Bool.{◌&&◌}
use lib.ListN.{drop}
use lib.Dec.{eqb}
use Rattle.lists.specs.Lists.{all}
use Rattle.state_fits.proofs.zeros_from.Given as goal

abbrev pub invariant-loop-i : goal.invariant-loop-i
invariant-loop-i l = all (λ x. eqb x 0) (drop l.n l.values) ≡ (l.good && all (λ x. eqb x 0) (drop l.i l.values))
