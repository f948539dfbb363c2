-- What every list of rules is held against: the verdict is 0 exactly when all hold, else that of the first broken one.
use mathlib.Core.Path.{◌≡◌, sym, ap, ◌∙◌}
use mathlib.Core.Bool.{true}
use mathlib.Core.List.{List, ◌∷◌, ◌++◌}
use mathlib.Core.Logic.{◌↔◌}
use Rattle.lists.proofs.Tests.{and_iff}
use Rattle.answers.specs.Answers.{Verdict, Rule, all_hold}
use Rattle.answers.specs.Decides.{TheFirstBrokenRuleDecides}
use Rattle.answers.proofs.Laws.{zero_all, all-zero, all_append, refusal_first}

-- every rule before the first broken one holds
pub decides : TheFirstBrokenRuleDecides
decides rs h =
    record { accepts = (zero_all rs h, λ e. ap (λ (v : Verdict). v.number) (all-zero rs e)); refuses = refusal_first rs }

-- ---- for `simp`, which takes a list of rules apart or puts it together by these
pub hold_cons : (r : Rule) (rs : List Rule) → (all_hold (r ∷ rs) ≡ true) ↔ ((r.holds ≡ true) × (all_hold rs ≡ true))
unfolding all_hold
hold_cons r rs = and_iff r.holds (all_hold rs)

pub hold_append : (xs ys : List Rule) → (all_hold (xs ++ ys) ≡ true) ↔ ((all_hold xs ≡ true) × (all_hold ys ≡ true))
hold_append xs ys = (
  (λ e. (and_iff (all_hold xs) (all_hold ys)).0 (sym (all_append xs ys) ∙ e)),
  (λ p. all_append xs ys ∙ (and_iff (all_hold xs) (all_hold ys)).1 p),
)

pub ruleset holds = (hold_cons, hold_append)
