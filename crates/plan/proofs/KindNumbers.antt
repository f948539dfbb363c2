-- What a word is that is the number of no kind.
use Prim.Native.Nat.{ℕ, ◌≤◌}
use mathlib.Core.Path.{◌≡◌, sym}
use mathlib.Core.Bool.{true, false}
use mathlib.Core.Logic.{◌≢◌}
use native.Mathlib.Omega.{arith}
use lib.Dec.{eqb}
use borrow.Author.Tests.{ne_eqb, leb-true}
use Rattle.std.proofs.lemmas.Bool.{false_from_ne_true, and_parts}
use Rattle.lists.specs.Lists.{between}
use Rattle.plan.specs.declared.TaskKind.{TaskKind}
use Rattle.plan.specs.declared.TaskKind.TheVariants.{Supervisor, Controller}
use Rattle.plan.specs.declared.ActionKind.{ActionKind}
use Rattle.plan.specs.declared.ActionKind.TheVariants.{Set, Copy, Add, Move}
use Rattle.plan.specs.Kinds.{task_kind_number, action_kind_number}

-- neither a supervisor's nor a controller's
pub no_supervisor : (n : ℕ) → ((kind : TaskKind) → task_kind_number kind ≢ n) → eqb n 1 ≡ false
no_supervisor n none = ne_eqb n 1 (λ e. none Supervisor (sym e))

pub no_controller : (n : ℕ) → ((kind : TaskKind) → task_kind_number kind ≢ n) → eqb n 2 ≡ false
no_controller n none = ne_eqb n 2 (λ e. none Controller (sym e))

-- "An action's kind is 1..4"
pub no_action : (n : ℕ) → ((kind : ActionKind) → action_kind_number kind ≢ n) → between 1 4 n ≡ false
no_action n none = false_from_ne_true _ inside
  where
    inside : between 1 4 n ≡ true → ⊥
    inside e =
        let p = and_parts _ _ e in
        let above : 1 ≤ n = leb-true 1 n p.0 in
        let below : n ≤ 4 = leb-true n 4 p.1 in
        omega (arith, above, below, λ (q : n ≡ 1). none Set (sym q), λ (q : n ≡ 2). none Copy (sym q), λ (q : n ≡ 3). none Add (sym q), λ (q : n ≡ 4). none Move (sym q))
