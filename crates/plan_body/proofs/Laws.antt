-- The reader's verdict: the plan's, then 26.
use Prim.Native.Nat.{ℕ, ◌<◌}
use mathlib.Core.Path.{◌≡◌, refl, sym, ap, ◌∙◌}
use mathlib.Core.Bool.{Bool, true, false, cond}
use mathlib.Core.List.{List, [], ◌∷◌}
use native.Mathlib.Omega.{arith}
use lib.Dec.{ltb, eqb}
use borrow.Author.Tests.{eqb-true, eqb-false, ltb-true}
use Rattle.words.specs.Words.{words_of}
use Rattle.answers.specs.Answers.{Verdict, verdict, rule, first_broken, or_else}
use Rattle.answers.proofs.Laws.{broken_append}
use Rattle.plan.specs.File.{task_count}
use Rattle.plan.specs.Rules.{plan_rules, plan_verdict}
use Rattle.plan.proofs.Laws.{plan_numbered}
use Rattle.plan_body.specs.Body.{reader_verdict, pair_of}

-- number and place of an answer's verdict make its pair
pub pair_told : {v w : Verdict} (number place : ℕ) → number ≡ v.number → place ≡ v.place → v ≡ w → (number ∷ place ∷ []) ≡ pair_of w
pair_told number place n p e = rw (n, p, e)

module _ (bytes : List ℕ) (i : ℕ) where
  reader_first : reader_verdict bytes i ≡ or_else (plan_verdict bytes) (cond (ltb i (task_count (words_of bytes))) (verdict 0 0) (verdict 26 0))
  unfolding first_broken
  reader_first = broken_append (plan_rules bytes) (rule 26 0 (ltb i (task_count (words_of bytes))) ∷ []) (plan_numbered bytes)

  pub plan_decides : eqb (plan_verdict bytes).number 0 ≡ false → reader_verdict bytes i ≡ plan_verdict bytes
  plan_decides e = reader_first ∙ rw e

  pub task_decides : eqb (plan_verdict bytes).number 0 ≡ true → (b : Bool) → ltb i (task_count (words_of bytes)) ≡ b → reader_verdict bytes i ≡ cond b (verdict 0 0) (verdict 26 0)
  task_decides e b t = reader_first ∙ rw (e, t)

  -- the reader accepts: so the plan is accepted and has that task
  pub record Found : Type 0 where
    pub accepted : (plan_verdict bytes).number ≡ 0
    pub below : i < task_count (words_of bytes)

  pub found : (reader_verdict bytes i).number ≡ 0 → Found
  found e = go (eqb (plan_verdict bytes).number 0) refl (ltb i (task_count (words_of bytes))) refl (sym (ap (λ (v : Verdict). v.number) reader_first) ∙ e)
    where
      go : (p : Bool) → eqb (plan_verdict bytes).number 0 ≡ p → (b : Bool) → ltb i (task_count (words_of bytes)) ≡ b
          → (cond p (cond b (verdict 0 0) (verdict 26 0)) (plan_verdict bytes)).number ≡ 0 → Found
      go true q true t z = record { accepted = eqb-true _ 0 q; below = ltb-true i (task_count (words_of bytes)) t }
      go true q false t z = absurd (omega (arith, z))
      go false q b t z = absurd (eqb-false (plan_verdict bytes).number 0 q z)
