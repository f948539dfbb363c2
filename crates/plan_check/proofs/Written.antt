-- The marks of all outputs of an accepted plan are the signals that tasks write.
use Prim.Native.Nat.{ℕ, ◌<◌, ◌≤◌}
use mathlib.Core.Path.{◌≡◌, refl, sym, ap, ◌∙◌}
use mathlib.Core.Bool.{Bool, true, false, not, ◌&&◌}
use mathlib.Core.List.{List, [], ◌∷◌, ◌++◌, map}
use lib.Dec.{eqb, ltb}
use Rattle.lists.specs.Lists.{all, absent}
use Rattle.lists.proofs.Laws.{and_left, and_right, and_both, and_true}
use Rattle.words.specs.Words.{words_of}
use Rattle.marks.specs.Marks.{seen}
use Rattle.marks.proofs.Laws.{seen_none}
use Rattle.answers.specs.Answers.{all_hold}
use Rattle.answers.proofs.Laws.{zero_all, all-zero, all_append}
use Rattle.plan.specs.File.{signal_count, task_of, task_bodies, plan_of, all_outputs}
use Rattle.plan.specs.Rules.{after_all, head_rules, each_task, priority_rules, output_rules, plan_rules, plan_verdict}
use Rattle.plan.proofs.Laws.{plan_numbered}
use Rattle.plan_check.specs.Clash.{mark_all, numbers_of}
use Rattle.plan_check.specs.declared.Numbers.TheVariants.{Outputs}
use Rattle.plan_check.proofs.Clash.{Below, EachBelow, same_new, tasks_below, signals_limit}

shuffle : (a b c : Bool) → (a && (b && c)) ≡ ((b && a) && c)
shuffle true true c = refl
shuffle true false c = refl
shuffle false true c = refl
shuffle false false c = refl

-- what is seen after a list is the list and what was seen before
after-absent : (x : ℕ) (l xs : List ℕ) → absent x (after_all l xs) ≡ (absent x xs && absent x l)
unfolding after_all absent
after-absent x l [] = refl
after-absent x l (y ∷ ys) = after-absent x (y ∷ l) ys ∙ shuffle (absent x ys) (not (eqb x y)) (absent x l)

pub marks_absent : (xs : List ℕ) (x : ℕ) → Below xs → x < 64 → seen (mark_all 0 xs) x ≡ not (absent x xs)
unfolding absent
marks_absent xs x b h =
    (same_new 0 [] xs (λ k j. seen_none k) b).1 x h ∙ ap not (after-absent x [] xs ∙ and_true (absent x xs))

below_append : (xs ys : List ℕ) → Below xs → Below ys → Below (xs ++ ys)
unfolding all
below_append [] ys a b = b
below_append (x ∷ xs) ys a b =
    and_both (ltb x 64) (all (λ y. ltb y 64) (xs ++ ys)) (and_left (ltb x 64) (all (λ y. ltb y 64) xs) a)
    (below_append xs ys (and_right (ltb x 64) (all (λ y. ltb y 64) xs) a) b)

outputs_below : (bodies : List (List ℕ)) → EachBelow (map (λ b. numbers_of Outputs (task_of b)) bodies) → Below (all_outputs (map task_of bodies))
unfolding all_outputs all
outputs_below [] b = refl
outputs_below (ws ∷ rest) b = below_append (task_of ws).outputs (all_outputs (map task_of rest)) b.0 (outputs_below rest b.1)

-- ---- of an accepted plan
module _ (bytes : List ℕ) (accepted : (plan_verdict bytes).number ≡ 0) where
  holds : (all_hold (head_rules bytes) && all_hold (each_task bytes ++ (priority_rules bytes ++ output_rules bytes))) ≡ true
  unfolding plan_rules
  holds =
      sym (all_append (head_rules bytes) (each_task bytes ++ (priority_rules bytes ++ output_rules bytes)))
      ∙ zero_all (plan_rules bytes) (plan_numbered bytes) accepted

  each_holds : all_hold (each_task bytes) ≡ true
  each_holds =
      and_left (all_hold (each_task bytes)) (all_hold (priority_rules bytes ++ output_rules bytes))
      (sym (all_append (each_task bytes) (priority_rules bytes ++ output_rules bytes))
      ∙ and_right (all_hold (head_rules bytes)) (all_hold (each_task bytes ++ (priority_rules bytes ++ output_rules bytes))) holds)

  pub signals_small : signal_count (words_of bytes) ≤ 64
  signals_small =
      signals_limit bytes (rw (all-zero (head_rules bytes) (and_left (all_hold (head_rules bytes)) (all_hold (each_task bytes ++ (priority_rules bytes ++ output_rules bytes))) holds)))

  -- a signal is marked exactly when a task writes it
  pub written_marks : (x : ℕ) → x < 64 → seen (mark_all 0 (all_outputs (plan_of bytes).tasks)) x ≡ not (absent x (all_outputs (plan_of bytes).tasks))
  unfolding plan_of
  written_marks x h =
      marks_absent (all_outputs (map task_of (task_bodies (words_of bytes)))) x
      (outputs_below (task_bodies (words_of bytes)) (tasks_below Outputs (signal_count (words_of bytes)) 0 (task_bodies (words_of bytes)) signals_small each_holds)) h
