-- Marks find the clash that the lists of numbers seen find: the rules 7 and 8 where 4, 5 and 6 hold of every task.
use Prim.Native.Nat.{ℕ, ◌+◌, ◌<◌, ◌≤◌}
use mathlib.Core.Path.{◌≡◌, refl, sym, ap, ap₂, ◌∙◌}
use mathlib.Core.Bool.{Bool, true, false, cond, not, ◌&&◌, ◌||◌}
use mathlib.Core.List.{List, [], ◌∷◌, ◌++◌, map}
use native.Mathlib.Omega.{arith}
use lib.Dec.{eqb, ltb}
use borrow.Author.Tests.{ltb-true, lt-ltb, eqb-true, eqb-false, eq-eqb, ne_eqb}
use Rattle.limits.specs.Limits.{max_priority}
use Rattle.lists.specs.Lists.{all, absent}
use Rattle.lists.proofs.Laws.{and_left, and_right, and_both, map-tab}
use Rattle.lists.proofs.Tests.{tests, and_iff}
use Rattle.marks.specs.Marks.{seen, mark}
use Rattle.marks.proofs.Laws.{seen-mark, seen_none}
use Rattle.words.specs.Words.{words_of}
use Rattle.answers.specs.Answers.{Verdict, verdict, first_broken, all_hold, or_else}
use Rattle.answers.proofs.Laws.{broken_append, zero_all, all_append}
use Rattle.plan.specs.File.{signal_count, task_count, body_of, task_bodies, Task, task_of, plan_of}
use Rattle.plan.specs.Rules.{timing_rule, body_rule, one_task, task_rules, all_new, after_all, clash_rules, priority_of, head_rules, each_task, priority_rules, output_rules, plan_rules, plan_verdict}
use Rattle.plan.proofs.Laws.{tasks_numbered, clash_numbered, three_hold}
use Rattle.plan_check.specs.Clash.{new_to, mark_all, clash_from, clash_number, numbers_of, clash_of}
use Rattle.plan_check.specs.declared.Numbers.{Numbers}
use Rattle.plan_check.specs.declared.Numbers.TheVariants.{Priority, Outputs}

-- ---- marks stand for a list of numbers
abbrev pub Agree : ℕ → List ℕ → Type 0
Agree marks seen_list = (k : ℕ) → k < 64 → seen marks k ≡ not (absent k seen_list)

eqb-sym : (a b : ℕ) → eqb a b ≡ eqb b a
eqb-sym a b = go (eqb a b) refl
  where
    go : (t : Bool) → eqb a b ≡ t → t ≡ eqb b a
    go true e = sym (eq-eqb b a (sym (eqb-true a b e)))
    go false e = sym (ne_eqb b a (λ p. eqb-false a b e (sym p)))

either : (b e : Bool) → (not b || e) ≡ not (not e && b)
either true true = refl
either true false = refl
either false true = refl
either false false = refl

not_not : (b : Bool) → not (not b) ≡ b
not_not true = refl
not_not false = refl

agree_mark : (marks : ℕ) (l : List ℕ) (x : ℕ) → x < 64 → Agree marks l → Agree (mark marks x) (x ∷ l)
unfolding absent
agree_mark marks l x hx a k hk =
    seen-mark marks x k hx hk ∙ ap₂ (λ (s t : Bool). s || t) (a k hk) (eqb-sym x k) ∙ either (absent k l) (eqb k x)

-- every number of a list is below 64
abbrev pub Below : List ℕ → Type 0
Below xs = all (λ x. ltb x 64) xs ≡ true

-- one task's numbers
pub same_new : (marks : ℕ) (l xs : List ℕ) → Agree marks l → Below xs → (new_to marks xs ≡ all_new l xs) × Agree (mark_all marks xs) (after_all l xs)
unfolding new_to mark_all all_new after_all all
same_new marks l [] a b = (refl, a)
same_new marks l (x ∷ xs) a b =
    let h = ltb-true x 64 (and_left (ltb x 64) (all (λ y. ltb y 64) xs) b) in
    let r = same_new (mark marks x) (x ∷ l) xs (agree_mark marks l x h a) (and_right (ltb x 64) (all (λ y. ltb y 64) xs) b) in
    (ap₂ (λ (s t : Bool). s && t) (ap not (a x h) ∙ not_not (absent x l)) r.0, r.1)

abbrev pub EachBelow : List (List ℕ) → Type 0
EachBelow [] = Unit {0}
EachBelow (xs ∷ rest) = Below xs × EachBelow rest

same_clash : (number i marks : ℕ) (l : List ℕ) (lists : List (List ℕ)) → Agree marks l → EachBelow lists
    → clash_from number i marks lists ≡ first_broken (clash_rules number i l lists)
unfolding clash_from clash_rules first_broken
same_clash number i marks l [] a b = refl
same_clash number i marks l (xs ∷ rest) a b =
    let r = same_new marks l xs a b.0 in
    ap₂ (λ (t : Bool) (v : Verdict). cond t v (verdict number i)) r.0
    (same_clash number (i + 1) (mark_all marks xs) (after_all l xs) rest r.1 b.1)

-- from no mark on
pub clash_is : (number : ℕ) (lists : List (List ℕ)) → EachBelow lists → clash_from number 0 0 lists ≡ first_broken (clash_rules number 0 [] lists)
unfolding absent
clash_is number lists b = same_clash number 0 0 [] lists (λ k h. seen_none k) b

-- ---- where 4, 5 and 6 hold, priorities and outputs are below 64
all-below : (s : ℕ) (xs : List ℕ) → s ≤ 64 → all (λ x. ltb x s) xs ≡ true → Below xs
unfolding all
all-below s [] h e = refl
all-below s (x ∷ xs) h e =
    and_both (ltb x 64) (all (λ y. ltb y 64) xs) (lt-ltb x 64 (omega (arith, ltb-true x s (and_left (ltb x s) (all (λ y. ltb y s) xs) e))))
    (all-below s xs h (and_right (ltb x s) (all (λ y. ltb y s) xs) e))

priority_below : (k : Task) → timing_rule k ≡ true → Below (priority_of k)
unfolding all
priority_below k e =
    let h : (1 ≤ k.priority) × (k.priority ≤ max_priority) = (simp tests at e).0.0.0.0 in
    and_both (ltb k.priority 64) true (lt-ltb k.priority 64 (omega arith)) refl

outputs_below : (s : ℕ) (k : Task) → s ≤ 64 → body_rule s k ≡ true → Below k.outputs
outputs_below s k h e = all-below s k.outputs h (simp and_iff at e).0.0.1

numbers-below : (numbers : Numbers) (s i : ℕ) (ws : List ℕ) → s ≤ 64 → all_hold (one_task s i ws) ≡ true → Below (numbers_of numbers (task_of ws))
numbers-below Priority s i ws h e = priority_below (task_of ws) (three_hold s i ws e).timing
numbers-below Outputs s i ws h e = outputs_below s (task_of ws) h (three_hold s i ws e).body

pub tasks_below : (numbers : Numbers) (s i : ℕ) (bodies : List (List ℕ)) → s ≤ 64 → all_hold (task_rules s i bodies) ≡ true
    → EachBelow (map (λ b. numbers_of numbers (task_of b)) bodies)
unfolding task_rules
tasks_below numbers s i [] h e = tt
tasks_below numbers s i (ws ∷ rest) h e =
    let both = sym (all_append (one_task s i ws) (task_rules s (i + 1) rest)) ∙ e in (
      numbers-below numbers s i ws h (and_left (all_hold (one_task s i ws)) (all_hold (task_rules s (i + 1) rest)) both),
      tasks_below numbers s (i + 1) rest h (and_right (all_hold (one_task s i ws)) (all_hold (task_rules s (i + 1) rest)) both),
    )

-- ---- the rules from 4 on, as the check goes through them
module _ (bytes : List ℕ) where
  abbrev found : Numbers → Verdict
  found numbers = clash_of (words_of bytes) (task_count (words_of bytes)) numbers

  head_first : first_broken (head_rules bytes ++ (each_task bytes ++ (priority_rules bytes ++ output_rules bytes)))
      ≡ or_else (first_broken (head_rules bytes)) (first_broken (each_task bytes ++ (priority_rules bytes ++ output_rules bytes)))
  head_first = broken_append (head_rules bytes) (each_task bytes ++ (priority_rules bytes ++ output_rules bytes)) (omega arith, (omega arith, (omega arith, tt)))

  found_is : (numbers : Numbers) → signal_count (words_of bytes) ≤ 64 → (first_broken (each_task bytes)).number ≡ 0
      → found numbers ≡ first_broken (clash_rules (clash_number numbers) 0 [] (map (numbers_of numbers) (map task_of (task_bodies (words_of bytes)))))
  found_is numbers h e =
      rw (
        map-tab task_of (λ i. body_of (words_of bytes) (i + 1)) 0 (task_count (words_of bytes)),
        map-tab (numbers_of numbers) (λ i. task_of (body_of (words_of bytes) (i + 1))) 0 (task_count (words_of bytes)),
      )
      (clash_is (clash_number numbers) _ (rw (map-tab (λ b. numbers_of numbers (task_of b)) (λ i. body_of (words_of bytes) (i + 1)) 0 (task_count (words_of bytes))) at
      (tasks_below numbers (signal_count (words_of bytes)) 0 (task_bodies (words_of bytes)) h (zero_all (each_task bytes) (tasks_numbered _ 0 (task_bodies (words_of bytes))) e))))

  -- a broken rule among the first three decides
  pub head_decides : eqb (first_broken (head_rules bytes)).number 0 ≡ false → plan_verdict bytes ≡ first_broken (head_rules bytes)
  unfolding plan_rules
  head_decides e = head_first ∙ rw e

  pub head_passes : eqb (first_broken (head_rules bytes)).number 0 ≡ true
      → plan_verdict bytes ≡ first_broken (each_task bytes ++ (priority_rules bytes ++ output_rules bytes))
  unfolding plan_rules
  head_passes e = head_first ∙ rw e

  -- S is at most 64 where they hold
  pub signals_limit : eqb (first_broken (head_rules bytes)).number 0 ≡ true → signal_count (words_of bytes) ≤ 64
  unfolding all_hold
  signals_limit e =
      let h = simp tests at (zero_all (head_rules bytes) (omega arith, (omega arith, (omega arith, tt))) (eqb-true (first_broken (head_rules bytes)).number 0 e)) in
      h.1.0.0.1.1

  -- where 4, 5 and 6 hold of every task the marks decide
  pub clashes_are : signal_count (words_of bytes) ≤ 64 → (first_broken (each_task bytes)).number ≡ 0
      → first_broken (each_task bytes ++ (priority_rules bytes ++ output_rules bytes)) ≡ or_else (clash_of (words_of bytes) (task_count (words_of bytes)) Priority) (clash_of (words_of bytes) (task_count (words_of bytes)) Outputs)
  unfolding plan_of
  clashes_are h e =
      broken_append (each_task bytes) (priority_rules bytes ++ output_rules bytes) (tasks_numbered _ 0 (task_bodies (words_of bytes)))
      ∙ rw (eq-eqb (first_broken (each_task bytes)).number 0 e)
      (broken_append (priority_rules bytes) (output_rules bytes) (clash_numbered 7 0 [] (map priority_of (plan_of bytes).tasks) (omega arith))
      ∙ sym (ap₂ or_else (found_is Priority h e) (found_is Outputs h e)))

  -- else the first task that breaks one of them
  pub tasks_decide : eqb (first_broken (each_task bytes)).number 0 ≡ false
      → first_broken (each_task bytes ++ (priority_rules bytes ++ output_rules bytes)) ≡ first_broken (each_task bytes)
  tasks_decide e =
      broken_append (each_task bytes) (priority_rules bytes ++ output_rules bytes) (tasks_numbered _ 0 (task_bodies (words_of bytes))) ∙ rw e
