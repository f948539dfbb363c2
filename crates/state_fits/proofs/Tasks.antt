-- The tasks of a state, those of the plan and the rest apart.
use Prim.Native.Nat.{ℕ, zero, suc, ◌+◌, ◌-◌, ◌<◌, ◌≤◌, min}
use mathlib.Core.Path.{◌≡◌, refl, ap, ◌∙◌}
use mathlib.Core.Bool.{Bool, ◌&&◌}
use mathlib.Core.List.{List, ◌∷◌}
use Rattle.std.specs.List.{range_with_len}
use native.Mathlib.Omega.{arith}
use native.Mathlib.Nat.{zero-add, add-zero}
use native.Mathlib.Numerals.{add-one}
use lib.ListN.{length, get_or, drop, drop_of_length-le}
use lib.Seq.{drop-cons}
use Rattle.limits.specs.Limits.{max_tasks}
use Rattle.lists.specs.Lists.{tab, all}
use Rattle.lists.proofs.Laws.{and_assoc}
use Rattle.words.specs.Words.{words_of}
use Rattle.plan.specs.File.{task_count, task_of, body_part, plan_of}
use Rattle.state.specs.State.{nowhere, state_at}
use Rattle.state.specs.Fits.{task_fits, is_idle, task_rule, tasks_fit}
use Rattle.state.specs.declared.TaskState.{TaskState}
use Rattle.state.proofs.Laws.{task_in_lem, task_out, task_read}

module _ (p : ℕ → Bool) where
  all_two : (m n k : ℕ) → all p (tab (λ i. i) k (m + n)) ≡ (all p (tab (λ i. i) k m) && all p (tab (λ i. i) (k + m) n))
  unfolding all tab
  all_two zero n k = rw (zero-add n, add-zero k)
  all_two (suc m) n k =
      let e : suc m + n ≡ suc (m + n) = omega arith in
      let f : k + suc m ≡ k + 1 + m = omega arith in
      rw (e, f, all_two m n (k + 1)) (and_assoc (p k) (all p (tab (λ i. i) (k + 1) m)) (all p (tab (λ i. i) (k + 1 + m) n)))

  all_same : (q : ℕ → Bool) (n k : ℕ) → ((i : ℕ) → k ≤ i → i < k + n → p i ≡ q i) → all p (tab (λ i. i) k n) ≡ all q (tab (λ i. i) k n)
  unfolding all tab
  all_same q zero k h = refl
  all_same q (suc n) k h = rw (h k (omega arith) (omega arith), all_same q n (k + 1) (λ i l m. h i (omega arith) (omega arith)))

-- the numbers from a on
pub counted : (a n : ℕ) → range_with_len a n ≡ tab (λ i. i) a n
unfolding tab
counted a zero = refl
counted a (suc n) = ap (λ (l : List ℕ). a ∷ l) (counted (a + 1) n)

-- those from a place on, by their places
all_from : {A : Type 0} (p : A → Bool) (d : A) (xs : List A) (n k : ℕ) → length xs ≡ k + n → all (λ i. p (get_or xs i d)) (tab (λ i. i) k n) ≡ all p (drop k xs)
unfolding all tab
all_from p d xs zero k size = let least : length xs ≤ k = omega arith in rw (drop_of_length-le xs least)
all_from p d xs (suc n) k size = let less : k < length xs = omega arith in rw (drop-cons xs k d less, all_from p d xs n (k + 1) (omega arith), add-one k)

module _ (bytes : List ℕ) (t : ℕ) where
  pub in_plan : (i : ℕ) (x : TaskState) → i < task_count (words_of bytes) → task_rule (plan_of bytes) t i x ≡ task_fits t (task_of (words_of (body_part bytes i))) x
  unfolding task_rule
  in_plan i x h = rw (task_in_lem bytes i h, ← task_read bytes i h)

  -- what stands from T on is idle
  pub apart : (tasks : List TaskState) (count : ℕ) → length tasks ≡ max_tasks → count ≡ min (task_count (words_of bytes)) max_tasks
      → tasks_fit (plan_of bytes) t tasks
      ≡ (all (λ i. task_fits t (task_of (words_of (body_part bytes i))) (state_at tasks i)) (tab (λ i. i) 0 count) && all is_idle (drop count tasks))
  unfolding task_rule
  apart tasks count size e =
      let both : max_tasks ≡ count + (max_tasks - count) = omega arith in
      let rule : ℕ → Bool = λ i. task_rule (plan_of bytes) t i (state_at tasks i) in
      ap (λ (n : ℕ). all rule (tab (λ i. i) 0 n)) both
      ∙ all_two rule count (max_tasks - count) 0
      ∙ ap (λ (b : Bool). b && all rule (tab (λ i. i) (0 + count) (max_tasks - count))) (all_same rule (λ i. task_fits t (task_of (words_of (body_part bytes i))) (state_at tasks i)) count 0 (λ i l m. in_plan i (state_at tasks i) (omega arith)))
      ∙ ap (λ (b : Bool). all (λ i. task_fits t (task_of (words_of (body_part bytes i))) (state_at tasks i)) (tab (λ i. i) 0 count) && b)
      (ap (λ (k : ℕ). all rule (tab (λ i. i) k (max_tasks - count))) (zero-add count)
      ∙ all_same rule (λ i. is_idle (state_at tasks i)) (max_tasks - count) count (λ i l m. rw (task_out bytes i (omega arith)))
      ∙ all_from is_idle nowhere tasks (max_tasks - count) count (omega arith))
