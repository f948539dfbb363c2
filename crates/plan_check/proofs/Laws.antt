-- The definitions that the check's loops meet, one step at a time: k done of n.
use Prim.Native.Nat.{ℕ, ◌+◌, ◌-◌, ◌<◌, ◌≤◌}
use mathlib.Core.Path.{◌≡◌, sym, ap, ◌∙◌}
use mathlib.Core.Bool.{Bool, true, cond, not, ◌&&◌}
use mathlib.Core.List.{List}
use native.Mathlib.Omega.{arith}
use lib.ListN.{length}
use lib.Dec.{eqb}
use Rattle.limits.specs.Limits.{max_tasks}
use Rattle.lists.specs.Lists.{tab}
use Rattle.lists.proofs.Tests.{tests}
use Rattle.lists.proofs.Laws.{more, done, tab-more, tab-done, and_assoc, and_true}
use Rattle.answers.specs.Answers.{Verdict, verdict, first_broken, or_else}
use Rattle.answers.proofs.Laws.{broken_append}
use Rattle.marks.specs.Marks.{seen, mark}
use Rattle.plan.specs.File.{task_count, start_of, length_of}
use Rattle.plan.specs.Rules.{head_rule, chained, one_task, task_rules}
use Rattle.plan_check.specs.Clash.{new_to, mark_all, clash_from}

-- ---- what the question 'accepted?' tells of the verdict behind an answer
pub asked : (b t : Bool) (v w : Verdict) → t ≡ eqb v.number 0 → t ≡ b → v ≡ w → eqb w.number 0 ≡ b
asked b t v w e f g = ap (λ (u : Verdict). eqb u.number 0) (sym g) ∙ sym e ∙ f

-- ---- what rule 2 says of T
pub tasks_limit : (ws : List ℕ) → head_rule ws ≡ true → task_count ws ≤ max_tasks
tasks_limit ws e = (simp tests at e).1.1

-- ---- the entries of the contents; t is what those before came to
module _ (ws : List ℕ) (n k at : ℕ) (t : Bool) where
  pub chained_more : k < n
      → (t && chained ws (n - k) k at) ≡ ((t && eqb (start_of ws k) at) && chained ws (n - (k + 1)) (k + 1) (at + length_of ws k))
  unfolding chained
  chained_more h = rw (more n k h) (and_assoc t _ _)

  pub chained-done : n ≤ k → (t && chained ws (n - k) k at) ≡ (t && eqb at (length ws))
  unfolding chained
  chained-done h = rw (done n k h)

-- ---- 4, 5, 6 for each task
module _ (s : ℕ) (f : ℕ → List ℕ) (n k : ℕ) where
  pub tasks_more : k < n
      → first_broken (task_rules s k (tab f k (n - k))) ≡ or_else (first_broken (one_task s k (f k))) (first_broken (task_rules s (k + 1) (tab f (k + 1) (n - (k + 1)))))
  unfolding task_rules
  tasks_more h = rw (tab-more f n k h) (broken_append (one_task s k (f k)) _ (omega arith, (omega arith, (omega arith, tt))))

  pub tasks_done : n ≤ k → first_broken (task_rules s k (tab f k (n - k))) ≡ verdict 0 0
  unfolding task_rules first_broken
  tasks_done h = rw (tab-done f n k h)

-- ---- numbers against marks
module _ (marks : ℕ) (f : ℕ → ℕ) (n k : ℕ) where
  pub new_more : (t : Bool) → k < n → (t && new_to marks (tab f k (n - k))) ≡ ((t && not (seen marks (f k))) && new_to (mark marks (f k)) (tab f (k + 1) (n - (k + 1))))
  unfolding new_to
  new_more t h = rw (tab-more f n k h) (and_assoc t _ _)

  pub new_done : (t : Bool) → n ≤ k → (t && new_to marks (tab f k (n - k))) ≡ t
  unfolding new_to
  new_done t h = rw (tab-done f n k h) (and_true t)

  pub mark-more : k < n → mark_all marks (tab f k (n - k)) ≡ mark_all (mark marks (f k)) (tab f (k + 1) (n - (k + 1)))
  unfolding mark_all
  mark-more h = rw (tab-more f n k h)

  pub mark-done : n ≤ k → mark_all marks (tab f k (n - k)) ≡ marks
  unfolding mark_all
  mark-done h = rw (tab-done f n k h)

-- ---- 7 and 8
module _ (number marks : ℕ) (f : ℕ → List ℕ) (n k : ℕ) where
  pub clash_more : k < n
      → clash_from number k marks (tab f k (n - k)) ≡ cond (new_to marks (f k)) (clash_from number (k + 1) (mark_all marks (f k)) (tab f (k + 1) (n - (k + 1)))) (verdict number k)
  unfolding clash_from
  clash_more h = rw (tab-more f n k h)

  pub clash_done : n ≤ k → clash_from number k marks (tab f k (n - k)) ≡ verdict 0 0
  unfolding clash_from
  clash_done h = rw (tab-done f n k h)
