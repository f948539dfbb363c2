-- The four numbers of a task: what storing some of them changes.
use Prim.Native.Nat.{ℕ, ◌+◌, ◌*◌, ◌<◌}
use mathlib.Core.Path.{◌≡◌, ◌∙◌}
use mathlib.Core.Logic.{◌≢◌, ◌⊎◌, inl, inr}
use mathlib.Core.Bool.{cond}
use mathlib.Core.List.{List}
use native.Mathlib.Omega.{arith}
use lib.ListN.{length, length-set}
use lib.Seq.{get_or-set_same, get_or-set_other}
use lib.Dec.{eqb}
use borrow.Author.Tests.{eq-eqb, ne_eqb}
use Rattle.limits.specs.Limits.{max_tasks}
use Rattle.lists.proofs.Tests.{same_or_not}
use Rattle.arrays.specs.Arrays.{Arrays, field, with_field}
use Rattle.whole.specs.Whole.{ports_in, task_in}

-- ---- one number
module _ (l : List ℕ) (size : length l ≡ max_tasks * 4) (i f x : ℕ) (low : i < max_tasks) (few : f < 4) where
  -- number g of task i
  pub stored : (g : ℕ) → field (with_field l i f x) i g ≡ cond (eqb g f) x (field l i g)
  stored g = go (same_or_not g f)
    where
      go : (g ≡ f) ⊎ (g ≢ f) → field (with_field l i f x) i g ≡ cond (eqb g f) x (field l i g)
      go (inl e) = rw (eq-eqb g f e, e) (get_or-set_same l (i * 4 + f) x 0 (omega arith))
      go (inr d) = rw (ne_eqb g f d) (get_or-set_other l (i * 4 + f) (i * 4 + g) x 0 (λ e. d (omega arith)))

  -- those of another task
  pub stored_other : (k g : ℕ) → g < 4 → k ≢ i → field (with_field l i f x) k g ≡ field l k g
  stored_other k g small d = get_or-set_other l (i * 4 + f) (k * 4 + g) x 0 (λ e. d (omega arith))

-- ---- three numbers, f, g and h
abbrev pub three : List ℕ → ℕ → ℕ → ℕ → ℕ → ℕ → ℕ → ℕ → List ℕ
three l i f x g y h z = with_field (with_field (with_field l i f x) i g y) i h z

module _ (l : List ℕ) (size : length l ≡ max_tasks * 4) (i : ℕ) (low : i < max_tasks) (f x g y h z : ℕ) (few : f < 4) (some' : g < 4) (last : h < 4) where
  first_size : length (with_field l i f x) ≡ max_tasks * 4
  first_size = simp length-set size

  second_size : length (with_field (with_field l i f x) i g y) ≡ max_tasks * 4
  second_size = simp length-set size

  pub three_stored : (q : ℕ) → field (three l i f x g y h z) i q ≡ cond (eqb q h) z (cond (eqb q g) y (cond (eqb q f) x (field l i q)))
  three_stored q =
      rw (stored (with_field (with_field l i f x) i g y) second_size i h z low last q, stored (with_field l i f x) first_size i g y low some' q, stored l size i f x low few q)

  pub three_other : (k q : ℕ) → q < 4 → k ≢ i → field (three l i f x g y h z) k q ≡ field l k q
  three_other k q small d =
      stored_other (with_field (with_field l i f x) i g y) second_size i h z low last k q small d
      ∙ stored_other (with_field l i f x) first_size i g y low some' k q small d
      ∙ stored_other l size i f x low few k q small d

-- ---- a task whose numbers and ports are the same is the same
pub task_same : (a b : Arrays) (i : ℕ) → ((g : ℕ) → g < 4 → field b.tasks i g ≡ field a.tasks i g)
    → ports_in b.latched i ≡ ports_in a.latched i → ports_in b.held i ≡ ports_in a.held i → task_in b i ≡ task_in a i
task_same a b i e latched held = rw (e 0 (omega arith), e 1 (omega arith), e 2 (omega arith), e 3 (omega arith), latched, held)
