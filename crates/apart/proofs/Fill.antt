-- Arrays that are filled one place after the other.
use Prim.Native.Nat.{ℕ, ◌+◌, ◌<◌, ◌≤◌}
use mathlib.Core.Path.{◌≡◌, sym, ap, subst, ◌∙◌}
use mathlib.Core.List.{List}
use mathlib.Core.Logic.{◌⊎◌, inl, inr}
use native.Mathlib.Omega.{arith}
use native.Mathlib.Nat.{zero-add, eq-or-lt_of_le}
use lib.ListN.{length, get_or, set, replicate, length-set, length-replicate}
use lib.Seq.{get_or-set_same, get_or-set_other, ext_get_or}
use Rattle.lists.specs.Lists.{tab}
use Rattle.lists.proofs.Laws.{length-tab, get_or-tab}

-- ---- a list of n places, of which the first i are filled by a rule
pub record Filled {A : Type 0} (f : ℕ → A) (d : A) (n i : ℕ) (xs : List A) : Type 0 where
  pub size : length xs ≡ n
  pub filled : (j : ℕ) → j < i → get_or xs j d ≡ f j

pub fill_none : {A : Type 0} (f : ℕ → A) (d : A) (n : ℕ) (v : A) → Filled f d n 0 (replicate n v)
fill_none f d n v = record { size = length-replicate n v; filled = λ j h. absurd (omega arith) }

module _ {A : Type 0} (f : ℕ → A) (d : A) (n i : ℕ) (xs : List A) where
  pub fill_more : i < n → Filled f d n i xs → Filled f d n (i + 1) (set xs i (f i))
  fill_more less h =
      let size = h.size in
      let low : (j : ℕ) → j < i → get_or (set xs i (f i)) j d ≡ f j
      = λ j below. get_or-set_other xs i j (f i) d (λ e. absurd (omega arith)) ∙ h.filled j below in
      record { size = simp length-set h.size; filled = λ j below. let most : j ≤ i = omega arith in go low j below (eq-or-lt_of_le most) }
    where
      go : ((j : ℕ) → j < i → get_or (set xs i (f i)) j d ≡ f j) → (j : ℕ) → j < i + 1 → (j ≡ i) ⊎ (j < i) → get_or (set xs i (f i)) j d ≡ f j
      go low j below (inl e) = subst (λ k. get_or (set xs i (f i)) k d ≡ f k) (sym e) (get_or-set_same xs i (f i) d (let size = h.size in omega arith))
      go low j below (inr b) = low j b

  pub fill_done : n ≤ i → Filled f d n i xs → xs ≡ tab f 0 n
  fill_done most h =
      let size = h.size in
      ext_get_or d xs (tab f 0 n) (size ∙ sym (length-tab f 0 n))
      (λ j less. h.filled j (omega arith) ∙ ap f (sym (zero-add j)) ∙ sym (get_or-tab f d 0 n j (omega arith)))
