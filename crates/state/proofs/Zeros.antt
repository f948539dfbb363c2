-- Lists whose values are 0 from a place on, and tests of each place of a list.
use Prim.Native.Nat.{ℕ, zero, suc, ◌+◌, ◌-◌, ◌<◌, ◌≤◌}
use mathlib.Core.Path.{◌≡◌, refl, sym, ap, subst, ◌∙◌}
use mathlib.Core.Bool.{Bool, true, false, ◌&&◌}
use mathlib.Core.List.{List, [], ◌∷◌}
use mathlib.Core.Logic.{◌↔◌, ◌⊎◌, inl, inr}
use native.Mathlib.Omega.{arith}
use native.Mathlib.Nat.{zero-add, eq-or-lt_of_le}
use lib.ListN.{length, get_or, drop, replicate, get_or-eq_default}
use lib.Seq.{get_or-drop}
use lib.Dec.{eqb, ltb}
use borrow.Author.Tests.{ltb-true, ltb-false}
use Rattle.std.specs.List.{list_all}
use Rattle.lists.specs.Lists.{tab, all, Every}
use Rattle.lists.proofs.Laws.{length-tab, get_or-tab}
use Rattle.lists.proofs.Tests.{and_iff, all-iff, eqb-iff}
use Rattle.state.specs.State.{pad}
use Rattle.state.specs.Fits.{zeros_from}

-- the library's name for `all`
pub all-listed : {A : Type 0} (p : A → Bool) (xs : List A) → list_all p xs ≡ all p xs
unfolding all
all-listed p [] = refl
all-listed p (x ∷ xs) = ap (λ (b : Bool). p x && b) (all-listed p xs)

-- ---- 0 from a place on
every_zero : (xs : List ℕ) → Every (λ x. x ≡ 0) xs ↔ ((i : ℕ) → get_or xs i 0 ≡ 0)
every_zero [] = ((λ h i. refl), (λ h. tt))
every_zero (x ∷ xs) =
    let rest = every_zero xs in
    ((λ h i. there h.0 (rest.0 h.1) i), (λ h. (h zero, rest.1 (λ i. h (suc i)))))
  where
    there : x ≡ 0 → ((i : ℕ) → get_or xs i 0 ≡ 0) → (i : ℕ) → get_or (x ∷ xs) i 0 ≡ 0
    there first later zero = first
    there first later (suc i) = later i

pub zeros_iff : (n : ℕ) (xs : List ℕ) → (zeros_from n xs ≡ true) ↔ ((i : ℕ) → n ≤ i → get_or xs i 0 ≡ 0)
zeros_iff n xs =
    let each = all-iff (λ x. eqb x 0) (λ x. x ≡ 0) (λ x. eqb-iff x 0) (drop n xs) in
    let places = every_zero (drop n xs) in (
      (λ e i low.
          let same : n + (i - n) ≡ i = omega arith in
          subst (λ k. get_or xs k 0 ≡ 0) same (sym (get_or-drop n xs (i - n) 0) ∙ places.0 (each.0 e) (i - n))),
      (λ h. each.1 (places.1 (λ i. get_or-drop n xs i 0 ∙ h (n + i) (omega arith)))),
    )

zero_replicate : (n i : ℕ) → get_or {A = ℕ} (replicate n 0) i 0 ≡ 0
zero_replicate zero i = refl
zero_replicate (suc n) zero = refl
zero_replicate (suc n) (suc i) = zero_replicate n i

pub zeros_replicate : (n size : ℕ) → zeros_from n (replicate size 0) ≡ true
zeros_replicate n size = (zeros_iff n (replicate size 0)).1 (λ i low. zero_replicate size i)

pub zeros_pad : (n size : ℕ) (xs : List ℕ) → length xs ≤ n → zeros_from n (pad size 0 xs) ≡ true
zeros_pad n size xs most = (zeros_iff n (pad size 0 xs)).1 (λ i low. go i low (ltb i size) refl)
  where
    go : (i : ℕ) → n ≤ i → (t : Bool) → ltb i size ≡ t → get_or (pad size 0 xs) i 0 ≡ 0
    go i low true e =
        get_or-tab (λ j. get_or xs j 0) 0 0 size i (ltb-true i size e) ∙ ap (λ (k : ℕ). get_or xs k 0) (zero-add i)
        ∙ get_or-eq_default xs 0 {n = i} (omega arith)
    go i low false e =
        get_or-eq_default (pad size 0 xs) 0 {n = i} (rw (length-tab (λ j. get_or xs j 0) 0 size) (ltb-false i size e))

-- ---- a test of each of a list read off by a rule
pub all-tab : {A : Type 0} (p : A → Bool) (f : ℕ → A) (k n : ℕ)
    → (all p (tab f k n) ≡ true) ↔ ((i : ℕ) → k ≤ i → i < k + n → p (f i) ≡ true)
unfolding all tab
all-tab p f k zero = ((λ e i low high. absurd (omega arith)), (λ h. refl))
all-tab p f k (suc n) =
    let rest = all-tab p f (k + 1) n in
    let both = and_iff (p (f k)) (all p (tab f (k + 1) n)) in (
      (λ e i low high. at_place (both.0 e).0 (rest.0 (both.0 e).1) i high (eq-or-lt_of_le low)),
      (λ h. both.1 (h k (omega arith) (omega arith), rest.1 (λ i low high. h i (omega arith) (omega arith)))),
    )
  where
    at_place : p (f k) ≡ true → ((i : ℕ) → k + 1 ≤ i → i < k + 1 + n → p (f i) ≡ true) → (i : ℕ) → i < k + suc n → (k ≡ i) ⊎ (k < i) → p (f i) ≡ true
    at_place first later i high (inl e) = subst (λ j. p (f j) ≡ true) e first
    at_place first later i high (inr low) = later i (omega arith) (omega arith)
