-- What the first number with a test is, and that counting a word's trailing zeros finds it.
use Prim.Native.Nat.{ℕ, zero, suc, ◌+◌, ◌-◌, ◌/◌, ◌%◌, ◌^◌, ◌≤◌, ◌<◌}
use native.Mathlib.Nat.{le_refl, zero-lt-suc, mod-lt, div-one, div-add-mod', eq-or-lt_of_le, le_of_suc-le-suc, lt_of_not-le, lt_of_le_of_lt, div-le_self}
use native.Mathlib.Numerals.{add-one}
use native.Mathlib.Omega.{arith}
use mathlib.Core.Path.{◌≡◌, refl, sym, ap, ◌∙◌, subst}
use mathlib.Core.Logic.{◌⊎◌, inl, inr}
use mathlib.Core.Bool.{Bool, true, false, cond, true≢false}
use lib.Dec.{eqb}
use borrow.Author.Tests.{eqb-true, eqb-false}
use lib.Pow.{shr-shr, shr_lt}
use lib.Count.{count_trailing_zeros, under}
use Rattle.marks.specs.Marks.{has}
use Rattle.marks.proofs.Laws.{digit, has-suc, has-zero, has_above}
use Rattle.turns.specs.Turns.{least}

-- ---- the first number of which a test holds
module _ (p : ℕ → Bool) where
  -- it does not stand before the start
  pub least-from : (n k : ℕ) → k ≤ least p n k
  unfolding least
  least-from zero k = le_refl k
  least-from (suc n) k = go (p k) (least-from n (k + 1))
    where
      go : (b : Bool) → k + 1 ≤ least p n (k + 1) → k ≤ cond b k (least p n (k + 1))
      go true h = le_refl k
      go false h = omega (arith, h)

  -- nor past the end
  pub least-most : (n k : ℕ) → least p n k ≤ k + n
  unfolding least
  least-most zero k = omega arith
  least-most (suc n) k = go (p k) (least-most n (k + 1))
    where
      go : (b : Bool) → least p n (k + 1) ≤ k + 1 + n → cond b k (least p n (k + 1)) ≤ k + suc n
      go true h = omega arith
      go false h = omega (arith, h)

  -- the test holds of no number before it
  pub least-below : (n k i : ℕ) → k ≤ i → i < least p n k → p i ≡ false
  unfolding least
  least-below zero k i l h = absurd (omega (arith, l, h))
  least-below (suc n) k i l h = go (p k) refl h (eq-or-lt_of_le l) (λ m. least-below n (k + 1) i m)
    where
      go : (b : Bool) → p k ≡ b → i < cond b k (least p n (k + 1)) → (k ≡ i) ⊎ (k < i) → (k + 1 ≤ i → i < least p n (k + 1) → p i ≡ false) → p i ≡ false
      go true e h o f = absurd (omega (arith, l, h))
      go false e h (inl q) f = ap p (sym q) ∙ e
      go false e h (inr m) f = f (omega (arith, m)) h

  -- and of it, where it is not past the end
  pub least_at : (n k : ℕ) → least p n k < k + n → p (least p n k) ≡ true
  unfolding least
  least_at zero k h = absurd (omega (arith, h))
  least_at (suc n) k h = go (p k) refl h (least_at n (k + 1))
    where
      go : (b : Bool) → p k ≡ b → cond b k (least p n (k + 1)) < k + suc n → (least p n (k + 1) < k + 1 + n → p (least p n (k + 1)) ≡ true) → p (cond b k (least p n (k + 1))) ≡ true
      go true e h f = e
      go false e h f = f (omega (arith, h))

  -- no other number is so
  pub least-is : (n k r : ℕ) → k ≤ r → r < k + n → p r ≡ true → ((i : ℕ) → i < r → k ≤ i → p i ≡ false) → least p n k ≡ r
  unfolding least
  least-is zero k r l h e f = absurd (omega (arith, l, h))
  least-is (suc n) k r l h e f = go (eq-or-lt_of_le l) (λ m. least-is n (k + 1) r m (omega (arith, h)) e (λ i x y. f i x (omega (arith, y))))
    where
      go : (k ≡ r) ⊎ (k < r) → (k + 1 ≤ r → least p n (k + 1) ≡ r) → cond (p k) k (least p n (k + 1)) ≡ r
      go (inl q) g = rw (ap p q ∙ e, q)
      go (inr m) g = rw (f k m (le_refl k), g (omega (arith, m)))

  -- where the test holds of none it is the end
  pub least-none : (n k : ℕ) → ((i : ℕ) → k ≤ i → p i ≡ false) → least p n k ≡ k + n
  unfolding least
  least-none zero k f = omega arith
  least-none (suc n) k f = rw (f k (le_refl k)) (least-none n (k + 1) (λ i h. f i (omega (arith, h))) ∙ omega arith)

-- ---- the trailing zeros of a word
two_pos : 0 < 2
two_pos = zero-lt-suc 1

half_lt : {w : ℕ} (n : ℕ) → w < 2 ^ suc n → w / 2 < 2 ^ n
half_lt {w} n h = shr_lt n 1 (subst (λ (x : ℕ). w < 2 ^ x) (sym (add-one n)) h)

has-low : (w : ℕ) → has w 0 ≡ eqb (w % 2) 1
has-low w = ap (λ (x : ℕ). eqb (x % 2) 1) (div-one w)

-- no bit stands below
pub trailing_below : (n w k : ℕ) → k < count_trailing_zeros n w → has w k ≡ false
unfolding count_trailing_zeros
trailing_below zero w k h = absurd (omega (arith, h))
trailing_below (suc n) w k h =
    digit (λ x. w % 2 ≡ x → k < under x (count_trailing_zeros n (w / 2)) → has w k ≡ false)
    (λ e l. even k (λ i. trailing_below n (w / 2) i) e l)
    (λ e l. absurd (omega (arith, l)))
    (w % 2)
    (mod-lt w two_pos)
    refl
    h
  where
    even : (i : ℕ) → ((i : ℕ) → i < count_trailing_zeros n (w / 2) → has (w / 2) i ≡ false) → w % 2 ≡ 0 → i < suc (count_trailing_zeros n (w / 2)) → has w i ≡ false
    even zero f e l = has-low w ∙ ap (λ (x : ℕ). eqb x 1) e
    even (suc i) f e l = has-suc w i ∙ f i (le_of_suc-le-suc l)

-- and a word that is not 0 has the bit there
pub trailing_has : (n w : ℕ) → 0 < w → w < 2 ^ n → has w (count_trailing_zeros n w) ≡ true
unfolding count_trailing_zeros
trailing_has zero w z h = absurd (omega (arith, z, h))
trailing_has (suc n) w z h =
    digit (λ x. w % 2 ≡ x → has w (under x (count_trailing_zeros n (w / 2))) ≡ true)
    (λ e. has-suc w (count_trailing_zeros n (w / 2)) ∙ trailing_has n (w / 2) (let d = div-add-mod' w 2 in omega (arith, z, e, d)) (half_lt n h))
    (λ e. has-low w ∙ ap (λ (x : ℕ). eqb x 1) e)
    (w % 2)
    (mod-lt w two_pos)
    refl

-- ---- the next bit of a word from a place on
has-shifted : (w s k : ℕ) → has (w / 2 ^ s) k ≡ has w (s + k)
has-shifted w s k = ap (λ (x : ℕ). eqb (x % 2) 1) (shr-shr w s k)

module _ (w from : ℕ) where
  -- a bit from the place on is one of the word shifted to it
  has-from : (i : ℕ) → from ≤ i → has w i ≡ has (w / 2 ^ from) (i - from)
  has-from i h = ap (has w) (omega (arith, h)) ∙ sym (has-shifted w from (i - from))

  -- the first is so many places further as the shifted word has zeros
  pub next_is : w < 2 ^ 32 → least (has w) 32 from ≡ from + count_trailing_zeros 32 (w / 2 ^ from)
  unfolding count_trailing_zeros
  next_is h = go (eqb (w / 2 ^ from) 0) refl
    where
      r : ℕ
      r = from + count_trailing_zeros 32 (w / 2 ^ from)

      go : (b : Bool) → eqb (w / 2 ^ from) 0 ≡ b → least (has w) 32 from ≡ r
      go true e =
          let z = eqb-true (w / 2 ^ from) 0 e in
          least-none (has w) 32 from (λ i l. has-from i l ∙ ap (λ (x : ℕ). has x (i - from)) z ∙ has-zero (i - from)) ∙ sym (ap (λ (x : ℕ). from + count_trailing_zeros 32 x) z)
      go false e =
          let z = eqb-false (w / 2 ^ from) 0 e in
          let small = lt_of_le_of_lt (div-le_self w (2 ^ from)) h in
          let shown = trailing_has 32 (w / 2 ^ from) (omega (arith, z)) small in
          let inside : count_trailing_zeros 32 (w / 2 ^ from) < 32 = lt_of_not-le (λ g. true≢false (sym shown ∙ has_above 32 (w / 2 ^ from) _ small g)) in
          least-is (has w) 32 from r (omega arith) (omega (arith, inside)) (sym (has-shifted w from (count_trailing_zeros 32 (w / 2 ^ from))) ∙ shown)
          (λ i l m. has-from i m ∙ trailing_below 32 (w / 2 ^ from) (i - from) (omega (arith, l, m)))

-- ---- what who asks for the next number knows of it
module _ (w from r : ℕ) (e : r ≡ least (has w) 32 from) where
  -- it does not stand before the start
  pub next_from : from ≤ r
  next_from = rw e (least-from (has w) 32 from)

  -- no bit stands between
  pub next_below : (i : ℕ) → from ≤ i → i < r → has w i ≡ false
  next_below i h l = least-below (has w) 32 from i h (subst (λ (x : ℕ). i < x) e l)

  -- and its own does
  pub next_at : r < 32 → has w r ≡ true
  next_at h = rw e (least_at (has w) 32 from (let l = next_from in omega (arith, e, h, l)))

-- where there is no next below a number, no bit stands below it
pub none_below : (w from n : ℕ) → n ≤ least (has w) 32 from → (i : ℕ) → from ≤ i → i < n → has w i ≡ false
none_below w from n h i f l = least-below (has w) 32 from i f (omega (arith, h, l))
