-- Laws of bits, over every width, and of marks below 64.
use Prim.Native.Nat.{ℕ, zero, suc, ◌+◌, ◌*◌, ◌/◌, ◌%◌, ◌^◌, ◌≤◌, ◌<◌, max, zero-le, suc-le-suc}
use native.Mathlib.Nat.{le_of_suc-le-suc, not-suc-le-zero, zero-lt-suc, one-mul, mod-lt, div-one, div-eq_of_lt, mod-eq_of_lt, lt_of_lt_of_le}
use native.Mathlib.Numerals.{one-add}
use native.Mathlib.Omega.{arith}
use mathlib.Core.Path.{◌≡◌, refl, sym, ap, ap₂, ◌∙◌}
use mathlib.Core.Bool.{Bool, false, ◌||◌}
use lib.Dec.{eqb, eqb-suc-suc, eqb-zero-suc, eqb-suc-zero, lit<}
use lib.Arith.{digits_mod}
use lib.Pow.{shl_exact, shr-shr, pow_pos, pow_mono}
use lib.Bits.{bit_or, or_step, or_shr, shifted_half, shifted_even}
use Rattle.marks.specs.Marks.{has, marked, seen, mark}

-- ---- what the machine's `1 << k` gives in a word of w bits
pub one_shl : (w : ℕ) {k : ℕ} → k < w → (1 * 2 ^ k) % 2 ^ w ≡ 2 ^ k
one_shl w {k} h = shl_exact {a = 1} 1 k w (lit< tt) (omega (arith, h)) ∙ one-mul (2 ^ k)

pub marked_by_lem : (n w : ℕ) {k : ℕ} → k < n → bit_or w ((1 * 2 ^ k) % 2 ^ n) ≡ marked w k
marked_by_lem n w h = ap (bit_or w) (one_shl n h)

-- ---- digits
two_pos : 0 < 2
two_pos = zero-lt-suc 1

-- what holds of 0 and 1 holds of a digit
pub digit : (P : ℕ → Type 0) → P 0 → P 1 → (x : ℕ) → x < 2 → P x
digit P p q zero h = p
digit P p q (suc zero) h = q
digit P p q (suc (suc x)) h = absurd (not-suc-le-zero (le_of_suc-le-suc (le_of_suc-le-suc h)))

pub digit₂ : (P : ℕ → ℕ → Type 0) → P 0 0 → P 0 1 → P 1 0 → P 1 1 → (x y : ℕ) → x < 2 → y < 2 → P x y
digit₂ P a b c d x y hx hy = digit (λ x. P x y) (digit (P 0) a b y hy) (digit (P 1) c d y hy) x hx

-- the operation op works digit by digit, as f does, whose table is g
module _ (op f : ℕ → ℕ → ℕ) (g : Bool → Bool → Bool)
    (shr : (a b k : ℕ) → op a b / 2 ^ k ≡ op (a / 2 ^ k) (b / 2 ^ k))
    (step : (a b : ℕ) → op a b ≡ op (a / 2) (b / 2) * 2 + f (a % 2) (b % 2))
    (small : (x y : ℕ) → x < 2 → y < 2 → f x y < 2)
    (table : (x y : ℕ) → x < 2 → y < 2 → eqb (f x y) 1 ≡ g (eqb x 1) (eqb y 1)) where
  has-op : (a b k : ℕ) → has (op a b) k ≡ g (has a k) (has b k)
  has-op a b k =
      let x = a / 2 ^ k in
      let y = b / 2 ^ k in
      ap (λ (n : ℕ). eqb (n % 2) 1) (shr a b k ∙ step x y)
      ∙ ap (λ (n : ℕ). eqb n 1) (digits_mod (op (x / 2) (y / 2)) (small (x % 2) (y % 2) (mod-lt x two_pos) (mod-lt y two_pos)))
      ∙ table (x % 2) (y % 2) (mod-lt x two_pos) (mod-lt y two_pos)

pub has-or : (a b k : ℕ) → has (bit_or a b) k ≡ (has a k || has b k)
has-or = has-op bit_or max ◌||◌ or_shr or_step (digit₂ (λ x y. max x y < 2) (lit< tt) (lit< tt) (lit< tt) (lit< tt)) (digit₂ (λ x y. eqb (max x y) 1 ≡ (eqb x 1 || eqb y 1)) refl refl refl refl)

-- ---- the places of a number
pub has-suc : (w k : ℕ) → has w (suc k) ≡ has (w / 2) k
has-suc w k = ap (λ (n : ℕ). eqb (n % 2) 1) (ap (λ (n : ℕ). w / 2 ^ n) (sym (one-add k)) ∙ sym (shr-shr w 1 k))

pub has-zero : (k : ℕ) → has 0 k ≡ false
has-zero k = ap (λ (n : ℕ). eqb (n % 2) 1) (div-eq_of_lt (pow_pos k))

-- no bit stands at the width or above it
pub has_above : (n w k : ℕ) → w < 2 ^ n → n ≤ k → has w k ≡ false
has_above n w k h l = ap (λ (x : ℕ). eqb (x % 2) 1) (div-eq_of_lt (lt_of_lt_of_le h (pow_mono l)))

pub has_one : (s k : ℕ) → has (2 ^ s) k ≡ eqb s k
has_one zero zero = refl
has_one zero (suc k) = has_above 1 1 (suc k) (lit< tt) (suc-le-suc zero-le) ∙ sym (eqb-zero-suc k)
has_one (suc s) zero = ap (λ (n : ℕ). eqb (n % 2) 1) (div-one (2 ^ suc s) ∙ sym (one-mul (2 ^ suc s))) ∙ ap (λ (n : ℕ). eqb n 1) (shifted_even 1 s) ∙ sym (eqb-suc-zero s)
has_one (suc s) (suc k) = has-suc (2 ^ suc s) k ∙ ap (λ (n : ℕ). has n k) (ap (λ (n : ℕ). n / 2) (sym (one-mul (2 ^ suc s))) ∙ shifted_half 1 s ∙ one-mul (2 ^ s)) ∙ has_one s k ∙ sym (eqb-suc-suc s k)

-- ---- marking one number
pub has-marked : (w s k : ℕ) → has (marked w s) k ≡ (has w k || eqb s k)
has-marked w s k = has-or w (2 ^ s) k ∙ ap (λ (b : Bool). has w k || b) (has_one s k)

-- below 64 a mark changes the one number only
pub seen-mark : (w x k : ℕ) → x < 64 → k < 64 → seen (mark w x) k ≡ (seen w k || eqb x k)
seen-mark w x k hx hk = has-marked w (x % 64) (k % 64) ∙ ap₂ (λ (a b : ℕ). has w (k % 64) || eqb a b) (mod-eq_of_lt hx) (mod-eq_of_lt hk)

-- no number is marked in 0
pub seen_none : (k : ℕ) → seen 0 k ≡ false
seen_none k = has-zero (k % 64)
