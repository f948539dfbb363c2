-- Lists and tests that the papers' words come down to.
use Rattle.std.specs.Prelude.{ℕ, zero, suc, ◌+◌, ◌≤◌, ◌≡◌, ◌⊎◌, Bool, true, not, ◌&&◌, List, [], ◌∷◌, length, get_or, take, drop, leb, eqb}
use Rattle.std.proofs.Math.Option.{Option, none, some}

-- f i, f (i + 1), .., n of them
unfoldable pub tab : {A : Type 0} → (ℕ → A) → ℕ → ℕ → List A
tab f i zero = []
tab f i (suc n) = f i ∷ tab f (i + 1) n

-- the part of a list that starts at a place and has a size
abbrev pub part : List ℕ → ℕ → ℕ → List ℕ
part xs start size = take size (drop start xs)

-- low ≤ n ≤ high
abbrev pub between : ℕ → ℕ → ℕ → Bool
between low high n = leb low n && leb n high

-- a test holds of each of a list
unfoldable pub all : {A : Type 0} → (A → Bool) → List A → Bool
all p [] = true
all p (x ∷ xs) = p x && all p xs

-- x is none of a list
unfoldable pub absent : ℕ → List ℕ → Bool
absent x [] = true
absent x (y ∷ ys) = not (eqb x y) && absent x ys

-- ---- the same in plain mathematics
-- low ≤ n ≤ high
abbrev pub Between : ℕ → ℕ → ℕ → Type 0
Between low high n = (low ≤ n) × (n ≤ high)

-- P holds of each of a list
abbrev pub Every : {A : Type 0} → (A → Type 0) → List A → Type 0
Every P [] = Unit {0}
Every P (x ∷ xs) = P x × Every P xs

-- R holds of any two of a list, the earlier one first
abbrev pub Pairwise : {A : Type 0} → (A → A → Type 0) → List A → Type 0
Pairwise R [] = Unit {0}
Pairwise R (x ∷ xs) = Every (R x) xs × Pairwise R xs

-- x stands in a list
abbrev pub In : ℕ → List ℕ → Type 0
In x [] = ⊥
In x (y ∷ ys) = (x ≡ y) ⊎ In x ys

-- P holds of the one that there is, if any
abbrev pub If : {A : Type 0} → (A → Type 0) → Option A → Type 0
If P none = Unit {0}
If P (some x) = P x

-- so many values, of which those from place n on are 0
pub record PaddedFrom (n count : ℕ) (xs : List ℕ) : Type 0 where
  pub size : length xs ≡ count
  pub zeros : (i : ℕ) → n ≤ i → get_or xs i 0 ≡ 0
