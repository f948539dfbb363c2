-- Laws of lists read off by a rule, and of tests joined by 'and'.
use Prim.Native.Nat.{ℕ, zero, suc, ◌+◌, ◌-◌, ◌<◌, ◌≤◌, min}
use mathlib.Core.Path.{◌≡◌, refl, ap, sym, ◌∙◌}
use mathlib.Core.Bool.{Bool, true, false, ◌&&◌, false≢true}
use mathlib.Core.List.{List, [], ◌∷◌, ◌++◌, map, append_assoc}
use native.Mathlib.Omega.{arith}
use native.Mathlib.Numerals.{add-one}
use native.Mathlib.Nat.{zero-add, sub-zero, zero-sub, suc-sub-suc}
use lib.ListN.{length, get_or, set, take, drop, replicate, length-replicate, length-set, drop_of_length-le}
use lib.Seq.{sets, sets-eq, set_at, drop-cons, take-append-add, take-nil, drop-nil, get_or-set_other}
use Rattle.lists.specs.Lists.{tab, all, PaddedFrom}

-- ---- counts: k done of n
pub more : (n k : ℕ) → k < n → n - k ≡ suc (n - (k + 1))
more n k h = omega arith

pub done : (n k : ℕ) → n ≤ k → n - k ≡ 0
done n k h = omega arith

-- ---- lists read off by a rule
module _ {A : Type 0} (f : ℕ → A) (n k : ℕ) where
  pub tab-more : k < n → tab f k (n - k) ≡ f k ∷ tab f (k + 1) (n - (k + 1))
  unfolding tab
  tab-more h = rw (more n k h)

  pub tab-done : n ≤ k → tab f k (n - k) ≡ []
  unfolding tab
  tab-done h = rw (done n k h)

pub length-tab : {A : Type 0} (f : ℕ → A) (k n : ℕ) → length (tab f k n) ≡ n
unfolding tab
length-tab f k zero = refl
length-tab f k (suc n) = ap suc (length-tab f (k + 1) n)

pub get_or-tab : {A : Type 0} (f : ℕ → A) (d : A) (k n i : ℕ) → i < n → get_or (tab f k n) i d ≡ f (k + i)
unfolding tab
get_or-tab f d k zero i h = absurd (omega arith)
get_or-tab f d k (suc n) zero h = ap f (omega arith)
get_or-tab f d k (suc n) (suc i) h = get_or-tab f d (k + 1) n i (omega arith) ∙ ap f (omega arith)

pub map-tab : {A B : Type 0} (g : A → B) (f : ℕ → A) (k n : ℕ) → map g (tab f k n) ≡ tab (λ i. g (f i)) k n
unfolding tab
map-tab g f k zero = refl
map-tab g f k (suc n) = rw (map-tab g f (k + 1) n)

pub tab-same : {A : Type 0} (f g : ℕ → A) (k n : ℕ) → ((i : ℕ) → f i ≡ g i) → tab f k n ≡ tab g k n
unfolding tab
tab-same f g k zero h = refl
tab-same f g k (suc n) h = rw (h k, tab-same f g (k + 1) n h)

-- one of a list whose members are read off another
pub map-in : {A B : Type 0} (f : A → B) (xs : List A) (i : ℕ) (d : A) (e : B) → i < length xs → get_or (map f xs) i e ≡ f (get_or xs i d)
map-in f [] i d e h = absurd (omega arith)
map-in f (x ∷ xs) zero d e h = refl
map-in f (x ∷ xs) (suc i) d e h = map-in f xs i d e (omega arith)

-- ---- cut to what there is, a part is the same
pub cut_drop : {A : Type 0} (n : ℕ) (l : List A) → drop (min n (length l)) l ≡ drop n l
cut_drop n [] = drop-nil (min n 0) ∙ sym (drop-nil n)
cut_drop zero (x ∷ l) =
    let e : min 0 (suc (length l)) ≡ 0 = omega arith in
    rw e
cut_drop (suc n) (x ∷ l) =
    let e : min (suc n) (suc (length l)) ≡ suc (min n (length l)) = omega arith in
    rw e (cut_drop n l)

pub cut_take : {A : Type 0} (n : ℕ) (l : List A) → take (min n (length l)) l ≡ take n l
cut_take n [] = take-nil (min n 0) ∙ sym (take-nil n)
cut_take zero (x ∷ l) =
    let e : min 0 (suc (length l)) ≡ 0 = omega arith in
    rw e
cut_take (suc n) (x ∷ l) =
    let e : min (suc n) (suc (length l)) ≡ suc (min n (length l)) = omega arith in
    rw (e, cut_take n l)

-- ---- tests joined by 'and'
pub and_left : (a b : Bool) → (a && b) ≡ true → a ≡ true
and_left true b h = refl
and_left false b h = h

pub and_right : (a b : Bool) → (a && b) ≡ true → b ≡ true
and_right true b h = h
and_right false b h = absurd (false≢true h)

pub and_both : (a b : Bool) → a ≡ true → b ≡ true → (a && b) ≡ true
and_both true b p q = q
and_both false b p q = p

pub and_assoc : (a b c : Bool) → (a && (b && c)) ≡ ((a && b) && c)
and_assoc true b c = refl
and_assoc false b c = refl

pub and_true : (a : Bool) → (a && true) ≡ a
and_true true = refl
and_true false = refl

-- ---- a test of each of a list read off by a rule, one step at a time; t is what the tests before came to
module _ {A : Type 0} (p : A → Bool) (f : ℕ → A) (n k : ℕ) (t : Bool) where
  pub all_more : k < n → (t && all p (tab f k (n - k))) ≡ ((t && p (f k)) && all p (tab f (k + 1) (n - (k + 1))))
  unfolding all
  all_more h = rw (tab-more f n k h) (and_assoc t (p (f k)) (all p (tab f (k + 1) (n - (k + 1)))))

  pub all_done : n ≤ k → (t && all p (tab f k (n - k))) ≡ t
  unfolding all
  all_done h = rw (tab-done f n k h) (and_true t)

-- ---- an array that is filled place by place
pub tab-last : {A : Type 0} (f : ℕ → A) (k n : ℕ) → tab f k (n + 1) ≡ tab f k n ++ (f (k + n) ∷ [])
unfolding tab
tab-last f k zero = ap (λ (i : ℕ). f i ∷ []) (omega arith)
tab-last f k (suc n) =
    let e : suc n + 1 ≡ suc (n + 1) = omega arith in
    rw (e, tab-last f (k + 1) n) (ap (λ (i : ℕ). f k ∷ (tab f (k + 1) n ++ (f i ∷ []))) (omega arith))

-- k places of n hold what a rule says, the others 0: one place more
pub fill_more : (f : ℕ → ℕ) (n k : ℕ) → k < n
    → set (tab f 0 k ++ replicate (n - k) 0) k (f k) ≡ tab f 0 (k + 1) ++ replicate (n - (k + 1)) 0
fill_more f n k h =
    rw (more n k h, tab-last f 0 k, zero-add k)
    (set_at (tab f 0 k) 0 (replicate (n - (k + 1)) 0) (f k) k (length-tab f 0 k) ∙ sym (append_assoc (tab f 0 k) (f k ∷ []) (replicate (n - (k + 1)) 0)))

-- a list that is stored from place i on: what is left of it from its place j on
pub sets_drop : (l xs : List ℕ) (i j : ℕ) → j < length xs
    → sets l (i + j) (drop j xs) ≡ sets (set l (i + j) (get_or xs j 0)) (i + (j + 1)) (drop (j + 1) xs)
sets_drop l xs i j h =
    let e : i + (j + 1) ≡ suc (i + j) = omega arith in
    rw (drop-cons xs j 0 h, e, add-one j)

pub sets_dropped : (l xs : List ℕ) (i j : ℕ) → length xs ≤ j → sets l i (drop j xs) ≡ l
sets_dropped l xs i j h = rw (drop_of_length-le xs {i = j} h)

-- two lists one after the other
pub sets_append : (l : List ℕ) (i : ℕ) (xs ys : List ℕ) → sets l i (xs ++ ys) ≡ sets (sets l i xs) (i + length xs) ys
sets_append l i [] ys = ap (λ (k : ℕ). sets l k ys) (omega arith)
sets_append l i (x ∷ xs) ys =
    sets_append (set l i x) (suc i) xs ys ∙ ap (λ (k : ℕ). sets (sets (set l i x) (suc i) xs) k ys) (omega arith)

take-replicate : {A : Type 0} (x : A) (m n : ℕ) → m ≤ n → take m (replicate n x) ≡ replicate m x
take-replicate x zero n h = refl
take-replicate x (suc m) zero h = absurd (omega arith)
take-replicate x (suc m) (suc n) h = rw (take-replicate x m n (omega arith))

drop-replicate : {A : Type 0} (x : A) (m n : ℕ) → drop m (replicate n x) ≡ replicate (n - m) x
drop-replicate x zero n = rw sub-zero
drop-replicate x (suc m) zero = rw zero-sub
drop-replicate x (suc m) (suc n) = rw suc-sub-suc (drop-replicate x m n)

-- stored from the start of an array of zeros, a list stands there with zeros after it
pub sets_zeros : (n : ℕ) (xs : List ℕ) → length xs ≤ n → sets (replicate n 0) 0 xs ≡ take n (xs ++ replicate n 0)
sets_zeros n xs h =
    let e : n ≡ length xs + (n - length xs) = omega arith in
    sets-eq xs (replicate n 0) 0 (rw (length-replicate {A = ℕ} n 0) (omega arith))
    ∙ ap (λ (l : List ℕ). xs ++ l) (rw (zero-add (length xs)) (drop-replicate 0 (length xs) n ∙ sym (take-replicate 0 (n - length xs) n (omega arith))))
    ∙ sym (ap (λ (k : ℕ). take k (xs ++ replicate n 0)) e ∙ take-append-add xs (replicate n 0) (n - length xs))

-- a place below n is set
pub set_padded : (n count : ℕ) (xs : List ℕ) (a v : ℕ) → a < n → PaddedFrom n count xs → PaddedFrom n count (set xs a v)
set_padded n count xs a v l h =
    record { size = length-set xs a v ∙ h.size; zeros = λ i from. get_or-set_other xs a i v 0 (λ e. absurd (omega arith)) ∙ h.zeros i from }
