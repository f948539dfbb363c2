-- Tests and what they say, both ways: for `simp`, which takes a rule apart or puts it together by these.
use Prim.Native.Nat.{ℕ, zero, suc, ◌+◌, ◌<◌, ◌≤◌}
use mathlib.Core.Path.{◌≡◌, refl, sym, ◌∙◌, subst}
use mathlib.Core.Bool.{Bool, true, false, cond, not, ◌&&◌, ◌||◌, false≢true}
use mathlib.Core.Logic.Iff
use mathlib.Core.Logic.{◌↔◌, ◌≢◌, ◌⊎◌, inl, inr}
use mathlib.Core.List.{List, [], ◌∷◌, ◌++◌, map}
use native.Mathlib.Omega.{arith}
use native.Mathlib.Nat.{eq-or-lt_of_le}
use lib.ListN.{length, get_or, replicate}
use lib.Dec.{eqb, ltb, leb}
use borrow.Author.Tests.{ltb-true, ltb-false, leb-true, lt-ltb, le-leb, eqb-true, eqb-false, eq-eqb, ne_eqb, not-true}
use Rattle.lists.specs.Lists.{tab, all, absent, Every, Pairwise, In}

pub and_iff : (a b : Bool) → ((a && b) ≡ true) ↔ ((a ≡ true) × (b ≡ true))
and_iff true b = ((λ e. (refl, e)), (λ p. p.1))
and_iff false b = ((λ e. absurd (false≢true e)), (λ p. p.0))

pub or_iff : (a b : Bool) → ((a || b) ≡ true) ↔ ((a ≡ true) ⊎ (b ≡ true))
or_iff true b = ((λ e. inl refl), (λ p. refl))
or_iff false b = ((λ e. inr e), go)
  where
    go : (false ≡ true) ⊎ (b ≡ true) → b ≡ true
    go (inl e) = absurd (false≢true e)
    go (inr e) = e

pub leb-iff : (a b : ℕ) → (leb a b ≡ true) ↔ (a ≤ b)
leb-iff a b = (leb-true a b, le-leb a b)

pub ltb_iff : (a b : ℕ) → (ltb a b ≡ true) ↔ (a < b)
ltb_iff a b = (ltb-true a b, lt-ltb a b)

pub eqb-iff : (a b : ℕ) → (eqb a b ≡ true) ↔ (a ≡ b)
eqb-iff a b = (eqb-true a b, eq-eqb a b)

pub not_iff : (a b : ℕ) → (not (eqb a b) ≡ true) ↔ (a ≡ b → ⊥)
not_iff a b = ((λ e. eqb-false a b (not-true (eqb a b) e)), (λ d. rw (ne_eqb a b d)))

pub ruleset tests = (and_iff, leb-iff, ltb_iff, eqb-iff, not_iff)

-- ---- a test of each of a list
pub all-every : {A : Type 0} (p : A → Bool) (xs : List A) → (all p xs ≡ true) ↔ Every (λ x. p x ≡ true) xs
unfolding all
all-every p [] = ((λ e. tt), (λ h. refl))
all-every p (x ∷ xs) =
    let r = all-every p xs in (
      (λ e. (((and_iff (p x) (all p xs)).0 e).0, r.0 ((and_iff (p x) (all p xs)).0 e).1)),
      (λ h. (and_iff (p x) (all p xs)).1 (h.0, r.1 h.1)),
    )

pub every_iff : {A : Type 0} (P Q : A → Type 0) (xs : List A) → ((x : A) → P x ↔ Q x) → Every P xs ↔ Every Q xs
every_iff P Q [] f = ((λ h. h), (λ h. h))
every_iff P Q (x ∷ xs) f =
    let r = every_iff P Q xs f in
    ((λ h. ((f x).0 h.0, r.0 h.1)), (λ h. ((f x).1 h.0, r.1 h.1)))

pub all-iff : {A : Type 0} (p : A → Bool) (P : A → Type 0) → ((x : A) → (p x ≡ true) ↔ P x) → (xs : List A) → (all p xs ≡ true) ↔ Every P xs
all-iff p P f xs = Iff.trans (all-every p xs) (every_iff (λ x. p x ≡ true) P xs f)

pub absent-every : (x : ℕ) (xs : List ℕ) → (absent x xs ≡ true) ↔ Every (λ y. x ≢ y) xs
unfolding absent
absent-every x [] = ((λ e. tt), (λ h. refl))
absent-every x (y ∷ ys) =
    let r = absent-every x ys in (
      (λ e. let h = (and_iff (not (eqb x y)) (absent x ys)).0 e in ((not_iff x y).0 h.0, r.0 h.1)),
      (λ h. (and_iff (not (eqb x y)) (absent x ys)).1 ((not_iff x y).1 h.0, r.1 h.1)),
    )

-- ---- a test that asks for one thing where two numbers are the same, and for another where they are not
pub same_or_not : (a b : ℕ) → (a ≡ b) ⊎ (a ≢ b)
same_or_not a b = go (eqb a b) refl
  where
    go : (t : Bool) → eqb a b ≡ t → (a ≡ b) ⊎ (a ≢ b)
    go true e = inl (eqb-true a b e)
    go false e = inr (eqb-false a b e)

-- either way a number is the same or not, so it is enough to look at both
by_sameness : (a b : ℕ) (G : Bool → Type 0) → (a ≡ b → G true) → (a ≢ b → G false) → G (eqb a b)
by_sameness a b G f g = go (same_or_not a b)
  where
    go : (a ≡ b) ⊎ (a ≢ b) → G (eqb a b)
    go (inl e) = rw (eq-eqb a b e) (f e)
    go (inr d) = rw (ne_eqb a b d) (g d)

pub and-true : (p : Bool) → (p && true) ≡ p
and-true true = refl
and-true false = refl

pub and-false : (p : Bool) → (p && false) ≡ false
and-false true = refl
and-false false = refl

pub or-false : (p : Bool) → (p || false) ≡ p
or-false true = refl
or-false false = refl

pub choice_iff : (a b : ℕ) (p q : Bool) → (((eqb a b && p) || (not (eqb a b) && q)) ≡ true) ↔ ((a ≡ b → p ≡ true) × (a ≢ b → q ≡ true))
choice_iff a b p q =
    by_sameness a b (λ t. (((t && p) || (not t && q)) ≡ true) ↔ ((a ≡ b → p ≡ true) × (a ≢ b → q ≡ true)))
    (λ e. ((λ h. ((λ s. sym (or-false p) ∙ h), (λ d. absurd (d e)))), (λ h. or-false p ∙ h.0 e)))
    (λ d. ((λ h. ((λ e. absurd (d e)), (λ s. h))), (λ h. h.1 d)))

pub unless_iff : (a b : ℕ) (p : Bool) → ((eqb a b || p) ≡ true) ↔ (a ≢ b → p ≡ true)
unless_iff a b p =
    by_sameness a b (λ t. ((t || p) ≡ true) ↔ (a ≢ b → p ≡ true)) (λ e. ((λ h d. absurd (d e)), (λ h. refl)))
    (λ d. ((λ h s. h), (λ h. h d)))

pub least_iff : (a b n m : ℕ) → (leb (cond (eqb a b) n 0) m ≡ true) ↔ (a ≡ b → n ≤ m)
least_iff a b n m =
    by_sameness a b (λ t. (leb (cond t n 0) m ≡ true) ↔ (a ≡ b → n ≤ m)) (λ e. ((λ h s. leb-true n m h), (λ h. le-leb n m (h e))))
    (λ d. ((λ h e. absurd (d e)), (λ h. le-leb 0 m (omega arith))))

pub nand_iff : (a b : ℕ) (q : Bool) → (not (eqb a b && q) ≡ true) ↔ (a ≡ b → not q ≡ true)
nand_iff a b q =
    by_sameness a b (λ t. (not (t && q) ≡ true) ↔ (a ≡ b → not q ≡ true)) (λ e. ((λ h s. h), (λ h. h e)))
    (λ d. ((λ h e. absurd (d e)), (λ h. refl)))

pub ruleset choices = (choice_iff, unless_iff, least_iff, nand_iff)

-- ---- what holds of each, or of any two, holds of those at a place
pub every_at : {A : Type 0} (P : A → Type 0) (d : A) (xs : List A) → Every P xs → (i : ℕ) → i < length xs → P (get_or xs i d)
every_at P d [] h i less = absurd (omega arith)
every_at P d (x ∷ xs) h zero less = h.0
every_at P d (x ∷ xs) h (suc i) less = every_at P d xs h.1 i (omega arith)

pub pairwise_at : {A : Type 0} (R : A → A → Type 0) (d : A) (xs : List A) → Pairwise R xs
    → (i j : ℕ) → i < j → j < length xs → R (get_or xs i d) (get_or xs j d)
pairwise_at R d [] h i j before less = absurd (omega arith)
pairwise_at R d (x ∷ xs) h i zero before less = absurd (omega arith)
pairwise_at R d (x ∷ xs) h zero (suc j) before less = every_at (R x) d xs h.0 j (omega arith)
pairwise_at R d (x ∷ xs) h (suc i) (suc j) before less = pairwise_at R d xs h.1 i j (omega arith) (omega arith)

-- two places at which R fails both ways are one
pub pairwise_once : {A : Type 0} (R : A → A → Type 0) (d : A) (xs : List A) → Pairwise R xs → (i j : ℕ) → i < length xs → j < length xs
    → (R (get_or xs i d) (get_or xs j d) → ⊥) → (R (get_or xs j d) (get_or xs i d) → ⊥) → i ≡ j
pairwise_once R d xs h i j li lj f g = go (ltb i j) refl
  where
    after : (j ≡ i) ⊎ (j < i) → i ≡ j
    after (inl e) = sym e
    after (inr less) = absurd (g (pairwise_at R d xs h j i less li))

    go : (t : Bool) → ltb i j ≡ t → i ≡ j
    go true e = absurd (f (pairwise_at R d xs h i j (ltb-true i j e) lj))
    go false e = after (eq-or-lt_of_le (ltb-false i j e))

-- ---- of a list whose members are read off another
pub every_map : {A B : Type 0} (P : B → Type 0) (f : A → B) (xs : List A) → Every P (map f xs) ↔ Every (λ x. P (f x)) xs
every_map P f [] = ((λ h. h), (λ h. h))
every_map P f (x ∷ xs) = let r = every_map P f xs in ((λ h. (h.0, r.0 h.1)), (λ h. (h.0, r.1 h.1)))

pub pairwise_map : {A B : Type 0} (R : B → B → Type 0) (f : A → B) (xs : List A) → Pairwise R (map f xs) ↔ Pairwise (λ x y. R (f x) (f y)) xs
pairwise_map R f [] = ((λ h. h), (λ h. h))
pairwise_map R f (x ∷ xs) =
    let e = every_map (R (f x)) f xs in
    let r = pairwise_map R f xs in
    ((λ h. (e.0 h.0, r.0 h.1)), (λ h. (e.1 h.0, r.1 h.1)))

pub every_both : {A : Type 0} (P Q : A → Type 0) (xs : List A) → Every (λ x. P x × Q x) xs ↔ (Every P xs × Every Q xs)
every_both P Q [] = ((λ h. (tt, tt)), (λ h. tt))
every_both P Q (x ∷ xs) =
    let r = every_both P Q xs in
    ((λ h. ((h.0.0, (r.0 h.1).0), (h.0.1, (r.0 h.1).1))), (λ h. ((h.0.0, h.1.0), r.1 (h.0.1, h.1.1))))

pub every_all : {A : Type 0} (P : A → Type 0) (xs : List A) → ((x : A) → P x) → Every P xs
every_all P [] f = tt
every_all P (x ∷ xs) f = (f x, every_all P xs f)

pub every_swap : {A B : Type 0} (Q : A → B → Type 0) (xs : List A) (ys : List B)
    → Every (λ x. Every (Q x) ys) xs → Every (λ y. Every (λ x. Q x y) xs) ys
every_swap Q [] ys h = every_all _ ys (λ y. tt)
every_swap Q (x ∷ xs) ys h = (every_both (Q x) (λ y. Every (λ z. Q z y) xs) ys).1 (h.0, every_swap Q xs ys h.1)

-- ---- of two lists, one after the other
pub every_append : {A : Type 0} (P : A → Type 0) (xs ys : List A) → Every P (xs ++ ys) → Every P xs × Every P ys
every_append P [] ys h = (tt, h)
every_append P (x ∷ xs) ys h = let r = every_append P xs ys h.1 in ((h.0, r.0), r.1)

pub pairwise_append : {A : Type 0} (R : A → A → Type 0) (xs ys : List A) → Pairwise R (xs ++ ys)
    → Pairwise R xs × Pairwise R ys × Every (λ x. Every (R x) ys) xs
pairwise_append R [] ys h = (tt, h, tt)
pairwise_append R (x ∷ xs) ys h =
    let e = every_append (R x) xs ys h.0 in
    let r = pairwise_append R xs ys h.1 in
    ((e.0, r.0), r.1, (e.1, r.2))

-- what holds of each of two lists holds of each of both, one after the other
pub every_join : {A : Type 0} (P : A → Type 0) (xs ys : List A) → Every P xs → Every P ys → Every P (xs ++ ys)
every_join P [] ys h g = g
every_join P (x ∷ xs) ys h g = (h.0, every_join P xs ys h.1 g)

-- ---- what follows of each follows of all
pub every_weaker : {A : Type 0} (P Q : A → Type 0) → ((x : A) → P x → Q x) → (xs : List A) → Every P xs → Every Q xs
every_weaker P Q f [] h = tt
every_weaker P Q f (x ∷ xs) h = (f x h.0, every_weaker P Q f xs h.1)

-- what holds at each place holds of each
pub every_from : {A : Type 0} (P : A → Type 0) (d : A) (xs : List A) → ((i : ℕ) → i < length xs → P (get_or xs i d)) → Every P xs
every_from P d [] f = tt
every_from P d (x ∷ xs) f = (f 0 (omega arith), every_from P d xs (λ i l. f (suc i) (omega arith)))

-- values that differ at any two places
pub pairwise_from : (xs : List ℕ) → ((i j : ℕ) → i < length xs → j < length xs → get_or xs i 0 ≡ get_or xs j 0 → i ≡ j) → Pairwise ◌≢◌ xs
pairwise_from [] f = tt
pairwise_from (x ∷ xs) f = (
  every_from (λ y. x ≢ y) 0 xs (λ j l e. absurd (let z = f 0 (suc j) (omega arith) (omega arith) e in omega arith)),
  pairwise_from xs (λ i j a b e. let z = f (suc i) (suc j) (omega arith) (omega arith) e in omega arith),
)

-- what holds of each of a list holds of one that stands in it
pub in_every : (P : ℕ → Type 0) (a : ℕ) (xs : List ℕ) → Every P xs → In a xs → P a
in_every P a [] h i = absurd i
in_every P a (x ∷ xs) h (inl e) = subst P (sym e) h.0
in_every P a (x ∷ xs) h (inr i) = in_every P a xs h.1 i

-- of one thing, so many times
pub every_replicate : {A : Type 0} (P : A → Type 0) (n : ℕ) (x : A) → P x → Every P (replicate n x)
every_replicate P zero x h = tt
every_replicate P (suc n) x h = (h, every_replicate P n x h)

-- ---- of a list that is read off by a rule
pub every_tab : {A : Type 0} (P : A → Type 0) (f : ℕ → A) (k n : ℕ) → ((j : ℕ) → k ≤ j → j < k + n → P (f j)) → Every P (tab f k n)
unfolding tab
every_tab P f k zero h = tt
every_tab P f k (suc n) h = (h k (omega arith) (omega arith), every_tab P f (k + 1) n (λ j low high. h j (omega arith) (omega arith)))

-- and the other way round
pub tab-every : {A : Type 0} (P : A → Type 0) (f : ℕ → A) (k n : ℕ) → Every P (tab f k n) → (j : ℕ) → k ≤ j → j < k + n → P (f j)
unfolding tab
tab-every P f k zero h j low high = absurd (omega arith)
tab-every P f k (suc n) h j low high = go (same_or_not j k) (λ l. tab-every P f (k + 1) n h.1 j l (omega arith))
  where
    go : (j ≡ k) ⊎ (j ≢ k) → (k + 1 ≤ j → P (f j)) → P (f j)
    go (inl e) later = subst (λ i. P (f i)) (sym e) h.0
    go (inr d) later = later (omega (arith, d))
