-- The most urgent task that passes a test is the first that does, in order of priority.
use Prim.Native.Nat.{ℕ, ◌≤◌}
use mathlib.Core.Path.{◌≡◌, refl, ap, sym, subst, ◌∙◌}
use mathlib.Core.Logic.{◌≢◌}
use mathlib.Core.Bool.{Bool, true, false, cond, false≢true}
use mathlib.Core.List.{List, [], ◌∷◌}
use mathlib.Core.Option.{Option, none, some}
use native.Mathlib.Omega.{arith}
use lib.Dec.{ltb}
use borrow.Author.Tests.{ltb-true, ltb-false}
use Rattle.lists.specs.Lists.{Every, Pairwise}
use Rattle.plan.specs.File.{Plan, task_at}
use Rattle.plan.proofs.Order.{Perm, perm_every, perm_sym}
use Rattle.tick.specs.Tick.{better, most_urgent}

-- i stands in a list: not all differ from it
abbrev pub Stands : ℕ → List ℕ → Type 0
Stands i is = Every (λ m. m ≢ i) is → ⊥

every_weaker : (P Q : ℕ → Type 0) → ((i : ℕ) → P i → Q i) → (is : List ℕ) → Every P is → Every Q is
every_weaker P Q f [] h = tt
every_weaker P Q f (i ∷ is) h = (f i h.0, every_weaker P Q f is h.1)

-- what holds of each cannot fail of one that stands there
pub holds_of : (P : ℕ → Type 0) (i : ℕ) (is : List ℕ) → Every P is → Stands i is → (P i → ⊥) → ⊥
holds_of P i is h stands no' = stands (every_weaker P (λ m. m ≢ i) (λ m p e. no' (subst P e p)) is h)

-- the first of a list that passes a test
unfoldable pub first_of : (ℕ → Bool) → List ℕ → Option ℕ
first_of test [] = none
first_of test (i ∷ is) = cond (test i) (some i) (first_of test is)

module _ (plan : Plan) (test : ℕ → Bool) where
  abbrev priority : ℕ → ℕ
  priority i = (task_at plan i).priority

  -- what the most urgent of a list that pass the test is
  record Best (is : List ℕ) (i : ℕ) : Type 0 where
    passes : test i ≡ true
    stands : Stands i is
    least : Every (λ m. test m ≡ true → priority i ≤ priority m) is

  abbrev Chosen : List ℕ → Option ℕ → Type 0
  Chosen is none = Every (λ m. test m ≡ false) is
  Chosen is (some i) = Best is i

  -- ---- by looking at each in turn, those before in hand
  abbrev toward : List ℕ → List ℕ → List ℕ
  toward [] seen = seen
  toward (i ∷ is) seen = toward is (i ∷ seen)

  toward_both : (P : ℕ → Type 0) (is seen : List ℕ) → Every P is → Every P seen → Every P (toward is seen)
  toward_both P [] seen h g = g
  toward_both P (i ∷ is) seen h g = toward_both P is (i ∷ seen) h.1 (h.0, g)

  both_toward : (P : ℕ → Type 0) (is seen : List ℕ) → Every P (toward is seen) → Every P is × Every P seen
  both_toward P [] seen h = (tt, h)
  both_toward P (i ∷ is) seen h = let r = both_toward P is (i ∷ seen) h in ((r.1.0, r.0), r.1.1)

  one_more : (i : ℕ) (seen : List ℕ) (best : Option ℕ) → Chosen seen best → (b : Bool) → test i ≡ b
      → Chosen (i ∷ seen) (cond b (some (better plan i best)) best)
  unfolding better
  one_more i seen none h true e =
      record { passes = e; stands = λ g. g.0 refl; least = ((λ p. omega arith), every_weaker _ _ (λ m d p. absurd (false≢true (sym d ∙ p))) seen h) }
  one_more i seen none h false e = (e, h)
  one_more i seen (some j) h true e = go (ltb (priority i) (priority j)) refl
    where
      go : (c : Bool) → ltb (priority i) (priority j) ≡ c → Best (i ∷ seen) (cond c i j)
      go true l =
          let less = ltb-true (priority i) (priority j) l in
          record { passes = e; stands = λ g. g.0 refl; least = ((λ p. omega arith), every_weaker _ _ (λ m d p. let q = d p in omega arith) seen h.least) }
      go false l =
          let most = ltb-false (priority i) (priority j) l in
          record { passes = h.passes; stands = λ g. h.stands g.1; least = ((λ p. most), h.least) }
  one_more i seen (some j) h false e =
      record { passes = h.passes; stands = λ g. h.stands g.1; least = ((λ p. absurd (false≢true (sym e ∙ p))), h.least) }

  urgent_chosen : (is seen : List ℕ) (best : Option ℕ) → Chosen seen best → Chosen (toward is seen) (most_urgent plan test is best)
  unfolding most_urgent
  urgent_chosen [] seen best h = h
  urgent_chosen (i ∷ is) seen best h =
      urgent_chosen is (i ∷ seen) (cond (test i) (some (better plan i best)) best) (one_more i seen best h (test i) refl)

  settle : (is : List ℕ) (r : Option ℕ) → Chosen (toward is []) r → Chosen is r
  settle is none h = (both_toward _ is [] h).0
  settle is (some i) h =
      record { passes = h.passes; stands = λ g. h.stands (toward_both _ is [] g tt); least = (both_toward _ is [] h.least).0 }

  -- ---- the first of a list in which no task stands before one that is more urgent
  first_chosen : (is : List ℕ) → Pairwise (λ i j. priority i ≤ priority j) is → Chosen is (first_of test is)
  unfolding first_of
  first_chosen [] sorted = tt
  first_chosen (i ∷ is) sorted = go (test i) refl (first_of test is) (first_chosen is sorted.1)
    where
      go : (b : Bool) → test i ≡ b → (r : Option ℕ) → Chosen is r → Chosen (i ∷ is) (cond b (some i) r)
      go true e r h =
          record { passes = e; stands = λ g. g.0 refl; least = ((λ p. omega arith), every_weaker _ _ (λ m d p. d) is sorted.0) }
      go false e none h = (e, h)
      go false e (some j) h =
          record { passes = h.passes; stands = λ g. h.stands g.1; least = ((λ p. absurd (false≢true (sym e ∙ p))), h.least) }

  -- ---- of tasks that all have different priorities there is one choice
  module _ (is js : List ℕ) (same : Perm is js) (once : (i j : ℕ) → Stands i is → Stands j is → priority i ≡ priority j → i ≡ j) where
    below : (i j : ℕ) → Best is i → Best js j → priority i ≤ priority j
    below i j h g = go (ltb (priority j) (priority i)) refl
      where
        go : (b : Bool) → ltb (priority j) (priority i) ≡ b → priority i ≤ priority j
        go true e =
            let less = ltb-true (priority j) (priority i) e in
            absurd (holds_of _ j js (perm_every _ same h.least) g.stands (λ p. let q = p g.passes in omega arith))
        go false e = ltb-false (priority j) (priority i) e

    above : (i j : ℕ) → Best is i → Best js j → priority j ≤ priority i
    above i j h g = go (ltb (priority i) (priority j)) refl
      where
        go : (b : Bool) → ltb (priority i) (priority j) ≡ b → priority j ≤ priority i
        go true e =
            let less = ltb-true (priority i) (priority j) e in
            absurd (holds_of _ i is (perm_every _ (perm_sym same) g.least) h.stands (λ p. let q = p h.passes in omega arith))
        go false e = ltb-false (priority i) (priority j) e

    one_choice : (r s : Option ℕ) → Chosen is r → Chosen js s → r ≡ s
    one_choice none none h g = refl
    one_choice none (some j) h g =
        absurd (holds_of (λ m. test m ≡ false) j js (perm_every _ same h) g.stands (λ e. false≢true (sym e ∙ g.passes)))
    one_choice (some i) none h g =
        absurd (holds_of (λ m. test m ≡ false) i is (perm_every _ (perm_sym same) g) h.stands (λ e. false≢true (sym e ∙ h.passes)))
    one_choice (some i) (some j) h g =
        let low = below i j h g in
        let high = above i j h g in
        ap some (once i j h.stands (λ e. g.stands (perm_every _ same e)) (omega arith))

    -- the most urgent is the first in order of priority
    pub urgent_first : Pairwise (λ i j. priority i ≤ priority j) is → most_urgent plan test js none ≡ first_of test is
    urgent_first sorted =
        sym (one_choice (first_of test is) (most_urgent plan test js none) (first_chosen is sorted)
        (settle js (most_urgent plan test js none) (urgent_chosen js [] none tt)))
