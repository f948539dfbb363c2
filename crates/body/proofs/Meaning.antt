-- That `fires` takes what the paper's sentence says, one transition after the other.
use Rattle.std.proofs.Common.{◌≡◌, ℕ, ◌≤◌, Bool, true, false, cond, ltb, ◌⊎◌, List, [], ◌∷◌, sym, refl, ap, ◌∙◌, inl, inr, ⊎_elim, arith, ltb-false, ltb-true}
use mathlib.Core.Bool.{false≢true}
use mathlib.Core.List.Memᴰ
use mathlib.Core.List.{Memᴰ}
use mathlib.Core.Option.{Option, none, some}
use Rattle.plan.specs.File.{Transition}
use Rattle.body.specs.Body.{may_fire, sooner, look, in_turn, fires}
use Rattle.body.specs.Meaning.{May, Smallest, Right, TheSmallestOrderFires}

module _ (latched : List ℕ) (machine : ℕ) where
  abbrev Or : Transition → (Transition → Type 0) → Transition → Type 0
  Or x P y = (y ≡ x) ⊎ P y

  same_order_lem : (x y : Transition) → y ≡ x → x.order ≤ y.order
  same_order_lem x y e = let q : y.order ≡ x.order = ap (λ (z : Transition). z.order) e in omega arith

  -- x is looked at and may not fire
  passed : (P : Transition → Type 0) (x : Transition) (best : Option Transition) → may_fire latched machine x ≡ false → Right latched machine P best → Right latched machine (Or x P) best
  passed P x none e r = λ y p m. ⊎_elim (λ q. false≢true (sym e ∙ ap (may_fire latched machine) (sym q) ∙ m)) (λ p'. r y p' m) p
  passed P x (some z) e r = record {
    among = inr r.among;
    may = r.may;
    least = λ y p m. ⊎_elim (λ q. absurd (false≢true (sym e ∙ ap (may_fire latched machine) (sym q) ∙ m))) (λ p'. r.least y p' m) p;
  }

  -- x may fire: it is taken, or the one before it stays
  against : (P : Transition → Type 0) (x z : Transition) (b : Bool) → ltb x.order z.order ≡ b → May latched machine x → Smallest latched machine P z → Right latched machine (Or x P) (cond b (some x) (some z))
  against P x z true e m r = record {
    among = inl refl;
    may = m;
    least = λ y p n. ⊎_elim (λ q. same_order_lem x y q) (λ p'. omega (arith, ltb-true x.order z.order e, r.least y p' n)) p;
  }
  against P x z false e m r = record {
    among = inr r.among;
    may = r.may;
    least = λ y p n. ⊎_elim (λ q. omega (arith, ltb-false x.order z.order e, same_order_lem x y q)) (λ p'. r.least y p' n) p;
  }

  chosen : (P : Transition → Type 0) (x : Transition) (best : Option Transition) → May latched machine x → Right latched machine P best → Right latched machine (Or x P) (sooner x best)
  unfolding sooner
  chosen P x none m r = record {
    among = inl refl;
    may = m;
    least = λ y p n. ⊎_elim (λ q. same_order_lem x y q) (λ p'. absurd (r y p' n)) p;
  }
  chosen P x (some z) m r = against P x z (ltb x.order z.order) refl m r

  looked : (P : Transition → Type 0) (x : Transition) (best : Option Transition) (b : Bool) → may_fire latched machine x ≡ b → Right latched machine P best → Right latched machine (Or x P) (cond b (sooner x best) best)
  looked P x best true e r = chosen P x best e r
  looked P x best false e r = passed P x best e r

  -- P may be said in another way
  restated : (P Q : Transition → Type 0) → ((y : Transition) → P y → Q y) → ((y : Transition) → Q y → P y) → (best : Option Transition) → Right latched machine P best → Right latched machine Q best
  restated P Q to back none r = λ y q m. r y (back y q) m
  restated P Q to back (some z) r = record { among = to z r.among; may = r.may; least = λ y q m. r.least y (back y q) m }

  walked : (P : Transition → Type 0) (xs : List Transition) (best : Option Transition) → Right latched machine P best
      → Right latched machine (λ y. Memᴰ y xs ⊎ P y) (in_turn (look latched machine) xs best)
  unfolding in_turn
  walked P [] best r = restated P (λ y. Memᴰ y [] ⊎ P y) (λ y p. inr p) (λ y q. ⊎_elim (λ n. absurd (Memᴰ.not-nil n)) (λ p. p) q) best r
  walked P (x ∷ xs) best r =
      restated (λ y. Memᴰ y xs ⊎ Or x P y) (λ y. Memᴰ y (x ∷ xs) ⊎ P y)
      (λ y q. ⊎_elim (λ n. inl (Memᴰ.tail n)) (λ o. ⊎_elim (λ e. inl (Memᴰ.head e)) (λ p. inr p) o) q)
      (λ y q. ⊎_elim (λ n. ⊎_elim (λ e. inr (inl e)) (λ t. inl t) (Memᴰ.cases_cons n)) (λ p. inr (inr p)) q)
      (in_turn (look latched machine) xs (look latched machine x best))
      (walked (Or x P) xs (look latched machine x best) (looked P x best (may_fire latched machine x) refl r))

  -- of a whole list, with none in hand
  taken : (xs : List Transition) → Right latched machine (λ y. Memᴰ y xs) (fires latched machine xs)
  taken xs =
      restated (λ y. Memᴰ y xs ⊎ ⊥) (λ y. Memᴰ y xs) (λ y q. ⊎_elim (λ n. n) (λ z. absurd z) q) (λ y n. inl n) (fires latched machine xs)
      (walked (λ y. ⊥) xs none (λ y p m. p))

-- so `fires` is the paper's sentence
pub fires-smallest : TheSmallestOrderFires
fires-smallest latched machine xs = taken latched machine xs
