-- What `from_fn` makes of a rule is the list read off by that rule.
use Rattle.std.proofs.Common.{◌≡◌, ℕ, zero, suc, ◌+◌, ◌<◌, ◌≤◌, ◌⊎◌, inl, inr, List, get_or, refl, sym, ap, subst, ◌∙◌, arith, zero-add}
use native.Mathlib.Nat.{eq-or-lt_of_le}
use lib.Seq.{ext_get_or}
use denote.Param.Members.{Mut}
use Rattle.std.specs.Fn.{Called}
use Rattle.std.specs.Array.{IsFromFnResultFrom, IsFromFnResult}
use Rattle.lists.specs.Lists.{tab}
use Rattle.lists.proofs.Laws.{length-tab, get_or-tab}

-- a closure that changes nothing, and answers i by f i
module _ {F A : Type 0} (g : Mut F (ℕ × Unit {0}) A) (start : F) (f : ℕ → A) (n : ℕ) (xs : List A) where
  abbrev pub Answers : Type 0
  Answers = (i : ℕ) (x : A) (next : F) → i < n → Called g start (i, tt) x next → (next ≡ start) × (x ≡ f i)

  made_from : Answers → (i left : ℕ) → i + left ≤ n → (now : F) → now ≡ start → IsFromFnResultFrom g now xs i left → (j : ℕ) (d : A) → i ≤ j → j < i + left → get_or xs j d ≡ f j
  made_from answers i zero most now same each j d low high = absurd (omega arith)
  made_from answers i (suc left) most now same (next, x, is, called, rest) j d low high =
      let told = answers i x next (omega arith) (subst (λ s. Called g s (i, tt) x next) same called) in
      go told.1 (λ later. made_from answers (i + 1) left (omega arith) next told.0 rest j d later (omega arith)) (eq-or-lt_of_le low)
    where
      go : x ≡ f i → (i + 1 ≤ j → get_or xs j d ≡ f j) → (i ≡ j) ⊎ (i < j) → get_or xs j d ≡ f j
      go here later (inl e) = subst (λ k. get_or xs k d ≡ f k) e (is.1 d ∙ here)
      go here later (inr more) = later (omega arith)

  pub made : (d : A) → Answers → IsFromFnResult g start xs n → xs ≡ tab f 0 n
  made d answers h =
      let long = h.long in
      ext_get_or d xs (tab f 0 n) (long ∙ sym (length-tab f 0 n))
      (λ j less. made_from answers 0 n (omega arith) start refl h.each j d (omega arith) (omega arith) ∙ ap f (sym (zero-add j)) ∙ sym (get_or-tab f d 0 n j (omega arith)))
