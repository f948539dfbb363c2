-- Rows as bits of a word, and the instants of all rows from tick to tick.
use Prim.Native.Nat.{ℕ, zero, suc, ◌+◌, ◌*◌, ◌%◌, ◌^◌, ◌<◌, ◌≤◌}
use mathlib.Core.Path.{◌≡◌, refl, sym, ap, ◌∙◌, subst}
use mathlib.Core.Logic.{⊎_elim}
use mathlib.Core.Bool.{Bool, true, false, cond, ◌||◌, true≢false}
use mathlib.Core.List.{List, [], ◌∷◌}
use native.Mathlib.Nat.{eq-or-lt_of_le, zero-mul}
use native.Mathlib.Omega.{arith}
use lib.ListN.{get_or, set}
use lib.Seq.{get_or-set_other}
use lib.Bits.{bit_or}
use mir.Val.{bool_byte as from_bool}
use lib.Dec.{ltb, eqb}
use borrow.Author.Tests.{ltb-true, ltb-false, eqb-true, eqb-false, eq-eqb}
use Rattle.marks.specs.Marks.{has}
use Rattle.marks.proofs.Laws.{has-or, has_one, one_shl}
use Rattle.turns.specs.Turns.{least}
use Rattle.turns.proofs.Laws.{least-below}
use Rattle.steps.specs.Flat.{task_of_row}
use Rattle.quiet.specs.Quiet.{RowQuiet, Wakes, OthersWake, AllIn, lowered}
use Rattle.quiet.proofs.Ticks.{low_other, quiet_same}

-- ---- bits
neither : (a b : Bool) → (a || b) ≡ false → (a ≡ false) × (b ≡ false)
neither true b e = absurd (true≢false e)
neither false b e = (refl, e)

-- a bit stands in neither of two words
pub has-neither : (v w j : ℕ) → has (bit_or v w) j ≡ false → (has v j ≡ false) × (has w j ≡ false)
has-neither v w j e = neither (has v j) (has w j) (sym (has-or v w j) ∙ e)

-- a test's bit, as the code shifts it
bit_of : (c : Bool) (n : ℕ) → n < 32 → (from_bool c * 2 ^ n) % 2 ^ 32 ≡ cond c (2 ^ n) 0
bit_of true n h = one_shl 32 h
bit_of false n h = rw zero-mul

-- one number more
pub all_more : (test : ℕ → Bool) (n w x : ℕ) → n < 32 → AllIn test n w → x ≡ from_bool (test n) → AllIn test (n + 1) (bit_or w ((x * 2 ^ n) % 2 ^ 32))
all_more test n w x small all e = rw (e, bit_of (test n) n small) (λ j h b.
    let none = has-neither w (cond (test n) (2 ^ n) 0) j b in
    ⊎_elim (λ q. ap test q ∙ last (test n) (subst (λ (k : ℕ). has (cond (test n) (2 ^ n) 0) k ≡ false) q none.1)) (λ m. all j m none.0) (eq-or-lt_of_le {n = j} {m = n} (omega (arith, h))))
  where
    last : (c : Bool) → has (cond c (2 ^ n) 0) n ≡ false → c ≡ false
    last true g = absurd (true≢false (sym (eq-eqb n n refl) ∙ sym (has_one n n) ∙ g))
    last false g = refl

-- ---- instants
-- what is read where a value was stored is no more than it
set_most : (l : List ℕ) (i x : ℕ) → get_or (set l i x) i 0 ≤ x
set_most [] i x = omega arith
set_most (y ∷ l) zero x = omega arith
set_most (y ∷ l) (suc i) x = set_most l i x

-- what the loop over the rows that had their turn keeps: all rows before row j look ahead, and those without a turn
abbrev pub Fresh : ℕ → List ℕ → List ℕ → ℕ → ℕ → List ℕ → ℕ → Type 0
Fresh calls rows tasks n t wakes j = (k : ℕ) → k < n → (j ≤ k → has calls k ≡ false) → (t' : ℕ) → t ≤ t' → t' < get_or wakes k 0 → RowQuiet rows tasks k t'

module _ (calls : ℕ) (rows tasks : List ℕ) (n t : ℕ) (wakes : List ℕ) where
  pub fresh-none : OthersWake calls rows tasks n t wakes → Fresh calls rows tasks n t wakes 0
  fresh-none others = λ k h b. others k h (b (omega arith))

  -- row j is the next from `from` on, and its instant is found anew
  pub fresh-more : (from : ℕ) → Fresh calls rows tasks n t wakes from → (j x : ℕ) → ((t' : ℕ) → t ≤ t' → t' < x → RowQuiet rows tasks j t') → j ≡ least (has calls) 32 from
      → Fresh calls rows tasks n t (set wakes j x) (j + 1)
  fresh-more from old j x one e = λ k h b t' l m. go k h b t' l m (eqb k j) refl (ltb k j) refl
    where
      go : (k : ℕ) → k < n → (j + 1 ≤ k → has calls k ≡ false) → (t' : ℕ) → t ≤ t' → t' < get_or (set wakes j x) k 0
          → (c : Bool) → eqb k j ≡ c → (d : Bool) → ltb k j ≡ d → RowQuiet rows tasks k t'
      go k h b t' l m true f d g =
          let same = eqb-true k j f in
          let most = set_most wakes j x in
          let here = rw same at m in
          subst (λ (i : ℕ). RowQuiet rows tasks i t') (sym same) (one t' l (omega (arith, here, most)))
      go k h b t' l m false f true g = old k h (λ o. least-below (has calls) 32 from k o (rw (← e) (ltb-true k j g))) t' l (rw (get_or-set_other wakes j k x 0 (eqb-false k j f)) at m)
      go k h b t' l m false f false g =
          let apart = eqb-false k j f in
          let past = ltb-false k j g in
          old k h (λ o. b (omega (arith, apart, past))) t' l (rw (get_or-set_other wakes j k x 0 apart) at m)

  pub fresh-done : (from : ℕ) → n ≤ least (has calls) 32 from → Fresh calls rows tasks n t wakes from → Wakes rows tasks n t wakes
  fresh-done from h fresh = λ k b. fresh k b (λ o. least-below (has calls) 32 from k o (omega (arith, h, b)))

-- ---- ticks that are passed over leave the instants
pub wakes_lowered : (rows : List ℕ) (count n t : ℕ) (tasks wakes : List ℕ) → Wakes rows tasks count t wakes → Wakes rows (lowered rows count n tasks) count (t + n) wakes
wakes_lowered rows count n t tasks wakes w =
    λ j h t' l b. quiet_same rows tasks (lowered rows count n tasks) (λ k. low_other rows count n tasks k 0 (omega arith) (λ e. omega arith)) j t'
    (low_other rows count n tasks (task_of_row rows j) 2 (omega arith) (λ e. omega arith)) (w j h t' (omega (arith, l)) b)
