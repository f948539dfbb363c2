-- Rows in turn where only those of a word are called: the rows between them are passed over.
use Prim.Native.Nat.{ℕ, zero, suc, ◌+◌, ◌-◌, ◌*◌, ◌<◌, ◌≤◌}
use native.Mathlib.Nat.{le_refl}
use native.Mathlib.Omega.{arith}
use mathlib.Core.Path.{◌≡◌, refl, ap, sym, ◌∙◌}
use mathlib.Core.Bool.{true, false}
use mathlib.Core.List.{List}
use lib.ListN.{length}
use Rattle.marks.specs.Marks.{has}
use Rattle.trace.specs.Trace.{over}
use Rattle.arrays.specs.Arrays.{Arrays, Step}
use Rattle.steps.specs.Flat.{each_row, called}
use Rattle.steps.proofs.Laws.{rows_more, rows_done, Sofar, sofar_more}

module _ (calls : ℕ) (act : ℕ → Arrays → Step) where
  -- the turn of a row that is called
  pub called-does : (j : ℕ) (a : Arrays) → has calls j ≡ true → called calls act j a ≡ act j a
  called-does j a e = rw e

  -- one row that is not called
  rows_past : (n k : ℕ) (a : Arrays) → has calls k ≡ false → each_row (called calls act) (n - k) k a ≡ each_row (called calls act) (n - (k + 1)) (k + 1) a
  rows_past n k a e = go (n - k) refl
    where
      go : (m : ℕ) → n - k ≡ m → each_row (called calls act) (n - k) k a ≡ each_row (called calls act) (n - (k + 1)) (k + 1) a
      go zero q = rows_done (called calls act) n k a (omega (arith, q)) ∙ sym (rows_done (called calls act) n (k + 1) a (omega (arith, q)))
      go (suc m) q = rows_more (called calls act) n k a (omega (arith, q)) ∙ rw e

  -- d rows that are not called
  rows_skip : (n d k : ℕ) (a : Arrays) → ((i : ℕ) → k ≤ i → i < k + d → has calls i ≡ false)
      → each_row (called calls act) (n - k) k a ≡ each_row (called calls act) (n - (k + d)) (k + d) a
  rows_skip n zero k a f = ap (λ (x : ℕ). each_row (called calls act) (n - x) x a) (omega arith)
  rows_skip n (suc d) k a f =
      rows_past n k a (f k (le_refl k) (omega arith))
      ∙ rows_skip n d (k + 1) a (λ i h l. f i (omega (arith, h)) (omega (arith, l)))
      ∙ ap (λ (x : ℕ). each_row (called calls act) (n - x) x a) (omega arith)

  -- up to the next row that is called nothing happens
  pub rows_next : (n k r : ℕ) (a : Arrays) → k ≤ r → ((i : ℕ) → k ≤ i → i < r → has calls i ≡ false)
      → each_row (called calls act) (n - k) k a ≡ each_row (called calls act) (n - r) r a
  rows_next n k r a h f =
      rows_skip n (r - k) k a (λ i l m. f i l (omega (arith, h, m)))
      ∙ ap (λ (x : ℕ). each_row (called calls act) (n - x) x a) (omega (arith, h))

  module _ (n : ℕ) (a₀ : Arrays) (trace₀ : List ℕ) (from : ℕ) (a : Arrays) (trace : List ℕ) (at k : ℕ) where
    -- what a loop over rows keeps is kept on the way to the next row that is called
    pub sofar_next : (r : ℕ) → k ≤ r → ((i : ℕ) → k ≤ i → i < r → has calls i ≡ false)
        → Sofar (called calls act) n a₀ trace₀ from a trace at k
        → Sofar (called calls act) n a₀ trace₀ from a trace at r
    sofar_next r h f s =
        let m = rows_next n k r a h f in
        record {
          arrays = s.arrays ∙ ap (λ (u : Step). u.arrays) m;
          trace = s.trace ∙ ap (λ (u : Step). over trace at u.entries) m;
          ends = s.ends ∙ ap (λ (u : Step). at + 5 * length u.entries) m;
        }

    -- and over its turn
    pub sofar_called : k < n → has calls k ≡ true
        → Sofar (called calls act) n a₀ trace₀ from a trace at k
        → Sofar (called calls act) n a₀ trace₀ from (act k a).arrays (over trace at (act k a).entries) (at + 5 * length (act k a).entries) (k + 1)
    sofar_called h e s = rw (called-does k a e) at (sofar_more (called calls act) n a₀ trace₀ from a trace at k h s)
