-- Rows in turn, and writes, one at a time: k done of n.
use Prim.Native.Nat.{ℕ, suc, ◌+◌, ◌-◌, ◌*◌, ◌<◌, ◌≤◌}
use mathlib.Core.Path.{◌≡◌, refl, ap, ◌∙◌}
use mathlib.Core.List.{List, [], ◌∷◌, ◌++◌}
use native.Mathlib.Nat.{sub-zero}
use native.Mathlib.Omega.{arith}
use lib.ListN.{length, set, length-append}
use Rattle.lists.specs.Lists.{tab}
use Rattle.lists.proofs.Laws.{more, done, tab-more, tab-done}
use Rattle.trace.specs.Trace.{over, write_entry}
use Rattle.trace.proofs.Laws.{over-append}
use Rattle.arrays.specs.Arrays.{Arrays, Step, still}
use Rattle.tick.specs.Turns.{Write}
use Rattle.tick.specs.Tick.{write_all}
use Rattle.steps.specs.Flat.{each_row, write_entries}

module _ (act : ℕ → Arrays → Step) (n k : ℕ) (a : Arrays) where
  pub rows_more : k < n
      → each_row act (n - k) k a
      ≡ record {
        arrays = (each_row act (n - (k + 1)) (k + 1) (act k a).arrays).arrays;
        entries = (act k a).entries ++ (each_row act (n - (k + 1)) (k + 1) (act k a).arrays).entries;
      }
  unfolding each_row
  rows_more h = rw (more n k h)

  pub rows_done : n ≤ k → each_row act (n - k) k a ≡ still a
  unfolding each_row
  rows_done h = rw (done n k h)

-- ---- what a loop over rows keeps: so far `k` of `n` rows, with the arrays `a` and the trace up to word `at`, come to what all of
-- them come to from the start
pub record Sofar (act : ℕ → Arrays → Step) (n : ℕ) (a₀ : Arrays) (trace₀ : List ℕ) (from : ℕ) (a : Arrays) (now : List ℕ) (at k : ℕ) : Type 0 where
  pub arrays : (each_row act n 0 a₀).arrays ≡ (each_row act (n - k) k a).arrays
  pub trace : over trace₀ from (each_row act n 0 a₀).entries ≡ over now at (each_row act (n - k) k a).entries
  pub ends : from + 5 * length (each_row act n 0 a₀).entries ≡ at + 5 * length (each_row act (n - k) k a).entries

-- no row yet
pub sofar_none : (act : ℕ → Arrays → Step) (n : ℕ) (a : Arrays) (trace : List ℕ) (from : ℕ) → Sofar act n a trace from a trace from 0
sofar_none act n a trace from = record { arrays = rw sub-zero; trace = rw sub-zero; ends = rw sub-zero }

-- one row more
pub sofar_more : (act : ℕ → Arrays → Step) (n : ℕ) (a₀ : Arrays) (trace₀ : List ℕ) (from : ℕ) (a : Arrays) (trace : List ℕ) (at k : ℕ) → k < n
    → Sofar act n a₀ trace₀ from a trace at k
    → Sofar act n a₀ trace₀ from (act k a).arrays (over trace at (act k a).entries) (at + 5 * length (act k a).entries) (k + 1)
sofar_more act n a₀ trace₀ from a trace at k h s =
    let m = rows_more act n k a h in
    record {
      arrays = s.arrays ∙ ap (λ (u : Step). u.arrays) m;
      trace = s.trace ∙ ap (λ (u : Step). over trace at u.entries) m ∙ over-append trace at (act k a).entries _;
      ends = s.ends ∙ ap (λ (u : Step). at + 5 * length u.entries) m ∙ rw (length-append (act k a).entries) (omega arith);
    }

-- ---- writes
module _ (f : ℕ → Write) (n k : ℕ) where
  pub write_more : (signals : List ℕ) → k < n → write_all (tab f k (n - k)) signals ≡ write_all (tab f (k + 1) (n - (k + 1))) (set signals (f k).signal (f k).value)
  unfolding write_all
  write_more signals h = rw (tab-more f n k h)

  pub write_done : (signals : List ℕ) → n ≤ k → write_all (tab f k (n - k)) signals ≡ signals
  unfolding write_all
  write_done signals h = rw (tab-done f n k h)

  pub entries_more : (t i : ℕ) → k < n → write_entries t i (tab f k (n - k)) ≡ write_entry t i (f k).signal (f k).value ∷ write_entries t i (tab f (k + 1) (n - (k + 1)))
  entries_more t i h = rw (tab-more f n k h)

  pub entries_done : (t i : ℕ) → n ≤ k → write_entries t i (tab f k (n - k)) ≡ []
  entries_done t i h = rw (tab-done f n k h)

pub writes_length : (t i : ℕ) (ws : List Write) → length (write_entries t i ws) ≡ length ws
writes_length t i [] = refl
writes_length t i (w ∷ ws) = ap suc (writes_length t i ws)
