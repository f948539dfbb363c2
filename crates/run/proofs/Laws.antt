-- A run over the arrays, one tick at a time: k done of n.
use Prim.Native.Nat.{ℕ, suc, ◌+◌, ◌-◌, ◌*◌, ◌<◌, ◌≤◌}
use mathlib.Core.Path.{◌≡◌, sym, ◌∙◌}
use mathlib.Core.Bool.{Bool, true, false}
use mathlib.Core.List.{List}
use native.Mathlib.Nat.{sub-add-eq}
use native.Mathlib.Omega.{arith}
use lib.ListN.{length, length-append}
use lib.Dec.{leb}
use borrow.Author.Tests.{le-leb, lt-leb, leb-true, leb-false}
use Rattle.trace.specs.Trace.{over}
use Rattle.trace.proofs.Laws.{over-append}
use Rattle.arrays.specs.Arrays.{Arrays}
use Rattle.step.specs.Step.{Given, place_after, step_flat}
use Rattle.run.specs.Run.{Went, halted, further, run_flat, Sofar}

-- what the question comes to whether a tick's records, which end at word `end`, fit in a trace that still has its first length
module _ (fits : Bool) (end words words₀ : ℕ) (e : fits ≡ leb end words) (l : words ≡ words₀) where
  pub enough : fits ≡ true → end ≤ words₀
  enough h = rw l at (leb-true end words (sym e ∙ h))

  pub short : fits ≡ false → words₀ < end
  short h = rw l at (leb-false end words (sym e ∙ h))

-- a trace of so many words, filled up to word `at`
module _ (g : Given) (words at n t place : ℕ) (a : Arrays) where
  abbrev end : ℕ
  end = at + 5 * length (step_flat g t place a).entries

  pub went_more : end ≤ words
      → run_flat g (words - at) (suc n) t place a ≡ further (step_flat g t place a) (run_flat g (words - end) n (t + 1) (place_after g t place) (step_flat g t place a).arrays)
  unfolding run_flat
  went_more r = rw (le-leb (5 * length (step_flat g t place a).entries) (words - at) (omega arith), sub-add-eq words at (5 * length (step_flat g t place a).entries))

  pub went_full : at ≤ words → words < end → run_flat g (words - at) (suc n) t place a ≡ halted true place a
  unfolding run_flat
  went_full l r = rw (lt-leb (5 * length (step_flat g t place a).entries) (words - at) (omega arith))

-- one tick more
pub sofar_more : (w₀ : Went) (g : Given) (t place : ℕ) (a : Arrays) (w : Went) (ticks : ℕ) (trace₀ now : List ℕ) (at : ℕ)
    → Sofar w₀ (further (step_flat g t place a) w) ticks trace₀ now at
    → Sofar w₀ w (ticks + 1) trace₀ (over now at (step_flat g t place a).entries) (at + 5 * length (step_flat g t place a).entries)
sofar_more w₀ g t place a w ticks trace₀ now at s =
    let u = (step_flat g t place a).entries in
    let c = s.count in
    let l = length-append u w.entries in
    let e = s.word in
    record {
      full = s.full;
      count = omega arith;
      place = s.place;
      arrays = s.arrays;
      trace = s.trace ∙ over-append now at u w.entries;
      word = omega arith;
    }
