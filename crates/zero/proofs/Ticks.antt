-- Laws of n ticks, for any tick.
use Prim.Native.Nat.{ℕ, zero, suc, ◌+◌, ◌≤◌}
use native.Mathlib.Nat.{zero-add, le_of_suc-le-suc, not-suc-le-zero}
use mathlib.Core.Path.{◌≡◌, sym, ◌∙◌, ap}
use mathlib.Core.Logic.{◌≢◌}
use mathlib.Core.List.{◌++◌, append_assoc}
use native.Mathlib.Omega.{arith}
use Rattle.lists.proofs.Tests.{every_append, every_join}
use Rattle.trace.specs.Trace.{miss_kind}
use Rattle.trace.specs.declared.Entry.{Entry}
use Rattle.state.specs.declared.State.{State}
use Rattle.tick.specs.Tick.{Ticked}
use Rattle.zero.specs.Zero.{NoMiss, ticks}

module _ (step : State → Ticked) where
  -- m ticks and n more are m + n ticks
  pub ticks-state : (m n : ℕ) (s : State) → (ticks step n (ticks step m s).state).state ≡ (ticks step (m + n) s).state
  unfolding ticks
  ticks-state zero n s = ap (λ (k : ℕ). (ticks step k s).state) (sym (zero-add n))
  ticks-state (suc m) n s =
      let e : suc (m + n) ≡ suc m + n = omega arith in
      ticks-state m n (step s).state ∙ ap (λ (k : ℕ). (ticks step k s).state) e

  -- and the records
  pub ticks-entries : (m n : ℕ) (s : State) → (ticks step m s).entries ++ (ticks step n (ticks step m s).state).entries ≡ (ticks step (m + n) s).entries
  unfolding ticks
  ticks-entries zero n s = ap (λ (k : ℕ). (ticks step k s).entries) (sym (zero-add n))
  ticks-entries (suc m) n s =
      let e : suc (m + n) ≡ suc m + n = omega arith in
      append_assoc (step s).entries (ticks step m (step s).state).entries (ticks step n (ticks step m (step s).state).state).entries
      ∙ ap (λ es. (step s).entries ++ es) (ticks-entries m n (step s).state)
      ∙ ap (λ (k : ℕ). (ticks step k s).entries) e

  -- no miss in n ticks: none in the first k of them
  pub no_miss_before : (k n : ℕ) (s : State) → k ≤ n → NoMiss (ticks step n s).entries → NoMiss (ticks step k s).entries
  unfolding ticks
  no_miss_before zero n s l h = tt
  no_miss_before (suc k) zero s l h = absurd (not-suc-le-zero l)
  no_miss_before (suc k) (suc n) s l h =
      let es = (step s).entries in
      let rest = (ticks step n (step s).state).entries in
      let E : Entry → Type 0 = λ e. e.kind ≢ miss_kind in
      let both = every_append E es rest h in
      every_join E es (ticks step k (step s).state).entries both.0 (no_miss_before k n (step s).state (le_of_suc-le-suc l) both.1)

  -- the last of them is a tick from the state before
  pub ticks-next : (n : ℕ) (s : State) → (ticks step (n + 1) s).state ≡ (step (ticks step n s).state).state
  unfolding ticks
  ticks-next n s = sym (ticks-state n 1 s)

  -- what each tick keeps, n ticks keep
  pub ticks-keep : (P : State → Type 0) → ((s : State) → P s → P (step s).state) → (n : ℕ) (s : State) → P s → P (ticks step n s).state
  unfolding ticks
  ticks-keep P f zero s p = p
  ticks-keep P f (suc n) s p = ticks-keep P f n (step s).state (f s p)

  -- each tick is one later
  pub ticks-later : ((s : State) → (step s).state.tick ≡ s.tick + 1) → (n : ℕ) (s : State) → (ticks step n s).state.tick ≡ s.tick + n
  unfolding ticks
  ticks-later f zero s = omega arith
  ticks-later f (suc n) s = let a = ticks-later f n (step s).state in let b = f s in omega arith
