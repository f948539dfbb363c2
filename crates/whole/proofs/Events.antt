-- The events of a tick stand from its event place to the next tick's.
use Prim.Native.Nat.{ℕ, zero, suc, ◌+◌, ◌-◌, ◌<◌, ◌≤◌}
use mathlib.Core.Path.{◌≡◌, refl, ap, sym, ◌∙◌}
use mathlib.Core.Logic.{◌≢◌, ◌⊎◌, inl, inr}
use mathlib.Core.Bool.{Bool, true, false, cond}
use mathlib.Core.List.{List, [], ◌∷◌, ◌++◌, append-nil}
use native.Mathlib.Omega.{arith}
use native.Mathlib.Nat.{zero-add, add-zero, eq-or-lt_of_le}
use lib.Dec.{eqb, ltb}
use borrow.Author.Tests.{ltb-true, ltb-false, eq-eqb, ne_eqb}
use Rattle.words.specs.Words.{words_of}
use Rattle.lists.specs.Lists.{tab}
use Rattle.events.specs.Events.{Event, event_of, event_count, events_of, passed, events_verdict}
use Rattle.state.proofs.Laws.{Parted, events_parted}
use Rattle.tick.specs.Tick.{events_at}
use Rattle.steps.specs.Flat.{end_from, between}

-- ---- a list in two parts
tab-append : {A : Type 0} (f : ℕ → A) (k m n : ℕ) → tab f k (m + n) ≡ tab f k m ++ tab f (k + m) n
unfolding tab
tab-append f k zero n = rw (zero-add n, add-zero k)
tab-append f k (suc m) n =
    let e : suc m + n ≡ suc (m + n) = omega arith in
    let g : k + 1 + m ≡ k + suc m = omega arith in
    rw (e, ← g) (ap (λ x. f k ∷ x) (tab-append f (k + 1) m n))

module _ (t : ℕ) where
  at_append : (xs ys : List Event) → events_at t (xs ++ ys) ≡ events_at t xs ++ events_at t ys
  unfolding events_at
  at_append [] ys = refl
  at_append (e ∷ es) ys = go (eqb e.instant t) (at_append es ys)
    where
      go : (b : Bool) → events_at t (es ++ ys) ≡ events_at t es ++ events_at t ys
          → cond b (e ∷ events_at t (es ++ ys)) (events_at t (es ++ ys)) ≡ cond b (e ∷ events_at t es) (events_at t es) ++ events_at t ys
      go true r = ap (λ x. e ∷ x) r
      go false r = r

  module _ (f : ℕ → Event) where
    at_none : (k n : ℕ) → ((j : ℕ) → k ≤ j → j < k + n → (f j).instant ≢ t) → events_at t (tab f k n) ≡ []
    unfolding events_at tab
    at_none k zero h = refl
    at_none k (suc n) h =
        rw (ne_eqb (f k).instant t (h k (omega arith) (omega arith))) (at_none (k + 1) n (λ j low high. h j (omega arith) (omega arith)))

    at_all : (k n : ℕ) → ((j : ℕ) → k ≤ j → j < k + n → (f j).instant ≡ t) → events_at t (tab f k n) ≡ tab f k n
    unfolding events_at tab
    at_all k zero h = refl
    at_all k (suc n) h =
        rw (eq-eqb (f k).instant t (h k (omega arith) (omega arith)), at_all (k + 1) n (λ j low high. h j (omega arith) (omega arith)))

  -- from place p on, the first place that is not of instant t
  ends_at : (ws : List ℕ) (m p q n : ℕ) → p + m ≡ n → p ≤ q → q ≤ n → ((j : ℕ) → p ≤ j → j < q → (event_of ws j).instant ≡ t)
      → ((j : ℕ) → q ≤ j → j < n → (event_of ws j).instant ≢ t) → end_from ws t m p ≡ q
  unfolding end_from
  ends_at ws zero p q n e low high same differ = omega arith
  ends_at ws (suc m) p q n e low high same differ = go (eq-or-lt_of_le low) (λ less. ends_at ws m (p + 1) q n (omega arith) less high (λ j l h. same j (omega arith) h) differ)
    where
      go : (p ≡ q) ⊎ (p < q) → (p + 1 ≤ q → end_from ws t m (p + 1) ≡ q) → cond (eqb (event_of ws p).instant t) (end_from ws t m (p + 1)) p ≡ q
      go (inl here) r = rw (ne_eqb (event_of ws p).instant t (differ p (omega arith) (omega arith))) here
      go (inr less) r = rw (eq-eqb (event_of ws p).instant t (same p (omega arith) less)) (r (omega arith))

-- ---- of an accepted event list
module _ (plan_bytes event_bytes : List ℕ) (accepted : (events_verdict plan_bytes event_bytes).number ≡ 0) (t : ℕ) where
  abbrev ws : List ℕ
  ws = words_of event_bytes

  abbrev n : ℕ
  n = event_count event_bytes

  -- the event place of tick t, and of the next
  abbrev p : ℕ
  p = passed t (events_of event_bytes)

  abbrev q : ℕ
  q = passed (t + 1) (events_of event_bytes)

  abbrev now : Parted (λ j. (event_of ws j).instant) t 0 n p
  now = events_parted plan_bytes event_bytes accepted t

  abbrev next : Parted (λ j. (event_of ws j).instant) (t + 1) 0 n q
  next = events_parted plan_bytes event_bytes accepted (t + 1)

  pub places_rise : p ≤ q
  places_rise = go (ltb q p) refl
    where
      go : (b : Bool) → ltb q p ≡ b → p ≤ q
      go true e =
          let less = ltb-true q p e in
          let most = now.bound in
          let early = now.before q (omega arith) (omega arith) in
          let late = next.after q (omega arith) (omega arith) in
          absurd (omega arith)
      go false e = ltb-false q p e

  earlier : (j : ℕ) → j < p → (event_of ws j).instant ≢ t
  earlier j less e = let early = now.before j (omega arith) (omega arith) in omega arith

  same : (j : ℕ) → p ≤ j → j < q → (event_of ws j).instant ≡ t
  same j low high =
      let most = next.bound in
      let late = now.after j (omega arith) (omega arith) in
      let early = next.before j (omega arith) (omega arith) in
      omega arith

  later : (j : ℕ) → q ≤ j → j < n → (event_of ws j).instant ≢ t
  later j low high e = let late = next.after j (omega arith) (omega arith) in omega arith

  -- the place at which the events of t end is the next tick's event place
  pub ends_next : end_from (words_of event_bytes) t (event_count event_bytes - passed t (events_of event_bytes)) (passed t (events_of event_bytes)) ≡ passed (t + 1) (events_of event_bytes)
  ends_next =
      let most = now.bound in
      let bound = next.bound in
      ends_at t ws (n - p) p q n (omega arith) places_rise (omega arith) same later

  parts : events_of event_bytes ≡ tab (event_of ws) 0 p ++ (tab (event_of ws) p (q - p) ++ tab (event_of ws) q (n - q))
  parts =
      let rise = places_rise in
      let most = next.bound in
      let e : n ≡ p + (q - p + (n - q)) = omega arith in
      let g : p + (q - p) ≡ q = omega arith in
      ap (tab (event_of ws) 0) e
      ∙ tab-append (event_of ws) 0 p (q - p + (n - q))
      ∙ ap (λ (x : List Event). tab (event_of ws) 0 p ++ x)
      (rw (zero-add p) (tab-append (event_of ws) p (q - p) (n - q) ∙ ap (λ (m : ℕ). tab (event_of ws) p (q - p) ++ tab (event_of ws) m (n - q)) g))

  -- what stands between the two is the events of t
  pub events_now : between (words_of event_bytes) (passed t (events_of event_bytes)) (passed (t + 1) (events_of event_bytes)) ≡ events_at t (events_of event_bytes)
  events_now =
      let rise = places_rise in
      let most = next.bound in
      sym (ap (events_at t) parts
      ∙ at_append t (tab (event_of ws) 0 p) (tab (event_of ws) p (q - p) ++ tab (event_of ws) q (n - q))
      ∙ rw (at_none t (event_of ws) 0 p (λ j low high. earlier j (omega arith)))
      (at_append t (tab (event_of ws) p (q - p)) (tab (event_of ws) q (n - q))
      ∙ rw (at_all t (event_of ws) p (q - p) (λ j low high. same j low (omega arith)), at_none t (event_of ws) q (n - q) (λ j low high. later j low (omega arith)))
      (append-nil (tab (event_of ws) p (q - p)))))

  -- both in one: as the code reads them
  pub events_between : between (words_of event_bytes) (passed t (events_of event_bytes))
      (end_from (words_of event_bytes) t (event_count event_bytes - passed t (events_of event_bytes)) (passed t (events_of event_bytes)))
      ≡ events_at t (events_of event_bytes)
  events_between = ap (between ws p) ends_next ∙ events_now
