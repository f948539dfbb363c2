-- Laws of a task's own records, and of the records before a tick.
use Prim.Native.Nat.{ℕ, ◌≤◌, ◌<◌}
use mathlib.Core.Path.{◌≡◌, refl, ap}
use mathlib.Core.Logic.{◌≢◌}
use mathlib.Core.Bool.{Bool, true, false, cond}
use mathlib.Core.List.{List, [], ◌∷◌, ◌++◌, append-nil}
use lib.Dec.{eqb, ltb}
use borrow.Author.Tests.{eqb-false, eq-eqb, ne_eqb, lt-ltb, le-ltb}
use Rattle.lists.specs.Lists.{Every}
use Rattle.trace.specs.Trace.{own, before, of_tick}
use Rattle.trace.specs.declared.Entry.{Entry}

-- ---- a task's own records
-- of two lists, one after the other
pub own-append : (i : ℕ) (xs ys : List Entry) → own i (xs ++ ys) ≡ own i xs ++ own i ys
unfolding own
own-append i [] ys = refl
own-append i (e ∷ es) ys = go (eqb e.task i) (own-append i es ys)
  where
    go : (b : Bool) → own i (es ++ ys) ≡ own i es ++ own i ys → cond b (e ∷ own i (es ++ ys)) (own i (es ++ ys)) ≡ cond b (e ∷ own i es) (own i es) ++ own i ys
    go true h = ap {B = List Entry} (λ r. e ∷ r) h
    go false h = h

-- records of which task i has none change place
pub own-swap : (i : ℕ) (es xs ys : List Entry) → own i ys ≡ [] → own i (es ++ xs ++ ys) ≡ own i (es ++ ys ++ xs)
own-swap i es xs ys h = simp (own-append, h, append-nil)

-- where none is of task i
pub own-none : (i : ℕ) (es : List Entry) → Every (λ e. e.task ≢ i) es → own i es ≡ []
unfolding own
own-none i [] h = refl
own-none i (e ∷ es) h = rw (ne_eqb e.task i h.0) (own-none i es h.1)

-- what holds of each record holds of each of a task's own
pub every_own : (P : Entry → Type 0) (i : ℕ) (es : List Entry) → Every P es → Every P (own i es)
unfolding own
every_own P i [] h = tt
every_own P i (e ∷ es) h = go (eqb e.task i) (every_own P i es h.1)
  where
    go : (b : Bool) → Every P (own i es) → Every P (cond b (e ∷ own i es) (own i es))
    go true r = (h.0, r)
    go false r = r

-- and the other way round, of each record that is the task's
pub from_own : (P : Entry → Type 0) (i : ℕ) (es : List Entry) → Every P (own i es) → Every (λ e. e.task ≡ i → P e) es
unfolding own
from_own P i [] h = tt
from_own P i (e ∷ es) h = go (eqb e.task i) refl h (λ r. from_own P i es r)
  where
    go : (b : Bool) → eqb e.task i ≡ b → Every P (cond b (e ∷ own i es) (own i es)) → (Every P (own i es) → Every (λ x. x.task ≡ i → P x) es)
        → Every (λ x. x.task ≡ i → P x) (e ∷ es)
    go true z r f = ((λ s. r.0), f r.1)
    go false z r f = ((λ s. absurd (eqb-false e.task i z s)), f r)

-- ---- the records before tick k
-- none where all are from k on
pub before-none : (k : ℕ) (es : List Entry) → Every (λ e. k ≤ e.instant) es → before k es ≡ []
unfolding before
before-none k [] h = refl
before-none k (e ∷ es) h = rw (le-ltb e.instant k h.0) (before-none k es h.1)

-- all where all are below k
pub before-all : (k : ℕ) (es : List Entry) → Every (λ e. e.instant < k) es → before k es ≡ es
unfolding before
before-all k [] h = refl
before-all k (e ∷ es) h = rw (lt-ltb e.instant k h.0, before-all k es h.1)

-- of two lists, one after the other
pub before-append : (k : ℕ) (xs ys : List Entry) → before k (xs ++ ys) ≡ before k xs ++ before k ys
unfolding before
before-append k [] ys = refl
before-append k (e ∷ es) ys = go (ltb e.instant k) (before-append k es ys)
  where
    go : (b : Bool) → before k (es ++ ys) ≡ before k es ++ before k ys → cond b (e ∷ before k (es ++ ys)) (before k (es ++ ys)) ≡ cond b (e ∷ before k es) (before k es) ++ before k ys
    go true h = ap {B = List Entry} (λ r. e ∷ r) h
    go false h = h

-- ---- the records of tick n
-- none where no record is of it
pub tick-none : (n : ℕ) (es : List Entry) → Every (λ e. e.instant ≢ n) es → of_tick n es ≡ []
unfolding of_tick
tick-none n [] h = refl
tick-none n (e ∷ es) h = rw (ne_eqb e.instant n h.0) (tick-none n es h.1)

-- all where all are
pub tick-all : (n : ℕ) (es : List Entry) → Every (λ e. e.instant ≡ n) es → of_tick n es ≡ es
unfolding of_tick
tick-all n [] h = refl
tick-all n (e ∷ es) h = rw (eq-eqb e.instant n h.0, tick-all n es h.1)

-- of two lists, one after the other
pub tick-append : (n : ℕ) (xs ys : List Entry) → of_tick n (xs ++ ys) ≡ of_tick n xs ++ of_tick n ys
unfolding of_tick
tick-append n [] ys = refl
tick-append n (e ∷ es) ys = go (eqb e.instant n) (tick-append n es ys)
  where
    go : (b : Bool) → of_tick n (es ++ ys) ≡ of_tick n es ++ of_tick n ys → cond b (e ∷ of_tick n (es ++ ys)) (of_tick n (es ++ ys)) ≡ cond b (e ∷ of_tick n es) (of_tick n es) ++ of_tick n ys
    go true h = ap {B = List Entry} (λ r. e ∷ r) h
    go false h = h
