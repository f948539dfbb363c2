-- What `least_rank` finds, said with no order of steps. No contract cites it: it shows that the definition is the paper's sentence.
use Prim.Native.Nat.{ℕ, ◌<◌, ◌≤◌, min}
use mathlib.Core.Path.{◌≡◌, refl, sym, ap, ◌∙◌}
use mathlib.Core.Logic.{◌↔◌, ⊎_elim}
use mathlib.Core.Bool.{Bool, true, false, cond}
use mathlib.Core.List.Memᴰ
use mathlib.Core.List.{List, [], ◌∷◌, Memᴰ}
use native.Mathlib.Omega.{arith}
use lib.Dec.{ltb}
use borrow.Author.Tests.{ltb-true, ltb-false}
use Rattle.urgent.specs.declared.TaskRecord.{TaskRecord}
use Rattle.urgent.specs.Urgent.{no_rank, is_active, key_of, least_rank}
use Rattle.urgent.proofs.Laws.{least-bound}

abbrev pub Active : TaskRecord → Type 0
Active x = is_active x ≡ true

-- no record of a list is ACTIVE
abbrev pub NoneActive : List TaskRecord → Type 0
NoneActive xs = (y : TaskRecord) → Memᴰ y xs → Active y → ⊥

-- r is the rank of an ACTIVE record of a list than which no ACTIVE record of it has a smaller one
pub record MostUrgent (xs : List TaskRecord) (r : ℕ) : Type 0 where
  pub one : TaskRecord
  pub among : Memᴰ one xs
  pub active : Active one
  pub rank : one.rank ≡ r
  pub least : (y : TaskRecord) → Memᴰ y xs → Active y → r ≤ y.rank

key_is : (x : TaskRecord) (b : Bool) → is_active x ≡ b → key_of x ≡ cond b x.rank no_rank
unfolding key_of
key_is x b e = rw e

-- a record with a key is ACTIVE, and its rank is its key
keyed : (x : TaskRecord) → key_of x < no_rank → Active x × (x.rank ≡ key_of x)
keyed x h = go (is_active x) refl
  where
    go : (b : Bool) → is_active x ≡ b → Active x × (x.rank ≡ key_of x)
    go true e = (e, sym (key_is x true e))
    go false e = let k = key_is x false e in absurd (omega arith)

-- no ACTIVE record has a smaller rank
below : (xs : List TaskRecord) (y : TaskRecord) → Memᴰ y xs → Active y → least_rank xs ≤ y.rank
unfolding least_rank
below [] y m a = absurd (Memᴰ.not-nil m)
below (x ∷ xs) y m a =
    ⊎_elim (λ e. let k = ap key_of (sym e) ∙ key_is y true a in omega arith) (λ n. let h = below xs y n a in omega arith) (Memᴰ.cases_cons m)

-- a record whose key is the least
found : (xs : List TaskRecord) → least_rank xs < no_rank → (x : TaskRecord) × (Memᴰ x xs × (key_of x ≡ least_rank xs))
unfolding least_rank
found [] h = absurd (omega arith)
found (x ∷ xs) h = go (ltb (least_rank xs) (key_of x)) refl (found xs)
  where
    go : (b : Bool) → ltb (least_rank xs) (key_of x) ≡ b
        → (least_rank xs < no_rank → (z : TaskRecord) × (Memᴰ z xs × (key_of z ≡ least_rank xs)))
        → (z : TaskRecord) × (Memᴰ z (x ∷ xs) × (key_of z ≡ min (key_of x) (least_rank xs)))
    go true e rest =
        let l = ltb-true (least_rank xs) (key_of x) e in
        let f = rest (omega arith) in
        let k = f.1.1 in
        (f.0, (Memᴰ.tail f.1.0, omega arith))
    go false e rest = let l = ltb-false (least_rank xs) (key_of x) e in (x, (Memᴰ.head refl, omega arith))

-- where there is a least rank, it is the most urgent ACTIVE record's
pub least-urgent : (xs : List TaskRecord) → least_rank xs < no_rank → MostUrgent xs (least_rank xs)
least-urgent xs h =
    let f = found xs h in
    let k = f.1.1 in
    let s = keyed f.0 (omega arith) in
    record { one = f.0; among = f.1.0; active = s.0; rank = s.1 ∙ k; least = below xs }

-- and there is none exactly where no record is ACTIVE, ranks being below it
pub least-absent : (xs : List TaskRecord) → ((y : TaskRecord) → Memᴰ y xs → y.rank < no_rank) → (least_rank xs ≡ no_rank) ↔ NoneActive xs
least-absent xs ranked = ((λ e y m a. let h = below xs y m a in let r = ranked y m in omega arith), (λ none. go none (ltb (least_rank xs) no_rank) refl))
  where
    go : NoneActive xs → (b : Bool) → ltb (least_rank xs) no_rank ≡ b → least_rank xs ≡ no_rank
    go none true e = let u = least-urgent xs (ltb-true (least_rank xs) no_rank e) in absurd (none u.one u.among u.active)
    go none false e = let l = ltb-false (least_rank xs) no_rank e in let h = least-bound xs in omega arith
