-- The first pair of rows with an ACTIVE record has the first row whose task is ACTIVE.
use Prim.Native.Nat.{ℕ, zero, suc, ◌+◌, ◌-◌, ◌<◌, ◌≤◌, min}
use mathlib.Core.Path.{◌≡◌, refl, sym, ap, ◌∙◌}
use mathlib.Core.Bool.{Bool, true, false, cond}
use mathlib.Core.List.{List}
use native.Mathlib.Omega.{arith}
use lib.Dec.{eqb}
use Rattle.lists.specs.Lists.{tab}
use Rattle.lists.proofs.Laws.{more}
use Rattle.limits.specs.Limits.{max_tasks}
use Rattle.urgent.specs.Urgent.{pair_size, no_rank, key_of, least_rank}
use Rattle.arrays.specs.Arrays.{active, field}
use Rattle.steps.specs.Flat.{task_of_row, first_active}
use Rattle.choice.specs.Records.{record_of}

module _ (rows tasks : List ℕ) where
  abbrev running : ℕ → Bool
  running j = eqb (field tasks (task_of_row rows j) 0) active

  key_is : (j : ℕ) (b : Bool) → running j ≡ b → key_of (record_of rows tasks j) ≡ cond b j no_rank
  unfolding key_of record_of
  key_is j b e = rw e

  -- the least rank of two rows, by whether each is ACTIVE
  pair_least : (j : ℕ) (b c : Bool) → running j ≡ b → running (j + 1) ≡ c → least_rank (tab (record_of rows tasks) j pair_size) ≡ min (cond b j no_rank) (min (cond c (j + 1) no_rank) no_rank)
  unfolding least_rank tab
  pair_least j b c e f = rw (key_is j b e, key_is (j + 1) c f)

  first_here : (n j : ℕ) → running j ≡ true → first_active rows tasks (suc n) j ≡ j
  unfolding first_active
  first_here n j e = rw e

  first_next : (n j : ℕ) → running j ≡ false → first_active rows tasks (suc n) j ≡ first_active rows tasks n (j + 1)
  unfolding first_active
  first_next n j e = rw e

  first_none : (j : ℕ) → first_active rows tasks 0 j ≡ j
  unfolding first_active
  first_none j = refl

  key_after : (j : ℕ) (c : Bool) → j < no_rank → j ≤ cond c (j + 1) no_rank
  key_after j true h = omega arith
  key_after j false h = omega arith

  -- of n + 1 rows from row j on: the least rank of the first two is among them, or comes after them all
  one-taken : (n j : ℕ) → j + suc n ≤ max_tasks → least_rank (tab (record_of rows tasks) j pair_size) < j + suc n
      → first_active rows tasks (suc n) j ≡ least_rank (tab (record_of rows tasks) j pair_size)
  one-taken n j h s = go n (running j) (running (j + 1)) refl refl h s
    where
      go : (n : ℕ) (b c : Bool) → running j ≡ b → running (j + 1) ≡ c → j + suc n ≤ max_tasks → least_rank (tab (record_of rows tasks) j pair_size) < j + suc n
          → first_active rows tasks (suc n) j ≡ least_rank (tab (record_of rows tasks) j pair_size)
      go n true c e f h s = let l = pair_least j true c e f in let a = first_here n j e in let m = key_after j c (omega arith) in omega arith
      go zero false true e f h s = let l = pair_least j false true e f in absurd (omega arith)
      go (suc m) false true e f h s = let l = pair_least j false true e f in let a = first_next (suc m) j e in let b = first_here m (j + 1) f in omega arith
      go n false false e f h s = let l = pair_least j false false e f in absurd (omega arith)

  one-passed : (n j : ℕ) → j + suc n ≤ max_tasks → j + suc n ≤ least_rank (tab (record_of rows tasks) j pair_size)
      → first_active rows tasks (suc n) j ≡ first_active rows tasks (n - 1) (min (j + pair_size) (j + suc n))
  one-passed n j h s = go n (running j) (running (j + 1)) refl refl h s
    where
      go : (n : ℕ) (b c : Bool) → running j ≡ b → running (j + 1) ≡ c → j + suc n ≤ max_tasks → j + suc n ≤ least_rank (tab (record_of rows tasks) j pair_size)
          → first_active rows tasks (suc n) j ≡ first_active rows tasks (n - 1) (min (j + pair_size) (j + suc n))
      go n true c e f h s = let l = pair_least j true c e f in absurd (omega arith)
      go zero false c e f h s = let p : min (j + pair_size) (j + 1) ≡ j + 1 = omega arith in rw p (first_next zero j e)
      go (suc m) false true e f h s = let l = pair_least j false true e f in absurd (omega arith)
      go (suc m) false false e f h s = let p : min (j + pair_size) (j + suc (suc m)) ≡ j + 1 + 1 = omega arith in let q : suc m - 1 ≡ m = omega arith in rw (p, q) (first_next (suc m) j e ∙ first_next m (j + 1) f)

  -- so of the rows from row j on, where that is one of them
  module _ (count j : ℕ) (h : j < count) (few : count ≤ max_tasks) where
    pub taken : least_rank (tab (record_of rows tasks) j pair_size) < count → first_active rows tasks (count - j) (min j count) ≡ least_rank (tab (record_of rows tasks) j pair_size)
    taken s =
        let p : min j count ≡ j = omega arith in
        rw (more count j h, p) (one-taken (count - (j + 1)) j (omega arith) (omega arith))

    pub passed : count ≤ least_rank (tab (record_of rows tasks) j pair_size) → first_active rows tasks (count - j) (min j count) ≡ first_active rows tasks (count - (j + pair_size)) (min (j + pair_size) count)
    passed s =
        let p : min j count ≡ j = omega arith in
        let q : count - (j + pair_size) ≡ count - (j + 1) - 1 = omega arith in
        let r : count ≡ j + suc (count - (j + 1)) = omega arith in
        rw (p, q, more count j h) (one-passed (count - (j + 1)) j (omega arith) (omega arith) ∙ ap (λ (m : ℕ). first_active rows tasks (count - (j + 1) - 1) (min (j + pair_size) m)) (sym r))

  pub done : (count j : ℕ) → count ≤ j → first_active rows tasks (count - j) (min j count) ≡ count
  done count j h =
      let p : min j count ≡ count = omega arith in
      let q : count - j ≡ 0 = omega arith in
      rw (p, q) (first_none count)
