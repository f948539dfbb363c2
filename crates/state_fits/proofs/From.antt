-- A test of each value from a place on, one step at a time.
use Prim.Native.Nat.{ℕ, suc, ◌+◌, ◌<◌, ◌≤◌}
use mathlib.Core.Path.{◌≡◌}
use mathlib.Core.Bool.{Bool, ◌&&◌}
use mathlib.Core.List.{List}
use native.Mathlib.Numerals.{add-one}
use lib.ListN.{length, get_or, drop, drop_of_length-le}
use lib.Seq.{drop-cons}
use Rattle.lists.specs.Lists.{all}
use Rattle.lists.proofs.Laws.{and_assoc, and_true}

-- ---- a test of each from place k on, one step at a time; t is what the tests before came to
module _ {A : Type 0} (p : A → Bool) (d : A) (xs : List A) (k : ℕ) (t : Bool) where
  pub from_more : k < length xs → (t && all p (drop k xs)) ≡ ((t && p (get_or xs k d)) && all p (drop (k + 1) xs))
  unfolding all
  from_more h = rw (add-one k, drop-cons xs k d h) (and_assoc t (p (get_or xs k d)) (all p (drop (suc k) xs)))

  pub from_done : length xs ≤ k → (t && all p (drop k xs)) ≡ t
  unfolding all
  from_done h = rw (drop_of_length-le xs h) (and_true t)
