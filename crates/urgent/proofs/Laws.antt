-- The least rank of a list of records, taken from the first record on.
use Prim.Native.Nat.{ℕ, ◌≤◌, min}
use native.Mathlib.Omega.{arith}
use mathlib.Core.Path.{◌≡◌, ◌∙◌}
use mathlib.Core.List.{List, [], ◌∷◌, map}
use Rattle.std.specs.List.{fold}
use Rattle.urgent.specs.declared.TaskRecord.{TaskRecord}
use Rattle.urgent.specs.Urgent.{no_rank, key_of, least_rank}

pub least-bound : (xs : List TaskRecord) → least_rank xs ≤ no_rank
unfolding least_rank
least-bound [] = omega arith
least-bound (x ∷ xs) = let h = least-bound xs in omega arith

-- the least of the keys, taken from the first on
least_from : (best : ℕ) (xs : List TaskRecord) → best ≤ no_rank → fold min best (map key_of xs) ≡ min best (least_rank xs)
unfolding least_rank
least_from best [] h = omega arith
least_from best (x ∷ xs) h = least_from (min best (key_of x)) xs (omega arith) ∙ omega arith

pub least_fold : (xs : List TaskRecord) → fold min no_rank (map key_of xs) ≡ least_rank xs
least_fold xs = let h = least-bound xs in least_from no_rank xs (omega arith) ∙ omega arith
