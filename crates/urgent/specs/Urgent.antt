-- Document 01, 'One tick', step 3: "The most urgent ACTIVE task", of a list of task records.
use Rattle.std.specs.Prelude.{ℕ, min, Bool, cond, List, [], ◌∷◌, eqb}
use Rattle.limits.specs.Limits.{top_value}
use Rattle.arrays.specs.Arrays.{active}
use Rattle.urgent.specs.declared.TaskRecord.{TaskRecord}

-- what stands for no rank
abbrev pub no_rank : ℕ
no_rank = top_value

-- so many records are lent at a time
abbrev pub pair_size : ℕ
pair_size = 2

abbrev pub is_active : TaskRecord → Bool
is_active x = eqb x.status active

-- the rank of an ACTIVE record; a record that is not ACTIVE has none
unfoldable pub key_of : TaskRecord → ℕ
key_of x = cond (is_active x) x.rank no_rank

-- "The most urgent ACTIVE task": the least rank of those that are ACTIVE
unfoldable pub least_rank : List TaskRecord → ℕ
least_rank [] = no_rank
least_rank (x ∷ xs) = min (key_of x) (least_rank xs)
