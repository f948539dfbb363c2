-- How many records a tick can have at most, by the schedule and the number of its events; and what it is to count them.
use Rattle.std.specs.Prelude.{ℕ, zero, suc, ◌+◌, ◌*◌, ◌≡◌, List, length}
use Rattle.arrays.specs.Arrays.{Arrays, Step, row_field, row_output_count}
use Rattle.step.specs.Step.{Given}

-- the most records of row j in step 1: a write for each of its outputs, or a miss
abbrev pub row_most : List ℕ → ℕ → ℕ
row_most rows j = row_field rows j row_output_count + 1

-- b j + b (j + 1) + .., n of them
unfoldable pub total : (ℕ → ℕ) → ℕ → ℕ → ℕ
total b zero j = 0
total b (suc n) j = b j + total b n (j + 1)

-- the most records of n rows from row j on in step 1
abbrev pub rows_most : List ℕ → ℕ → ℕ → ℕ
rows_most rows n j = total (row_most rows) n j

-- the most records of a tick that has n events: the writes of step 3 and one record of each row in step 2 are counted as step 1
-- once more, then each event may be ignored by each row
abbrev pub most_entries : Given → ℕ → ℕ
most_entries g n = 2 * rows_most g.rows g.count 0 + g.count * n

-- a step has so many records and leaves the tasks so, whatever the other arrays are
abbrev pub Counts : (Arrays → Step) → List ℕ → List ℕ → ℕ → Type 0
Counts act before after n = (a : Arrays) → a.tasks ≡ before → (n ≡ length (act a).entries) × (after ≡ (act a).arrays.tasks)
