-- The rows that have their turn, as the bits of a word: which is the next.
use Rattle.std.specs.Prelude.{◌≡◌, ℕ, zero, suc, ◌+◌, ◌<◌, ◌≤◌, Bool, cond, Option, MatchOption}
use Rattle.marks.specs.Marks.{has}
use Rattle.turns.specs.declared.Called.{Called}

-- the first of n numbers from k on of which a test holds; the number past them where there is none
unfoldable pub least : (ℕ → Bool) → ℕ → ℕ → ℕ
least p zero k = k
least p (suc n) k = cond (p k) k (least p n (k + 1))

-- the next row of those that are left
abbrev pub next_row : Called → ℕ
next_row s = least (has s.calls) 32 s.from

-- row j was taken, and those behind it are left
pub record Taken (s : Called) (j : ℕ) (t : Called) : Type 0 where
  pub row : j ≡ next_row s
  pub below : j < s.count
  pub rest : t ≡ record { calls = s.calls; from = j + 1; count = s.count }

-- the next row comes, or there is none below the count, and then nothing has changed
abbrev pub GivesNext : Called → Option ℕ → Called → Type 0
GivesNext s r t = MatchOption r ((s.count ≤ next_row s) × (t ≡ s)) (λ j. Taken s j t)
