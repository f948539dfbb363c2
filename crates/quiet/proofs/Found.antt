-- What passing over ticks rests on, by what the code has found: the instants of the next event and of the next row that does
-- something, and the row that runs.
use Prim.Native.Nat.{ℕ, zero, suc, ◌+◌, ◌-◌, ◌*◌, ◌<◌, ◌≤◌, min}
use mathlib.Core.Path.{◌≡◌, refl}
use mathlib.Core.List.{List}
use native.Mathlib.Omega.{arith}
use lib.ListN.{set}
use borrow.Author.Tests.{lt-ltb, le-ltb}
use Rattle.arrays.specs.Arrays.{field}
use Rattle.steps.specs.Flat.{task_of_row, end_from, first_active}
use Rattle.quiet.specs.Quiet.{RowsQuiet, lowered, Calm, Passed}

module _ (rows : List ℕ) (count : ℕ) (ws : List ℕ) (records place t left : ℕ) (tasks : List ℕ) where
  -- nothing is passed over
  pub passed_none : Passed rows count ws records place t left 0 tasks tasks
  unfolding lowered
  passed_none = record { most = omega arith; calm = λ h. absurd (omega arith); tasks = refl }

  module _ (event wake row most n : ℕ)
      (none : (u : ℕ) → u < event → end_from ws u (records - place) place ≡ place)
      (quiet : RowsQuiet rows tasks count t wake)
      (runs : row ≡ first_active rows tasks count 0)
      (bound : most ≡ min (min event wake - t) left) (few : n ≤ most) where
    calm_of : 0 < n → (row < count → n < field tasks (task_of_row rows row) 1) → Calm rows count ws records place t n tasks
    calm_of h s = record {
      events = λ u l b. none u (omega (arith, l, b));
      rows_quiet = λ j k u l b. quiet j k u l (omega (arith, l, b));
      spare = rw runs at s;
    }

    -- no task runs
    pub passed-idle : count ≤ row → Passed rows count ws records place t left n tasks tasks
    unfolding lowered
    passed-idle h = record { most = omega arith; calm = λ p. calm_of p (λ b. absurd (omega (arith, b))); tasks = go n }
      where
        go : (m : ℕ) → tasks ≡ lowered rows count m tasks
        go zero = refl
        go (suc m) = rw (← runs, le-ltb row count h)

    -- the task of a row runs
    pub passed-run : 0 < n → row < count → n < field tasks (task_of_row rows row) 1
        → Passed rows count ws records place t left n tasks (set tasks (task_of_row rows row * 4 + 1) (field tasks (task_of_row rows row) 1 - n))
    unfolding lowered
    passed-run p h s = record { most = omega arith; calm = λ q. calm_of q (λ b. s); tasks = go n p }
      where
        go : (m : ℕ) → 0 < m → set tasks (task_of_row rows row * 4 + 1) (field tasks (task_of_row rows row) 1 - m) ≡ lowered rows count m tasks
        go zero q = absurd (omega arith)
        go (suc m) q = rw (← runs, lt-ltb row count h)

-- how many ticks there are up to the next instant, of those that are left
pub bounded : (event wake first past most t left : ℕ) → first ≡ min event wake → past ≡ first - t → most ≡ min past left → most ≡ min (min event wake - t) left
bounded event wake first past most t left e p m = rw (m, p, e)

-- the running task has a tick to spare after those passed over
pub spared : (most rest less n : ℕ) → less ≡ rest - 1 → n ≡ min most less → (n ≡ 0 → ⊥) → n < rest
spared most rest less n l m h = omega arith
