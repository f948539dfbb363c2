-- Arrays that hold what is read off each task.
use Prim.Native.Nat.{ℕ, suc, ◌+◌, ◌*◌, ◌<◌, ◌≤◌}
use mathlib.Core.Path.{◌≡◌, ap, sym, ◌∙◌}
use mathlib.Core.List.{List, [], ◌∷◌, ◌++◌, append_assoc, append-nil}
use native.Mathlib.Omega.{arith}
use native.Mathlib.Nat.{zero-mul, suc-mul, mul-le-mul_right}
use native.Mathlib.Numerals.{add-one}
use lib.ListN.{length, take, drop, length-append}
use lib.Seq.{sets, length-sets, sets-eq, take_at, take-suc, length-take-le}
use Rattle.limits.specs.Limits.{max_tasks}
use Rattle.state.specs.State.{nowhere, state_at}
use Rattle.state.specs.declared.TaskState.{TaskState}
use Rattle.whole.specs.Whole.{off_each}

-- ---- what is read off each task, stored one task after the other
-- what is read off one task more
off_last : (f : TaskState → List ℕ) (xs : List TaskState) (x : TaskState) → off_each f (xs ++ (x ∷ [])) ≡ off_each f xs ++ f x
unfolding off_each
off_last f [] x = append-nil (f x)
off_last f (y ∷ xs) x = ap (λ (l : List ℕ). f y ++ l) (off_last f xs x) ∙ sym (append_assoc (f y) (off_each f xs) (f x))

-- an array with w places for each task holds what is read off the first i tasks
pub record Stored (f : TaskState → List ℕ) (w : ℕ) (xs : List TaskState) (i : ℕ) (out : List ℕ) : Type 0 where
  pub size : length out ≡ max_tasks * w
  pub stored : take (i * w) out ≡ off_each f (take i xs)

module _ (f : TaskState → List ℕ) (w : ℕ) (xs : List TaskState) where
  -- before the first task nothing need be stored
  pub stored_none : (out : List ℕ) → length out ≡ max_tasks * w → Stored f w xs 0 out
  unfolding off_each
  stored_none out size = record { size = size; stored = rw (zero-mul w) }

  -- the w numbers of task i are stored after those of the tasks before it
  pub stored_more : (i : ℕ) (out vs : List ℕ) → length xs ≡ max_tasks → i < max_tasks → vs ≡ f (state_at xs i) → length vs ≡ w
      → Stored f w xs i out → Stored f w xs (i + 1) (sets out (i * w) vs)
  stored_more i out vs count less read wide h =
      let size = h.size in
      let next = suc-mul i w in
      let room : suc i * w ≤ max_tasks * w = mul-le-mul_right w less in
      let before : length (take (i * w) out) ≡ i * w = length-take-le (i * w) out (omega arith) in
      let long : length (take (i * w) out ++ vs) ≡ suc i * w = simp length-append (omega arith) in
      record {
        size = length-sets out (i * w) vs ∙ size;
        stored =
            rw (add-one i, sets-eq vs out (i * w) (omega arith), take_at (take (i * w) out ++ vs) (drop (i * w + length vs) out) (suc i * w) long, h.stored, read, take-suc xs i nowhere (omega arith))
            (sym (off_last f (take i xs) (state_at xs i)));
      }
