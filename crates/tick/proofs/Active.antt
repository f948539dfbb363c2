-- A task that is ACTIVE after its turns: it was so before, and nothing of it changed but its remaining ticks, or it was released now.
use Prim.Native.Nat.{ℕ, ◌+◌}
use mathlib.Core.Path.{◌≡◌, refl, sym, ◌∙◌, ap}
use mathlib.Core.Logic.{◌⊎◌, inl, inr}
use mathlib.Core.List.{List}
use native.Mathlib.Omega.{arith}
use Rattle.plan.specs.File.{Task}
use Rattle.events.specs.Events.{Event}
use Rattle.state.specs.declared.Status.TheVariants.{ACTIVE, ERROR, READY, FINISHED}
use Rattle.state.specs.declared.TaskState.{TaskState}
use Rattle.state.proofs.Statuses.{ready-active, active-finished, active-error}
use Rattle.tick.specs.Turns.{Turn, deadline_turn, waits, release_turn, run_turn}
use Rattle.tick.proofs.Cases.{Deadline, rests, misses, writes, deadline_is, Release, starts, overruns, stays, release-is, Running, goes_on, finishes, writes_at_once, run_is}

-- step 1 leaves it as it was
pub deadline_active : (t i : ℕ) (k : Task) (x : TaskState) → (deadline_turn t i k x).state.status ≡ ACTIVE → (deadline_turn t i k x).state ≡ x
deadline_active t i k x h = go (deadline_is t i k x) h
  where
    go : {u : Turn} → Deadline t i k x u → u.state.status ≡ ACTIVE → u.state ≡ x
    go (rests f) e = refl
    go (misses a z) e = absurd (active-error ERROR e refl)
    go (writes f z) e = absurd (ready-active READY refl e)

-- step 2 too, or releases it with all its execution time to go
module _ (t : ℕ) (signals : List ℕ) (now : List Event) (i : ℕ) (k : Task) where
  -- a task state is that of a task released now
  abbrev pub ReleasedNow : TaskState → Type 0
  ReleasedNow y = (y.release ≡ t) × (y.remaining ≡ k.execution)

  pub release-active : (x : TaskState) → let y = (release_turn waits t signals now i k x).state in y.status ≡ ACTIVE → (y ≡ x) ⊎ ReleasedNow y
  release-active x h = go (release-is waits t signals now i k x) h
    where
      go : {u : Turn} → Release waits t signals now i k x u → u.state.status ≡ ACTIVE → (u.state ≡ x) ⊎ ReleasedNow u.state
      go (starts s a) e = inr (refl, refl)
      go (overruns s p d a) e = absurd (active-error ERROR e refl)
      go (stays u) e = inl refl

  -- both
  pub turns_active : (x : TaskState) → let y = (release_turn waits t signals now i k (deadline_turn t i k x).state).state in y.status ≡ ACTIVE → (y ≡ x) ⊎ ReleasedNow y
  turns_active x h = go (release-active y h)
    where
      y : TaskState
      y = (deadline_turn t i k x).state

      z : TaskState
      z = (release_turn waits t signals now i k y).state

      go : (z ≡ y) ⊎ ReleasedNow z → (z ≡ x) ⊎ ReleasedNow z
      go (inl e) = inl (e ∙ deadline_active t i k x (ap (λ (w : TaskState). w.status) (sym e) ∙ h))
      go (inr e) = inr e

-- step 3 takes one remaining tick
pub record GoesOn (x y : TaskState) : Type 0 where
  pub active : x.status ≡ ACTIVE
  pub release : y.release ≡ x.release
  pub remaining : y.remaining + 1 ≡ x.remaining

pub run_active : (t i : ℕ) (k : Task) (x : TaskState) → (run_turn t i k x).state.status ≡ ACTIVE → GoesOn x (run_turn t i k x).state
run_active t i k x h = go (run_is t i k x) h
  where
    go : {u : Turn} → Running t i k x u → u.state.status ≡ ACTIVE → GoesOn x u.state
    go (goes_on d) e = record { active = e; release = refl; remaining = omega (arith, d) }
    go (finishes z d) e = absurd (active-finished FINISHED e refl)
    go (writes_at_once z d) e = absurd (ready-active READY refl e)
