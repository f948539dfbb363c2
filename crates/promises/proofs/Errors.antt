-- A task in ERROR is in ERROR after every further tick, and so after any further calls.
use Prim.Native.Nat.{ℕ, ◌<◌}
use mathlib.Core.Path.{◌≡◌, refl, sym, ap, ◌∙◌}
use mathlib.Core.Logic.{◌⊎◌, inl, inr}
use mathlib.Core.Bool.{Bool, true, false}
use mathlib.Core.List.{List}
use lib.ListN.{length, get_or-eq_default}
use lib.Dec.{ltb}
use borrow.Author.Tests.{ltb-true, ltb-false}
use Rattle.plan.specs.File.{Task, Plan, plan_of, task_at}
use Rattle.plan.specs.Rules.{plan_verdict}
use Rattle.plan.proofs.Tasks.{order-numbers}
use Rattle.events.specs.Events.{Event, events_of}
use Rattle.state.specs.State.{state_at, nowhere}
use Rattle.state.specs.declared.State.{State}
use Rattle.state.specs.declared.TaskState.{TaskState}
use Rattle.state.proofs.Statuses.{ready-error, active-error}
use Rattle.tick.specs.Turns.{Turn, deadline_turn, waits, is_active, run_turn}
use Rattle.tick.specs.Tick.{events_at, deadlines, tick}
use Rattle.tick.proofs.Cases.{active-is, deadline_error, error-unasked, release-stays}
use Rattle.tick.proofs.View.{turned, tick-at, tick-beyond}
use Rattle.zero.proofs.Keeps.{calls_keep}
use Rattle.zero.proofs.Theorems.{good}
use Rattle.promises.specs.Promises.{InError}
use Rattle.promises.specs.Theorems.{EveryErrorLasts}

-- a tick leaves it: steps 1 and 2 do nothing to it, and step 3 does not run it
module _ (plan_bytes event_bytes : List ℕ) (accepted : (plan_verdict plan_bytes).number ≡ 0) (i : ℕ) where
  abbrev plan : Plan
  plan = plan_of plan_bytes

  -- the events
  abbrev events : List Event
  events = events_of event_bytes

  -- there is such a task state
  there : (s : State) → InError i s → i < length s.tasks
  there s e = go (ltb i (length s.tasks)) refl
    where
      go : (b : Bool) → ltb i (length s.tasks) ≡ b → i < length s.tasks
      go true z = ltb-true i (length s.tasks) z
      go false z =
          absurd (ready-error (state_at s.tasks i).status
          (ap (λ (x : TaskState). x.status) (get_or-eq_default s.tasks nowhere {n = i} (ltb-false i (length s.tasks) z))) e)

  -- a task of the plan
  task_stays : (s : State) → i < length plan.tasks → InError i s → InError i (tick plan events s).state
  task_stays s l e = go (tick-at plan events s (order-numbers plan_bytes accepted) i l (there s e))
    where
      x : TaskState
      x = state_at s.tasks i

      k : Task
      k = task_at plan i

      first : (deadline_turn s.tick i k x).state ≡ x
      first = ap (λ (u : Turn). u.state) (deadline_error s.tick i k x e)

      same : turned waits plan events s i ≡ x
      same =
          let y = (deadline_turn s.tick i k x).state in
          let now = events_at s.tick events in
          ap (λ (u : Turn). u.state)
          (release-stays waits s.tick (deadlines plan events s).signals now i k y (error-unasked s.tick now i k y (ap (λ (z : TaskState). z.status) first ∙ e)))
          ∙ first

      go : (state_at (tick plan events s).state.tasks i ≡ turned waits plan events s i)
          ⊎ ((is_active (turned waits plan events s i).status ≡ true)
          × (state_at (tick plan events s).state.tasks i ≡ (run_turn s.tick i k (turned waits plan events s i)).state))
          → InError i (tick plan events s).state
      go (inl f) = ap (λ (z : TaskState). z.status) (f ∙ same) ∙ e
      go (inr f) = absurd (active-error x.status (ap (λ (z : TaskState). z.status) (sym same) ∙ active-is _ f.0) e)

  -- any number
  tick-leaves : (s : State) → InError i s → InError i (tick plan events s).state
  tick-leaves s e = go (ltb i (length plan.tasks)) refl
    where
      go : (b : Bool) → ltb i (length plan.tasks) ≡ b → InError i (tick plan events s).state
      go true z = task_stays s (ltb-true i (length plan.tasks) z) e
      go false z = ap (λ (x : TaskState). x.status) (tick-beyond plan events s i (ltb-false i (length plan.tasks) z)) ∙ e

-- so every ERROR lasts
pub errors_last : EveryErrorLasts
errors_last plan_bytes event_bytes started calls more service turns i e =
    calls_keep plan_bytes event_bytes (InError i) (λ list s early p. tick-leaves plan_bytes event_bytes (good plan_bytes event_bytes started calls service) i s p)
    _ more turns e
