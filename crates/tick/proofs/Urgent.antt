-- The running task: it is an ACTIVE task of the plan, no ACTIVE task is more urgent, and where one is ACTIVE one runs.
use Prim.Native.Nat.{ℕ, ◌≤◌, ◌<◌}
use mathlib.Core.Path.{◌≡◌, refl}
use mathlib.Core.Logic.{◌≢◌, ◌⊎◌, inl, inr}
use mathlib.Core.Bool.{Bool, true, false, cond, false≢true}
use mathlib.Core.List.{List, [], ◌∷◌}
use mathlib.Core.Option.{Option, none, some}
use native.Mathlib.Omega.{arith}
use native.Mathlib.Decide.{ℕ_discrete}
use lib.ListN.{length}
use lib.Dec.{ltb}
use borrow.Author.Tests.{ltb-true, ltb-false}
use Rattle.lists.specs.Lists.{Every, If}
use Rattle.lists.proofs.Tests.{every_weaker}
use Rattle.plan.specs.File.{Plan, plan_of, task_at}
use Rattle.plan.specs.Rules.{plan_verdict}
use Rattle.plan.specs.Order.{numbers}
use Rattle.plan.proofs.Order.{numbers-below, each_number}
use Rattle.plan.proofs.Tasks.{urgency_once}
use Rattle.state.specs.State.{state_at}
use Rattle.state.specs.declared.TaskState.{TaskState}
use Rattle.tick.specs.Turns.{is_active}
use Rattle.tick.specs.Tick.{better, most_urgent, running}

-- ---- what holds of each that passes a test, and of the best so far, holds of the most urgent
pub urgent_is : (plan : Plan) (test : ℕ → Bool) (P : ℕ → Type 0) (is : List ℕ) (best : Option ℕ) → Every (λ i. test i ≡ true → P i) is → If P best
    → If P (most_urgent plan test is best)
unfolding most_urgent better
urgent_is plan test P [] best q h = h
urgent_is plan test P (i ∷ is) best q h = urgent_is plan test P is (cond (test i) (some (better plan i best)) best) q.1 (one (test i) refl best h)
  where
    one : (b : Bool) → test i ≡ b → (best : Option ℕ) → If P best → If P (cond b (some (better plan i best)) best)
    one true e none p = q.0 e
    one true e (some j) p = elim (ltb (task_at plan i).priority (task_at plan j).priority) as (λ b. P (cond b i j)) [ true ↦ q.0 e | false ↦ p ]
    one false e best p = p

-- an ACTIVE task of the plan
abbrev pub Runnable : Plan → List TaskState → ℕ → Type 0
Runnable plan xs i = (is_active (state_at xs i).status ≡ true) × (i < length plan.tasks)

-- the running task is one, if there is any
pub running-is : (plan : Plan) (xs : List TaskState) → If (Runnable plan xs) (running plan xs)
running-is plan xs =
    urgent_is plan (λ i. is_active (state_at xs i).status) (Runnable plan xs) (numbers plan) none
    (every_weaker (λ i. i < length plan.tasks) (λ i. is_active (state_at xs i).status ≡ true → Runnable plan xs i) (λ i l e. (e, l)) (numbers plan) (numbers-below plan)) tt

-- ---- a task is chosen, and it is no less urgent than task i
abbrev pub Leads : Plan → Option ℕ → ℕ → Type 0
Leads plan none i = ⊥
Leads plan (some j) i = (task_at plan j).priority ≤ (task_at plan i).priority

module _ (plan : Plan) where
  -- one more to choose from: what led still leads
  better-leads : (i k : ℕ) (best : Option ℕ) → Leads plan best k → Leads plan (some (better plan i best)) k
  unfolding better
  better-leads i k none h = absurd h
  better-leads i k (some j) h = go (ltb (task_at plan i).priority (task_at plan j).priority) refl
    where
      go : (b : Bool) → ltb (task_at plan i).priority (task_at plan j).priority ≡ b → Leads plan (some (cond b i j)) k
      go true e = let l = ltb-true (task_at plan i).priority (task_at plan j).priority e in omega arith
      go false e = h

  -- and leads the one that came
  better-own : (i : ℕ) (best : Option ℕ) → Leads plan (some (better plan i best)) i
  unfolding better
  better-own i none = omega arith
  better-own i (some j) = go (ltb (task_at plan i).priority (task_at plan j).priority) refl
    where
      go : (b : Bool) → ltb (task_at plan i).priority (task_at plan j).priority ≡ b → Leads plan (some (cond b i j)) i
      go true e = omega arith
      go false e = ltb-false (task_at plan i).priority (task_at plan j).priority e

  module _ (test : ℕ → Bool) where
    -- to the end of the list
    most_keeps : (is : List ℕ) (k : ℕ) (best : Option ℕ) → Leads plan best k → Leads plan (most_urgent plan test is best) k
    unfolding most_urgent
    most_keeps [] k best h = h
    most_keeps (i ∷ is) k best h = most_keeps is k (cond (test i) (some (better plan i best)) best) (go (test i))
      where
        go : (b : Bool) → Leads plan (cond b (some (better plan i best)) best) k
        go true = better-leads i k best h
        go false = h

    -- it leads each that passes the test
    each-leads : (is : List ℕ) (best : Option ℕ) → Every (λ i. test i ≡ true → Leads plan (most_urgent plan test is best) i) is
    unfolding most_urgent
    each-leads [] best = tt
    each-leads (i ∷ is) best =
        ((λ a. most_keeps is i (cond (test i) (some (better plan i best)) best) (go (test i) a)), each-leads is (cond (test i) (some (better plan i best)) best))
      where
        go : (b : Bool) → b ≡ true → Leads plan (cond b (some (better plan i best)) best) i
        go true a = better-own i best
        go false a = absurd (false≢true a)

-- no ACTIVE task is more urgent than the running one
pub running-leads : (plan : Plan) (xs : List TaskState) (i : ℕ) → i < length plan.tasks → is_active (state_at xs i).status ≡ true → Leads plan (running plan xs) i
running-leads plan xs i l a =
    let test : ℕ → Bool = λ j. is_active (state_at xs j).status in
    each_number plan (λ j. test j ≡ true → Leads plan (running plan xs) j) (each-leads plan test (numbers plan) none) i l a

-- ---- a task runs, and it is task i or a more urgent one
pub record Led (plan : Plan) (i : ℕ) (o : Option ℕ) : Type 0 where
  pub one : ℕ
  pub is : o ≡ some one
  pub inside : one < length plan.tasks
  pub urgent : (one ≡ i) ⊎ ((task_at plan one).priority < (task_at plan i).priority)

-- where task i of an accepted plan is ACTIVE: no two tasks have one priority
pub running-led : (plan_bytes : List ℕ) → (plan_verdict plan_bytes).number ≡ 0 → (xs : List TaskState) (i : ℕ) → i < length (plan_of plan_bytes).tasks
    → is_active (state_at xs i).status ≡ true → Led (plan_of plan_bytes) i (running (plan_of plan_bytes) xs)
running-led plan_bytes good xs i l a = go (running (plan_of plan_bytes) xs) refl (running-leads (plan_of plan_bytes) xs i l a) (running-is (plan_of plan_bytes) xs)
  where
    plan : Plan
    plan = plan_of plan_bytes

    apart : (q : ℕ) → q < length plan.tasks → (task_at plan q).priority ≤ (task_at plan i).priority → Dec (q ≡ i) → (q ≡ i) ⊎ ((task_at plan q).priority < (task_at plan i).priority)
    apart q lq h (yes e) = inl e
    apart q lq h (no d) =
        let f : (task_at plan q).priority ≢ (task_at plan i).priority = λ e. d (urgency_once plan_bytes good q i lq l e) in
        inr (omega (arith, f))

    go : (o : Option ℕ) → running plan xs ≡ o → Leads plan o i → If (Runnable plan xs) o → Led plan i (running plan xs)
    go none e h r = absurd h
    go (some q) e h r = record { one = q; is = e; inside = r.1; urgent = apart q r.1 h (ℕ_discrete q i) }
