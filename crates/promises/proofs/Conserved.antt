-- Listed outputs that only moves touch add up to what they were at first: after every tick from a fresh start, and after every
-- call of a service, misses or not.
use Prim.Native.Nat.{ℕ, zero, suc, ◌≤◌, ◌<◌}
use mathlib.Core.Path.{◌≡◌, ◌∙◌, ap, subst⁻¹}
use mathlib.Core.Bool.{Bool, cond}
use mathlib.Core.List.{List, [], ◌∷◌, map}
use native.Mathlib.Omega.{arith}
use native.Mathlib.Nat.{zero-add}
use lib.ListN.{length, get_or}
use borrow.Author.Tests.{lt-ltb}
use Rattle.limits.specs.Limits.{max_ports, max_signals, max_tasks}
use Rattle.lists.proofs.Laws.{length-tab, get_or-tab, map-in}
use Rattle.lists.proofs.Tests.{every_at, every_weaker}
use Rattle.plan.specs.File.{Task, Plan, plan_of, task_at}
use Rattle.plan.specs.Rules.{plan_verdict}
use Rattle.plan.proofs.Tasks.{few_tasks, few_outputs, outputs_below}
use Rattle.events.specs.Events.{events_of, events_verdict}
use Rattle.events.proofs.Acceptance as lists
use Rattle.state.specs.State.{value_at, state_at, nowhere, idle, fresh_task, fresh}
use Rattle.state.specs.declared.State.{State}
use Rattle.state.proofs.Laws.{fresh-task_at}
use Rattle.tick.specs.Tick.{tick}
use Rattle.kernel.specs.declared.Started.{Started}
use Rattle.zero.specs.Zero.{ticks, kernel_run, Called, InTurn, ticks_of, last_state, Service}
use Rattle.zero.proofs.Ticks.{ticks-keep}
use Rattle.zero.proofs.Calls.{started_good, started_fresh}
use Rattle.zero.proofs.Keeps.{calls_keep}
use Rattle.promises.specs.Promises.{sum_of, total_of, OnlyMoves}
use Rattle.promises.specs.Theorems.{MovesKeepTheSum, EastAndWestAddUp}
use Rattle.promises.proofs.Refused.{service_events}
use Rattle.promises.proofs.Sums.{sum_same, Holds}
use Rattle.promises.proofs.Moves.{total, WholeState, tick-whole}

module _ (plan_bytes : List ℕ) (good : (plan_verdict plan_bytes).number ≡ 0) (i : ℕ) (li : i < length (plan_of plan_bytes).tasks) (ps : List ℕ)
    (only : OnlyMoves (task_at (plan_of plan_bytes) i) ps) where
  abbrev plan : Plan
  plan = plan_of plan_bytes

  -- the task
  abbrev k : Task
  k = task_at plan i

  -- ---- the fresh state: held outputs are "initial values of the signals it writes"
  fresh-own_task : state_at (fresh plan).tasks i ≡ fresh_task plan.signals k
  unfolding fresh
  fresh-own_task =
      let most = few_tasks plan_bytes good in
      get_or-tab (λ j. get_or (map (fresh_task plan.signals) plan.tasks) j idle) nowhere 0 max_tasks i (omega arith)
      ∙ ap (λ (j : ℕ). get_or (map (fresh_task plan.signals) plan.tasks) j idle) (zero-add i) ∙ fresh-task_at plan i
      ∙ ap (λ (b : Bool). cond b (fresh_task plan.signals k) idle) (lt-ltb i (length plan.tasks) li)

  -- they add up to the initial values
  fresh-held : Holds ps (total plan_bytes good i li ps only) (fresh_task plan.signals k).held
  unfolding fresh_task
  fresh-held =
      let most = few_outputs plan_bytes good i li in
      let values = map (value_at plan.signals) k.outputs in
      record {
        size = length-tab (λ j. get_or values j 0) 0 max_ports;
        sum =
            sum_same _ (λ p. value_at plan.signals (get_or k.outputs p 0)) ps
            (every_weaker (λ p. p < length k.outputs) _
            (λ p l. get_or-tab (λ j. get_or values j 0) 0 0 max_ports p (omega arith) ∙ ap (λ (j : ℕ). get_or values j 0) (zero-add p) ∙ map-in (value_at plan.signals) k.outputs p 0 0 l)
            ps only.outputs);
      }

  -- and so do the signals
  fresh-whole : WholeState plan_bytes good i li ps only (fresh plan)
  unfolding fresh
  fresh-whole =
      let most = few_tasks plan_bytes good in
      let size = length-tab (λ j. get_or (map (fresh_task plan.signals) plan.tasks) j idle) 0 max_tasks in
      record {
        there = omega arith;
        held = subst⁻¹ (λ y. Holds ps (total plan_bytes good i li ps only) y.held) fresh-own_task fresh-held;
        size = length-tab (λ j. get_or plan.signals j 0) 0 max_signals;
        sum =
            sum_same _ (λ p. value_at plan.signals (get_or k.outputs p 0)) ps
            (every_weaker (λ p. p < length k.outputs) _
            (λ p l.
            let less = every_at (λ y. y < max_signals) 0 k.outputs (outputs_below plan_bytes good i li) p l in
            get_or-tab (λ j. get_or plan.signals j 0) 0 0 max_signals (get_or k.outputs p 0) less ∙ ap (λ (j : ℕ). get_or plan.signals j 0) (zero-add (get_or k.outputs p 0)))
            ps only.outputs);
      }

  -- after every tick from the fresh state, with accepted events: the listed signals add up to their initial values
  pub conserved : (event_bytes : List ℕ) → (events_verdict plan_bytes event_bytes).number ≡ 0 → (n : ℕ)
      → total_of plan i ps (kernel_run plan_bytes event_bytes n).state.signals ≡ total_of plan i ps plan.signals
  conserved event_bytes events n =
      (ticks-keep (tick plan (events_of event_bytes)) (WholeState plan_bytes good i li ps only)
      (tick-whole plan_bytes good i li ps only event_bytes ((lists.accepted_exactly plan_bytes event_bytes).1 events).1) n (fresh plan) fresh-whole).sum

  -- after tick n of those that calls in turn ran
  pub calls_conserved : (event_bytes : List ℕ) (s : State) (calls : List Called) → InTurn plan_bytes event_bytes s calls → (n : ℕ) → n ≤ ticks_of calls
      → total_of plan i ps (kernel_run plan_bytes event_bytes n).state.signals ≡ total_of plan i ps plan.signals
  unfolding ticks
  calls_conserved event_bytes s calls turns zero l = fresh-whole.sum
  calls_conserved event_bytes s calls turns (suc n) l = conserved event_bytes (service_events plan_bytes event_bytes s calls turns (omega arith)) (suc n)

  -- the state after the last of calls in turn from the fresh state
  pub service_whole : (event_bytes : List ℕ) (s : State) (calls : List Called) → s ≡ fresh plan → InTurn plan_bytes event_bytes s calls
      → WholeState plan_bytes good i li ps only (last_state s calls)
  service_whole event_bytes s calls e turns =
      calls_keep plan_bytes event_bytes (WholeState plan_bytes good i li ps only) (λ list s early. tick-whole plan_bytes good i li ps only event_bytes list s) s calls turns
      (subst⁻¹ (WholeState plan_bytes good i li ps only) e fresh-whole)

-- ---- after a fresh start that accepts the plan and any calls in turn, whatever they asked and answered
-- after each tick that they ran the listed signals add up to their initial values
pub each-tick_conserved : (plan_bytes event_bytes : List ℕ) (started : Started) (calls : List Called) → Service plan_bytes event_bytes started calls
    → (i : ℕ) → i < length (plan_of plan_bytes).tasks → (ps : List ℕ) → OnlyMoves (task_at (plan_of plan_bytes) i) ps → (n : ℕ) → n ≤ ticks_of calls
    → total_of (plan_of plan_bytes) i ps (kernel_run plan_bytes event_bytes n).state.signals ≡ total_of (plan_of plan_bytes) i ps (plan_of plan_bytes).signals
each-tick_conserved plan_bytes event_bytes started calls service i li ps only =
    calls_conserved plan_bytes (started_good plan_bytes started service.starts service.accepted) i li ps only event_bytes started.state calls service.in_turn

-- and so do those of the state that the last call returned
pub service_conserved : MovesKeepTheSum
service_conserved plan_bytes event_bytes started calls service i li ps only =
    (service_whole plan_bytes (started_good plan_bytes started service.starts service.accepted) i li ps only event_bytes started.state calls
    (started_fresh plan_bytes started service.starts service.accepted) service.in_turn).sum

-- two safes
pub east_and_west : EastAndWestAddUp
unfolding sum_of
east_and_west plan_bytes event_bytes started calls service i li east west only =
    let same = service_conserved plan_bytes event_bytes started calls service i li (east ∷ west ∷ []) only in
    omega arith
