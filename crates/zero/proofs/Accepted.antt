-- What an accepted plan without deadline 0 gives: its order of priority is its task numbers in another order, and its ticks
-- from the fresh state are those of the zero-time reading as long as nothing is missed.
use Prim.Native.Nat.{ℕ, ◌≤◌, ◌<◌}
use native.Mathlib.Nat.{zero-add}
use mathlib.Core.Path.{◌≡◌, sym, ap, ◌∙◌}
use mathlib.Core.Logic.{◌≢◌}
use mathlib.Core.List.{List}
use Rattle.plan.specs.File.{Plan, plan_of}
use Rattle.plan.specs.Rules.{plan_verdict}
use Rattle.plan.proofs.Order.{perm_sym, perm_every, each-task}
use Rattle.plan.proofs.Tasks.{order-numbers}
use Rattle.events.specs.Events.{events_of}
use Rattle.state.specs.State.{fresh}
use Rattle.tick.specs.Tick.{Ticked, tick}
use Rattle.trace.specs.Trace.{before, of_tick}
use Rattle.zero.specs.Zero.{WithoutDeadline0, NoMiss, kernel_run, zero_run}
use Rattle.zero.proofs.Ahead.{HasDeadline, ahead_ticked, zero_time}
use Rattle.zero.proofs.Ticks.{no_miss_before}
use Rattle.zero.proofs.Instants.{first_ticks, one-tick}

module _ (plan_bytes : List ℕ) (good : (plan_verdict plan_bytes).number ≡ 0) where
  abbrev plan : Plan
  plan = plan_of plan_bytes

  module _ (event_bytes : List ℕ) (deadlines : WithoutDeadline0 plan) (n : ℕ) (no_miss : NoMiss (kernel_run plan_bytes event_bytes n).entries) where
    -- n ticks of the zero-time reading are n ticks of the kernel with every ACTIVE body run
    reads : zero_run plan_bytes event_bytes n ≡ ahead_ticked plan (kernel_run plan_bytes event_bytes n)
    reads =
        let all = each-task (λ k. k.deadline ≢ 0) plan deadlines in
        zero_time plan (events_of event_bytes) n all (perm_every (HasDeadline plan) (perm_sym (order-numbers plan_bytes good)) all) no_miss

    -- n ticks without a miss: the records, and the signals
    pub run_entries : (kernel_run plan_bytes event_bytes n).entries ≡ (zero_run plan_bytes event_bytes n).entries
    run_entries = sym (ap (λ (u : Ticked). u.entries) reads)

    -- and the signals
    pub run_signals : (kernel_run plan_bytes event_bytes n).state.signals ≡ (zero_run plan_bytes event_bytes n).state.signals
    run_signals = sym (ap (λ (u : Ticked). u.state.signals) reads)

  -- and after every tick before
  pub run_each : (event_bytes : List ℕ) → WithoutDeadline0 plan → (n : ℕ) → NoMiss (kernel_run plan_bytes event_bytes n).entries → (k : ℕ) → k ≤ n
      → (kernel_run plan_bytes event_bytes k).state.signals ≡ (zero_run plan_bytes event_bytes k).state.signals
  run_each event_bytes d n h k l = run_signals event_bytes d k (no_miss_before (tick plan (events_of event_bytes)) k n (fresh plan) l h)

-- the records of the first k of n ticks from the fresh state are those before tick k
pub first_from_fresh : (plan_bytes event_bytes : List ℕ) (k n : ℕ) → k ≤ n → before k (kernel_run plan_bytes event_bytes n).entries ≡ (kernel_run plan_bytes event_bytes k).entries
unfolding fresh
first_from_fresh plan_bytes event_bytes k n l =
    ap (λ (j : ℕ). before j (kernel_run plan_bytes event_bytes n).entries) (sym (zero-add k))
    ∙ first_ticks (plan_of plan_bytes) (events_of event_bytes) k n (fresh (plan_of plan_bytes)) l

-- and those of tick k are its own
pub tick-from_fresh : (plan_bytes event_bytes : List ℕ) (k n : ℕ) → k < n
    → of_tick k (kernel_run plan_bytes event_bytes n).entries ≡ (tick (plan_of plan_bytes) (events_of event_bytes) (kernel_run plan_bytes event_bytes k).state).entries
unfolding fresh
tick-from_fresh plan_bytes event_bytes k n l =
    ap (λ (j : ℕ). of_tick j (kernel_run plan_bytes event_bytes n).entries) (sym (zero-add k))
    ∙ one-tick (plan_of plan_bytes) (events_of event_bytes) k n (fresh (plan_of plan_bytes)) l
