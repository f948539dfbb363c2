-- The records of a tick have its instant: so the records of the first k ticks of a run are those before tick k.
use Prim.Native.Nat.{ℕ, zero, suc, ◌+◌, ◌≤◌, ◌<◌}
use native.Mathlib.Nat.{le_of_suc-le-suc, not-suc-le-zero}
use mathlib.Core.Path.{◌≡◌, ◌∙◌, ap, ap₂}
use mathlib.Core.Logic.{◌≢◌}
use mathlib.Core.List.{List, ◌++◌, append-nil}
use native.Mathlib.Omega.{arith}
use Rattle.lists.specs.Lists.{Every}
use Rattle.lists.proofs.Tests.{every_join, every_weaker}
use Rattle.plan.specs.File.{Plan}
use Rattle.events.specs.Events.{Event}
use Rattle.trace.specs.Trace.{before, of_tick}
use Rattle.trace.specs.declared.Entry.{Entry}
use Rattle.trace.proofs.Records.{before-none, before-all, before-append, tick-none, tick-all, tick-append}
use Rattle.state.specs.declared.State.{State}
use Rattle.tick.specs.Tick.{tick}
use Rattle.tick.proofs.Records.{tick-instants}
use Rattle.tick.proofs.View.{next_tick}
use Rattle.zero.specs.Zero.{ticks}

module _ (plan : Plan) (events : List Event) where
  -- ---- n ticks: no record is before them
  from_tick : (n : ℕ) (s : State) → Every (λ e. s.tick ≤ e.instant) (ticks (tick plan events) n s).entries
  unfolding ticks
  from_tick zero s = tt
  from_tick (suc n) s =
      let u = tick plan events s in
      let rest = (ticks (tick plan events) n u.state).entries in
      let next = next_tick plan events s in
      every_join _ u.entries rest
      (every_weaker {A = Entry} (λ e. e.instant ≡ s.tick) (λ e. s.tick ≤ e.instant) (λ e h. omega arith) u.entries (tick-instants plan events s))
      (every_weaker {A = Entry} (λ e. u.state.tick ≤ e.instant) (λ e. s.tick ≤ e.instant) (λ e h. omega arith) rest (from_tick n u.state))

-- the records of the first k of n ticks are those before the k-th tick from the first
pub first_ticks : (plan : Plan) (events : List Event) (k n : ℕ) (s : State) → k ≤ n
    → before (s.tick + k) (ticks (tick plan events) n s).entries ≡ (ticks (tick plan events) k s).entries
unfolding ticks
first_ticks plan events zero n s l =
    before-none (s.tick + 0) (ticks (tick plan events) n s).entries
    (every_weaker {A = Entry} (λ e. s.tick ≤ e.instant) (λ e. s.tick + 0 ≤ e.instant) (λ e h. omega arith) (ticks (tick plan events) n s).entries (from_tick plan events n s))
first_ticks plan events (suc k) zero s l = absurd (not-suc-le-zero l)
first_ticks plan events (suc k) (suc n) s l =
    let u = tick plan events s in
    let rest = (ticks (tick plan events) n u.state).entries in
    let next = next_tick plan events s in
    let e : s.tick + suc k ≡ u.state.tick + k = omega arith in
    before-append (s.tick + suc k) u.entries rest
    ∙ ap₂ ◌++◌ (before-all (s.tick + suc k) u.entries (every_weaker {A = Entry} (λ e. e.instant ≡ s.tick) (λ e. e.instant < s.tick + suc k) (λ e h. omega arith) u.entries (tick-instants plan events s)))
    (ap (λ (j : ℕ). before j rest) e ∙ first_ticks plan events k n u.state (le_of_suc-le-suc l))

-- the records of the k-th of n ticks are those of its instant
pub one-tick : (plan : Plan) (events : List Event) (k n : ℕ) (s : State) → k < n
    → of_tick (s.tick + k) (ticks (tick plan events) n s).entries ≡ (tick plan events (ticks (tick plan events) k s).state).entries
unfolding ticks
one-tick plan events k zero s l = absurd (not-suc-le-zero l)
one-tick plan events zero (suc n) s l =
    let u = tick plan events s in
    let rest = (ticks (tick plan events) n u.state).entries in
    let next = next_tick plan events s in
    tick-append (s.tick + 0) u.entries rest
    ∙ ap₂ ◌++◌
    (tick-all (s.tick + 0) u.entries (every_weaker {A = Entry} (λ e. e.instant ≡ s.tick) (λ e. e.instant ≡ s.tick + 0) (λ e h. omega arith) u.entries (tick-instants plan events s)))
    (tick-none (s.tick + 0) rest (every_weaker {A = Entry} (λ e. u.state.tick ≤ e.instant) (λ e. e.instant ≢ s.tick + 0) (λ e h z. absurd (omega arith)) rest (from_tick plan events n u.state)))
    ∙ append-nil u.entries
one-tick plan events (suc k) (suc n) s l =
    let u = tick plan events s in
    let rest = (ticks (tick plan events) n u.state).entries in
    let next = next_tick plan events s in
    let e : s.tick + suc k ≡ u.state.tick + k = omega arith in
    tick-append (s.tick + suc k) u.entries rest
    ∙ ap₂ ◌++◌
    (tick-none (s.tick + suc k) u.entries (every_weaker {A = Entry} (λ e. e.instant ≡ s.tick) (λ e. e.instant ≢ s.tick + suc k) (λ e h z. absurd (omega arith)) u.entries (tick-instants plan events s)))
    (ap (λ (j : ℕ). of_tick j rest) e ∙ one-tick plan events k n u.state (le_of_suc-le-suc l))
