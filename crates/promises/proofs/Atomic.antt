-- In every tick of every run from a fresh start, misses or not, a task writes nothing or everything at once.
use Prim.Native.Nat.{ℕ, ◌+◌, ◌<◌}
use mathlib.Core.Path.{◌≡◌, refl, ◌∙◌, ap, subst⁻¹}
use mathlib.Core.List.{List}
use native.Mathlib.Omega.{arith}
use lib.ListN.{length}
use Rattle.limits.specs.Limits.{max_time}
use Rattle.plan.specs.File.{plan_of}
use Rattle.plan.specs.Rules.{plan_verdict}
use Rattle.events.specs.Events.{events_of, events_verdict}
use Rattle.events.proofs.Acceptance as lists
use Rattle.trace.specs.Trace.{of_tick}
use Rattle.state.specs.State.{fresh}
use Rattle.state.specs.declared.State.{State}
use Rattle.state.proofs.Fitting.{fits-exactly}
use Rattle.state.proofs.Fresh.{fresh-fits}
use Rattle.tick.specs.Tick.{tick}
use Rattle.zero.specs.Zero.{kernel_run, ticks_of, all_records, last_state}
use Rattle.zero.proofs.Ticks.{ticks-next}
use Rattle.zero.proofs.Accepted.{tick-from_fresh}
use Rattle.zero.proofs.Theorems.{good, shown, reached, reached_after}
use Rattle.promises.specs.Promises.{AtOnce}
use Rattle.promises.specs.Theorems.{EachTickWritesAtOnce}
use Rattle.promises.proofs.Compose.{ticks-tick}
use Rattle.promises.proofs.Fitted.{ticks-fit}
use Rattle.promises.proofs.Honest.{returned_fits}
use Rattle.promises.proofs.Refused.{service_events}
use Rattle.promises.proofs.Together.{tick-at_once}

-- the fresh state is that before tick 0
fresh-tick : (plan_bytes : List ℕ) → (fresh (plan_of plan_bytes)).tick ≡ 0
unfolding fresh
fresh-tick plan_bytes = refl

-- ---- tick n of a run from the fresh state, with accepted events
pub run_at_once : (plan_bytes event_bytes : List ℕ) → (plan_verdict plan_bytes).number ≡ 0 → (events_verdict plan_bytes event_bytes).number ≡ 0
    → (i : ℕ) → i < length (plan_of plan_bytes).tasks → (n : ℕ) → n < max_time
    → let s = (kernel_run plan_bytes event_bytes n).state in let u = tick (plan_of plan_bytes) (events_of event_bytes) s in AtOnce (plan_of plan_bytes) i s u.entries u.state
run_at_once plan_bytes event_bytes good events i li n early =
    let list = ((lists.accepted_exactly plan_bytes event_bytes).1 events).1 in
    let start = (fits-exactly plan_bytes good (events_of event_bytes) (fresh (plan_of plan_bytes))).0 (fresh-fits plan_bytes good (events_of event_bytes)) in
    let zero-now = fresh-tick plan_bytes in
    let now = ticks-tick plan_bytes event_bytes n (fresh (plan_of plan_bytes)) in
    tick-at_once plan_bytes event_bytes good list i li (kernel_run plan_bytes event_bytes n).state (ticks-fit plan_bytes event_bytes good list n (fresh (plan_of plan_bytes)) (omega arith) start) (omega arith)

-- ---- each tick that the calls of a service ran
pub service_at_once : EachTickWritesAtOnce
service_at_once plan_bytes event_bytes started calls service i li n l started₁ calls₁ service₁ before started₂ calls₂ service₂ behind =
    let plan = plan_of plan_bytes in
    let step = tick plan (events_of event_bytes) in
    let s = (kernel_run plan_bytes event_bytes n).state in
    let last = (returned_fits plan_bytes event_bytes started calls service).tick in
    let same = ap (λ (x : State). x.tick) (reached plan_bytes event_bytes started calls service) ∙ ticks-tick plan_bytes event_bytes (ticks_of calls) (fresh plan) in
    let zero-now = fresh-tick plan_bytes in
    let events = service_events plan_bytes event_bytes started.state calls service.in_turn (omega arith) in
    let at = run_at_once plan_bytes event_bytes (good plan_bytes event_bytes started calls service) events i li n (omega arith) in
    let records : of_tick n (all_records calls) ≡ (step s).entries
    = ap (of_tick n) (shown plan_bytes event_bytes started calls service) ∙ tick-from_fresh plan_bytes event_bytes n (ticks_of calls) l in
    let after : last_state started₂.state calls₂ ≡ (step s).state
    = reached_after plan_bytes event_bytes started₂ calls₂ service₂ (n + 1) behind ∙ ticks-next step n (fresh plan) in
    subst⁻¹ (λ (x : State). AtOnce plan i x (of_tick n (all_records calls)) (last_state started₂.state calls₂))
    (reached_after plan_bytes event_bytes started₁ calls₁ service₁ n before)
    (subst⁻¹ (λ es. AtOnce plan i s es (last_state started₂.state calls₂)) records (subst⁻¹ (λ (x : State). AtOnce plan i s (step s).entries x) after at))
