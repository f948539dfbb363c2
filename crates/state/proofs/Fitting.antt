-- Document 01, 'A state fits', proved of the definitions: the test holds exactly when a person who reads the paper would say so.
use Prim.Native.Nat.{ℕ, ◌+◌, ◌-◌, ◌/◌, ◌%◌, ◌<◌, ◌≤◌}
use mathlib.Core.Path.{◌≡◌, refl, ap, ◌∙◌}
use mathlib.Core.Bool.{Bool, true, false, not, ◌&&◌, false≢true}
use mathlib.Core.List.{List}
use mathlib.Core.Logic.Iff
use mathlib.Core.Logic.{◌↔◌, ◌≢◌, ◌⊎◌, inl, inr}
use native.Mathlib.Omega.{arith}
use native.Mathlib.Nat.{pos_of_ne-zero, div-add-mod', mul-mod_left}
use lib.ListN.{length, get_or-eq_default}
use lib.Dec.{eqb, ltb}
use borrow.Author.Tests.{ltb-true, ltb-false, lt-ltb, le-ltb}
use Rattle.limits.specs.Limits.{max_signals, max_tasks, max_state}
use Rattle.words.specs.Words.{words_of}
use Rattle.lists.specs.Lists.{between, Between}
use Rattle.lists.proofs.Laws.{and_left}
use Rattle.lists.proofs.Tests.{tests, choices, and_iff, eqb-iff, leb-iff, all-iff}
use Rattle.plan.specs.File.{Task, task_count, Plan, plan_of, task_at}
use Rattle.plan.specs.Rules.{plan_verdict}
use Rattle.plan.proofs.Laws.{tasks_length}
use Rattle.plan.proofs.Facts.{accepted, task_body_lem}
use Rattle.events.specs.Events.{Event}
use Rattle.state.specs.State.{state_at, nowhere, fresh, zero_state, sized_task, sized}
use Rattle.state.specs.Fits.{in_flight_rule, status_rule, machine_rule, task_fits, is_ready, is_idle, task_rule, fits}
use Rattle.state.specs.Fitting.{PortSizes, StateSizes, InFlight, AtRest, Multiple, Timed, TaskFits, AllZero, Fits, FitsExactlyAsThePaperSays}
use Rattle.state.specs.declared.Status.{Status}
use Rattle.state.specs.declared.Status.TheVariants.{READY, ACTIVE, FINISHED, ERROR}
use Rattle.state.specs.declared.TaskState.{TaskState}
use Rattle.state.specs.declared.State.{State}
use Rattle.state.proofs.Zeros.{zeros_iff, all-tab}
use Rattle.state.proofs.Fresh.{fresh-sized, zero_sized}
use Rattle.state.proofs.Statuses.{ready-active, ready-finished, ready-error, active-finished, rest_flight}

-- ---- sizes
sized_task-iff : (x : TaskState) → (sized_task x ≡ true) ↔ PortSizes x
sized_task-iff x = ((λ e. let h = simp tests at e in record { latched = h.0; held = h.1 }), (λ h. simp tests (h.latched, h.held)))

pub sized-iff : (s : State) → (sized s ≡ true) ↔ StateSizes s
unfolding sized
sized-iff s =
    let each = all-iff sized_task PortSizes sized_task-iff s.tasks in
    let signals = eqb-iff (length s.signals) max_signals in
    let tasks = eqb-iff (length s.tasks) max_tasks in (
      (λ e. let h = simp and_iff at e in record { signals = signals.0 h.0.0; tasks = tasks.0 h.0.1; ports = each.0 h.1 }),
      (λ h. simp and_iff ((signals.1 h.signals, tasks.1 h.tasks), each.1 h.ports)),
    )

-- ---- at rest or in flight
none_ready : InFlight READY → ⊥
none_ready = rest_flight READY (inl refl)

none_error : InFlight ERROR → ⊥
none_error = rest_flight ERROR (inr refl)

active-flies : AtRest ACTIVE → ⊥
active-flies a = rest_flight ACTIVE a (inl refl)

finished-flies : AtRest FINISHED → ⊥
finished-flies a = rest_flight FINISHED a (inr refl)

-- a test of the remainder says it
pub multiple_iff : (d n : ℕ) → (n % d ≡ 0) ↔ Multiple d n
multiple_iff d n = (
  (λ e. record { times = n / d; product = omega (arith, div-add-mod' n d) }),
  (λ h. ap (λ (m : ℕ). m % d) h.product ∙ mul-mod_left h.times d),
)

-- ---- status, remaining ticks and release instant
module _ (t : ℕ) (k : Task) (remaining r : ℕ) where
  record Flight : Type 0 where
    released : r < t
    in_time : 0 < k.deadline → t ≤ r + k.deadline
    offset : 0 < k.period → k.offset ≤ r
    multiple : 0 < k.period → Multiple k.period (r - k.offset)
    in_period : 0 < k.period → t ≤ r + k.period

  flight_rules : (in_flight_rule t k r ≡ true)
      ↔ (((r < t) × (k.deadline ≢ 0 → t ≤ r + k.deadline))
      × (k.period ≢ 0 → ((k.offset ≤ r) × ((r - k.offset) % k.period ≡ 0)) × (t ≤ r + k.period)))
  flight_rules = simp (choices, tests) Iff.rfl

  flight_iff : (in_flight_rule t k r ≡ true) ↔ Flight
  flight_iff = (
    (λ e.
        let h = flight_rules.0 e in
        record {
          released = h.0.0;
          in_time = λ d. h.0.1 (λ z. absurd (omega arith));
          offset = λ p. (h.1 (λ z. absurd (omega arith))).0.0;
          multiple = λ p. (multiple_iff k.period (r - k.offset)).0 (h.1 (λ z. absurd (omega arith))).0.1;
          in_period = λ p. (h.1 (λ z. absurd (omega arith))).1;
        }),
    (λ h. flight_rules.1 (
      (h.released, (λ d. h.in_time (pos_of_ne-zero d))),
      (λ d.
          let p = pos_of_ne-zero d in
          ((h.offset p, (multiple_iff k.period (r - k.offset)).1 (h.multiple p)), h.in_period p)),
    )),
  )

  flies : (status : Status) → InFlight status → Timed t k status remaining r → Flight
  flies status f h = record {
    released = h.released f;
    in_time = h.in_time f;
    offset = h.offset f;
    multiple = h.multiple f;
    in_period = h.in_period f;
  }

  resting : (status : Status) → (InFlight status → ⊥) → AtRest status → ((eqb remaining 0 && eqb r 0) ≡ true) ↔ Timed t k status remaining r
  resting status none rest = (
    (λ e.
        let h = simp tests at e in
        record {
          active = λ a. absurd (none (inl a));
          others = λ d. h.0;
          released = λ f. absurd (none f);
          in_time = λ f. absurd (none f);
          finished = λ f. absurd (none (inr f));
          offset = λ f. absurd (none f);
          multiple = λ f. absurd (none f);
          in_period = λ f. absurd (none f);
          at_rest = λ a. h.1;
        }),
    (λ h. simp tests (h.others (λ a. none (inl a)), h.at_rest rest)),
  )

  -- how a task in flight is timed, but for its remaining ticks and FINISHED's own rule
  flown : (status : Status) → (status ≡ ACTIVE → Between 1 k.execution remaining) → (status ≢ ACTIVE → remaining ≡ 0)
      → (status ≡ FINISHED → 0 < k.deadline) → (AtRest status → ⊥) → Flight → Timed t k status remaining r
  flown status active others finished moving f = record {
    active = active;
    others = others;
    released = λ w. f.released;
    in_time = λ w. f.in_time;
    finished = finished;
    offset = λ w. f.offset;
    multiple = λ w. f.multiple;
    in_period = λ w. f.in_period;
    at_rest = λ a. absurd (moving a);
  }

  status_iff : (status : Status) → (status_rule status t k remaining r ≡ true) ↔ Timed t k status remaining r
  status_iff READY = resting READY none_ready (inl refl)
  status_iff ACTIVE =
      let both = and_iff (between 1 k.execution remaining) (in_flight_rule t k r) in (
        (λ e.
            let h = both.0 e in
            let some = simp tests at h.0 in
            flown ACTIVE (λ a. some) (λ d. absurd (d refl)) (λ z. absurd (active-finished ACTIVE refl z)) active-flies
            (flight_iff.0 h.1)),
        (λ h. both.1 (simp tests (h.active refl), flight_iff.1 (flies ACTIVE (inl refl) h))),
      )
  status_iff FINISHED =
      let both = and_iff (eqb remaining 0 && not (eqb k.deadline 0)) (in_flight_rule t k r) in
      let other : FINISHED ≢ ACTIVE = λ e. active-finished FINISHED e refl in (
        (λ e.
            let h = both.0 e in
            let g = simp tests at h.0 in
            flown FINISHED (λ a. absurd (other a)) (λ d. g.0) (λ w. pos_of_ne-zero g.1) finished-flies (flight_iff.0 h.1)),
        (λ h.
            let late = h.finished refl in
            both.1 (simp tests (h.others other, (λ z. absurd (omega arith))), flight_iff.1 (flies FINISHED (inr refl) h))),
      )
  status_iff ERROR = resting ERROR none_error (inr refl)

-- ---- one task
machine_iff : (k : Task) (machine : ℕ) → (machine_rule k machine ≡ true) ↔ ((k.kind ≡ 1 → Between 1 max_state machine) × (k.kind ≢ 1 → machine ≡ 0))
machine_iff k machine = simp (choices, tests) Iff.rfl

task_iff : (t : ℕ) (k : Task) (x : TaskState) → (k.kind ≡ 1) ⊎ (k.kind ≡ 2) → (task_fits t k x ≡ true) ↔ TaskFits t k x
unfolding task_fits
task_iff t k x either =
    let timed = status_iff t k x.remaining x.release x.status in
    let latched = zeros_iff (length k.inputs) x.latched in
    let held = zeros_iff (length k.outputs) x.held in
    let machine = machine_iff k x.machine in (
      (λ e.
          let h = simp and_iff at e in
          let m = machine.0 h.1 in
          record {
            timed = timed.0 h.0.0.0;
            latched = latched.0 h.0.0.1;
            held = held.0 h.0.1;
            supervisor = m.0;
            controller = λ two. m.1 (λ one. absurd (omega arith));
          }),
      (λ h.
          simp and_iff (
            ((timed.1 h.timed, latched.1 h.latched), held.1 h.held),
            machine.1 (h.supervisor, (λ other. go h other either)),
          )),
    )
  where
    go : TaskFits t k x → k.kind ≢ 1 → (k.kind ≡ 1) ⊎ (k.kind ≡ 2) → x.machine ≡ 0
    go h other (inl one) = absurd (other one)
    go h other (inr two) = h.controller two

ready-iff : (status : Status) → (is_ready status ≡ true) ↔ (status ≡ READY)
ready-iff READY = ((λ e. refl), (λ e. refl))
ready-iff ACTIVE = ((λ e. absurd (false≢true e)), (λ e. absurd (ready-active ACTIVE e refl)))
ready-iff FINISHED = ((λ e. absurd (false≢true e)), (λ e. absurd (ready-finished FINISHED e refl)))
ready-iff ERROR = ((λ e. absurd (false≢true e)), (λ e. absurd (ready-error ERROR e refl)))

idle-iff : (x : TaskState) → (is_idle x ≡ true) ↔ AllZero x
idle-iff x =
    let ready = ready-iff x.status in
    let latched = zeros_iff 0 x.latched in
    let held = zeros_iff 0 x.held in (
      (λ e.
          let h = simp (and_iff, eqb-iff) at e in
          record {
            status = ready.0 h.0.0.0.0.0;
            remaining = h.0.0.0.0.1;
            release = h.0.0.0.1;
            machine = h.0.0.1;
            latched = λ i. latched.0 h.0.1 i (omega arith);
            held = λ i. held.0 h.1 i (omega arith);
          }),
      (λ h.
          simp (and_iff, eqb-iff) (
            ((((ready.1 h.status, h.remaining), h.release), h.machine), latched.1 (λ i low. h.latched i)),
            held.1 (λ i low. h.held i),
          )),
    )

-- ---- all tasks
no_state : AllZero nowhere
no_state = record { status = refl; remaining = refl; release = refl; machine = refl; latched = λ i. refl; held = λ i. refl }

module _ (plan_bytes : List ℕ) (good : (plan_verdict plan_bytes).number ≡ 0) where
  abbrev plan : Plan
  plan = plan_of plan_bytes

  few : length plan.tasks ≤ max_tasks
  few = let most = (accepted plan_bytes good).head.tasks.1 in let size = tasks_length plan_bytes in omega arith

  rule-in : (t i : ℕ) (x : TaskState) → i < length plan.tasks → (task_rule plan t i x ≡ true) ↔ TaskFits t (task_at plan i) x
  unfolding task_rule
  rule-in t i x less =
      let below : i < task_count (words_of plan_bytes) = rw (tasks_length plan_bytes) at less in
      rw (lt-ltb i (length plan.tasks) less) (task_iff t (task_at plan i) x (task_body_lem plan_bytes (accepted plan_bytes good) i below).kind.either)

  rule-out : (t i : ℕ) (x : TaskState) → length plan.tasks ≤ i → (task_rule plan t i x ≡ true) ↔ AllZero x
  unfolding task_rule
  rule-out t i x most = rw (le-ltb i (length plan.tasks) most) (idle-iff x)

  -- every clause, for every task
  clauses_iff : (events : List Event) (s : State) → (fits plan events s ≡ true) ↔ Fits plan events s
  unfolding fits
  clauses_iff events s =
      let size = sized-iff s in
      let signals = zeros_iff (length plan.signals) s.signals in
      let tasks = all-tab (λ i. task_rule plan s.tick i (state_at s.tasks i)) (λ i. i) 0 max_tasks in
      let most = few in (
        (λ e.
            let h = simp (and_iff, eqb-iff, leb-iff) at e in
            let each = tasks.0 h.1.1 in
            let length' = (size.0 h.0).tasks in
            record {
              sizes = size.0 h.0;
              tick = h.1.0.0.0;
              place = h.1.0.0.1;
              signals = signals.0 h.1.0.1;
              tasks = λ i less. (rule-in s.tick i (state_at s.tasks i) less).0 (each i (omega arith) (omega arith));
              rest = λ i from. beyond (size.0 h.0).tasks each i from (ltb i max_tasks) refl;
            }),
        (λ h.
            simp (and_iff, eqb-iff, leb-iff) (
              size.1 h.sizes,
              (((h.tick, h.place), signals.1 h.signals), tasks.1 (λ i low high. within h i (ltb i (length plan.tasks)) refl)),
            )),
      )
    where
      beyond : length s.tasks ≡ max_tasks → ((i : ℕ) → 0 ≤ i → i < 0 + max_tasks → task_rule plan s.tick i (state_at s.tasks i) ≡ true)
          → (i : ℕ) → length plan.tasks ≤ i → (b : Bool) → ltb i max_tasks ≡ b → AllZero (state_at s.tasks i)
      beyond size each i from true e =
          let less = ltb-true i max_tasks e in
          (rule-out s.tick i (state_at s.tasks i) from).0 (each i (omega arith) (omega arith))
      beyond size each i from false e =
          let past = ltb-false i max_tasks e in
          rw (get_or-eq_default s.tasks nowhere {n = i} (omega arith)) no_state

      within : Fits plan events s → (i : ℕ) → (b : Bool) → ltb i (length plan.tasks) ≡ b → task_rule plan s.tick i (state_at s.tasks i) ≡ true
      within h i true e = let less = ltb-true i (length plan.tasks) e in (rule-in s.tick i (state_at s.tasks i) less).1 (h.tasks i less)
      within h i false e = let from = ltb-false i (length plan.tasks) e in (rule-out s.tick i (state_at s.tasks i) from).1 (h.rest i from)

-- so number 12 is given exactly when a person would say that the state does not fit
pub fits-exactly : FitsExactlyAsThePaperSays
fits-exactly plan_bytes good events s = clauses_iff plan_bytes good events s

-- ---- every state that fits, is fresh or is the all-zero one has as many values in each list as the arrays of the code
pub fits-sizes : (plan : Plan) (events : List Event) (s : State) → fits plan events s ≡ true → StateSizes s
unfolding fits
fits-sizes plan events s e = (sized-iff s).0 (and_left (sized s) _ e)

pub fresh-sizes : (plan : Plan) → StateSizes (fresh plan)
fresh-sizes plan = (sized-iff (fresh plan)).0 (fresh-sized plan)

pub zero_sizes : StateSizes zero_state
zero_sizes = (sized-iff zero_state).0 zero_sized
