-- What a call that no rule refuses gives: the plan and the events are accepted, the state fits, and there is time.
use Prim.Native.Nat.{ℕ, ◌+◌, ◌<◌, ◌≤◌}
use mathlib.Core.Path.{◌≡◌, refl, sym, ap, subst⁻¹, ◌∙◌}
use mathlib.Core.Logic.{◌≢◌}
use mathlib.Core.Bool.{Bool, true, false, cond}
use mathlib.Core.List.{List}
use native.Mathlib.Omega.{arith}
use lib.Dec.{eqb, leb}
use borrow.Author.Tests.{eqb-true, leb-true, eq-eqb}
use Rattle.limits.specs.Limits.{max_time}
use Rattle.words.specs.Words.{words_of}
use Rattle.words.proofs.Laws.{words_length, part-words}
use Rattle.lists.proofs.Tests.{pairwise_once}
use Rattle.answers.specs.Answers.{Verdict, verdict}
use Rattle.plan.specs.File.{task_count, start_of, length_of, body_of, body_part, plan_of}
use Rattle.plan.specs.Order.{order}
use Rattle.plan.specs.Rules.{plan_verdict}
use Rattle.plan.proofs.Acceptance as plans
use Rattle.plan.proofs.Facts.{accepted, task_shape}
use Rattle.plan_schedule.specs.Schedule.{Schedule, schedule_of}
use Rattle.plan_schedule.proofs.Accepted.{task_in, tasks_few, accepted_distinct, accepted_length, place_task, schedule_count, schedule_says}
use Rattle.events.specs.Events.{events_of, passed, event_count, events_verdict}
use Rattle.events.proofs.Acceptance as lists
use Rattle.state.specs.Fits.{fits}
use Rattle.state.specs.Fitting.{Fits}
use Rattle.state.specs.declared.State.{State}
use Rattle.state.proofs.Laws.{events_parted}
use Rattle.state.proofs.Fitting.{fits-exactly}
use Rattle.tick.specs.Tick.{tick}
use Rattle.arrays.specs.Arrays.{Sized}
use Rattle.steps.specs.Flat.{WholeBodies}
use Rattle.quiet.specs.Quiet.{Distinct}
use Rattle.run.specs.Run.{Asked, run_flat}
use Rattle.whole.specs.Whole.{apart}
use Rattle.whole.proofs.Apart.{apart-sized, whole_apart}
use Rattle.kernel.specs.Call.{call_verdict, call, run_room}
use Rattle.kernel.proofs.Verdict.{check_decides, state_decides}
use Rattle.kernel.proofs.Ticks.{state_of, ran_of, known, run_is}

module _ (plan_bytes event_bytes : List ℕ) (s : State) (asked : ℕ) (good : (call_verdict plan_bytes event_bytes s asked).number ≡ 0) where
  pub events_good : (events_verdict plan_bytes event_bytes).number ≡ 0
  events_good = go (eqb (events_verdict plan_bytes event_bytes).number 0) refl
    where
      go : (b : Bool) → eqb (events_verdict plan_bytes event_bytes).number 0 ≡ b → (events_verdict plan_bytes event_bytes).number ≡ 0
      go true e = eqb-true _ 0 e
      go false e = sym (ap (λ (v : Verdict). v.number) (check_decides plan_bytes event_bytes s asked e)) ∙ good

  pub plan_good : (plan_verdict plan_bytes).number ≡ 0
  plan_good = (plans.accepted_exactly plan_bytes).0 ((lists.accepted_exactly plan_bytes event_bytes).1 events_good).0

  abbrev decided : (cond (fits (plan_of plan_bytes) (events_of event_bytes) s) (cond (leb (s.tick + asked) max_time) (verdict 0 0) (verdict 13 0)) (verdict 12 0)).number ≡ 0
  decided = sym (ap (λ (v : Verdict). v.number) (state_decides plan_bytes event_bytes s asked (eq-eqb _ 0 events_good))) ∙ good

  both : (fits (plan_of plan_bytes) (events_of event_bytes) s ≡ true) × (s.tick + asked ≤ max_time)
  both = go (fits (plan_of plan_bytes) (events_of event_bytes) s) (leb (s.tick + asked) max_time) refl decided
    where
      go : (f l : Bool) → leb (s.tick + asked) max_time ≡ l → (cond f (cond l (verdict 0 0) (verdict 13 0)) (verdict 12 0)).number ≡ 0 → (f ≡ true) × (s.tick + asked ≤ max_time)
      go true true e z = (refl, leb-true _ _ e)
      go true false e z = absurd (omega (arith, z))
      go false l e z = absurd (omega (arith, z))

  pub fitting : Fits (plan_of plan_bytes) (events_of event_bytes) s
  fitting = (fits-exactly plan_bytes plan_good (events_of event_bytes) s).0 both.0

  -- the state is the one that its arrays hold
  state_is : state_of s.tick (passed s.tick (events_of event_bytes)) (apart s) ≡ s
  state_is = rw (whole_apart s fitting.sizes, ← fitting.place)

  pub sizes : Sized (apart s)
  sizes = apart-sized s fitting.sizes

  -- a run may be asked of the arrays
  pub may_run : Asked (schedule_of plan_bytes).count (event_count event_bytes) asked (record { tick = s.tick; place = s.place; at = 0 })
  may_run =
      let list = ((lists.accepted_exactly plan_bytes event_bytes).1 events_good).1 in
      let size = list.size in
      record {
        rows = rw (schedule_count plan_bytes plan_good) (tasks_few plan_bytes plan_good);
        events = omega arith;
        place = rw fitting.place (events_parted plan_bytes event_bytes events_good s.tick).bound;
        ticks = both.1;
        word = refl;
      }

  -- no two rows are of the same task
  pub rows_distinct : Distinct (schedule_of plan_bytes).rows (schedule_of plan_bytes).count
  rows_distinct j k hj hk e =
      let count = schedule_count plan_bytes plan_good in
      let all = accepted_length plan_bytes plan_good in
      let first = (schedule_says plan_bytes plan_good j (omega arith)).task in
      let second = (schedule_says plan_bytes plan_good k (omega arith)).task in
      pairwise_once ◌≢◌ 0 (order (plan_of plan_bytes)) (accepted_distinct plan_bytes plan_good) j k (omega arith) (omega arith)
      (λ other. other (sym first ∙ e ∙ second)) (λ other. other (sym second ∙ sym e ∙ first))

  -- the body part of each row's task has the length that its counts say
  pub bodies_whole : WholeBodies plan_bytes (schedule_of plan_bytes).rows (schedule_of plan_bytes).count
  bodies_whole j h =
      let ws = words_of plan_bytes in
      let i = task_in plan_bytes j in
      let count = schedule_count plan_bytes plan_good in
      let below : j < task_count ws = omega arith in
      let words : words_of (body_part plan_bytes i) ≡ body_of ws (i + 1) = part-words plan_bytes (start_of ws (i + 1)) (length_of ws (i + 1)) in
      let size = rw words at (words_length (body_part plan_bytes i)) in
      let formula = (task_shape plan_bytes (accepted plan_bytes plan_good) i (place_task plan_bytes plan_good j below)).formula in
      rw ((schedule_says plan_bytes plan_good j below).task, words) (omega arith)

  -- the same of rows and a count that are the plan's schedule, as the code has them
  module _ (rows : List ℕ) (count : ℕ) (schedule : ◌≡◌ {A = Schedule} (record { rows = rows; count = count }) (schedule_of plan_bytes)) where
    pub may_run_of : Asked count (event_count event_bytes) asked (record { tick = s.tick; place = s.place; at = 0 })
    may_run_of = subst⁻¹ (λ (x : Schedule). Asked x.count (event_count event_bytes) asked (record { tick = s.tick; place = s.place; at = 0 })) schedule may_run

    pub distinct_of : Distinct rows count
    distinct_of = subst⁻¹ (λ (x : Schedule). Distinct x.rows x.count) schedule rows_distinct

    pub bodies_of_lem : WholeBodies plan_bytes rows count
    bodies_of_lem = subst⁻¹ (λ (x : Schedule). WholeBodies plan_bytes x.rows x.count) schedule bodies_whole

  -- and what it comes to is the call
  pub call-is : (room : ℕ) → call plan_bytes event_bytes s asked room ≡ ran_of s.tick (run_flat (known plan_bytes event_bytes plan_good events_good) room asked s.tick s.place (apart s))
  call-is room =
      rw (eq-eqb (call_verdict plan_bytes event_bytes s asked).number 0 good)
      (ap (run_room (tick (plan_of plan_bytes) (events_of event_bytes)) room asked) (sym state_is)
      ∙ run_is plan_bytes event_bytes plan_good events_good asked room s.tick (apart s) (apart-sized s fitting.sizes)
      ∙ ap (λ (p : ℕ). ran_of s.tick (run_flat (known plan_bytes event_bytes plan_good events_good) room asked s.tick p (apart s))) (sym fitting.place))
