-- Condition 1: every number is one of the list, a refusal leaves everything as it was, and a full trace keeps the ticks run.
use Prim.Native.Nat.{ℕ, zero, suc, ◌+◌, ◌-◌, ◌*◌, ◌≤◌, ◌<◌}
use mathlib.Core.Path.{◌≡◌, refl, sym, ap, subst, ◌∙◌}
use mathlib.Core.Logic.{◌⊎◌, inl, inr}
use mathlib.Core.Bool.{Bool, true, false, cond}
use mathlib.Core.List.{List, [], ◌∷◌, ◌++◌, map}
use native.Mathlib.Omega.{arith}
use lib.ListN.{length, length-append}
use lib.Dec.{eqb, leb}
use borrow.Author.Tests.{ne_eqb, leb-true, leb-false}
use Rattle.words.specs.Words.{words_of}
use Rattle.lists.specs.Lists.{Every, Between}
use Rattle.lists.proofs.Tests.{every_join, every_weaker}
use Rattle.answers.specs.Answers.{Verdict, verdict, Rule, first_broken}
use Rattle.plan.specs.File.{plan_of, task_bodies}
use Rattle.plan.specs.Rules.{plan_verdict, task_rules, after_all, clash_rules, priority_of, head_rules, each_task, priority_rules, output_rules, plan_rules}
use Rattle.events.specs.Events.{Event, events_of, content_rule, event_rules, event_list_rules, check_rules, events_verdict}
use Rattle.trace.specs.Trace.{lines, trace_after}
use Rattle.state.specs.State.{fresh, zero_state}
use Rattle.state.specs.declared.State.{State}
use Rattle.tick.specs.Tick.{Ticked, tick}
use Rattle.kernel.specs.Call.{call_rules, call_verdict, CallResult, stopped, onward, run_room, call}
use Rattle.zero.proofs.Calls.{call-state, call-trace, call-records}
use Rattle.promises.specs.Theorems.{EveryNumberIsOfTheList, ARefusalLeavesEverything, ARefusedStartIsAllZero, AFullTraceStopsBeforeTheTick}

-- ---- the numbers of rules are below a bound
abbrev Below : ℕ → List Rule → Type 0
Below bound rs = Every (λ r. r.number < bound) rs

-- the first broken one's is, and 0 where none is broken
first_below : (bound : ℕ) → 0 < bound → (rs : List Rule) → Below bound rs → (first_broken rs).number < bound
unfolding first_broken
first_below bound some [] h = some
first_below bound some (r ∷ rs) h = go r.holds (first_below bound some rs h.1)
  where
    go : (b : Bool) → (first_broken rs).number < bound → (cond b (first_broken rs) (verdict r.number r.place)).number < bound
    go true l = l
    go false l = h.0

-- 4, 5 and 6
tasks_below : (s i : ℕ) (bodies : List (List ℕ)) → Below 9 (task_rules s i bodies)
unfolding task_rules
tasks_below s i [] = tt
tasks_below s i (ws ∷ rest) = (omega arith, (omega arith, (omega arith, tasks_below s (i + 1) rest)))

-- 7 and 8
clash_below : (number i : ℕ) (l : List ℕ) (lists : List (List ℕ)) → number < 9 → Below 9 (clash_rules number i l lists)
unfolding clash_rules
clash_below number i l [] h = tt
clash_below number i l (xs ∷ rest) h = (h, clash_below number (i + 1) (after_all l xs) rest h)

-- 10 and 11
events_below : (good : Event → Bool) (i last : ℕ) (events : List Event) → Below 12 (event_rules good i last events)
unfolding event_rules
events_below good i last [] = tt
events_below good i last (e ∷ rest) = (omega arith, (omega arith, events_below good (i + 1) e.instant rest))

-- 1 to 8
plan_rules_below : (bytes : List ℕ) → Below 9 (plan_rules bytes)
unfolding plan_rules
plan_rules_below bytes =
    every_join (λ r. r.number < 9) (head_rules bytes) (each_task bytes ++ (priority_rules bytes ++ output_rules bytes)) (omega arith, (omega arith, (omega arith, tt)))
    (every_join (λ r. r.number < 9) (each_task bytes) (priority_rules bytes ++ output_rules bytes) (tasks_below _ 0 (task_bodies (words_of bytes)))
    (every_join (λ r. r.number < 9) (priority_rules bytes) (output_rules bytes) (clash_below 7 0 [] (map priority_of (plan_of bytes).tasks) (omega arith))
    (clash_below 8 0 [] (map (λ k. k.outputs) (plan_of bytes).tasks) (omega arith))))

-- a plan's number
pub plan_below : (bytes : List ℕ) → (plan_verdict bytes).number < 9
plan_below bytes = first_below 9 (omega arith) (plan_rules bytes) (plan_rules_below bytes)

-- 1 to 11
check_rules_below : (plan_bytes event_bytes : List ℕ) → Below 12 (check_rules plan_bytes event_bytes)
check_rules_below plan_bytes event_bytes =
    every_join (λ r. r.number < 12) (plan_rules plan_bytes) (event_list_rules plan_bytes event_bytes)
    (every_weaker (λ r. r.number < 9) (λ r. r.number < 12) (λ r l. omega arith) (plan_rules plan_bytes) (plan_rules_below plan_bytes))
    (omega arith, events_below (content_rule (plan_of plan_bytes)) 0 0 (events_of event_bytes))

-- a plan's with an event list
pub check_below : (plan_bytes event_bytes : List ℕ) → (events_verdict plan_bytes event_bytes).number < 12
check_below plan_bytes event_bytes = first_below 12 (omega arith) (check_rules plan_bytes event_bytes) (check_rules_below plan_bytes event_bytes)

-- 1 to 13
pub rules_below : (plan_bytes event_bytes : List ℕ) (s : State) (asked : ℕ) → (call_verdict plan_bytes event_bytes s asked).number < 14
rules_below plan_bytes event_bytes s asked =
    first_below 14 (omega arith) (call_rules plan_bytes event_bytes s asked)
    (every_join (λ r. r.number < 14) (check_rules plan_bytes event_bytes) _
    (every_weaker (λ r. r.number < 12) (λ r. r.number < 14) (λ r l. omega arith) (check_rules plan_bytes event_bytes) (check_rules_below plan_bytes event_bytes))
    (omega arith, (omega arith, tt)))

-- ---- a run gives 0 or 14
pub room_number : (step : State → Ticked) (room n : ℕ) (s : State) → ((run_room step room n s).verdict.number ≡ 0) ⊎ ((run_room step room n s).verdict.number ≡ 14)
unfolding run_room
room_number step room zero s = inl refl
room_number step room (suc n) s = go (leb (5 * length (step s).entries) room) (room_number step (room - 5 * length (step s).entries) n (step s).state)
  where
    r : CallResult
    r = run_room step (room - 5 * length (step s).entries) n (step s).state

    go : (b : Bool) → (r.verdict.number ≡ 0) ⊎ (r.verdict.number ≡ 14)
        → let x = cond b (onward (step s) r) (stopped (verdict 14 0) s) in (x.verdict.number ≡ 0) ⊎ (x.verdict.number ≡ 14)
    go true h = h
    go false h = inr refl

-- 14: what is known where it stops
pub record RoomFull (step : State → Ticked) (room n : ℕ) (r : CallResult) : Type 0 where
  pub place : r.verdict.place ≡ 0
  pub fewer : r.ticks < n
  pub full : room < 5 * (length r.entries + length (step r.state).entries)

pub room_full : (step : State → Ticked) (room n : ℕ) (s : State) → (run_room step room n s).verdict.number ≡ 14 → RoomFull step room n (run_room step room n s)
unfolding run_room
room_full step room zero s e = absurd (omega (arith, e))
room_full step room (suc n) s e = go (leb (5 * length (step s).entries) room) refl (room_full step (room - 5 * length (step s).entries) n (step s).state) e
  where
    r : CallResult
    r = run_room step (room - 5 * length (step s).entries) n (step s).state

    go : (b : Bool) → leb (5 * length (step s).entries) room ≡ b
        → (r.verdict.number ≡ 14 → RoomFull step (room - 5 * length (step s).entries) n r)
        → (cond b (onward (step s) r) (stopped (verdict 14 0) s)).verdict.number ≡ 14
        → RoomFull step room (suc n) (cond b (onward (step s) r) (stopped (verdict 14 0) s))
    go true l h z =
        let later = h z in
        let first = leb-true (5 * length (step s).entries) room l in
        let size = length-append (step s).entries r.entries in
        let more = later.full in
        let few = later.fewer in
        record { place = later.place; fewer = omega arith; full = omega arith }
    go false l h z = record { place = refl; fewer = omega arith; full = let more = leb-false (5 * length (step s).entries) room l in omega arith }

-- ---- condition 1
module _ (plan_bytes event_bytes : List ℕ) (s : State) (asked room : ℕ) where
  abbrev step : State → Ticked
  step = tick (plan_of plan_bytes) (events_of event_bytes)

  -- what no rule refuses is a run, and its number is 0 or 14
  accepted_number : eqb (call_verdict plan_bytes event_bytes s asked).number 0 ≡ true
      → let r = call plan_bytes event_bytes s asked room in (r ≡ run_room step room asked s) × ((r.verdict.number ≡ 0) ⊎ (r.verdict.number ≡ 14))
  accepted_number e = rw e (refl, room_number step room asked s)

  -- what a rule refuses is left as it was, and its number is the rule's
  refused_call : eqb (call_verdict plan_bytes event_bytes s asked).number 0 ≡ false → call plan_bytes event_bytes s asked room ≡ stopped (call_verdict plan_bytes event_bytes s asked) s
  refused_call e = rw e

  -- 0 to 14
  call_below : (call plan_bytes event_bytes s asked room).verdict.number ≤ 14
  call_below = go (eqb (call_verdict plan_bytes event_bytes s asked).number 0) refl
    where
      either : (n : ℕ) → (n ≡ 0) ⊎ (n ≡ 14) → n ≤ 14
      either n (inl e) = omega arith
      either n (inr e) = omega arith

      go : (b : Bool) → eqb (call_verdict plan_bytes event_bytes s asked).number 0 ≡ b → (call plan_bytes event_bytes s asked room).verdict.number ≤ 14
      go true e = either _ (accepted_number e).1
      go false e =
          let low = rules_below plan_bytes event_bytes s asked in
          let same = ap (λ (r : CallResult). r.verdict.number) (refused_call e) in
          omega arith

  -- 1 to 13: a rule refused it
  between-refused : Between 1 13 (call plan_bytes event_bytes s asked room).verdict.number
      → call plan_bytes event_bytes s asked room ≡ stopped (call_verdict plan_bytes event_bytes s asked) s
  between-refused h = go (eqb (call_verdict plan_bytes event_bytes s asked).number 0) refl
    where
      neither : (n : ℕ) → Between 1 13 n → (n ≡ 0) ⊎ (n ≡ 14) → ⊥
      neither n h (inl e) = let l = h.0 in absurd (omega arith)
      neither n h (inr e) = let l = h.1 in absurd (omega arith)

      go : (b : Bool) → eqb (call_verdict plan_bytes event_bytes s asked).number 0 ≡ b → call plan_bytes event_bytes s asked room ≡ stopped (call_verdict plan_bytes event_bytes s asked) s
      go true e = absurd (neither _ h (accepted_number e).1)
      go false e = refused_call e

  -- 14: none did
  full_run : (call plan_bytes event_bytes s asked room).verdict.number ≡ 14 → call plan_bytes event_bytes s asked room ≡ run_room step room asked s
  full_run h = go (eqb (call_verdict plan_bytes event_bytes s asked).number 0) refl
    where
      go : (b : Bool) → eqb (call_verdict plan_bytes event_bytes s asked).number 0 ≡ b → call plan_bytes event_bytes s asked room ≡ run_room step room asked s
      go true e = (accepted_number e).0
      go false e =
          let low = rules_below plan_bytes event_bytes s asked in
          let same = ap (λ (r : CallResult). r.verdict.number) (refused_call e) in
          absurd (omega arith)

-- no records, no word touched
trace_none : (lent : List ℕ) → trace_after [] lent ≡ lent
unfolding lines
trace_none lent = refl

-- every number is of the list
pub every_number : EveryNumberIsOfTheList
every_number = (
  (λ plan_bytes r h.
      let low = plan_below plan_bytes in
      let same = ap (λ (v : Verdict). v.number) h.answer in
      omega arith),
  (λ plan_bytes event_bytes s asked lent left r h.
      let low = call_below plan_bytes event_bytes s asked (length lent) in
      let same = ap (λ (v : Verdict). v.number) h.answer in
      omega arith),
)

-- a refusal leaves everything
pub refusal_leaves : ARefusalLeavesEverything
refusal_leaves plan_bytes event_bytes s asked lent left r runs h =
    let e = between-refused plan_bytes event_bytes s asked (length lent) (subst (Between 1 13) (ap (λ (v : Verdict). v.number) runs.answer) h) in
    record {
      state = runs.state ∙ ap (λ (x : CallResult). x.state) e;
      ticks = runs.ticks ∙ ap (λ (x : CallResult). x.ticks) e;
      records = runs.records ∙ ap (λ (x : CallResult). length x.entries) e;
      trace = runs.trace ∙ ap (λ (x : CallResult). trace_after x.entries lent) e ∙ trace_none lent;
    }

-- a refused start is all zero
pub refused_start : ARefusedStartIsAllZero
refused_start plan_bytes r h refused =
    h.state ∙ ap (λ (b : Bool). cond b (fresh (plan_of plan_bytes)) zero_state)
    (ne_eqb (plan_verdict plan_bytes).number 0 (λ e. refused (ap (λ (v : Verdict). v.number) h.answer ∙ e)))

-- a full trace stops before the tick
pub full_stops : AFullTraceStopsBeforeTheTick
full_stops plan_bytes event_bytes s asked lent left r runs full =
    let step = tick (plan_of plan_bytes) (events_of event_bytes) in
    let number = sym (ap (λ (v : Verdict). v.number) runs.answer) ∙ full in
    let e = full_run plan_bytes event_bytes s asked (length lent) number in
    let h = room_full step (length lent) asked s (sym (ap (λ (x : CallResult). x.verdict.number) e) ∙ number) in
    let few = h.fewer in
    let much = h.full in
    let count = runs.ticks ∙ ap (λ (x : CallResult). x.ticks) e in
    let size = runs.records ∙ ap (λ (x : CallResult). length x.entries) e in
    let next = ap (λ (x : State). length (step x).entries) (runs.state ∙ ap (λ (x : CallResult). x.state) e) in
    record {
      place = ap (λ (v : Verdict). v.place) (runs.answer ∙ ap (λ (x : CallResult). x.verdict) e) ∙ h.place;
      fewer = omega arith;
      state = call-state plan_bytes event_bytes s asked lent left r runs;
      records = call-records plan_bytes event_bytes s asked lent left r runs;
      trace = call-trace plan_bytes event_bytes s asked lent left r runs;
      full = omega arith;
    }
