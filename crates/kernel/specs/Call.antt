-- Document 01, 'Numbers returned': what a call comes to, for every input.
use Rattle.std.specs.Prelude.{ℕ, zero, suc, ◌+◌, ◌-◌, ◌*◌, cond, ◌≡◌, List, [], ◌∷◌, ◌++◌, length, leb, eqb}
use Rattle.limits.specs.Limits.{max_time}
use Rattle.answers.specs.Answers.{Verdict, verdict, said, Rule, rule, first_broken}
use Rattle.plan.specs.File.{plan_of}
use Rattle.plan.specs.Rules.{plan_verdict}
use Rattle.events.specs.Events.{events_of, check_rules}
use Rattle.trace.specs.Trace.{trace_after}
use Rattle.trace.specs.declared.Entry.{Entry}
use Rattle.state.specs.State.{fresh, zero_state}
use Rattle.state.specs.Fits.{fits}
use Rattle.state.specs.declared.State.{State}
use Rattle.tick.specs.Tick.{Ticked, tick}
use Rattle.kernel.specs.declared.Started.{Started}
use Rattle.kernel.specs.declared.Outcome.{Outcome}

-- ---- "Fresh start checks the plan; if refused it returns the all-zero state."
abbrev pub start_state : List ℕ → State
start_state plan_bytes = cond (eqb (plan_verdict plan_bytes).number 0) (fresh (plan_of plan_bytes)) zero_state

-- what a fresh start answers is all of this, and nothing else
pub record Starts (plan_bytes : List ℕ) (r : Started) : Type 0 where
  pub answer : said r.answer ≡ plan_verdict plan_bytes
  pub state : r.state ≡ start_state plan_bytes

-- ---- "Order: 1, 2, 3; then for each task in turn 4, 5, 6; then 7, 8; 9; for each event in turn 10, 11; then 12, 13."
-- 12: "state not fit for this plan and these events", 13: "tick + asked ticks above 1,000,000"
abbrev pub call_rules : List ℕ → List ℕ → State → ℕ → List Rule
call_rules plan_bytes event_bytes s asked =
    check_rules plan_bytes event_bytes
    ++ (rule 12 0 (fits (plan_of plan_bytes) (events_of event_bytes) s) ∷ rule 13 0 (leb (s.tick + asked) max_time) ∷ [])

abbrev pub call_verdict : List ℕ → List ℕ → State → ℕ → Verdict
call_verdict plan_bytes event_bytes s asked = first_broken (call_rules plan_bytes event_bytes s asked)

-- what a run comes to
pub record CallResult : Type 0 where
  pub verdict : Verdict
  pub ticks : ℕ
  pub state : State
  pub entries : List Entry

abbrev pub stopped : Verdict → State → CallResult
stopped v s = record { verdict = v; ticks = 0; state = s; entries = [] }

-- one tick before a run
abbrev pub onward : Ticked → CallResult → CallResult
onward u r = record { verdict = r.verdict; ticks = suc r.ticks; state = r.state; entries = u.entries ++ r.entries }

-- "A tick is run only if all its records fit": room is the number of words that are left in the trace.
-- 0: "accepted, or all asked ticks run". 14: "trace full before the asked ticks were run"; the ticks already run stand
unfoldable pub run_room : (State → Ticked) → ℕ → ℕ → State → CallResult
run_room step room zero s = stopped (verdict 0 0) s
run_room step room (suc n) s =
    let u = step s in
    let r = run_room step (room - 5 * length u.entries) n u.state in
    cond (leb (5 * length u.entries) room) (onward u r) (stopped (verdict 14 0) s)

-- "1..13 return the given state, 0 ticks, 0 records, trace untouched."
abbrev pub call : List ℕ → List ℕ → State → ℕ → ℕ → CallResult
call plan_bytes event_bytes s asked room =
    let v = call_verdict plan_bytes event_bytes s asked in
    cond (eqb v.number 0) (run_room (tick (plan_of plan_bytes) (events_of event_bytes)) room asked s) (stopped v s)

-- what a run answers and leaves in the lent trace is all of this, and nothing else
pub record Runs (plan_bytes event_bytes : List ℕ) (s : State) (asked : ℕ) (old-trace new-trace : List ℕ) (r : Outcome) : Type 0 where
  pub answer : said r.answer ≡ (call plan_bytes event_bytes s asked (length old-trace)).verdict
  pub ticks : r.ticks ≡ (call plan_bytes event_bytes s asked (length old-trace)).ticks
  pub records : r.records ≡ length (call plan_bytes event_bytes s asked (length old-trace)).entries
  pub state : r.state ≡ (call plan_bytes event_bytes s asked (length old-trace)).state
  pub trace : new-trace ≡ trace_after (call plan_bytes event_bytes s asked (length old-trace)).entries old-trace
