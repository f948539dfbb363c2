-- The verdict of a call: the plan's and the events', then 12 and 13.
use Prim.Native.Nat.{ℕ, ◌+◌}
use mathlib.Core.Path.{◌≡◌, ◌∙◌}
use mathlib.Core.Bool.{Bool, true, false, cond}
use mathlib.Core.List.{List, [], ◌∷◌}
use lib.Dec.{eqb, leb}
use Rattle.limits.specs.Limits.{max_time}
use Rattle.answers.specs.Answers.{Verdict, verdict, rule, first_broken, or_else}
use Rattle.answers.proofs.Laws.{broken_append}
use Rattle.plan_check.proofs.Laws.{asked}
use Rattle.plan.specs.File.{plan_of}
use Rattle.events.specs.Events.{events_of, check_rules, events_verdict}
use Rattle.events.proofs.Laws.{numbered_check}
use Rattle.state.specs.Fits.{fits}
use Rattle.state.specs.declared.State.{State}
use Rattle.kernel.specs.Call.{call_verdict}

-- ---- `if !answers::accepted(answer)`: what its branch, and what passing it by, tell of the verdict behind the answer
module _ (t : Bool) (v w : Verdict) (question : t ≡ eqb v.number 0) where
  pub refused_by : t ≡ false → v ≡ w → eqb w.number 0 ≡ false
  refused_by taken same = asked false t v w question taken same

  pub accepted_by : t ≡ true → v ≡ w → eqb w.number 0 ≡ true
  accepted_by left same = asked true t v w question left same

-- ---- the verdict of a call
module _ (plan_bytes event_bytes : List ℕ) (s : State) (ticks : ℕ) where
  abbrev fit : Bool
  fit = fits (plan_of plan_bytes) (events_of event_bytes) s

  abbrev soon : Bool
  soon = leb (s.tick + ticks) max_time

  call-first : call_verdict plan_bytes event_bytes s ticks ≡ or_else (events_verdict plan_bytes event_bytes) (cond fit (cond soon (verdict 0 0) (verdict 13 0)) (verdict 12 0))
  unfolding first_broken
  call-first = broken_append (check_rules plan_bytes event_bytes) (rule 12 0 fit ∷ rule 13 0 soon ∷ []) (numbered_check plan_bytes event_bytes)

  pub check_decides : eqb (events_verdict plan_bytes event_bytes).number 0 ≡ false → call_verdict plan_bytes event_bytes s ticks ≡ events_verdict plan_bytes event_bytes
  check_decides e = call-first ∙ rw e

  pub state_decides : eqb (events_verdict plan_bytes event_bytes).number 0 ≡ true
      → call_verdict plan_bytes event_bytes s ticks ≡ cond fit (cond soon (verdict 0 0) (verdict 13 0)) (verdict 12 0)
  state_decides e = call-first ∙ rw e

  -- after the check has accepted, each question of the two decides: f says whether the state fits, l whether there is time
  module _ (checked : eqb (events_verdict plan_bytes event_bytes).number 0 ≡ true) (f : Bool) (fitted : f ≡ fit) where
    pub unfit_is_12 : f ≡ false → call_verdict plan_bytes event_bytes s ticks ≡ verdict 12 0
    unfit_is_12 taken = state_decides checked ∙ rw (← fitted, taken)

    module _ (fits-left : f ≡ true) (l : Bool) (counted : l ≡ soon) where
      pub late_is_13 : l ≡ false → call_verdict plan_bytes event_bytes s ticks ≡ verdict 13 0
      late_is_13 taken = state_decides checked ∙ rw (← fitted, fits-left, ← counted, taken)

      pub all-hold_is_0 : l ≡ true → call_verdict plan_bytes event_bytes s ticks ≡ verdict 0 0
      all-hold_is_0 left = state_decides checked ∙ rw (← fitted, fits-left, ← counted, left)
