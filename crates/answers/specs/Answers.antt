-- Document 01, 'Numbers returned'.
use Rattle.std.specs.Prelude.{ℕ, Bool, true, cond, ◌&&◌, List, [], ◌∷◌, eqb, ⊤, Result, Ok, Err}
use Rattle.answers.specs.declared.Refusal.{Refusal}
use Rattle.answers.specs.declared.Refusal.TheVariants.{PlanSize, PlanHead, PlanContents, TaskShape, TaskTiming, TaskBody, SamePriority, SameOutput, EventSize, EventInstant, EventContent, StateUnfit, TooManyTicks, TraceFull, NoSuchTask}

-- "A place goes with the number: the task for 4..6, the later task of the first clash (smallest task number) for 7 and 8, the
-- record for 10 and 11, otherwise 0."
pub record Verdict : Type 0 where
  pub number : ℕ
  pub place : ℕ

abbrev pub verdict : ℕ → ℕ → Verdict
verdict number place = record { number = number; place = place }

-- number and place of each refusal
abbrev pub refused : Refusal → Verdict
refused PlanSize = verdict 1 0
refused PlanHead = verdict 2 0
refused PlanContents = verdict 3 0
refused (TaskShape task) = verdict 4 task
refused (TaskTiming task) = verdict 5 task
refused (TaskBody task) = verdict 6 task
refused (SamePriority task) = verdict 7 task
refused (SameOutput task) = verdict 8 task
refused EventSize = verdict 9 0
refused (EventInstant record') = verdict 10 record'
refused (EventContent record') = verdict 11 record'
refused StateUnfit = verdict 12 0
refused TooManyTicks = verdict 13 0
refused TraceFull = verdict 14 0
refused NoSuchTask = verdict 26 0

-- what a call answers: accepted, or a refusal
abbrev pub Answer : Type 0
Answer = Result ⊤ Refusal

-- number and place of each answer
abbrev pub said : Answer → Verdict
said (Ok _) = verdict 0 0
said (Err refusal) = refused refusal

-- ---- "Given exactly when": rules in the paper's order
-- a rule, with the number that a call returns where it is broken, and the place
pub record Rule : Type 0 where
  pub number : ℕ
  pub place : ℕ
  pub holds : Bool

abbrev pub rule : ℕ → ℕ → Bool → Rule
rule number place holds = record { number = number; place = place; holds = holds }

-- number and place of the first broken rule; 0 where none is broken
unfoldable pub first_broken : List Rule → Verdict
first_broken [] = verdict 0 0
first_broken (r ∷ rs) = cond r.holds (first_broken rs) (verdict r.number r.place)

-- every rule of a list holds
unfoldable pub all_hold : List Rule → Bool
all_hold [] = true
all_hold (r ∷ rs) = r.holds && all_hold rs

-- the first of two verdicts that refuses
abbrev pub or_else : Verdict → Verdict → Verdict
or_else v w = cond (eqb v.number 0) w v
