-- Document 01, 'Strength of the contracts': kernels, whatever they do, and the useless ones that the contracts shut out.
use Rattle.std.specs.Prelude.{ℕ, suc, ◌≤◌, ◌≡◌, ◌≢◌, Bool, true, false, List, [], ◌∷◌, length}
use Rattle.answers.specs.Answers.{said}
use Rattle.trace.specs.declared.Entry.{Entry}
use Rattle.state.specs.declared.State.{State}
use Rattle.kernel.specs.Call.{start_state, Starts, Runs}
use Rattle.kernel.specs.declared.Started.{Started}
use Rattle.kernel.specs.declared.Outcome.{Outcome}
use Rattle.marked.specs.Marked.{Marked, p1, p6}

-- ---- the examples that tell them apart
-- "(P1) the sample"
abbrev pub one : Marked
one = p1

-- one that leaves another trace: "(P6) amount 20: writes 0 and 20" (P2 would not do: its lines are those of P1)
abbrev pub other : Marked
other = p6

-- room for the seven records, of five words each, that either has in 12 ticks
abbrev pub room_needed : ℕ
room_needed = 35

-- a run of an example from the fresh state on, with any trace that has this room, that meets the contract of the entry
pub record RunsFresh (m : Marked) (n : ℕ) (lent left : List ℕ) (r : Outcome) : Type 0 where
  pub room : room_needed ≤ length lent
  pub runs : Runs m.plan m.events (start_state m.plan) n lent left r

-- "counts of ticks or records": what an outcome says
pub record Counts (t c : ℕ) (r : Outcome) : Type 0 where
  pub ticks : r.ticks ≡ t
  pub records : r.records ≡ c

-- ---- a kernel, whatever it does: what its fresh start answers, what its run answers, and the trace that its run leaves
pub record Kernel : Type 0 where
  pub start : List ℕ → Started
  pub run : List ℕ → List ℕ → State → ℕ → List ℕ → Outcome
  pub left : List ℕ → List ℕ → State → ℕ → List ℕ → List ℕ

-- its run of an example from the fresh state on
abbrev pub ran_on : Kernel → Marked → ℕ → List ℕ → Outcome
ran_on k m n lent = k.run m.plan m.events (start_state m.plan) n lent

-- the trace that this leaves
abbrev pub left_on : Kernel → Marked → ℕ → List ℕ → List ℕ
left_on k m n lent = k.left m.plan m.events (start_state m.plan) n lent

-- it meets the contracts of the two entries there
pub record MeetsOn (k : Kernel) (m : Marked) (n : ℕ) (lent : List ℕ) : Type 0 where
  pub starts : Starts m.plan (k.start m.plan)
  pub runs : RunsFresh m n lent (left_on k m n lent) (ran_on k m n lent)

-- ---- "Four useless kernels have to be shut out"
-- "one refusing every plan": at the fresh start
abbrev pub RefusesEveryPlan : Kernel → Type 0
RefusesEveryPlan k = (plan : List ℕ) → (said (k.start plan).answer).number ≢ 0

-- or at every run
abbrev pub RefusesEveryRun : Kernel → Type 0
RefusesEveryRun k = (plan events : List ℕ) (s : State) (n : ℕ) (lent : List ℕ) → (said (k.run plan events s n lent).answer).number ≢ 0

-- "one returning a fixed trace": the same whatever the plan, the events and the state
abbrev pub FixedTrace : Kernel → Type 0
FixedTrace k =
    (plan events plan' events' : List ℕ) (s s' : State) (n : ℕ) (lent : List ℕ)
    → k.left plan events s n lent ≡ k.left plan' events' s' n lent

-- "one that passes the state through"
abbrev pub PassesTheState : Kernel → Type 0
PassesTheState k = (plan events : List ℕ) (s : State) (n : ℕ) (lent : List ℕ) → (k.run plan events s n lent).state ≡ s

-- "one that runs the first tick and copies afterwards": the signals after more ticks are those after one
abbrev pub CopiesAfterTheFirst : Kernel → Type 0
CopiesAfterTheFirst k =
    (plan events : List ℕ) (s : State) (n : ℕ) (lent : List ℕ)
    → (k.run plan events s (suc n) lent).state.signals ≡ (k.run plan events s 1 lent).state.signals

-- the same call by call: the signals after a call from a state that has a tick behind it are those given
abbrev pub CopiesLater : Kernel → Type 0
CopiesLater k =
    (plan events : List ℕ) (s : State) (n : ℕ) (lent : List ℕ) → s.tick ≢ 0 → (k.run plan events s n lent).state.signals ≡ s.signals

-- whether there are records
unfoldable pub speaks : List Entry → Bool
speaks [] = false
speaks (e ∷ es) = true

-- "a silent kernel": no run has records
abbrev pub Silent : Kernel → Type 0
Silent k = (plan events : List ℕ) (s : State) (n : ℕ) (lent : List ℕ) → (k.run plan events s n lent).records ≡ 0
