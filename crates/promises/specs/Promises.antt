-- Document 01, promises to a user: runs compose, a state that the kernel returned fits, and a move is seen whole or not at all.
use Rattle.std.specs.Prelude.{ℕ, ◌+◌, ◌*◌, ◌<◌, ◌≤◌, ◌≡◌, ◌≢◌, ◌⊎◌, cond, List, [], ◌∷◌, ◌++◌, length, get_or, eqb}
use Rattle.lists.specs.Lists.{tab, Every, Pairwise, In}
use Rattle.answers.specs.Answers.{said}
use Rattle.plan.specs.File.{Action, Task, Plan, task_at}
use Rattle.events.specs.Events.{Event}
use Rattle.trace.specs.Trace.{write_kind, write_entry, trace_after, records_in}
use Rattle.trace.specs.declared.Entry.{Entry}
use Rattle.state.specs.State.{value_at, state_at}
use Rattle.state.specs.declared.State.{State}
use Rattle.state.specs.declared.Status.TheVariants.{ERROR}
use Rattle.tick.specs.Tick.{tick}
use Rattle.kernel.specs.Call.{Runs}
use Rattle.kernel.specs.declared.Outcome.{Outcome}
use Rattle.zero.specs.Zero.{ticks, Called, records_of}

-- ---- 1. "1..13 return the given state, 0 ticks, 0 records, trace untouched."
pub record Untouched (s : State) (lent left : List ℕ) (r : Outcome) : Type 0 where
  pub state : r.state ≡ s
  pub ticks : r.ticks ≡ 0
  pub records : r.records ≡ 0
  pub trace : left ≡ lent

-- 14: "trace full before the asked ticks were run": fewer ticks than asked were run, their records are in the trace and no other
-- word of it is touched, and those of the next tick have no room
pub record StopsBefore (plan : Plan) (events : List Event) (s : State) (asked : ℕ) (lent left : List ℕ) (r : Outcome) : Type 0 where
  pub place : (said r.answer).place ≡ 0
  pub fewer : r.ticks < asked
  pub state : r.state ≡ (ticks (tick plan events) r.ticks s).state
  pub records : records_in left r.records ≡ (ticks (tick plan events) r.ticks s).entries
  pub trace : left ≡ trace_after (ticks (tick plan events) r.ticks s).entries lent
  pub full : length lent < 5 * (r.records + length (tick plan events r.state).entries)

-- ---- 2. Runs compose
-- what a call gave, from a state on
abbrev pub CalledFrom : List ℕ → List ℕ → State → Called → Type 0
CalledFrom plan_bytes event_bytes s c = Runs plan_bytes event_bytes s c.asked c.lent c.left c.outcome

-- number 0: it ran all ticks that it was asked
abbrev pub AllRun : Called → Type 0
AllRun c = (said c.outcome.answer).number ≡ 0

-- one call gave what two gave, one after the other: the last state, "ticks run" added, the records joined, "from the trace's start"
pub record Composed (first second one : Called) : Type 0 where
  pub answer : AllRun one
  pub state : one.outcome.state ≡ second.outcome.state
  pub ticks : one.outcome.ticks ≡ first.outcome.ticks + second.outcome.ticks
  pub count : one.outcome.records ≡ first.outcome.records + second.outcome.records
  pub records : records_of one ≡ records_of first ++ records_of second
  pub trace : one.left ≡ trace_after (records_of first ++ records_of second) one.lent

-- ---- 3. A move is seen whole or not at all
-- "2 write": no record of a list is a write of task i
abbrev pub NoWrite : ℕ → List Entry → Type 0
NoWrite i es = Every (λ e. e.kind ≡ write_kind → e.task ≢ i) es

-- "2 write (one for each output, in position order)": the records of task i that writes its held outputs at tick t
abbrev pub write_records : ℕ → ℕ → Task → List ℕ → List Entry
write_records t i k held = tab (λ p. write_entry t i (get_or k.outputs p 0) (get_or held p 0)) 0 (length k.outputs)

-- of a list of records these stand together, and no other is a write of task i
pub record Together (t i : ℕ) (k : Task) (held : List ℕ) (es : List Entry) : Type 0 where
  pub earlier : List Entry
  pub later : List Entry
  pub split : es ≡ earlier ++ write_records t i k held ++ later
  pub none_earlier : NoWrite i earlier
  pub none_later : NoWrite i later

-- the held outputs that task i writes in a tick that leads from s to s', if it does: with D > 0 those that it had ("FINISHED writes
-- all held outputs"), with D = 0 those that its body left ("it writes at once")
abbrev pub held_for : Plan → ℕ → State → State → List ℕ
held_for plan i s s' = cond (eqb (task_at plan i).deadline 0) (state_at s'.tasks i).held (state_at s.tasks i).held

-- the signal that task i writes at a position
abbrev pub output_of : Plan → ℕ → ℕ → ℕ
output_of plan i p = get_or (task_at plan i).outputs p 0

-- in a tick that leads from s to s' with these records task i writes nothing, and each signal that it writes is as it was; or it
-- writes once, all its held outputs, and each of these signals has its value
pub data AtOnce (plan : Plan) (i : ℕ) (s : State) (es : List Entry) (s' : State) : Type 0 where
  nothing : NoWrite i es
      → ((p : ℕ) → p < length (task_at plan i).outputs → value_at s'.signals (output_of plan i p) ≡ value_at s.signals (output_of plan i p))
      → AtOnce plan i s es s'
  everything : Together s.tick i (task_at plan i) (held_for plan i s s') es
      → ((p : ℕ) → p < length (task_at plan i).outputs → value_at s'.signals (output_of plan i p) ≡ get_or (held_for plan i s s') p 0)
      → AtOnce plan i s es s'

-- added as whole numbers: a value for each position of a list
unfoldable pub sum_of : (ℕ → ℕ) → List ℕ → ℕ
sum_of f [] = 0
sum_of f (p ∷ ps) = f p + sum_of f ps

-- the signals that task i writes at positions of a list, added: what a reader of the signals sees in the listed safes
abbrev pub total_of : Plan → ℕ → List ℕ → List ℕ → ℕ
total_of plan i ps signals = sum_of (λ p. value_at signals (output_of plan i p)) ps

-- "4 move: .. m goes from a to b", both ends in the list
abbrev pub MovesWithin : List ℕ → Action → Type 0
MovesWithin ps x = (x.kind ≡ 4) × In x.a ps × In x.b ps

-- an action that touches none of the list: not "a", and in a move not "b"
abbrev pub Elsewhere : List ℕ → Action → Type 0
Elsewhere ps x = Every (λ p. p ≢ x.a) ps × (x.kind ≡ 4 → Every (λ p. p ≢ x.b) ps)

-- positions of a task's outputs that only moves touch, and only from one of them to another
pub record OnlyMoves (k : Task) (ps : List ℕ) : Type 0 where
  pub outputs : Every (λ p. p < length k.outputs) ps
  pub once : Pairwise ◌≢◌ ps
  -- a supervisor's first two, its state and whether it is new, are none of them
  pub reports : k.kind ≡ 1 → Every (λ p. 2 ≤ p) ps
  pub actions : Every (λ x. MovesWithin ps x ⊎ Elsewhere ps x) k.actions

-- ---- 4. "All ERRORs last."
-- task i is in ERROR
abbrev pub InError : ℕ → State → Type 0
InError i s = (state_at s.tasks i).status ≡ ERROR
