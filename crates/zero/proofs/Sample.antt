-- The plans, events and calls that instances are computed of: document 01's sample with some of its numbers open, and a supervisor
-- that events release.
use Rattle.std.specs.Prelude.{Ok}
use Prim.Native.Nat.{ℕ, ◌/◌, ◌%◌}
use mathlib.Core.Path.{◌≡◌, refl}
use mathlib.Core.List.{List, [], ◌∷◌}
use lib.ListN.{length, replicate}
use Rattle.answers.specs.Answers.{said, Answer}
use Rattle.plan.specs.File.{plan_of}
use Rattle.trace.specs.Trace.{trace_after}
use Rattle.state.specs.State.{fresh}
use Rattle.state.specs.declared.State.{State}
use Rattle.kernel.specs.Call.{Runs, call, CallResult}
use Rattle.kernel.specs.declared.Started.{Started}
use Rattle.kernel.proofs.Computing.{computing_kernel}
use Rattle.zero.specs.Zero.{ticks, Called, ticks_of, all_records, last_state}

-- ---- files
-- words as bytes
unfoldable pub bytes_of : List ℕ → List ℕ
bytes_of [] = []
bytes_of (w ∷ ws) = w % 256 ∷ w / 256 % 256 ∷ w / 65536 % 256 ∷ w / 16777216 % 256 ∷ bytes_of ws

-- the sample: task 0 with a priority, a deadline, an execution time, a second output, and kind and b of its action; task 1 with a priority
unfoldable pub sample_with : ℕ → ℕ → ℕ → ℕ → ℕ → ℕ → ℕ → List ℕ
sample_with priority deadline execution second kind b other =
    bytes_of
    (1 ∷ 5 ∷ 2 ∷ 9 ∷ 5 ∷ 14 ∷ 21 ∷ 35 ∷ 13
    ∷ 1 ∷ 1 ∷ 5 ∷ 20 ∷ 0
    ∷ priority ∷ 10 ∷ deadline ∷ execution ∷ 0 ∷ 2 ∷ 0 ∷ 3 ∷ 2 ∷ 0 ∷ 1 ∷ 0 ∷ 1 ∷ 2 ∷ 3 ∷ second ∷ 1 ∷ kind ∷ 0 ∷ b ∷ 2
    ∷ other ∷ 5 ∷ 4 ∷ 2 ∷ 0 ∷ 2 ∷ 0 ∷ 2 ∷ 0 ∷ 0 ∷ 0 ∷ 0 ∷ 1 ∷ [])

-- (P1) the sample
abbrev pub p1 : List ℕ
p1 = sample_with 2 8 3 4 4 1 1

-- (P3) task 0 with execution 5
abbrev pub p3 : List ℕ
p3 = sample_with 2 8 5 4 4 1 1

-- (P4) priorities swapped and task 0 with execution 2
abbrev pub p4 : List ℕ
p4 = sample_with 1 8 2 4 4 1 2

-- task 0 with deadline 0
abbrev pub p0 : List ℕ
p0 = sample_with 2 0 3 4 4 1 1

-- a supervisor with deadline 3 and an execution time, in state 1, which takes its only transition to state 2 and then sets its third output to 22
unfoldable pub supervisor_with : ℕ → List ℕ
supervisor_with execution =
    bytes_of
    (1 ∷ 5 ∷ 1 ∷ 7 ∷ 5 ∷ 12 ∷ 25
    ∷ 1 ∷ 7 ∷ 0 ∷ 0 ∷ 0
    ∷ 16 ∷ 0 ∷ 3 ∷ execution ∷ 0 ∷ 1 ∷ 1 ∷ 2 ∷ 3 ∷ 1 ∷ 1 ∷ 0 ∷ 1 ∷ 2 ∷ 3 ∷ 4 ∷ 1 ∷ 0 ∷ 1 ∷ 2 ∷ 2 ∷ 1 ∷ 2 ∷ 0 ∷ 22 ∷ [])

-- events that release it at 0 and at 3, and set its second input between
unfoldable pub released : List ℕ
released = bytes_of (0 ∷ 1 ∷ 0 ∷ 0 ∷ 2 ∷ 2 ∷ 1 ∷ 9 ∷ 3 ∷ 1 ∷ 0 ∷ 0 ∷ [])

-- an event at 0 that sets a signal to 7
unfoldable pub sets_at0 : ℕ → List ℕ
sets_at0 signal = bytes_of (0 ∷ 2 ∷ signal ∷ 7 ∷ [])

-- ---- a fresh start, and calls from a state on with a lent trace of so many words
abbrev pub started : List ℕ → Started
started bytes = record { answer = Ok tt; state = fresh (plan_of bytes) }

-- so many words of trace
abbrev pub room : ℕ → List ℕ
room words = replicate words 0

-- what a call comes to
abbrev pub ran : List ℕ → List ℕ → State → ℕ → ℕ → CallResult
ran bytes events s n words = call bytes events s n (length (room words))

-- that call, with its answer
abbrev pub called : Answer → List ℕ → List ℕ → State → ℕ → ℕ → Called
called a bytes events s n words =
    let r = ran bytes events s n words in
    record {
      asked = n;
      lent = room words;
      left = trace_after r.entries (room words);
      outcome = record { answer = a; ticks = r.ticks; records = length r.entries; state = r.state };
    }

-- it is what the entry gives
pub runs_of : (a : Answer) (bytes events : List ℕ) (s : State) (n words : ℕ) → said a ≡ (ran bytes events s n words).verdict
    → let c = called a bytes events s n words in Runs bytes events s c.asked c.lent c.left c.outcome
runs_of a bytes events s n words e = record { answer = e; ticks = refl; records = refl; state = refl; trace = refl }

-- ---- a proof that computes them says `unfolding computing_sample`
unfoldable pub computing_sample : Unit {0}
unfolding computing_kernel ticks ticks_of all_records last_state bytes_of sample_with supervisor_with released sets_at0
computing_sample = tt
