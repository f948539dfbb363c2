-- A run of ticks over the arrays, as the code does it.
use Rattle.std.specs.Prelude.{ℕ, zero, suc, ◌+◌, ◌-◌, ◌*◌, ◌<◌, ◌≤◌, ◌^◌, ◌≡◌, Bool, true, false, cond, List, [], ◌++◌, length, leb}
use Rattle.limits.specs.Limits.{max_tasks, max_time}
use Rattle.trace.specs.Trace.{over}
use Rattle.trace.specs.declared.Entry.{Entry}
use Rattle.arrays.specs.Arrays.{Arrays, Step}
use Rattle.step.specs.Step.{Given, place_after, step_flat}
use Rattle.step.specs.declared.Clock.{Clock}
use Rattle.quiet.specs.Quiet.{Distinct, Wakes}
use Rattle.run.specs.declared.Ran.{Ran}

-- what a run over the arrays comes to
pub record Went : Type 0 where
  pub full : Bool
  pub ticks : ℕ
  pub place : ℕ
  pub arrays : Arrays
  pub entries : List Entry

abbrev pub halted : Bool → ℕ → Arrays → Went
halted full place a = record { full = full; ticks = 0; place = place; arrays = a; entries = [] }

abbrev pub further : Step → Went → Went
further u w = record { full = w.full; ticks = suc w.ticks; place = w.place; arrays = w.arrays; entries = u.entries ++ w.entries }

-- "A tick is run only if all its records fit": room is the number of words that are left in the trace
unfoldable pub run_flat : Given → ℕ → ℕ → ℕ → ℕ → Arrays → Went
run_flat g room zero t place a = halted false place a
run_flat g room (suc n) t place a =
    let u = step_flat g t place a in
    let w = run_flat g (room - 5 * length u.entries) n (t + 1) (place_after g t place) u.arrays in
    cond (leb (5 * length u.entries) room) (further u w) (halted true place a)

-- what a loop over ticks keeps: w₀ is the whole run, w what is left of it, `ticks` of them done and the trace filled up to word `at`
pub record Sofar (w₀ w : Went) (ticks : ℕ) (trace₀ now : List ℕ) (at : ℕ) : Type 0 where
  pub full : w₀.full ≡ w.full
  pub count : w₀.ticks ≡ ticks + w.ticks
  pub place : w₀.place ≡ w.place
  pub arrays : w₀.arrays ≡ w.arrays
  pub trace : over trace₀ 0 w₀.entries ≡ over now at w.entries
  pub word : 5 * length w₀.entries ≡ at + 5 * length w.entries

-- what is left of a run, with a trace of so many words, after a turn: nothing where the trace was full
abbrev pub left_after : Given → ℕ → ℕ → Ran → Arrays → Went
left_after g words left r a =
    cond r.full (halted true r.clock.place a) (run_flat g (words - r.clock.at) (left - r.ticks) r.clock.tick r.clock.place a)

-- one turn of a run that has `left` ticks left, from the clock, the arrays and the trace before it to those after it: what was
-- left before it comes to what is left after it
pub record Turned (g : Given) (left : ℕ) (clock : Clock) (a : Arrays) (old : List ℕ) (r : Ran) (a' : Arrays) (new : List ℕ) : Type 0 where
  pub most : r.ticks ≤ left
  pub tick : r.clock.tick ≡ clock.tick + r.ticks
  pub place : r.clock.place ≤ g.records
  pub near : r.clock.at ≤ clock.at + r.ticks * 2 ^ 41
  pub room : r.clock.at ≤ length old
  pub sofar : (w₀ : Went) (done : ℕ) (trace₀ : List ℕ) → Sofar w₀ (run_flat g (length old - clock.at) left clock.tick clock.place a) done trace₀ old clock.at
      → Sofar w₀ (left_after g (length old) left r a') (done + r.ticks) trace₀ new r.clock.at

-- what the code of a run returns and leaves, by what the definition says of it
pub record Ends (clock : Clock) (r : Ran) (after : Arrays) (old-trace new-trace : List ℕ) (w : Went) : Type 0 where
  pub full : r.full ≡ w.full
  pub ticks : r.ticks ≡ w.ticks
  pub tick : r.clock.tick ≡ clock.tick + w.ticks
  pub place : r.clock.place ≡ w.place
  pub arrays : after ≡ w.arrays
  pub trace : new-trace ≡ over old-trace 0 w.entries
  pub word : r.clock.at ≡ 5 * length w.entries
  pub room : 5 * length w.entries ≤ length old-trace

-- what a run knows of its rows, to leave out turns: they are of different tasks, and each has an instant
pub record Watched (rows : List ℕ) (count : ℕ) (tasks : List ℕ) (t : ℕ) (wakes : List ℕ) : Type 0 where
  pub distinct : Distinct rows count
  pub instants : Wakes rows tasks count t wakes

-- what a run may be asked: from the trace's start, no further than the last tick
pub record Asked (count records asked : ℕ) (clock : Clock) : Type 0 where
  pub rows : count ≤ max_tasks
  pub events : records < 2 ^ 30
  pub place : clock.place ≤ records
  pub ticks : clock.tick + asked ≤ max_time
  pub word : clock.at ≡ 0
