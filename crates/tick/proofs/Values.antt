-- What a turn of each step leaves of a task's machine state, latched inputs and held outputs, and what it writes.
use Prim.Native.Nat.{ℕ, ◌+◌, ◌-◌}
use mathlib.Core.Path.{◌≡◌, refl}
use mathlib.Core.Logic.{◌≢◌, ◌⊎◌, inl, inr}
use mathlib.Core.Bool.{true, not}
use mathlib.Core.List.{List, [], map}
use native.Mathlib.Omega.{arith}
use lib.Dec.{eqb}
use Rattle.lists.specs.Lists.{Every}
use Rattle.lists.proofs.Laws.{and_left}
use Rattle.lists.proofs.Tests.{not_iff, every_replicate}
use Rattle.plan.specs.File.{Task}
use Rattle.events.specs.Events.{Event}
use Rattle.trace.specs.Trace.{write_kind, write_entry}
use Rattle.trace.specs.declared.Entry.{Entry}
use Rattle.state.specs.declared.TaskState.{TaskState}
use Rattle.tick.specs.Turns.{Write, Turn, finish, writes_of, at_deadline, deadline_turn, release, release_turn, run_turn}
use Rattle.tick.proofs.Cases.{Deadline, rests, misses, writes, deadline_is, calls_now, Release, starts, overruns, stays, release-is, Running, goes_on, finishes, writes_at_once, run_is}

-- ---- machine state, latched inputs and held outputs are as they were
pub record SameValues (x y : TaskState) : Type 0 where
  pub machine : y.machine ≡ x.machine
  pub latched : y.latched ≡ x.latched
  pub held : y.held ≡ x.held

-- a task state with itself
same_values : (x : TaskState) → SameValues x x
same_values x = record { machine = refl; latched = refl; held = refl }

-- step 1 changes none of them
pub deadline_values : (t i : ℕ) (k : Task) (x : TaskState) → SameValues x (deadline_turn t i k x).state
deadline_values t i k x = go (deadline_is t i k x)
  where
    go : {u : Turn} → Deadline t i k x u → SameValues x u.state
    go (rests f) = same_values x
    go (misses a z) = record { machine = refl; latched = refl; held = refl }
    go (writes f z) = record { machine = refl; latched = refl; held = refl }

-- step 2: none, or the task is released
pub release-values : (start : Task → TaskState → TaskState) (t : ℕ) (signals : List ℕ) (now : List Event) (i : ℕ) (k : Task) (x : TaskState)
    → let y = (release_turn start t signals now i k x).state in SameValues x y ⊎ (y ≡ start k (release t signals k x))
release-values start t signals now i k x = go (release-is start t signals now i k x)
  where
    go : {u : Turn} → Release start t signals now i k x u → SameValues x u.state ⊎ (u.state ≡ start k (release t signals k x))
    go (starts e a) = inr refl
    go (overruns e p d a) = inl (record { machine = refl; latched = refl; held = refl })
    go (stays h) = inl (same_values x)

-- step 3: none, or the body has run
pub run_values : (t i : ℕ) (k : Task) (x : TaskState) → let y = (run_turn t i k x).state in SameValues x y ⊎ SameValues (finish k x) y
run_values t i k x = go (run_is t i k x)
  where
    go : {u : Turn} → Running t i k x u → SameValues x u.state ⊎ SameValues (finish k x) u.state
    go (goes_on d) = inl (record { machine = refl; latched = refl; held = refl })
    go (finishes z d) = inr (record { machine = refl; latched = refl; held = refl })
    go (writes_at_once z d) = inr (record { machine = refl; latched = refl; held = refl })

-- ---- what is written
-- the records of writes
abbrev pub write_entries : ℕ → ℕ → List Write → List Entry
write_entries t i ws = map (λ w. write_entry t i w.signal w.value) ws

-- a turn writes nothing and records no write
pub record NothingWritten (u : Turn) : Type 0 where
  pub writes : u.writes ≡ []
  pub entries : Every (λ e. e.kind ≢ write_kind) u.entries

-- a turn writes all held outputs that it leaves, with a record for each
pub record AllWritten (t i : ℕ) (k : Task) (u : Turn) : Type 0 where
  pub writes : u.writes ≡ writes_of k.outputs u.state.held
  pub entries : u.entries ≡ write_entries t i (writes_of k.outputs u.state.held)

-- a deadline that is now is given
pub deadline_given : (t : ℕ) (k : Task) (r : ℕ) → at_deadline t k r ≡ true → k.deadline ≢ 0
deadline_given t k r z = (not_iff k.deadline 0).0 (and_left (not (eqb k.deadline 0)) (eqb t (r + k.deadline)) z)

-- step 1: nothing, or with D > 0 everything
pub deadline_writing : (t i : ℕ) (k : Task) (x : TaskState)
    → let u = deadline_turn t i k x in NothingWritten u ⊎ ((k.deadline ≢ 0) × AllWritten t i k u)
deadline_writing t i k x = go (deadline_is t i k x)
  where
    go : {u : Turn} → Deadline t i k x u → NothingWritten u ⊎ ((k.deadline ≢ 0) × AllWritten t i k u)
    go (rests f) = inl (record { writes = refl; entries = tt })
    go (misses a z) = inl (record { writes = refl; entries = ((λ e. absurd (omega (arith, e))), tt) })
    go (writes f z) = inr (deadline_given t k x.release z, record { writes = refl; entries = refl })

-- step 2: nothing
pub release-writing : (start : Task → TaskState → TaskState) (t : ℕ) (signals : List ℕ) (now : List Event) (i : ℕ) (k : Task) (x : TaskState)
    → NothingWritten (release_turn start t signals now i k x)
release-writing start t signals now i k x = go (release-is start t signals now i k x)
  where
    go : {u : Turn} → Release start t signals now i k x u → NothingWritten u
    go (starts e a) = record { writes = refl; entries = ((λ z. absurd (omega (arith, z))), every_replicate (λ e. e.kind ≢ write_kind) (calls_now i k now - 1) _ (λ z. absurd (omega (arith, z)))) }
    go (overruns e p d a) = record { writes = refl; entries = ((λ z. absurd (omega (arith, z))), tt) }
    go (stays h) = record { writes = refl; entries = every_replicate (λ e. e.kind ≢ write_kind) (calls_now i k now) _ (λ z. absurd (omega (arith, z))) }

-- step 3: nothing, or with D = 0 everything
pub run_writing : (t i : ℕ) (k : Task) (x : TaskState)
    → let u = run_turn t i k x in NothingWritten u ⊎ ((k.deadline ≡ 0) × AllWritten t i k u)
run_writing t i k x = go (run_is t i k x)
  where
    go : {u : Turn} → Running t i k x u → NothingWritten u ⊎ ((k.deadline ≡ 0) × AllWritten t i k u)
    go (goes_on d) = inl (record { writes = refl; entries = tt })
    go (finishes z d) = inl (record { writes = refl; entries = tt })
    go (writes_at_once z d) = inr (d, record { writes = refl; entries = refl })
