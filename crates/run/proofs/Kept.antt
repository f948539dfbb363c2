-- What the loop over the turns of a run keeps, and what it ends with.
use Prim.Native.Nat.{ℕ, ◌+◌, ◌-◌, ◌*◌, ◌<◌, ◌≤◌, ◌^◌}
use mathlib.Core.Path.{◌≡◌, refl, sym, ◌∙◌}
use mathlib.Core.Bool.{true, false}
use mathlib.Core.List.{List}
use native.Mathlib.Nat.{sub-zero}
use native.Mathlib.Omega.{arith}
use lib.ListN.{length}
use Rattle.trace.specs.Trace.{over}
use Rattle.arrays.specs.Arrays.{Arrays, Sized}
use Rattle.step.specs.Step.{Given, Ready}
use Rattle.step.specs.declared.Clock.{Clock}
use Rattle.run.specs.Run.{run_flat, Sofar, left_after, Turned, Asked, Ends}
use Rattle.run.specs.declared.Ran.{Ran}

-- two states of the lent arrays have the same lengths
pub record AsLong (a a' : Arrays) : Type 0 where
  pub signals : length a'.signals ≡ length a.signals
  pub tasks : length a'.tasks ≡ length a.tasks
  pub latched : length a'.latched ≡ length a.latched
  pub held : length a'.held ≡ length a.held

-- what holds before each turn: `done` ticks are run, and those left come to what the whole run comes to
pub record Kept (g : Given) (asked : ℕ) (a₀ : Arrays) (trace₀ : List ℕ) (clock : Clock) (a : Arrays) (trace : List ℕ) (now : Clock) (done : ℕ) : Type 0 where
  pub most : done ≤ asked
  pub tick : now.tick ≡ clock.tick + done
  pub place : now.place ≤ g.records
  pub near : now.at ≤ done * 2 ^ 41
  pub room : now.at ≤ length trace₀
  pub sizes : Sized a
  pub long : AsLong a₀ a
  pub trace_long : length trace ≡ length trace₀
  pub sofar : Sofar (run_flat g (length trace₀) asked clock.tick clock.place a₀) (run_flat g (length trace₀ - now.at) (asked - done) now.tick now.place a) done trace₀ trace now.at

-- before the first turn
pub kept_none : (g : Given) (asked count : ℕ) (a : Arrays) (trace : List ℕ) (clock : Clock) → Asked count g.records asked clock → Sized a → Kept g asked a trace clock a trace clock 0
kept_none g asked count a trace clock p s =
    let w = p.word in
    record {
      most = omega arith;
      tick = omega arith;
      place = p.place;
      near = omega arith;
      room = omega arith;
      sizes = s;
      long = record { signals = refl; tasks = refl; latched = refl; held = refl };
      trace_long = refl;
      sofar = rw (w, sub-zero, sub-zero) (record { full = refl; count = omega arith; place = refl; arrays = refl; trace = refl; word = omega arith });
    }

module _ (g : Given) (asked : ℕ) (a₀ : Arrays) (trace₀ : List ℕ) (clock : Clock) (a : Arrays) (trace : List ℕ) (now : Clock) (done : ℕ)
    (k : Kept g asked a₀ trace₀ clock a trace now done) where
  -- what a turn asks
  pub kept_ready : (count : ℕ) → Asked count g.records asked clock → done < asked → Ready count g.records now
  kept_ready count p h =
      let t = k.tick in
      let m = p.ticks in
      let n = k.near in
      record { rows = p.rows; events = p.events; place = k.place; tick = omega arith; word = omega arith }

  pub kept_asks : (count : ℕ) → Asked count g.records asked clock → done < asked
      → (now.at ≤ length trace) × (0 < asked - done) × (now.tick + (asked - done) < 2 ^ 31)
  kept_asks count p h =
      let t = k.tick in
      let m = p.ticks in
      let l = k.trace_long in
      let r = k.room in
      (omega arith, omega arith, omega arith)

  -- all are run
  pub kept_done : asked ≤ done → Ends clock (record { clock = now; ticks = done; full = false }) a trace₀ trace (run_flat g (length trace₀) asked clock.tick clock.place a₀)
  unfolding run_flat over
  kept_done h =
      let none : asked - done ≡ 0 = omega arith in
      let s = rw none at k.sofar in
      let m = k.most in
      let t = k.tick in
      let r = k.room in
      let n = s.count in
      let w = s.word in
      record {
        full = sym s.full;
        ticks = omega arith;
        tick = omega arith;
        place = sym s.place;
        arrays = sym s.arrays;
        trace = sym s.trace;
        word = omega arith;
        room = omega arith;
      }

  module _ (r : Ran) (a' : Arrays) (new : List ℕ) (u : Turned g (asked - done) now a trace r a' new) where
    moved : Sofar (run_flat g (length trace₀) asked clock.tick clock.place a₀) (left_after g (length trace₀) (asked - done) r a') (done + r.ticks) trace₀ new r.clock.at
    moved = rw k.trace_long at (u.sofar (run_flat g (length trace₀) asked clock.tick clock.place a₀) done trace₀ (rw k.trace_long k.sofar))

    -- and on to the next turn
    pub kept_more : r.full ≡ false → AsLong a a' → length new ≡ length trace → Kept g asked a₀ trace₀ clock a' new r.clock (done + r.ticks)
    kept_more e l n =
        let m = u.most in
        let d = k.most in
        let t = u.tick in
        let q = k.tick in
        let v = u.near in
        let x = k.near in
        let y = u.room in
        let z = k.trace_long in
        let fewer : asked - done - r.ticks ≡ asked - (done + r.ticks) = omega arith in
        record {
          most = omega arith;
          tick = omega arith;
          place = u.place;
          near = omega arith;
          room = omega arith;
          sizes = record { signals = l.signals ∙ k.sizes.signals; tasks = l.tasks ∙ k.sizes.tasks; latched = l.latched ∙ k.sizes.latched; held = l.held ∙ k.sizes.held };
          long = record { signals = l.signals ∙ k.long.signals; tasks = l.tasks ∙ k.long.tasks; latched = l.latched ∙ k.long.latched; held = l.held ∙ k.long.held };
          trace_long = n ∙ k.trace_long;
          sofar = rw fewer at (rw e at moved);
        }

    -- or the trace is full
    pub kept_full : r.full ≡ true
        → Ends clock (record { clock = r.clock; ticks = done + r.ticks; full = true }) a' trace₀ new (run_flat g (length trace₀) asked clock.tick clock.place a₀)
    unfolding over
    kept_full e =
        let s = rw e at moved in
        let t = u.tick in
        let q = k.tick in
        let y = u.room in
        let z = k.trace_long in
        let n = s.count in
        let w = s.word in
        record {
          full = sym s.full;
          ticks = omega arith;
          tick = omega arith;
          place = sym s.place;
          arrays = sym s.arrays;
          trace = sym s.trace;
          word = omega arith;
          room = omega arith;
        }

-- each turn brings the end nearer
pub nearer : (asked done ticks : ℕ) → done < asked → 0 < ticks → asked - (done + ticks) < asked - done
nearer asked done ticks h p = omega arith
