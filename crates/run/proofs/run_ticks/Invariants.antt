use Prim.Native.Nat.{ℕ, ◌-◌}
use mathlib.Core.List.{List}
use Rattle.arrays.specs.Arrays.{Arrays}
use Rattle.step.specs.Step.{given}
use Rattle.run.specs.Run.{Watched}
use Rattle.run.proofs.Kept.{Kept}
use Rattle.run.proofs.run_ticks.Given as goal

abbrev pub arrays : List ℕ → List ℕ → List ℕ → List ℕ → Arrays
arrays signals tasks latched held = record { signals = signals; tasks = tasks; latched = latched; held = held }

abbrev pub invariant-loop-done : goal.invariant-loop-done
invariant-loop-done l = Kept (given l.plan l.rows l.count l.events) l.asked (arrays l.initial.signals l.initial.tasks l.initial.latched l.initial.held) l.initial.trace l.initial.now (arrays l.signals l.tasks l.latched l.held) l.trace l.now l.done
    × Watched l.rows l.count l.tasks l.now.tick l.wakes

abbrev pub decreases-loop-done : goal.decreases-loop-done
decreases-loop-done l = l.asked - l.done
