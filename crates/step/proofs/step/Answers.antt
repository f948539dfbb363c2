use native.Mathlib.Omega.{arith}
use mathlib.Core.Path.{refl, ◌∙◌}
use Rattle.step.specs.Step.{step_called}
use Rattle.step.proofs.Laws.{three_over, three_end}
use Rattle.step.proofs.step.Goals as goal

pub run_urgent-at-requires : goal.run_urgent-at-requires
run_urgent-at-requires c = let a = c.deadlines-written.ensures.near in
    let b = c.releases-released.ensures.near in
    let p = c.requires.ready in
    record { bounds = (p.rows, omega (arith, p.word)); whole_bodies = c.requires.whole_bodies }

pub overflow_add-result : goal.overflow_add-result
overflow_add-result c = let p = c.requires.ready in omega (arith, p.tick)

pub shape_of-signals : goal.shape_of-signals
shape_of-signals c = c.run_urgent-at.auto.signals ∙ c.deadlines-written.auto.signals ∙ c.set_signals.auto.signals

pub returns : goal.returns
unfolding step_called
returns c = let e₁ = c.deadlines-written.ensures.does c.args.latched.now in
    let e₂ = c.releases-released.ensures.does c.args.held.now in
    let e₃ = c.run_urgent-at.ensures.does in
    let last = c.requires.last_is in
    let same = c.requires.called_only in
    let set = c.set_signals.ensures in
    let n₁ = c.deadlines-written.ensures.near in
    let n₂ = c.releases-released.ensures.near in
    let n₃ = c.run_urgent-at.ensures.near in record {
      stepped = record {
        arrays = rw (← same, ← last, ← set, ← e₁.arrays, ← e₂.arrays) e₃.arrays;
        trace = rw (← same, ← last, ← set, ← e₁.arrays, ← e₂.arrays, three_over, ← e₁.trace, ← e₁.ends, ← e₂.trace, ← e₂.ends) e₃.trace;
        tick = refl;
        place = last;
        word = rw (← same, ← last, ← set, ← e₁.arrays, ← e₂.arrays, three_end, ← e₁.ends, ← e₂.ends) e₃.ends;
      };
      near = omega arith;
    }
