use native.Mathlib.Omega.{arith}
use mathlib.Core.Path.{refl}
use Rattle.step.specs.Step.{given}
use Rattle.quiet.proofs.Wakes.{wakes_lowered}
use Rattle.run.proofs.Turns.{turned_none, turned_rest, rest_none}
use Rattle.run.proofs.rest.Goals as goal

pub returns-then-calls-last : goal.returns-then-calls-last
returns-then-calls-last c = record {
  turned = λ plan signals latched held trace h. turned_none (given plan _ _ _) _ _ (record { signals = signals; tasks = _; latched = latched; held = held }) trace c.requires.bounds.1 h;
  wakes = c.requires.wakes_known;
  still = λ e. refl;
}

pub overflow_add-result : goal.overflow_add-result
overflow_add-result c = let m = c.pass-ticks.ensures.most in omega (arith, c.requires.bounds.2)

pub returns : goal.returns
returns c = record {
  turned = λ plan signals latched held trace h. turned_rest (given plan _ _ _) _ _ (record { signals = signals; tasks = _; latched = latched; held = held }) trace c.requires.bounds.1 h _ _ c.pass-ticks.ensures;
  wakes = rw c.pass-ticks.ensures.tasks (wakes_lowered _ _ _ _ _ c.args.wakes.now c.requires.wakes_known);
  still = rest_none _ _ _ _ _ c.pass-ticks.ensures.tasks;
}
