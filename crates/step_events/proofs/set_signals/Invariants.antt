use mathlib.Core.Path.{◌≡◌}
use Rattle.words.specs.Words.{words_of}
use Rattle.tick.specs.Tick.{set_now}
use Rattle.steps.specs.Flat.{between}
use Rattle.step_events.proofs.set_signals.Given as goal

abbrev pub invariant-loop-p : goal.invariant-loop-p
invariant-loop-p l = set_now (between (words_of l.events) l.from l.to) l.initial.signals ≡ set_now (between (words_of l.events) l.p l.to) l.signals
