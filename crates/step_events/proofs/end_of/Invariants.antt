use Prim.Native.Nat.{◌-◌}
use mathlib.Core.Path.{◌≡◌}
use Rattle.words.specs.Words.{words_of}
use Rattle.steps.specs.Flat.{end_from}
use Rattle.step_events.proofs.end_of.Given as goal

abbrev pub invariant-loop-p : goal.invariant-loop-p
invariant-loop-p l = end_from (words_of l.events) l.t (l.count - l.place) l.place ≡ end_from (words_of l.events) l.t (l.count - l.p) l.p
