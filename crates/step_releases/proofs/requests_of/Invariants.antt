use Prim.Native.Nat.{◌≤◌, ◌+◌}
use mathlib.Core.Path.{◌≡◌}
use Rattle.words.specs.Words.{words_of}
use Rattle.tick.specs.Turns.{requests}
use Rattle.steps.specs.Flat.{between}
use Rattle.step_releases.proofs.requests_of.Given as goal

abbrev pub invariant-loop-p : goal.invariant-loop-p
invariant-loop-p l = (l.n + l.from ≤ l.p) × (requests l.task (between (words_of l.events) l.from l.to) ≡ l.n + requests l.task (between (words_of l.events) l.p l.to))
