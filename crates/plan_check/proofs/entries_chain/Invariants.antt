use Prim.Native.Nat.{◌<◌, ◌+◌, ◌*◌, ◌-◌}
use mathlib.Core.Path.{◌≡◌}
use mathlib.Core.Bool.{◌&&◌}
use Rattle.words.specs.Words.{words_of}
use Rattle.plan.specs.Rules.{chained}
use Rattle.plan_check.proofs.entries_chain.Given as goal

abbrev pub invariant-loop-k : goal.invariant-loop-k
invariant-loop-k l = (l.at < (l.k + 1) * 4294967296)
    × (chained (words_of l.bytes) l.entries 0 (3 + l.entries * 2) ≡ (l.good && chained (words_of l.bytes) (l.entries - l.k) l.k l.at))
