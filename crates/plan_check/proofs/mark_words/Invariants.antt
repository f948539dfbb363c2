use Prim.Native.Nat.{◌+◌, ◌-◌}
use mathlib.Core.Path.{◌≡◌}
use mathlib.Core.Bool.{◌&&◌}
use Rattle.words.specs.Words.{words_of}
use Rattle.lists.specs.Lists.{tab}
use Rattle.plan.specs.File.{word, values}
use Rattle.plan_check.specs.Clash.{new_to, mark_all}
use Rattle.plan_check.proofs.mark_words.Given as goal

abbrev pub invariant-loop-j : goal.invariant-loop-j
invariant-loop-j l = (new_to l.initial.marks (values (words_of l.part) l.start l.count) ≡ (l.new && new_to l.marks (tab (λ i. word (words_of l.part) (l.start + i)) l.j (l.count - l.j))))
    × (mark_all l.initial.marks (values (words_of l.part) l.start l.count) ≡ mark_all l.marks (tab (λ i. word (words_of l.part) (l.start + i)) l.j (l.count - l.j)))
