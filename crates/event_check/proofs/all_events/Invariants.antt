use Prim.Native.Nat.{◌≤◌, ◌-◌}
use mathlib.Core.Path.{◌≡◌}
use Rattle.words.specs.Words.{words_of}
use Rattle.lists.specs.Lists.{tab}
use Rattle.answers.specs.Answers.{first_broken}
use Rattle.events.specs.Events.{event_of, event_rules}
use Rattle.event_check.specs.Targets.{content_by}
use Rattle.event_check.proofs.all_events.Given as goal

abbrev pub invariant-loop-i : goal.invariant-loop-i
invariant-loop-i l = first_broken (event_rules (content_by l.targets) 0 0 (tab (event_of (words_of l.events)) 0 l.count))
    ≡ first_broken (event_rules (content_by l.targets) l.i l.last (tab (event_of (words_of l.events)) l.i (l.count - l.i)))
