use mathlib.Core.Path.{sym, ◌∙◌}
use native.Mathlib.Omega.{arith}
use Rattle.answers.specs.Answers.{first_broken}
use Rattle.lists.specs.Lists.{tab}
use Rattle.events.specs.Events.{event_rules}
use Rattle.event_check.proofs.Laws.{few_records}
use Rattle.event_check.proofs.list_answer.Goals as goal

pub returns-then-not-size_holds : goal.returns-then-not-size_holds
unfolding first_broken
returns-then-not-size_holds c = rw (← c.size_holds.ensures, c.if-not-size_holds.true)

pub overflow_cast-count : goal.overflow_cast-count
overflow_cast-count c = omega (arith, few_records c.args.events.now (sym c.size_holds.ensures ∙ c.if-not-size_holds.false))

pub returns-then-count-eq0 : goal.returns-then-count-eq0
unfolding first_broken event_rules tab
returns-then-count-eq0 c = rw (← c.size_holds.ensures, c.if-not-size_holds.false, c.if-count-eq0.true)

pub returns : goal.returns
unfolding first_broken
returns c = rw (← c.size_holds.ensures, c.if-not-size_holds.false, ← c.targets_of-targets.ensures)
    c.all_events.ensures
