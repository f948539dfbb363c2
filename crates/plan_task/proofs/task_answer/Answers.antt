use Prim.Native.Nat.{ℕ, ◌+◌, ◌*◌, ◌/◌}
use mathlib.Core.Path.{◌≡◌, sym, ◌∙◌}
use mathlib.Core.Bool.{true}
use mathlib.Core.List.{List}
use lib.ListN.{length}
use Rattle.lists.proofs.Tests.{tests}
use Rattle.words.specs.Words.{words_of}
use Rattle.words.proofs.Laws.{words_length}
use Rattle.answers.specs.Answers.{first_broken}
use Rattle.plan.specs.File.{actions_at, action_count}
use Rattle.plan.specs.Rules.{shape_rule}
use Rattle.plan_task.proofs.task_answer.Goals as goal

-- where rule 4 holds, the counts of a body say how long it is
shape-length : (part : List ℕ) → shape_rule (words_of part) ≡ true → actions_at (words_of part) + action_count (words_of part) * 5 ≡ length part / 4
shape-length part e = sym (simp tests at e).1 ∙ words_length part

pub returns-then-not-shape_holds : goal.returns-then-not-shape_holds
unfolding first_broken
returns-then-not-shape_holds c = rw (← c.shape_holds.ensures, c.if-not-shape_holds.true)

pub returns-then-not-timing_holds : goal.returns-then-not-timing_holds
unfolding first_broken
returns-then-not-timing_holds c = rw (
  ← c.shape_holds.ensures,
  c.if-not-shape_holds.false,
  ← c.timing_holds.ensures,
  c.if-not-timing_holds.true,
)

pub body_holds-requires : goal.body_holds-requires
body_holds-requires c = shape-length c.args.part.now
    (sym c.shape_holds.ensures ∙ c.if-not-shape_holds.false)

pub returns-then-not-body_holds : goal.returns-then-not-body_holds
unfolding first_broken
returns-then-not-body_holds c = rw (
  ← c.shape_holds.ensures,
  c.if-not-shape_holds.false,
  ← c.timing_holds.ensures,
  c.if-not-timing_holds.false,
  ← c.body_holds.ensures,
  c.if-not-body_holds.true,
)

pub returns : goal.returns
unfolding first_broken
returns c = rw (
  ← c.shape_holds.ensures,
  c.if-not-shape_holds.false,
  ← c.timing_holds.ensures,
  c.if-not-timing_holds.false,
  ← c.body_holds.ensures,
  c.if-not-body_holds.false,
)
