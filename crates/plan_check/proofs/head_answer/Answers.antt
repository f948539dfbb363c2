use mathlib.Core.Path.{sym, ◌∙◌}
use Rattle.words.specs.Words.{words_of}
use Rattle.answers.specs.Answers.{first_broken}
use Rattle.plan_check.proofs.Laws.{tasks_limit}
use Rattle.plan_check.proofs.head_answer.Goals as goal

pub returns-then-not-size_holds : goal.returns-then-not-size_holds
unfolding first_broken
returns-then-not-size_holds c = rw (← c.size_holds.ensures, c.if-not-size_holds.true)

pub returns-then-not-head_holds : goal.returns-then-not-head_holds
unfolding first_broken
returns-then-not-head_holds c = rw (
  ← c.size_holds.ensures,
  c.if-not-size_holds.false,
  ← c.head_holds.ensures,
  c.if-not-head_holds.true,
)

pub contents_hold-requires : goal.contents_hold-requires
contents_hold-requires c = tasks_limit (words_of c.args.bytes.now) (sym c.head_holds.ensures ∙ c.if-not-head_holds.false)

pub returns-then-not-contents_hold : goal.returns-then-not-contents_hold
unfolding first_broken
returns-then-not-contents_hold c = rw (
  ← c.size_holds.ensures,
  c.if-not-size_holds.false,
  ← c.head_holds.ensures,
  c.if-not-head_holds.false,
  ← c.contents_hold.ensures,
  c.if-not-contents_hold.true,
)

pub returns : goal.returns
unfolding first_broken
returns c = rw (
  ← c.size_holds.ensures,
  c.if-not-size_holds.false,
  ← c.head_holds.ensures,
  c.if-not-head_holds.false,
  ← c.contents_hold.ensures,
  c.if-not-contents_hold.false,
)
