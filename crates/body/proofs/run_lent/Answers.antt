use mathlib.Core.Path.{◌≡◌, sym, ap, ◌∙◌}
use mathlib.Core.Bool.{false}
use lib.Dec.{eqb}
use Rattle.words.specs.Words.{words_of}
use Rattle.plan.specs.File.{task_of}
use Rattle.plan.proofs.KindNumbers.{no_supervisor}
use Rattle.body.proofs.Laws.{body_supervises, body_controls}
use Rattle.body.proofs.run_lent.Goals as goal

pub returns-in-Ok-Supervisor : goal.returns-in-Ok-Supervisor
unfolding task_of
returns-in-Ok-Supervisor c =
    let kind : (task_of (words_of c.args.part.now)).kind ≡ 1 = sym c.word.ensures ∙ sym (rw c.in-Ok-Supervisor.field-0-is at c.in-Ok-Supervisor.ensures) in
    c.supervisor.ensures ∙ sym (body_supervises _ _ _ _ kind)

pub returns-in-Ok-Controller : goal.returns-in-Ok-Controller
unfolding task_of
returns-in-Ok-Controller c =
    let kind : (task_of (words_of c.args.part.now)).kind ≡ 2 = sym c.word.ensures ∙ sym (rw c.in-Ok-Controller.field-0-is at c.in-Ok-Controller.ensures) in
    c.controller.ensures ∙ sym (body_controls _ _ _ _ (ap (λ n. eqb n 1) kind))

pub returns-in-Err : goal.returns-in-Err
unfolding task_of
returns-in-Err c =
    let other : eqb (task_of (words_of c.args.part.now)).kind 1 ≡ false = rw c.word.ensures at (no_supervisor c.word.result c.in-Err.ensures) in
    c.controller-in-Err.ensures ∙ sym (body_controls _ _ _ _ other)
