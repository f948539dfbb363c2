use mathlib.Core.Path.{◌≡◌, sym}
use Rattle.lists.proofs.Tests.{or-false}
use Rattle.plan.specs.File.{task_of}
use Rattle.plan.proofs.KindNumbers.{no_supervisor}
use Rattle.state_fits.proofs.machine_holds.Goals as goal

pub returns-in-Ok-Supervisor : goal.returns-in-Ok-Supervisor
unfolding task_of
returns-in-Ok-Supervisor c =
    let kind : c.word.result ≡ 1 = sym (rw c.in-Ok-Supervisor.field-0-is at c.in-Ok-Supervisor.ensures) in
    rw (← c.word.ensures, kind, or-false)

pub returns-in-Ok-Controller : goal.returns-in-Ok-Controller
unfolding task_of
returns-in-Ok-Controller c =
    let kind : c.word.result ≡ 2 = sym (rw c.in-Ok-Controller.field-0-is at c.in-Ok-Controller.ensures) in
    rw (← c.word.ensures, kind)

pub returns-in-Err : goal.returns-in-Err
unfolding task_of
returns-in-Err c = rw (← c.word.ensures, no_supervisor c.word.result c.in-Err.ensures)
