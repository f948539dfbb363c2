use mathlib.Core.Path.{refl}
use borrow.Author.Rules.{rules}
use Rattle.apart.proofs.Laws.{stored_none, stored_more}
use Rattle.apart.proofs.take_apart.Goals as goal

pub loop-i-init : goal.loop-i-init
loop-i-init c = (stored_none _ _ _ _ c.requires.0, stored_none _ _ _ _ c.requires.1, stored_none _ _ _ _ c.requires.2)

pub loop-i-preserved : goal.loop-i-preserved
loop-i-preserved c = (
  rw c.put_task.ensures.tasks (stored_more _ _ _ _ _ _ (search rules) c.loop-i-test.true refl refl c.loop-i.invariant.0),
  rw c.put_task.ensures.latched (stored_more _ _ _ _ _ _ (search rules) c.loop-i-test.true refl c.put_task.ensures.ports.0 c.loop-i.invariant.1),
  rw c.put_task.ensures.held (stored_more _ _ _ _ _ _ (search rules) c.loop-i-test.true refl c.put_task.ensures.ports.1 c.loop-i.invariant.2),
)
