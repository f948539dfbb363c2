use mathlib.Core.Path.{refl}
use native.Mathlib.Omega.{arith}
use Rattle.quiet.proofs.Wakes.{fresh-none, fresh-more, fresh-done}
use Rattle.quiet.proofs.refresh.Goals as goal

pub loop-row-init : goal.loop-row-init
loop-row-init c =
    let few = c.requires.0 in
    rw (c.into_iter-row-iterator.ensures.into_iter_gives, c.rows-row-items.ensures) ((omega arith, omega arith), tt, refl, refl, fresh-none _ _ _ _ _ c.args.wakes.now c.requires.1)

pub loop-row-preserved : goal.loop-row-preserved
loop-row-preserved c =
    let s = c.loop-row.invariant in
    let w = c.in-Some.ensures.steps in (
      c.in-Some.ensures.goes.keeps,
      tt,
      rw w.rest s.2,
      rw w.rest s.3,
      rw (w.rest, c.put.ensures) (fresh-more _ _ _ _ _ c.loop-row.wakes _ s.4 _ _ c.row_wake-wake.ensures (rw s.2 at w.row)),
    )

pub returns : goal.returns
returns c =
    let s = c.loop-row.invariant in
    fresh-done _ _ _ _ _ c.loop-row.wakes _ (rw (s.2, s.3) at c.in-None.ensures.steps.0) s.4
