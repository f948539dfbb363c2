use native.Mathlib.Nat.{le_refl}
use native.Mathlib.Omega.{arith}
use Rattle.turns.proofs.Laws.{next_from, next_below, next_at, none_below}
use Rattle.trace.specs.Trace.{over}
use Rattle.steps.specs.Flat.{lapse, called}
use Rattle.steps.proofs.Laws.{rows_done}
use Rattle.steps.proofs.Called.{sofar_next, sofar_called}
use Rattle.step_deadlines.proofs.deadlines.Invariants.{arrays}
use Rattle.step_deadlines.proofs.deadlines.Goals as goal

pub loop-row-preserved : goal.loop-row-preserved
loop-row-preserved c = let s = c.loop-row.invariant.2 in
    let w = c.in-Some.ensures.steps in
    let e = rw s.same_calls at w.row in
    let l = rw s.same_count at w.below in
    let m = next_from _ _ _ e in
    let r = s.room in
    let near = c.lapse_row-at.ensures.near in (
      c.in-Some.ensures.goes.keeps,
      tt,
      record {
        same_calls = rw w.rest s.same_calls;
        same_count = rw w.rest s.same_count;
        room = rw w.rest (omega arith);
        sofar = λ latched.
            let d = c.lapse_row-at.ensures.does latched in
            rw (w.rest, d.arrays, d.trace, d.ends)
            (sofar_called _ _ _ _ _ _ _ _ _ _ l (next_at _ _ _ e (omega arith)) (sofar_next _ _ _ _ _ _ _ _ _ _ _ m (next_below _ _ _ e) (s.sofar latched)));
      },
    )

pub returns-clause-does : goal.returns-clause-does
unfolding over
returns-clause-does c = λ latched.
    let s = c.loop-row.invariant.2 in
    let n = rw (s.same_calls, s.same_count) at c.in-None.ensures.steps.0 in
    let most = rw s.same_count at c.loop-row.invariant.0.0 in
    let e = sofar_next _ _ _ _ _ _ _ _ _ _ c.args.count most (none_below _ _ _ n) (s.sofar latched) in
    let d = rows_done (called c.args.calls (lapse c.args.t c.args.rows.now)) c.args.count c.args.count (arrays c.loop-row.signals c.loop-row.tasks latched c.args.held.now) (le_refl _) in
    record { arrays = rw (e.arrays, d); trace = rw (e.trace, d); ends = rw (e.ends, d) (omega arith) }
