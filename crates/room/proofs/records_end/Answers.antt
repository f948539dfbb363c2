use Prim.Native.Nat.{ℕ, ◌+◌, ◌*◌}
use mathlib.Core.Path.{sym, ap, ◌∙◌}
use Rattle.step.specs.Step.{given}
use Rattle.room.proofs.Counting.{step_counts}
use Rattle.room.proofs.records_end.Goals as goal

pub returns : goal.returns
returns c = λ plan a e.
    let known = given plan c.args.rows.now c.args.count c.args.events.now in
    let lapses = c.count_lapses-lapses.ensures.counts in
    let grants = c.count_grants-grants.ensures.counts in
    ap (λ (n : ℕ). c.args.clock.at + 5 * n)
    (step_counts known c.args.clock.tick c.args.clock.place c.args.last _ _ _ _ _ _ c.requires.last_is lapses grants (c.count_writes-writes.ensures.counts _ _) a (e ∙ sym c.copy_from_slice.ensures.after))
