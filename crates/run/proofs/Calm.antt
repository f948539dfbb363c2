-- Ticks that are passed over: a run from before them comes to what the run from after them comes to, with so many ticks more.
use Prim.Native.Nat.{ℕ, zero, suc, ◌+◌, ◌-◌, ◌≤◌, zero-le}
use mathlib.Core.Path.{◌≡◌, ap, ◌∙◌}
use native.Mathlib.Nat.{sub-zero, add-zero}
use native.Mathlib.Omega.{arith}
use borrow.Author.Tests.{le-leb}
use Rattle.arrays.specs.Arrays.{Arrays}
use Rattle.step.specs.Step.{Given}
use Rattle.quiet.specs.Quiet.{lowered, Calm}
use Rattle.quiet.proofs.Ticks.{with_tasks, low_more, calm_step, calm_next}
use Rattle.run.specs.Run.{Went, run_flat}

-- one tick more, and so many
abbrev pub once : Went → Went
once w = record { full = w.full; ticks = suc w.ticks; place = w.place; arrays = w.arrays; entries = w.entries }

unfoldable pub later : ℕ → Went → Went
later zero w = w
later (suc n) w = once (later n w)

-- one of them
calm_one : (g : Given) (room left t place n : ℕ) (a : Arrays) → Calm g.rows g.count g.events g.records place t (suc n) a.tasks
    → run_flat g room (suc left) t place a ≡ once (run_flat g room left (t + 1) place (with_tasks a (lowered g.rows g.count 1 a.tasks)))
unfolding run_flat
calm_one g room left t place n a c = rw (calm_step g t place n a c, c.events t (omega arith) (omega arith), le-leb 0 room zero-le, sub-zero)

-- all of them
pub calm_run : (g : Given) (room : ℕ) (n left t place : ℕ) (a : Arrays) → Calm g.rows g.count g.events g.records place t n a.tasks → n ≤ left
    → run_flat g room left t place a ≡ later n (run_flat g room (left - n) (t + n) place (with_tasks a (lowered g.rows g.count n a.tasks)))
unfolding lowered later
calm_run g room zero left t place a c h = rw (sub-zero, add-zero)
calm_run g room (suc n) zero t place a c h = absurd (omega arith)
calm_run g room (suc n) (suc left) t place a c h =
    let next = calm_next g.rows g.count g.events g.records place t n a.tasks c in
    let after = with_tasks a (lowered g.rows g.count 1 a.tasks) in
    let rest = calm_run g room n left (t + 1) place after next (omega arith) in
    let low = low_more g.rows g.count n a.tasks c.spare in
    let fewer : left - n ≡ suc left - suc n = omega arith in
    let then : t + 1 + n ≡ t + suc n = omega arith in
    calm_one g room left t place n a c ∙ ap once (rest ∙ rw (low, fewer, then))
