-- The marks of the written signals and of the event-driven tasks, one task at a time; and what rule 9 says of the number of records.
use Prim.Native.Nat.{ℕ, suc, ◌+◌, ◌-◌, ◌/◌, ◌<◌, ◌≤◌}
use mathlib.Core.Path.{◌≡◌, refl, ap}
use mathlib.Core.Bool.{true}
use mathlib.Core.List.{List, [], ◌∷◌, ◌++◌}
use native.Mathlib.Omega.{arith}
use lib.ListN.{length}
use Rattle.lists.specs.Lists.{tab}
use Rattle.lists.proofs.Laws.{tab-more, tab-done}
use Rattle.lists.proofs.Tests.{tests}
use Rattle.marks.specs.Marks.{mark}
use Rattle.plan.specs.File.{Task, all_outputs}
use Rattle.plan_check.specs.Clash.{mark_all}
use Rattle.events.specs.Events.{event_size_rule}
use Rattle.event_check.specs.Targets.{with_driven, driven_by}

mark-append : (marks : ℕ) (xs ys : List ℕ) → mark_all marks (xs ++ ys) ≡ mark_all (mark_all marks xs) ys
unfolding mark_all
mark-append marks [] ys = refl
mark-append marks (x ∷ xs) ys = mark-append (mark marks x) xs ys

module _ (marks : ℕ) (f : ℕ → Task) (n k : ℕ) where
  pub written_more : k < n → mark_all marks (all_outputs (tab f k (n - k))) ≡ mark_all (mark_all marks (f k).outputs) (all_outputs (tab f (k + 1) (n - (k + 1))))
  unfolding all_outputs
  written_more h = rw (tab-more f n k h) (mark-append marks (f k).outputs _)

  pub written_done : n ≤ k → mark_all marks (all_outputs (tab f k (n - k))) ≡ marks
  unfolding all_outputs mark_all
  written_done h = rw (tab-done f n k h)

pub driven_more : (ws : List ℕ) (n : ℕ) → driven_by ws (n + 1) ≡ with_driven ws n (driven_by ws n)
unfolding driven_by
driven_more ws n =
    let e : n + 1 ≡ suc n = omega arith in
    ap (driven_by ws) e

pub few_records : (bytes : List ℕ) → event_size_rule bytes ≡ true → length bytes / 16 < 4294967296
few_records bytes e = let h = (simp tests at e).1 in omega arith
