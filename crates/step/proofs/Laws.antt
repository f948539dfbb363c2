-- Three runs of records, one after the other; and where the events of a tick end.
use Prim.Native.Nat.{ℕ, zero, suc, ◌+◌, ◌-◌, ◌*◌, ◌≤◌}
use mathlib.Core.Path.{◌≡◌, ◌∙◌}
use mathlib.Core.Bool.{Bool, true, false, cond}
use mathlib.Core.List.{List, ◌++◌}
use native.Mathlib.Omega.{arith}
use lib.ListN.{length, length-append}
use lib.Dec.{eqb}
use Rattle.events.specs.Events.{event_of}
use Rattle.trace.specs.Trace.{over}
use Rattle.trace.specs.declared.Entry.{Entry}
use Rattle.trace.proofs.Laws.{over-append}
use Rattle.steps.specs.Flat.{end_from}
use Rattle.step.specs.Step.{Given, place_after}

module _ (at : ℕ) (xs ys zs : List Entry) where
  pub three_end : at + 5 * length (xs ++ ys ++ zs) ≡ at + 5 * length xs + 5 * length ys + 5 * length zs
  three_end = rw (length-append (xs ++ ys) zs, length-append xs ys) (omega arith)

  pub three_over : (l : List ℕ) → over l at (xs ++ ys ++ zs) ≡ over (over (over l at xs) (at + 5 * length xs) ys) (at + 5 * length xs + 5 * length ys) zs
  three_over l =
      let e : at + 5 * (length xs + length ys) ≡ at + 5 * length xs + 5 * length ys = omega arith in
      over-append l at (xs ++ ys) zs ∙ rw (length-append xs ys, e, over-append l at xs ys)

-- the search for the place after a tick's events never goes back, and looks at no more than the records left
pub end_between : (ws : List ℕ) (t m p : ℕ) → (p ≤ end_from ws t m p) × (end_from ws t m p ≤ p + m)
unfolding end_from
end_between ws t zero p = (omega arith, omega arith)
end_between ws t (suc m) p = go (eqb (event_of ws p).instant t) (end_between ws t m (p + 1))
  where
    go : (b : Bool) → (p + 1 ≤ end_from ws t m (p + 1)) × (end_from ws t m (p + 1) ≤ p + 1 + m)
        → (p ≤ cond b (end_from ws t m (p + 1)) p) × (cond b (end_from ws t m (p + 1)) p ≤ p + suc m)
    go true h = let least = h.0 in let most = h.1 in (omega arith, omega arith)
    go false h = (omega arith, omega arith)

-- the place after the events of a tick is no further than the list's end
pub place_most : (g : Given) (t place : ℕ) → place ≤ g.records → place_after g t place ≤ g.records
place_most g t place h = let e = (end_between g.events t (g.records - place) place).1 in omega arith
