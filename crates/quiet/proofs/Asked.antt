-- Which tasks events ask to start, as marks, one event at a time.
use Prim.Native.Nat.{ℕ, ◌+◌, ◌-◌, ◌%◌, ◌^◌, ◌<◌, ◌≤◌}
use mathlib.Core.Path.{◌≡◌, refl, sym, ap, ◌∙◌}
use mathlib.Core.Bool.{Bool, true, false, cond, ◌&&◌}
use mathlib.Core.List.{List}
use lib.Dec.{eqb}
use borrow.Author.Tests.{eqb-false, ne_eqb}
use Rattle.lists.specs.Lists.{tab}
use Rattle.lists.proofs.Laws.{tab-more, tab-done}
use Rattle.marks.specs.Marks.{seen, mark}
use Rattle.marks.proofs.Laws.{has_one, seen_none}
use Rattle.events.specs.Events.{Event}
use Rattle.tick.specs.Turns.{requests}
use Rattle.quiet.specs.Quiet.{with_asked, OthersUnasked}
use Rattle.quiet.proofs.Wakes.{has-neither}

-- a task that is not marked after an event was not marked before it, and the event does not ask it to start
unmarked : (e : Event) (tasks i : ℕ) → seen (with_asked e tasks) i ≡ false → (seen tasks i ≡ false) × ((eqb e.kind 1 && eqb e.target i) ≡ false)
unmarked e tasks i h = go (eqb e.kind 1) h
  where
    go : (b : Bool) → seen (cond b (mark tasks e.target) tasks) i ≡ false → (seen tasks i ≡ false) × ((b && eqb e.target i) ≡ false)
    go true m =
        let none = has-neither tasks (2 ^ (e.target % 64)) (i % 64) m in
        (none.0, ne_eqb e.target i (λ q. eqb-false (e.target % 64) (i % 64) (sym (has_one (e.target % 64) (i % 64)) ∙ none.1) (ap (λ (x : ℕ). x % 64) q)))
    go false m = (m, refl)

-- what the loop over the events keeps: a task that is not marked is asked by all of them as often as by those that are left
abbrev pub AskedLater : ℕ → List Event → List Event → Type 0
AskedLater tasks all left = (i : ℕ) → seen tasks i ≡ false → requests i all ≡ requests i left

module _ (f : ℕ → Event) (n p tasks : ℕ) (all : List Event) (old : AskedLater tasks all (tab f p (n - p))) where
  pub asked_more : p < n → AskedLater (with_asked (f p) tasks) all (tab f (p + 1) (n - (p + 1)))
  unfolding requests
  asked_more h = λ i b. let none = unmarked (f p) tasks i b in old i none.0 ∙ rw (tab-more f n p h, none.1)

  pub asked_done : n ≤ p → OthersUnasked tasks all
  unfolding requests
  asked_done h = λ i b. old i b ∙ rw (tab-done f n p h)

-- where no task is marked none is asked to start
pub unmarked_none : (tasks : ℕ) (now : List Event) → OthersUnasked tasks now → tasks ≡ 0 → (i : ℕ) → requests i now ≡ 0
unmarked_none tasks now others e = λ i. others i (ap (λ (w : ℕ). seen w i) e ∙ seen_none i)
