-- One pass over marks finds what the papers' rule finds, which compares each transition with those after it.
use Prim.Native.Nat.{ℕ, ◌+◌, ◌-◌, ◌<◌, ◌≤◌}
use mathlib.Core.Path.{◌≡◌, refl, sym, ap, ◌∙◌}
use mathlib.Core.Bool.{Bool, true, false, cond, not, ◌&&◌, ◌||◌, or-false, and_comm}
use mathlib.Core.List.{List, [], ◌∷◌}
use native.Mathlib.Omega.{arith}
use lib.ListN.{length, get_or, set, length-set, get_or-replicate}
use lib.Seq.{get_or-set_same, get_or-set_other}
use lib.Dec.{eqb, leb}
use borrow.Author.Tests.{leb-true, le-leb, eqb-true, eqb-false}
use Rattle.limits.specs.Limits.{max_state, max_order}
use Rattle.lists.specs.Lists.{tab, all}
use Rattle.lists.proofs.Laws.{tab-more, tab-done, and_assoc, and_true}
use Rattle.lists.proofs.Tests.{tests}
use Rattle.marks.specs.Marks.{seen, mark}
use Rattle.marks.proofs.Laws.{seen-mark, seen_none}
use Rattle.plan.specs.File.{Transition}
use Rattle.plan.specs.Rules.{transition_rule, same_order, transitions_rule}
use Rattle.plan_task.specs.Orders.{slots, slot_of, order_seen, order_marked, no_orders, new_orders}

-- ---- marks of transitions in range
-- 'from' and order of a transition are at most what the papers allow
abbrev InRange : Transition → Type 0
InRange x = (x.from ≤ max_state) × (x.order ≤ max_order)

-- a transition that holds by itself is in range
in_range : (ni : ℕ) (x : Transition) → transition_rule ni x ≡ true → InRange x
in_range ni x e = let h = simp tests at e in (h.0.0.0.1, h.1.1)

-- a mark changes the one order of the one 'from' only
seen-after : (marks : List ℕ) (x z : Transition) → length marks ≡ slots → InRange x → InRange z
    → order_seen (order_marked marks x) z ≡ (order_seen marks z || same_order x z)
seen-after marks x z l hx hz = rw (le-leb x.from max_state hx.0, le-leb z.from max_state hz.0) (go (eqb x.from z.from) refl)
  where
    go : (t : Bool) → eqb x.from z.from ≡ t
        → seen (get_or (set marks x.from (mark (get_or marks x.from 0) x.order)) z.from 0) z.order
        ≡ (seen (get_or marks z.from 0) z.order || (t && eqb x.order z.order))
    go true e =
        rw (← eqb-true x.from z.from e, get_or-set_same marks x.from (mark (get_or marks x.from 0) x.order) 0 (rw l (omega (arith, hx.0))))
        (seen-mark (get_or marks x.from 0) x.order z.order (omega (arith, hx.1)) (omega (arith, hz.1)))
    go false e =
        rw (get_or-set_other marks x.from z.from (mark (get_or marks x.from 0) x.order) 0 (λ same. eqb-false x.from z.from e (sym same)))
        (sym (or-false (seen (get_or marks z.from 0) z.order)))

-- ---- a test that is two tests of each transition in range
-- neither of two, the second one first
not_or : (a b : Bool) → not (a || b) ≡ (not b && not a)
not_or true b = sym (and_comm (not b) false)
not_or false b = sym (and_true (not b))

-- one transition and the rest: t is the rule of the rest, rs the one test of it, ps and qs the two
both_of : (a t p q ps qs rs : Bool) → (t && rs) ≡ (t && (ps && qs)) → ((a && t) && ((p && q) && rs)) ≡ ((a && t) && ((p && ps) && (q && qs)))
both_of false t p q ps qs rs e = refl
both_of true false p q ps qs rs e = refl
both_of true true false q ps qs rs e = refl
both_of true true true true ps qs rs e = e
both_of true true true false ps qs rs e = sym (and_comm ps false)

-- the one test of each of a list is the two tests of each, where the list obeys the rule
module _ (ni : ℕ) (p q r : Transition → Bool) (two : (z : Transition) → transition_rule ni z ≡ true → r z ≡ (p z && q z)) where
  all_both : (xs : List Transition) → (transitions_rule ni xs && all r xs) ≡ (transitions_rule ni xs && (all p xs && all q xs))
  unfolding transitions_rule all
  all_both [] = refl
  all_both (x ∷ xs) = go (transition_rule ni x) refl (all_both xs)
    where
      go : (t : Bool) → transition_rule ni x ≡ t
          → (transitions_rule ni xs && all r xs) ≡ (transitions_rule ni xs && (all p xs && all q xs))
          → ((t && all (λ y. not (same_order x y)) xs && transitions_rule ni xs) && (r x && all r xs))
          ≡ ((t && all (λ y. not (same_order x y)) xs && transitions_rule ni xs) && ((p x && all p xs) && (q x && all q xs)))
      go true e i = rw (two x e) (both_of (all (λ y. not (same_order x y)) xs) (transitions_rule ni xs) (p x) (q x) (all p xs) (all q xs) (all r xs) i)
      go false e i = refl

-- ---- the pass
-- what the pass asks, in its order and in the rule's
turned : (s t b c : Bool) → (s && (t && (b && c))) ≡ ((b && t) && (s && c))
turned true t true c = refl
turned true true false c = refl
turned true false false c = refl
turned false true true c = refl
turned false false true c = refl
turned false t false c = refl

-- from any marks on: the papers' rule, and no order is marked
pass_is : (ni : ℕ) (marks : List ℕ) (xs : List Transition) → length marks ≡ slots
    → new_orders ni marks xs ≡ (transitions_rule ni xs && all (λ z. not (order_seen marks z)) xs)
unfolding new_orders transitions_rule all
pass_is ni marks [] l = refl
pass_is ni marks (x ∷ xs) l = go (transition_rule ni x) refl (pass_is ni (order_marked marks x) xs (length-set marks (slot_of x.from) (mark (get_or marks (slot_of x.from) 0) x.order) ∙ l))
  where
    go : (t : Bool) → transition_rule ni x ≡ t
        → new_orders ni (order_marked marks x) xs ≡ (transitions_rule ni xs && all (λ z. not (order_seen (order_marked marks x) z)) xs)
        → ((t && not (order_seen marks x)) && new_orders ni (order_marked marks x) xs)
        ≡ ((t && all (λ y. not (same_order x y)) xs && transitions_rule ni xs) && (not (order_seen marks x) && all (λ z. not (order_seen marks z)) xs))
    go true e i =
        rw (
          i,
          all_both ni (λ z. not (same_order x z)) (λ z. not (order_seen marks z)) (λ z. not (order_seen (order_marked marks x) z))
              (λ z f. ap not (seen-after marks x z l (in_range ni x e) (in_range ni z f)) ∙ not_or (order_seen marks z) (same_order x z)) xs,
        ) (turned (not (order_seen marks x)) (transitions_rule ni xs) (all (λ y. not (same_order x y)) xs) (all (λ z. not (order_seen marks z)) xs))
    go false e i = refl

-- every 'from' has a word of marks
slot_below : (from : ℕ) → slot_of from < slots
slot_below from = go (leb from max_state) refl
  where
    go : (t : Bool) → leb from max_state ≡ t → cond t from 0 < slots
    go true e = omega (arith, leb-true from max_state e)
    go false e = omega arith

-- nothing is marked at the start
none_seen : (xs : List Transition) → all (λ z. not (order_seen no_orders z)) xs ≡ true
unfolding all
none_seen [] = refl
none_seen (x ∷ xs) = rw (get_or-replicate {A = ℕ} slots (slot_of x.from) 0 0 (slot_below x.from), seen_none x.order) (none_seen xs)

-- from no marks on the pass is the papers' rule
pub orders_are : (ni : ℕ) (xs : List Transition) → new_orders ni no_orders xs ≡ transitions_rule ni xs
orders_are ni xs = pass_is ni no_orders xs refl ∙ ap (λ (t : Bool). transitions_rule ni xs && t) (none_seen xs) ∙ and_true (transitions_rule ni xs)

-- ---- the pass, one step at a time; t is what the transitions before came to
module _ (ni : ℕ) (marks : List ℕ) (f : ℕ → Transition) (n k : ℕ) (t : Bool) where
  -- one transition more
  pub orders_more : k < n
      → (t && new_orders ni marks (tab f k (n - k)))
      ≡ ((t && (transition_rule ni (f k) && not (order_seen marks (f k)))) && new_orders ni (order_marked marks (f k)) (tab f (k + 1) (n - (k + 1))))
  unfolding new_orders
  orders_more h = rw (tab-more f n k h) (and_assoc t _ _)

  -- none is left
  pub orders_done : n ≤ k → (t && new_orders ni marks (tab f k (n - k))) ≡ t
  unfolding new_orders
  orders_done h = rw (tab-done f n k h) (and_true t)
