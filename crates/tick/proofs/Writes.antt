-- What set events and writes do to the signals: to those that they name, and to no other.
use Prim.Native.Nat.{ℕ, zero, suc, ◌≤◌, ◌<◌}
use mathlib.Core.Path.{◌≡◌, refl, sym, ap, ◌∙◌}
use mathlib.Core.Logic.{◌≢◌}
use mathlib.Core.Bool.{Bool, true, false, cond}
use mathlib.Core.List.{List, [], ◌∷◌}
use native.Mathlib.Omega.{arith}
use lib.ListN.{length, get_or, set, length-set}
use lib.Seq.{set_comm, get_or-set_other, get_or-set_same}
use lib.Dec.{eqb}
use borrow.Author.Tests.{eqb-true}
use Rattle.lists.specs.Lists.{Every, Pairwise}
use Rattle.plan.proofs.Tasks.{Disjoint}
use Rattle.events.specs.Events.{Event}
use Rattle.tick.specs.Turns.{writes_of}
use Rattle.tick.specs.Tick.{write_all, events_at, set_now}

-- ---- step 0
-- the events of an instant are some of all
pub every_now : (P : Event → Type 0) (t : ℕ) (es : List Event) → Every P es → Every P (events_at t es)
unfolding events_at
every_now P t [] h = tt
every_now P t (e ∷ es) h = go (eqb e.instant t) (every_now P t es h.1)
  where
    go : (b : Bool) → Every P (events_at t es) → Every P (cond b (e ∷ events_at t es) (events_at t es))
    go true r = (h.0, r)
    go false r = r

-- what each set event keeps, step 0 keeps
pub set_keeps : (P : List ℕ → Type 0) (now : List Event) → Every (λ e. e.kind ≡ 2 → (g : List ℕ) → P g → P (set g e.target e.value)) now
    → (g : List ℕ) → P g → P (set_now now g)
unfolding set_now
set_keeps P [] h g p = p
set_keeps P (e ∷ now) h g p = set_keeps P now h.1 _ (go (eqb e.kind 2) refl)
  where
    go : (b : Bool) → eqb e.kind 2 ≡ b → P (cond b (set g e.target e.value) g)
    go true z = h.0 (eqb-true e.kind 2 z) g p
    go false z = p

-- ---- the writes of a task's outputs
-- what a set of each output keeps, the writes keep
pub writes_keep : (P : List ℕ → Type 0) (outs held : List ℕ) → Every (λ y. (g : List ℕ) (v : ℕ) → P g → P (set g y v)) outs
    → (g : List ℕ) → P g → P (write_all (writes_of outs held) g)
unfolding write_all writes_of
writes_keep P [] held f g p = p
writes_keep P (y ∷ ys) [] f g p = p
writes_keep P (y ∷ ys) (v ∷ vs) f g p = writes_keep P ys vs f.1 (set g y v) (f.0 g v p)

-- no writes
pub writes_none : (g : List ℕ) → write_all [] g ≡ g
unfolding write_all
writes_none g = refl

-- no values, no writes
pub writes_of_nil : (outs : List ℕ) → writes_of outs [] ≡ []
unfolding writes_of
writes_of_nil [] = refl
writes_of_nil (x ∷ xs) = refl

-- as many signals as before
pub written_length : (outs held g : List ℕ) → length (write_all (writes_of outs held) g) ≡ length g
unfolding write_all writes_of
written_length [] held g = refl
written_length (y ∷ ys) [] g = refl
written_length (y ∷ ys) (v ∷ vs) g = written_length ys vs (set g y v) ∙ length-set g y v

-- a signal that is none of the outputs
pub unwritten : (x : ℕ) (outs held g : List ℕ) → Every (λ y. x ≢ y) outs → get_or (write_all (writes_of outs held) g) x 0 ≡ get_or g x 0
unfolding write_all writes_of
unwritten x [] held g d = refl
unwritten x (y ∷ ys) [] g d = refl
unwritten x (y ∷ ys) (v ∷ vs) g d = unwritten x ys vs (set g y v) d.1 ∙ get_or-set_other g y x v 0 d.0

-- an output: "all held outputs to its signals"
pub written : (outs held g : List ℕ) → Pairwise ◌≢◌ outs → length outs ≤ length held → Every (λ y. y < length g) outs
    → (p : ℕ) → p < length outs → get_or (write_all (writes_of outs held) g) (get_or outs p 0) 0 ≡ get_or held p 0
unfolding write_all writes_of
written [] held g w few below p l = absurd (omega arith)
written (y ∷ ys) [] g w few below p l = absurd (omega arith)
written (y ∷ ys) (v ∷ vs) g w few below zero l = unwritten y ys vs (set g y v) w.0 ∙ get_or-set_same g y v 0 below.0
written (y ∷ ys) (v ∷ vs) g w few below (suc p) l =
    written ys vs (set g y v) w.1 (omega arith) (rw (length-set g y v) below.1) p (omega arith)

-- ---- writes to different signals commute
-- one write, and the writes of outputs that it is none of
write_all-set : (x v : ℕ) (outs held s : List ℕ) → Every (λ y. x ≢ y) outs → write_all (writes_of outs held) (set s x v) ≡ set (write_all (writes_of outs held) s) x v
unfolding write_all writes_of
write_all-set x v [] held s d = refl
write_all-set x v (y ∷ ys) [] s d = refl
write_all-set x v (y ∷ ys) (h ∷ hs) s d = ap (write_all (writes_of ys hs)) (set_comm s x y v h d.0) ∙ write_all-set x v ys hs (set s y h) d.1

-- the writes of two tasks
pub writes_commute : (xs hs ys gs s : List ℕ) → Disjoint xs ys
    → write_all (writes_of xs hs) (write_all (writes_of ys gs) s) ≡ write_all (writes_of ys gs) (write_all (writes_of xs hs) s)
unfolding write_all writes_of
writes_commute [] hs ys gs s d = refl
writes_commute (x ∷ xs) [] ys gs s d = refl
writes_commute (x ∷ xs) (h ∷ hs) ys gs s d = ap (write_all (writes_of xs hs)) (sym (write_all-set x h ys gs s d.0)) ∙ writes_commute xs hs ys gs (set s x h) d.1
