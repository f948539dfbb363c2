-- Sums of listed places of a list: a set elsewhere keeps them, and a move within the list takes from one what it gives to another.
use Prim.Native.Nat.{ℕ, ◌+◌, ◌-◌, ◌≤◌, ◌<◌}
use mathlib.Core.Path.{◌≡◌, refl, sym, ap, ap₂, subst, ◌∙◌}
use mathlib.Core.Logic.{◌≢◌, ◌⊎◌, inl, inr}
use mathlib.Core.List.{List, [], ◌∷◌}
use native.Mathlib.Omega.{arith}
use lib.ListN.{length, get_or, set, length-set}
use lib.Seq.{get_or-set_other, get_or-set_same}
use Rattle.limits.specs.Limits.{max_ports}
use Rattle.lists.specs.Lists.{Every, Pairwise, In}
use Rattle.lists.proofs.Tests.{every_both, every_weaker, in_every}
use Rattle.plan.specs.File.{Action, Task}
use Rattle.plan.specs.Accepted.{ActionGood, Body}
use Rattle.body.specs.Body.{input, do_action, body}
use Rattle.promises.specs.Promises.{sum_of, MovesWithin, Elsewhere, OnlyMoves}
use Rattle.body.proofs.Keeps.{Moved, unmoved, moved, Acted, sets, moves, action-is, body-keeps}

-- ---- sums
-- the same values, the same sum
pub sum_same : (f g : ℕ → ℕ) (ps : List ℕ) → Every (λ p. f p ≡ g p) ps → sum_of f ps ≡ sum_of g ps
unfolding sum_of
sum_same f g [] h = refl
sum_same f g (p ∷ ps) h = ap₂ ◌+◌ h.0 (sum_same f g ps h.1)

-- the listed places of a list, added
abbrev pub held_sum : List ℕ → List ℕ → ℕ
held_sum ps h = sum_of (λ p. get_or h p 0) ps

-- a place that is not listed is set
pub set_elsewhere : (ps h : List ℕ) (a v : ℕ) → Every (λ p. p ≢ a) ps → held_sum ps (set h a v) ≡ held_sum ps h
set_elsewhere ps h a v d =
    sum_same (λ p. get_or (set h a v) p 0) (λ p. get_or h p 0) ps
    (every_weaker (λ p. p ≢ a) (λ p. get_or (set h a v) p 0 ≡ get_or h p 0) (λ p e. get_or-set_other h a p v 0 e) ps d)

-- a listed place is set: the sum changes by as much as the place
pub set_listed : (ps h : List ℕ) (a v : ℕ) → Pairwise ◌≢◌ ps → In a ps → a < length h → held_sum ps (set h a v) + get_or h a 0 ≡ held_sum ps h + v
unfolding sum_of
set_listed [] h a v w i l = absurd i
set_listed (p ∷ ps) h a v w (inl e) l =
    let here : get_or (set h a v) p 0 ≡ v = subst (λ q. get_or (set h a v) q 0 ≡ v) e (get_or-set_same h a v 0 l) in
    let there : get_or h p 0 ≡ get_or h a 0 = ap (λ (q : ℕ). get_or h q 0) (sym e) in
    let rest = set_elsewhere ps h a v (every_weaker (λ q. p ≢ q) (λ q. q ≢ a) (λ q d z. d (sym e ∙ sym z)) ps w.0) in
    omega arith
set_listed (p ∷ ps) h a v w (inr i) l =
    let here = get_or-set_other h a p v 0 (in_every (λ q. p ≢ q) a ps w.0 i) in
    let rest = set_listed ps h a v w.1 i l in
    omega arith

-- ---- a body that only moves between the listed outputs keeps their sum
pub record Holds (ps : List ℕ) (total : ℕ) (h : List ℕ) : Type 0 where
  pub size : length h ≡ max_ports
  pub sum : held_sum ps h ≡ total

module _ (ps : List ℕ) (total : ℕ) where
  set_holds : (h : List ℕ) (a v : ℕ) → Every (λ p. p ≢ a) ps → Holds ps total h → Holds ps total (set h a v)
  set_holds h a v d k = record { size = length-set h a v ∙ k.size; sum = set_elsewhere ps h a v d ∙ k.sum }

  -- "m goes from a to b"
  move-holds : Pairwise ◌≢◌ ps → (h : List ℕ) (a b m : ℕ) → a < max_ports → b < max_ports → b ≢ a → In a ps → In b ps → {l : List ℕ} → Moved h a b m l → Holds ps total h → Holds ps total l
  move-holds w h a b m la lb d ia ib unmoved k = k
  move-holds w h a b m la lb d ia ib (moved enough) k =
      let size = k.size in
      let h₁ = set h a (get_or h a 0 - m) in
      let size₁ = length-set h a (get_or h a 0 - m) in
      let one = set_listed ps h a (get_or h a 0 - m) w ia (omega arith) in
      let two = set_listed ps h₁ b (get_or h b 0 + m) w ib (omega arith) in
      let same = get_or-set_other h a b (get_or h a 0 - m) 0 d in
      let sum = k.sum in
      record { size = length-set h₁ b (get_or h b 0 + m) ∙ size₁ ∙ size; sum = omega arith }

  -- one action
  act_holds : Pairwise ◌≢◌ ps → (k : Task) → length k.outputs ≤ max_ports → (latched : List ℕ) (x : Action) (h : List ℕ) → ActionGood k x
      → MovesWithin ps x ⊎ Elsewhere ps x → {l : List ℕ} → Acted latched x h l → Holds ps total h → Holds ps total l
  act_holds w k few latched x h g (inl m) (sets v d) p = absurd (d m.0)
  act_holds w k few latched x h g (inl m) (moves e q) p =
      let la = g.a in
      let lb = (g.move e).0 in
      move-holds w h x.a x.b (input latched x.c) (omega arith) (omega arith) (g.move e).1 m.1 m.2 q p
  act_holds w k few latched x h g (inr o) (sets v d) p = set_holds h x.a v o.0 p
  act_holds w k few latched x h g (inr o) (moves e unmoved) p = p
  act_holds w k few latched x h g (inr o) (moves e (moved enough)) p = set_holds _ x.b _ (o.1 e) (set_holds h x.a _ o.0 p)

  -- the body
  pub body-holds : (s : ℕ) (k : Task) → Body s k → length k.outputs ≤ max_ports → OnlyMoves k ps → (latched : List ℕ) (machine : ℕ) (h : List ℕ)
      → Holds ps total h → Holds ps total (body k latched machine h).held
  body-holds s k good few only =
      body-keeps k (Holds ps total)
      (λ one h n u p.
      let low = only.reports one in
      set_holds _ 1 u (every_weaker (λ q. 2 ≤ q) (λ q. q ≢ 1) (λ q l e. absurd (omega arith)) ps low)
      (set_holds h 0 n (every_weaker (λ q. 2 ≤ q) (λ q. q ≢ 0) (λ q l e. absurd (omega arith)) ps low) p))
      (every_weaker (λ x. ActionGood k x × (MovesWithin ps x ⊎ Elsewhere ps x)) (λ x. (latched h : List ℕ) → Holds ps total h → Holds ps total (do_action latched x h))
      (λ x g latched h p. act_holds only.once k few latched x h g.0 g.1 (action-is latched x h g.0.kind) p)
      k.actions ((every_both (ActionGood k) (λ x. MovesWithin ps x ⊎ Elsewhere ps x) k.actions).1 (good.actions, only.actions)))
