-- What a body can do to its held outputs and its machine state: each action sets one output, or moves from one to another.
use Rattle.std.proofs.Common.{◌≡◌, ℕ, ◌+◌, ◌-◌, ◌%◌, ◌<◌, ◌≤◌, Bool, true, false, cond, not, ◌&&◌, eqb, ltb, leb, ◌≢◌, List, length, get_or, set, refl, arith, eq-eqb, ne_eqb, eqb-true, leb-true}
use mathlib.Core.Option.{Option, none, some}
use borrow.Author.Tests.{eqb-false}
use Rattle.limits.specs.Limits.{top_value, max_state, max_ports}
use Rattle.lists.specs.Lists.{Every, Between, If, PaddedFrom}
use Rattle.lists.proofs.Laws.{and_left, set_padded}
use Rattle.lists.proofs.Tests.{every_weaker}
use Rattle.plan.specs.File.{Transition, Action, Task}
use Rattle.plan.specs.Accepted.{ActionGood, Body}
use Rattle.body.proofs.Laws.{turns_keep}
use Rattle.body.specs.Body.{input, may_fire, sooner, look, fires, after, is_updated, wraps_at, move, do_action, perform, run_if, supervise, control, body}

-- ---- the machine state: the transition that is taken is one of the task's
sooner-one : (Q : Transition → Type 0) (x : Transition) (best : Option Transition) → Q x → If Q best → If Q (sooner x best)
unfolding sooner
sooner-one Q x none qx p = qx
sooner-one Q x (some y) qx p = elim (ltb x.order y.order) as (λ b. If Q (cond b (some x) (some y))) [ true ↦ qx | false ↦ p ]

-- the one that is taken, if any, is one of them
fires-one : (Q : Transition → Type 0) (latched : List ℕ) (machine : ℕ) (xs : List Transition) → Every Q xs → If Q (fires latched machine xs)
fires-one Q latched machine xs q = turns_keep (If Q) Q (look latched machine) looked xs none q tt
  where
    looked : (x : Transition) (best : Option Transition) → Q x → If Q best → If Q (look latched machine x best)
    looked x best qx p = elim (may_fire latched machine x) as (λ b. If Q (cond b (sooner x best) best)) [ true ↦ sooner-one Q x best qx p | false ↦ p ]

-- so the new state is as the old one and all 'to' are
after-in : (machine : ℕ) (o : Option Transition) → Between 1 max_state machine → If (λ x. Between 1 max_state x.to) o → Between 1 max_state (after machine o)
unfolding after
after-in machine none h q = h
after-in machine (some x) h q = q

module _ (k : Task) (latched : List ℕ) (machine : ℕ) (held : List ℕ) where
  -- a supervisor's machine state stays in its range
  pub supervisor-machine : k.kind ≡ 1 → Every (λ x. Between 1 max_state x.to) k.transitions → Between 1 max_state machine
      → Between 1 max_state (body k latched machine held).machine
  unfolding body supervise
  supervisor-machine e q h =
      rw (eq-eqb k.kind 1 e) (after-in machine (fires latched machine k.transitions) h (fires-one (λ x. Between 1 max_state x.to) latched machine k.transitions q))

  -- a controller's stays
  pub controller_machine : k.kind ≢ 1 → (body k latched machine held).machine ≡ machine
  unfolding body control
  controller_machine d = rw (ne_eqb k.kind 1 d)

-- ---- the held outputs
-- a move is made or not
pub data Moved (held : List ℕ) (a b m : ℕ) : List ℕ → Type 0 where
  unmoved : Moved held a b m held
  moved : m ≤ get_or held a 0 → Moved held a b m (set (set held a (get_or held a 0 - m)) b (get_or held b 0 + m))

-- which of the two, the paper's test says
pub move-is : (held : List ℕ) (a b m : ℕ) → Moved held a b m (move held a b m)
unfolding move
move-is held a b m = go (leb m (get_or held a 0) && leb (get_or held b 0 + m) top_value) refl
  where
    go : (t : Bool) → (leb m (get_or held a 0) && leb (get_or held b 0 + m) top_value) ≡ t
        → Moved held a b m (cond t (set (set held a (get_or held a 0 - m)) b (get_or held b 0 + m)) held)
    go true e = moved (leb-true m (get_or held a 0) (and_left (leb m (get_or held a 0)) (leb (get_or held b 0 + m) top_value) e))
    go false e = unmoved

-- an action of kind 1, 2 or 3 sets output a; one of kind 4 moves
pub data Acted (latched : List ℕ) (x : Action) (held : List ℕ) : List ℕ → Type 0 where
  sets : (v : ℕ) → x.kind ≢ 4 → Acted latched x held (set held x.a v)
  moves : {l : List ℕ} → x.kind ≡ 4 → Moved held x.a x.b (input latched x.c) l → Acted latched x held l

-- by its kind
pub action-is : (latched : List ℕ) (x : Action) (held : List ℕ) → Between 1 4 x.kind → Acted latched x held (do_action latched x held)
unfolding do_action
action-is latched x held within = go (eqb x.kind 1) (eqb x.kind 2) (eqb x.kind 3) refl refl refl
  where
    go : (p q r : Bool) → eqb x.kind 1 ≡ p → eqb x.kind 2 ≡ q → eqb x.kind 3 ≡ r
        → Acted latched x held (cond p (set held x.a x.c) (cond q (set held x.a (input latched x.c))
        (cond r (set held x.a ((get_or held x.a 0 + input latched x.c) % wraps_at)) (move held x.a x.b (input latched x.c)))))
    go true q r ep eq er = sets _ (λ z. absurd (let w = eqb-true x.kind 1 ep in omega arith))
    go false true r ep eq er = sets _ (λ z. absurd (let w = eqb-true x.kind 2 eq in omega arith))
    go false false true ep eq er = sets _ (λ z. absurd (let w = eqb-true x.kind 3 er in omega arith))
    go false false false ep eq er =
        let a = eqb-false x.kind 1 ep in
        let b = eqb-false x.kind 2 eq in
        let c = eqb-false x.kind 3 er in
        let l = within.0 in
        let g = within.1 in
        moves (omega (arith, a, b, c)) (move-is held x.a x.b (input latched x.c))

-- what a supervisor's report and each action keep, the body keeps
module _ (k : Task) (P : List ℕ → Type 0) (reports : k.kind ≡ 1 → (h : List ℕ) (n u : ℕ) → P h → P (set (set h 0 n) 1 u))
    (acts : Every (λ x. (latched h : List ℕ) → P h → P (do_action latched x h)) k.actions) where
  acts_keep : (updated : Bool) (latched : List ℕ) (state : ℕ) (h : List ℕ) → P h → P (run_if updated latched state k.actions h)
  acts_keep true latched state h p =
      turns_keep P (λ x. (latched h : List ℕ) → P h → P (do_action latched x h)) (perform latched state)
      (λ x b q r. elim (eqb x.state state) as (λ t. P (cond t (do_action latched x b) b)) [ true ↦ q latched b r | false ↦ r ])
      k.actions h acts p
  acts_keep false latched state h p = p

  -- and so the whole body, of either kind
  pub body-keeps : (latched : List ℕ) (machine : ℕ) (h : List ℕ) → P h → P (body k latched machine h).held
  unfolding body supervise control
  body-keeps latched machine h p = go (eqb k.kind 1) refl
    where
      go : (b : Bool) → eqb k.kind 1 ≡ b → P (cond b (supervise k latched machine h) (control k latched machine h)).held
      go true e =
          let taken = fires latched machine k.transitions in
          acts_keep (is_updated machine taken) latched (after machine taken) _ (reports (eqb-true k.kind 1 e) h (after machine taken) (cond (is_updated machine taken) 1 0) p)
      go false e = acts_keep (not (eqb (input latched 1) 0)) latched (input latched 0) h p

-- ---- how many held outputs there are, and "held outputs beyond .. no, are 0"
-- an action whose outputs are below n
acted_padded : (n : ℕ) (latched : List ℕ) (x : Action) (held : List ℕ) → x.a < n → (x.kind ≡ 4 → x.b < n) → {l : List ℕ} → Acted latched x held l → PaddedFrom n max_ports held → PaddedFrom n max_ports l
acted_padded n latched x held a b (sets v d) h = set_padded n max_ports held x.a v a h
acted_padded n latched x held a b (moves e unmoved) h = h
acted_padded n latched x held a b (moves e (moved l)) h = set_padded n max_ports _ x.b _ (b e) (set_padded n max_ports held x.a _ a h)

-- a body of an accepted plan
pub body-padded : (s : ℕ) (k : Task) → Body s k → (latched : List ℕ) (machine : ℕ) (held : List ℕ) → PaddedFrom (length k.outputs) max_ports held
    → PaddedFrom (length k.outputs) max_ports (body k latched machine held).held
body-padded s k good =
    body-keeps k (PaddedFrom (length k.outputs) max_ports)
    (λ one h n u p.
    let two = (good.kind.supervisor one).outputs in
    set_padded _ max_ports _ 1 u (omega arith) (set_padded _ max_ports h 0 n (omega arith) p))
    (every_weaker (ActionGood k) (λ x. (latched h : List ℕ) → PaddedFrom (length k.outputs) max_ports h → PaddedFrom (length k.outputs) max_ports (do_action latched x h))
    (λ x g latched h p. acted_padded (length k.outputs) latched x h g.a (λ e. (g.move e).0) (action-is latched x h g.kind) p)
    k.actions good.actions)
