-- How the check finds two transitions of one 'from' and one order: a word of marks for each state stands for the orders seen.
-- proofs/Orders.antt shows that this is the papers' rule (plan/specs/Rules.antt).
use Rattle.std.specs.Prelude.{ℕ, ◌+◌, Bool, true, cond, not, ◌&&◌, List, [], ◌∷◌, get_or, set, replicate, leb}
use Rattle.limits.specs.Limits.{max_state}
use Rattle.marks.specs.Marks.{seen, mark}
use Rattle.plan.specs.File.{Transition}
use Rattle.plan.specs.Rules.{transition_rule}

-- the words of marks: one for each state, and word 0 for what is no state
abbrev pub slots : ℕ
slots = max_state + 1

-- the word of marks for a 'from'
abbrev pub slot_of : ℕ → ℕ
slot_of from = cond (leb from max_state) from 0

-- the order of a transition is marked for its 'from'
abbrev pub order_seen : List ℕ → Transition → Bool
order_seen marks x = seen (get_or marks (slot_of x.from) 0) x.order

-- the marks with the order of a transition
abbrev pub order_marked : List ℕ → Transition → List ℕ
order_marked marks x = set marks (slot_of x.from) (mark (get_or marks (slot_of x.from) 0) x.order)

-- no order is marked
abbrev pub no_orders : List ℕ
no_orders = replicate slots 0

-- each transition by itself, and its order neither marked nor used by an earlier one with the same 'from'
unfoldable pub new_orders : ℕ → List ℕ → List Transition → Bool
new_orders ni marks [] = true
new_orders ni marks (x ∷ xs) = (transition_rule ni x && not (order_seen marks x)) && new_orders ni (order_marked marks x) xs
