-- Document 01, 'The body': what a task's body leaves.
use Rattle.std.specs.Prelude.{ℕ, ◌+◌, ◌-◌, ◌%◌, Bool, cond, not, ◌&&◌, List, [], ◌∷◌, ◌==◌, nat_le, nat_lt, slice_index, slice_set}
use Rattle.std.proofs.Math.Option.{Option, none, some}
use Rattle.limits.specs.Limits.{top_value}
use Rattle.plan.specs.File.{Transition, Action, Task}

-- what a body leaves: the machine state and the held outputs
pub record Result : Type 0 where
  pub machine : ℕ
  pub held : List ℕ

-- a latched input by its position
abbrev pub input : List ℕ → ℕ → ℕ
input latched i = slice_index latched i

-- each of a list in its order, what came of those before in hand
unfoldable pub in_turn : {A B : Type 0} → (A → B → B) → List A → B → B
in_turn step [] hand = hand
in_turn step (x ∷ xs) hand = in_turn step xs (step x hand)

-- ---- "A supervisor takes, from its machine state, the transition with the smallest order whose latched input is not 0; at most one."
-- it starts from the machine state, and its latched input is not 0
abbrev pub may_fire : List ℕ → ℕ → Transition → Bool
may_fire latched machine x = x.from == machine && not (input latched x.input == 0)

-- the smaller order: a transition that may fire against the best before it, which stays where the orders are equal
unfoldable pub sooner : Transition → Option Transition → Option Transition
sooner x none = some x
sooner x (some best) = cond (nat_lt x.order best.order) (some x) (some best)

-- one more transition is looked at, the best before it in hand
abbrev pub look : List ℕ → ℕ → Transition → Option Transition → Option Transition
look latched machine x best = cond (may_fire latched machine x) (sooner x best) best

-- the one that is taken, if any
abbrev pub fires : List ℕ → ℕ → List Transition → Option Transition
fires latched machine transitions = in_turn (look latched machine) transitions none

-- the new state; the old one where no transition is taken
unfoldable pub after : ℕ → Option Transition → ℕ
after machine none = machine
after machine (some x) = x.to

-- the new state differs from the old
abbrev pub is_updated : ℕ → Option Transition → Bool
is_updated machine taken = not (after machine taken == machine)

-- ---- the actions
-- where sums wrap
abbrev pub wraps_at : ℕ
wraps_at = top_value + 1

-- "4 move: with m = input c, if a holds at least m and b + m is at most 4,294,967,295, m goes from a to b; else neither changes."
unfoldable pub move : List ℕ → ℕ → ℕ → ℕ → List ℕ
move held a b m =
    cond (nat_le m (slice_index held a) && nat_le (slice_index held b + m) top_value)
    (slice_set (slice_set held a (slice_index held a - m)) b (slice_index held b + m))
    held

-- "1 set: a gets c. 2 copy: a gets input c. 3 add: input c is added to a and the sum wraps at 4,294,967,296."; then the move
unfoldable pub do_action : List ℕ → Action → List ℕ → List ℕ
do_action latched x held =
    let m = input latched x.c in
    cond (x.kind == 1) (slice_set held x.a x.c)
    (cond (x.kind == 2) (slice_set held x.a m)
    (cond (x.kind == 3) (slice_set held x.a ((slice_index held x.a + m) % wraps_at))
    (move held x.a x.b m)))

-- one more action: of another state, none
abbrev pub perform : List ℕ → ℕ → Action → List ℕ → List ℕ
perform latched state x held = cond (x.state == state) (do_action latched x held) held

-- "the state's actions (a supervisor's new state) run in file order on the held outputs; a state that no action names, 0 and
-- above 16 included, runs none."
abbrev pub run_actions : List ℕ → ℕ → List Action → List ℕ → List ℕ
run_actions latched state actions held = in_turn (perform latched state) actions held

-- "Only if updated"
abbrev pub run_if : Bool → List ℕ → ℕ → List Action → List ℕ → List ℕ
run_if updated latched state actions held = cond updated (run_actions latched state actions held) held

-- ---- the two kinds of task
abbrev pub leaves : ℕ → List ℕ → Result
leaves machine held = record { machine = machine; held = held }

-- "Held output 0 becomes the new state; held output 1, 'updated', is 1 when the new state differs from the old and 0 otherwise."
abbrev pub report : ℕ → Bool → List ℕ → List ℕ
report next updated held = slice_set (slice_set held 0 next) 1 (cond updated 1 0)

-- a transition is looked for, the outputs 0 and 1 are set, then the new state's actions run
unfoldable pub supervise : Task → List ℕ → ℕ → List ℕ → Result
supervise k latched machine held =
    let taken = fires latched machine k.transitions in
    let next = after machine taken in
    let updated = is_updated machine taken in
    leaves next (run_if updated latched next k.actions (report next updated held))

-- "A controller takes latched input 0 as its state and input 1 as 'updated' (not 0)."
unfoldable pub control : Task → List ℕ → ℕ → List ℕ → Result
control k latched machine held =
    leaves machine (run_if (not (input latched 1 == 0)) latched (input latched 0) k.actions held)

-- "Kind 1 (supervisor)", "Kind 2 (controller)"
unfoldable pub body : Task → List ℕ → ℕ → List ℕ → Result
body k latched machine held = cond (k.kind == 1) (supervise k latched machine held) (control k latched machine held)
