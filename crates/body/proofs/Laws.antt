-- Laws of what is done in turn, of a test as a number, and of how many held outputs a body leaves.
use Rattle.std.proofs.Common.{◌≡◌, ℕ, ◌+◌, ◌-◌, ◌<◌, ◌≤◌, Bool, true, false, cond, List, [], ◌∷◌, length, refl, length-set}
use lib.Dec.{eqb}
use Rattle.std.specs.Int.{from_bool}
use Rattle.lists.specs.Lists.{tab, Every}
use Rattle.lists.proofs.Laws.{tab-more, tab-done}
use Rattle.lists.proofs.Tests.{every_all}
use Rattle.plan.specs.File.{Action, Task}
use Rattle.body.specs.Body.{Result, in_turn, move, do_action, perform, run_actions, supervise, control, body}

-- ---- a list that is read off by a rule, j done of n
module _ {A B : Type 0} (step : A → B → B) (f : ℕ → A) (n j : ℕ) (hand : B) where
  pub turn_more : j < n → in_turn step (tab f j (n - j)) hand ≡ in_turn step (tab f (j + 1) (n - (j + 1))) (step (f j) hand)
  unfolding in_turn
  turn_more h = rw (tab-more f n j h)

  pub turn_done : n ≤ j → in_turn step (tab f j (n - j)) hand ≡ hand
  unfolding in_turn
  turn_done h = rw (tab-done f n j h)

-- ---- what each step keeps, all of them keep
pub turns_keep : {A B : Type 0} (P : B → Type 0) (Q : A → Type 0) (step : A → B → B) → ((x : A) (b : B) → Q x → P b → P (step x b))
    → (xs : List A) (b : B) → Every Q xs → P b → P (in_turn step xs b)
unfolding in_turn
turns_keep P Q step f [] b q p = p
turns_keep P Q step f (x ∷ xs) b q p = turns_keep P Q step f xs (step x b) q.1 (f x b q.0 p)

-- ---- true is 1, false is 0
pub truth_number : (b : Bool) → from_bool b ≡ cond b 1 0
truth_number true = refl
truth_number false = refl

-- ---- a body leaves as many held outputs as there were
length-cond : (b : Bool) (u v : List ℕ) → length (cond b u v) ≡ cond b (length u) (length v)
length-cond true u v = refl
length-cond false u v = refl

cond_same : (b : Bool) (n : ℕ) → cond b n n ≡ n
cond_same true n = refl
cond_same false n = refl

move-length : (held : List ℕ) (a b m : ℕ) → length (move held a b m) ≡ length held
unfolding move
move-length held a b m = simp (length-cond, length-set, cond_same)

action-length : (latched : List ℕ) (x : Action) (held : List ℕ) → length (do_action latched x held) ≡ length held
unfolding do_action
action-length latched x held = simp (length-cond, length-set, move-length, cond_same)

actions_length : (latched : List ℕ) (state : ℕ) (xs : List Action) (held : List ℕ) → length (run_actions latched state xs held) ≡ length held
actions_length latched state xs held =
    turns_keep (λ l. length l ≡ length held) (λ x. Unit {0}) (perform latched state) (λ x l q p. simp (length-cond, action-length, cond_same) p) xs held
    (every_all (λ x. Unit {0}) xs (λ x. tt)) refl

result_length : (b : Bool) (u v : Result) → length (cond b u v).held ≡ cond b (length u.held) (length v.held)
result_length true u v = refl
result_length false u v = refl

pub body-length : (k : Task) (latched : List ℕ) (machine : ℕ) (held : List ℕ) → length (body k latched machine held).held ≡ length held
unfolding body supervise control
body-length k latched machine held = simp (result_length, length-cond, actions_length, length-set, cond_same)

-- ---- whose body it is
pub body_supervises : (k : Task) (latched : List ℕ) (machine : ℕ) (held : List ℕ) → k.kind ≡ 1 → body k latched machine held ≡ supervise k latched machine held
unfolding body
body_supervises k latched machine held e = rw e

pub body_controls : (k : Task) (latched : List ℕ) (machine : ℕ) (held : List ℕ) → eqb k.kind 1 ≡ false → body k latched machine held ≡ control k latched machine held
unfolding body
body_controls k latched machine held e = rw e
