-- What follows of every list of rules, and that a verdict has one answer only.
use Prim.Native.Nat.{ℕ}
use mathlib.Core.Path.{◌≡◌, refl, sym, ap, ◌∙◌}
use mathlib.Core.Bool.{Bool, true, false, cond, ◌&&◌, false≢true}
use mathlib.Core.List.{List, [], ◌∷◌, ◌++◌}
use native.Mathlib.Omega.{arith}
use lib.Dec.{eqb}
use borrow.Author.Tests.{ne_eqb}
use Rattle.std.specs.Prelude.{Ok, Err, is_ok}
use Rattle.answers.specs.Answers.{Verdict, verdict, Answer, refused, said, Rule, first_broken, all_hold, or_else}
pub use Rattle.answers.specs.Decides.{Numbered}
use Rattle.answers.specs.Decides.{First, OneAnswerForAVerdict}
use Rattle.answers.specs.declared.Refusal.{Refusal}
use Rattle.answers.specs.declared.Refusal.TheVariants.{PlanSize, PlanHead, PlanContents, TaskShape, TaskTiming, TaskBody, SamePriority, SameOutput, EventSize, EventInstant, EventContent, StateUnfit, TooManyTicks, TraceFull, NoSuchTask}

-- of two lists of rules the first that is broken decides
pub broken_append : (xs ys : List Rule) → Numbered xs → first_broken (xs ++ ys) ≡ or_else (first_broken xs) (first_broken ys)
unfolding first_broken
broken_append [] ys h = refl
broken_append (x ∷ xs) ys h = go x.holds (broken_append xs ys h.1)
  where
    go : (b : Bool) → first_broken (xs ++ ys) ≡ or_else (first_broken xs) (first_broken ys)
        → cond b (first_broken (xs ++ ys)) (verdict x.number x.place)
        ≡ or_else (cond b (first_broken xs) (verdict x.number x.place)) (first_broken ys)
    go true e = e
    go false e = rw (ne_eqb x.number 0 (λ p. omega (arith, h.0, p)))

-- the number is 0 exactly when every rule holds
pub zero_all : (rs : List Rule) → Numbered rs → (first_broken rs).number ≡ 0 → all_hold rs ≡ true
unfolding first_broken all_hold
zero_all [] h e = refl
zero_all (r ∷ rs) h e = go r.holds (λ z. zero_all rs h.1 z) e
  where
    go : (b : Bool) → ((first_broken rs).number ≡ 0 → all_hold rs ≡ true) → (cond b (first_broken rs) (verdict r.number r.place)).number ≡ 0
        → (b && all_hold rs) ≡ true
    go true f z = f z
    go false f z = absurd (omega (arith, h.0, z))

pub all-zero : (rs : List Rule) → all_hold rs ≡ true → first_broken rs ≡ verdict 0 0
unfolding first_broken all_hold
all-zero [] e = refl
all-zero (r ∷ rs) e = go r.holds (λ z. all-zero rs z) e
  where
    go : (b : Bool) → (all_hold rs ≡ true → first_broken rs ≡ verdict 0 0) → (b && all_hold rs) ≡ true
        → cond b (first_broken rs) (verdict r.number r.place) ≡ verdict 0 0
    go true f z = f z
    go false f z = absurd (false≢true z)

-- two lists of rules hold where both do
pub all_append : (xs ys : List Rule) → all_hold (xs ++ ys) ≡ (all_hold xs && all_hold ys)
unfolding all_hold
all_append [] ys = refl
all_append (x ∷ xs) ys = go x.holds (all_append xs ys)
  where
    go : (b : Bool) → all_hold (xs ++ ys) ≡ (all_hold xs && all_hold ys) → (b && all_hold (xs ++ ys)) ≡ ((b && all_hold xs) && all_hold ys)
    go true e = e
    go false e = refl

-- a refusal names a broken rule before which every rule holds
pub refusal_first : (rs : List Rule) → ((first_broken rs).number ≡ 0 → ⊥) → First rs (first_broken rs)
unfolding first_broken all_hold
refusal_first [] h = absurd (h refl)
refusal_first (r ∷ rs) h = go r.holds refl (λ z. refusal_first rs z) h
  where
    go : (b : Bool) → r.holds ≡ b → (((first_broken rs).number ≡ 0 → ⊥) → First rs (first_broken rs))
        → ((cond b (first_broken rs) (verdict r.number r.place)).number ≡ 0 → ⊥)
        → First (r ∷ rs) (cond b (first_broken rs) (verdict r.number r.place))
    go true e f z =
        let g = f z in
        record {
          before = r ∷ g.before;
          broken = g.broken;
          later = g.later;
          split = ap (λ (l : List Rule). r ∷ l) g.split;
          kept = rw e g.kept;
          breaks = g.breaks;
          says = g.says;
        }
    go false e f z = record { before = []; broken = r; later = rs; split = refl; kept = refl; breaks = e; says = refl }

-- ---- one answer for one verdict: so a contract that fixes what an answer says fixes the answer
refusal_of : ℕ → ℕ → Refusal
refusal_of number place =
    cond (eqb number 1) PlanSize (cond (eqb number 2) PlanHead (cond (eqb number 3) PlanContents
    (cond (eqb number 4) (TaskShape place) (cond (eqb number 5) (TaskTiming place) (cond (eqb number 6) (TaskBody place)
    (cond (eqb number 7) (SamePriority place) (cond (eqb number 8) (SameOutput place) (cond (eqb number 9) EventSize
    (cond (eqb number 10) (EventInstant place) (cond (eqb number 11) (EventContent place) (cond (eqb number 12) StateUnfit
    (cond (eqb number 13) TooManyTicks (cond (eqb number 14) TraceFull NoSuchTask)))))))))))))

refusal_of_refused : (r : Refusal) → refusal_of (refused r).number (refused r).place ≡ r
unfolding refusal_of
refusal_of_refused PlanSize = refl
refusal_of_refused PlanHead = refl
refusal_of_refused PlanContents = refl
refusal_of_refused (TaskShape p) = refl
refusal_of_refused (TaskTiming p) = refl
refusal_of_refused (TaskBody p) = refl
refusal_of_refused (SamePriority p) = refl
refusal_of_refused (SameOutput p) = refl
refusal_of_refused EventSize = refl
refusal_of_refused (EventInstant p) = refl
refusal_of_refused (EventContent p) = refl
refusal_of_refused StateUnfit = refl
refusal_of_refused TooManyTicks = refl
refusal_of_refused TraceFull = refl
refusal_of_refused NoSuchTask = refl

answer_of : ℕ → ℕ → Answer
answer_of number place = cond (eqb number 0) (Ok tt) (Err (refusal_of number place))

-- a refusal's number is above 0
pub above_zero : (r : Refusal) → eqb (refused r).number 0 ≡ false
above_zero PlanSize = refl
above_zero PlanHead = refl
above_zero PlanContents = refl
above_zero (TaskShape p) = refl
above_zero (TaskTiming p) = refl
above_zero (TaskBody p) = refl
above_zero (SamePriority p) = refl
above_zero (SameOutput p) = refl
above_zero EventSize = refl
above_zero (EventInstant p) = refl
above_zero (EventContent p) = refl
above_zero StateUnfit = refl
above_zero TooManyTicks = refl
above_zero TraceFull = refl
above_zero NoSuchTask = refl

answer_of_said : (a : Answer) → answer_of (said a).number (said a).place ≡ a
unfolding answer_of
answer_of_said (Ok tt) = refl
answer_of_said (Err r) = rw (above_zero r, refusal_of_refused r)

-- an answer is `Ok` exactly when its number is 0
pub ok_is_0 : (a : Answer) → is_ok a ≡ eqb (said a).number 0
ok_is_0 (Ok tt) = refl
ok_is_0 (Err r) = sym (above_zero r)

-- what a verdict is told by: a refusal, or `Ok`
pub refused_number : (r : Refusal) (v : Verdict) → refused r ≡ v → eqb v.number 0 ≡ false
refused_number r v e = rw (← e) (above_zero r)

pub accepted_number : (v : Verdict) → verdict 0 0 ≡ v → eqb v.number 0 ≡ true
accepted_number v e = rw (← e)

-- a refusal stands, whatever rules come after those that it is of: for the `?` between one rule and the next
pub refusal_stands : (r : Refusal) (v w : Verdict) → refused r ≡ v → refused r ≡ or_else v w
refusal_stands r v w e = rw (← e, above_zero r)

pub said-once : OneAnswerForAVerdict
said-once a b e = sym (answer_of_said a) ∙ ap (λ (v : Verdict). answer_of v.number v.place) e ∙ answer_of_said b
