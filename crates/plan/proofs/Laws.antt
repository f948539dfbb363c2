-- What the lists of rules are made of.
use Prim.Native.Nat.{ℕ, ◌+◌, ◌<◌}
use mathlib.Core.Path.{◌≡◌, refl, ◌∙◌}
use mathlib.Core.Bool.{Bool, true, false, ◌&&◌, false≢true}
use mathlib.Core.List.{List, [], ◌∷◌, ◌++◌, map}
use native.Mathlib.Omega.{arith}
use lib.ListN.{length, length-map}
use Rattle.lists.proofs.Laws.{length-tab}
use Rattle.words.specs.Words.{words_of}
use Rattle.answers.specs.Answers.{Rule, all_hold}
use Rattle.answers.proofs.Laws.{Numbered}
use Rattle.plan.specs.File.{word, start_of, signal_count, task_count, task_of, task_bodies, plan_of}
use Rattle.plan.specs.Rules.{shape_rule, timing_rule, body_rule, one_task, task_rules, after_all, clash_rules, priority_of, head_rules, each_task, priority_rules, output_rules, plan_rules}

-- ---- S and T are the lengths of the plan's lists
pub signals_length : (bytes : List ℕ) → length (plan_of bytes).signals ≡ signal_count (words_of bytes)
unfolding plan_of
signals_length bytes = length-tab (λ j. word (words_of bytes) (start_of (words_of bytes) 0 + j)) 0 (signal_count (words_of bytes))

pub tasks_length : (bytes : List ℕ) → length (plan_of bytes).tasks ≡ task_count (words_of bytes)
unfolding plan_of
tasks_length bytes = length-map (task_bodies (words_of bytes)) task_of ∙ length-tab _ 0 (task_count (words_of bytes))

-- ---- no rule has number 0
pub numbered_append : (xs ys : List Rule) → Numbered xs → Numbered ys → Numbered (xs ++ ys)
numbered_append [] ys h g = g
numbered_append (x ∷ xs) ys h g = (h.0, numbered_append xs ys h.1 g)

pub tasks_numbered : (s i : ℕ) (bodies : List (List ℕ)) → Numbered (task_rules s i bodies)
unfolding task_rules
tasks_numbered s i [] = tt
tasks_numbered s i (ws ∷ rest) = (omega arith, (omega arith, (omega arith, tasks_numbered s (i + 1) rest)))

pub clash_numbered : (number i : ℕ) (l : List ℕ) (lists : List (List ℕ)) → 0 < number → Numbered (clash_rules number i l lists)
unfolding clash_rules
clash_numbered number i l [] h = tt
clash_numbered number i l (xs ∷ rest) h = (h, clash_numbered number (i + 1) (after_all l xs) rest h)

pub plan_numbered : (bytes : List ℕ) → Numbered (plan_rules bytes)
unfolding plan_rules
plan_numbered bytes =
    numbered_append (head_rules bytes) (each_task bytes ++ (priority_rules bytes ++ output_rules bytes)) (omega arith, (omega arith, (omega arith, tt)))
    (numbered_append (each_task bytes) (priority_rules bytes ++ output_rules bytes) (tasks_numbered _ 0 (task_bodies (words_of bytes)))
    (numbered_append (priority_rules bytes) (output_rules bytes) (clash_numbered 7 0 [] (map priority_of (plan_of bytes).tasks) (omega arith))
    (clash_numbered 8 0 [] (map (λ k. k.outputs) (plan_of bytes).tasks) (omega arith))))

-- ---- 4, 5 and 6 of one task
pub record Three (s : ℕ) (ws : List ℕ) : Type 0 where
  pub shape : shape_rule ws ≡ true
  pub timing : timing_rule (task_of ws) ≡ true
  pub body : body_rule s (task_of ws) ≡ true

three : (a b c : Bool) → (a && (b && (c && true))) ≡ true → (a ≡ true) × (b ≡ true) × (c ≡ true)
three true true true e = (refl, refl, refl)
three true true false e = absurd (false≢true e)
three true false c e = absurd (false≢true e)
three false b c e = absurd (false≢true e)

pub three_hold : (s i : ℕ) (ws : List ℕ) → all_hold (one_task s i ws) ≡ true → Three s ws
unfolding all_hold
three_hold s i ws e =
    let h = three (shape_rule ws) (timing_rule (task_of ws)) (body_rule s (task_of ws)) e in
    record { shape = h.0; timing = h.1; body = h.2 }

pub hold_three : (s i : ℕ) (ws : List ℕ) → Three s ws → all_hold (one_task s i ws) ≡ true
unfolding all_hold
hold_three s i ws h = rw (h.shape, h.timing, h.body)
