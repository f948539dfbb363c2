-- Where the plan is accepted, what the check asks is the papers' rule 11.
use Prim.Native.Nat.{ℕ, zero, suc, ◌+◌, ◌<◌, ◌≤◌}
use mathlib.Core.Path.{◌≡◌, refl, sym, ap, ap₂, ◌∙◌}
use mathlib.Core.Bool.{Bool, true, false, cond, not, ◌&&◌, ◌||◌, or-false, and_comm}
use mathlib.Core.Logic.{◌⊎◌, inl, inr}
use mathlib.Core.List.{List, [], ◌∷◌}
use native.Mathlib.Omega.{arith}
use native.Mathlib.Nat.{eq-or-lt_of_le, le_of_suc-le-suc}
use lib.Dec.{eqb, ltb}
use borrow.Author.Tests.{ltb-true, eq-eqb, ne_eqb}
use Rattle.lists.specs.Lists.{tab, absent}
use Rattle.lists.proofs.Laws.{map-tab, and_true}
use Rattle.words.specs.Words.{words_of}
use Rattle.marks.specs.Marks.{seen, mark}
use Rattle.marks.proofs.Laws.{seen-mark, seen_none}
use Rattle.answers.specs.Answers.{Rule, rule, first_broken}
use Rattle.plan.specs.File.{word, signal_count, task_count, body_of, Task, task_of, plan_of, all_outputs}
use Rattle.plan.specs.Rules.{plan_verdict}
use Rattle.plan.proofs.Laws.{signals_length, tasks_length}
use Rattle.plan.proofs.Acceptance.{accepted_exactly}
use Rattle.plan.proofs.Facts.{task_is}
use Rattle.plan_check.specs.Clash.{mark_all}
use Rattle.plan_check.proofs.Written.{signals_small, written_marks}
use Rattle.events.specs.Events.{Event, release_event_rule, set_event_rule, event_size_rule, event_rules, events_of, event_list_rules, events_verdict}
use Rattle.events.proofs.Laws.{plan_first}
use Rattle.event_check.specs.Targets.{releases_by, sets_by, written_by, driven_by, targets_by, list_by}

-- the same rule 11, the same rules
rules_same : (g h : Event → Bool) → ((e : Event) → g e ≡ h e) → (i last : ℕ) (es : List Event) → event_rules g i last es ≡ event_rules h i last es
unfolding event_rules
rules_same g h same i last [] = refl
rules_same g h same i last (e ∷ es) = rw (same e, rules_same g h same (i + 1) e.instant es)

-- a test behind one that says when it counts
behind : (a t p q v : Bool) → (t ≡ true → p ≡ q) → (((a && t) && p) && v) ≡ (((a && t) && q) && v)
behind a true p q v f = rw (f refl)
behind true false p q v f = refl
behind false false p q v f = refl

last_behind : (a t p q : Bool) → (t ≡ true → p ≡ q) → ((a && t) && p) ≡ ((a && t) && q)
last_behind a true p q f = rw (f refl)
last_behind true false p q f = refl
last_behind false false p q f = refl

not_not : (b : Bool) → not (not b) ≡ b
not_not true = refl
not_not false = refl

-- ---- the marks of the event-driven tasks
-- one task more, where t says that it is event-driven
one_more : (t : Bool) (marks i k : ℕ) → i < 64 → k < 64 → seen (cond t (mark marks i) marks) k ≡ (seen marks k || (t && eqb i k))
one_more true marks i k hi hk = seen-mark marks i k hi hk
one_more false marks i k hi hk = sym (or-false (seen marks k))

module _ (ws : List ℕ) where
  abbrev driven : ℕ → Bool
  driven i = eqb (word (body_of ws (i + 1)) 1) 0

  -- no task is marked before its turn
  not_yet : (n k : ℕ) → n ≤ k → k < 64 → seen (driven_by ws n) k ≡ false
  unfolding driven_by
  not_yet zero k h hk = seen_none k
  not_yet (suc n) k h hk =
      one_more (driven n) (driven_by ws n) n k (omega arith) hk
      ∙ rw (not_yet n k (omega arith) hk, ne_eqb n k (λ e. omega (arith, e))) (and_comm (driven n) false)

  -- a task is marked exactly when it is event-driven
  driven_marks : (n k : ℕ) → n ≤ 64 → k < n → seen (driven_by ws n) k ≡ driven k
  unfolding driven_by
  driven_marks zero k h l = absurd (omega arith)
  driven_marks (suc n) k h l =
      one_more (driven n) (driven_by ws n) n k (omega arith) (omega arith)
      ∙ go (eq-or-lt_of_le (le_of_suc-le-suc l)) (driven_marks n k (omega arith))
    where
      go : (k ≡ n) ⊎ (k < n) → (k < n → seen (driven_by ws n) k ≡ driven k) → (seen (driven_by ws n) k || (driven n && eqb n k)) ≡ driven k
      go (inl e) earlier =
          rw (not_yet n k (omega (arith, e)) (omega arith), eq-eqb n k (sym e)) (and_true (driven n) ∙ ap driven (sym e))
      go (inr less) earlier =
          rw (earlier less, ne_eqb n k (λ e. omega (arith, e)))
          (ap (λ (b : Bool). driven k || b) (and_comm (driven n) false) ∙ or-false (driven k))

module _ (bytes : List ℕ) where
  abbrev ws : List ℕ
  ws = words_of bytes

  written_is : written_by (tab (λ i. task_of (body_of ws (i + 1))) 0 (task_count ws)) ≡ mark_all 0 (all_outputs (plan_of bytes).tasks)
  unfolding plan_of
  written_is = rw (map-tab task_of (λ j. body_of ws (j + 1)) 0 (task_count ws))

  module _ (accepted : (plan_verdict bytes).number ≡ 0) where
    releases-same : (e : Event) → releases_by (targets_by ws) e ≡ release_event_rule (plan_of bytes) e
    unfolding task_of
    releases-same e =
        rw (tasks_length bytes)
        (behind (eqb e.kind 1) (ltb e.target (task_count ws)) _ _ (eqb e.value 0)
        (λ t. let h = ltb-true e.target (task_count ws) t in
        let few = ((accepted_exactly bytes).1 accepted).head.tasks.1 in
        driven_marks ws (task_count ws) e.target (omega arith) h ∙ ap (λ (k : Task). eqb k.period 0) (sym (task_is bytes e.target h))))

    sets_same : (e : Event) → sets_by (targets_by ws) e ≡ set_event_rule (plan_of bytes) e
    sets_same e =
        rw (written_is, signals_length bytes)
        (last_behind (eqb e.kind 2) (ltb e.target (signal_count ws)) _ _
        (λ t. let h = ltb-true e.target (signal_count ws) t in
        let s = signals_small bytes accepted in
        ap not (written_marks bytes accepted e.target (omega arith)) ∙ not_not (absent e.target (all_outputs (plan_of bytes).tasks))))

    pub list_is : (event_bytes : List ℕ) → list_by ws event_bytes ≡ event_list_rules bytes event_bytes
    list_is event_bytes =
        ap (λ (rs : List Rule). rule 9 0 (event_size_rule event_bytes) ∷ rs)
        (rules_same _ _ (λ e. ap₂ (λ (a b : Bool). a || b) (releases-same e) (sets_same e)) 0 0 (events_of event_bytes))

-- ---- the plan's verdict first
pub plan_decides : (plan_bytes event_bytes : List ℕ) → eqb (plan_verdict plan_bytes).number 0 ≡ false → events_verdict plan_bytes event_bytes ≡ plan_verdict plan_bytes
plan_decides plan_bytes event_bytes e = plan_first plan_bytes event_bytes ∙ rw e

pub list_decides : (plan_bytes event_bytes : List ℕ) → (plan_verdict plan_bytes).number ≡ 0
    → events_verdict plan_bytes event_bytes ≡ first_broken (list_by (words_of plan_bytes) event_bytes)
list_decides plan_bytes event_bytes e =
    plan_first plan_bytes event_bytes ∙ rw (eq-eqb (plan_verdict plan_bytes).number 0 e) (ap first_broken (sym (list_is plan_bytes e event_bytes)))
