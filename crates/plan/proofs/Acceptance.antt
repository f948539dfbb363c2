-- Document 01, 'The plan file' and 'Numbers returned', proved of the definitions: the number is 0 exactly when a person who
-- reads the paper would accept, and a refusal names the first broken rule in the paper's order.
use Prim.Native.Nat.{ℕ, zero, suc, ◌+◌, ◌<◌, ◌≤◌}
use mathlib.Core.Path.{◌≡◌, refl, sym, ap, subst, ◌∙◌}
use mathlib.Core.Bool.{Bool, true, not, ◌&&◌, ◌||◌}
use mathlib.Core.List.{List, [], ◌∷◌, ◌++◌, map}
use mathlib.Core.Logic.Iff
use mathlib.Core.Logic.{◌≢◌, ◌⊎◌, inl, inr, ◌↔◌}
use native.Mathlib.Omega.{arith}
use native.Mathlib.Nat.{eq-or-lt_of_le}
use native.Mathlib.Numerals.{add-one}
use lib.ListN.{length}
use lib.Dec.{ltb}
use Rattle.words.specs.Words.{words_of}
use Rattle.lists.specs.Lists.{absent, Every, Pairwise}
use Rattle.lists.proofs.Laws.{and_assoc}
use Rattle.lists.proofs.Tests.{tests, choices, and_iff, or_iff, ltb_iff, all-iff, absent-every, every_iff, every_both, every_all, pairwise_map}
use Rattle.answers.specs.Answers.{all_hold}
use Rattle.answers.proofs.Decides.{decides, holds}
use Rattle.plan.specs.File.{signal_count, task_count, start_of, length_of, Transition, Action, Task, task_of, task_bodies, plan_of, all_outputs}
use Rattle.plan.specs.Rules.{size_rule, head_rule, first_start, chained, contents_rule, shape_rule, release_rule, timing_rule}
use Rattle.plan.specs.Rules.{supervisor_rule, controller_rule, same_order, transition_rule, transitions_rule, second_rule, action_rule, lowest, body_rule}
use Rattle.plan.specs.Rules.{task_rules, all_new, after_all, clash_rules, priority_of, plan_rules}
use Rattle.plan.specs.Accepted.{Size, Head, Contents, Shape, Timing, Kind, TransitionGood, ActionGood, Body, Accepted}
use Rattle.plan.specs.Acceptance.{PlanAcceptedExactlyWhenTheRulesHold, PlanRefusedByTheFirstBrokenRule}
use Rattle.plan.proofs.Laws.{plan_numbered}

-- ---- 1 and 2
size_iff : (bytes : List ℕ) → (size_rule bytes ≡ true) ↔ Size bytes
size_iff bytes = ((λ e. let h = simp tests at e in record { whole = h.0; limits = h.1 }), (λ h. simp tests (h.whole, h.limits)))

head_iff : (ws : List ℕ) → (head_rule ws ≡ true) ↔ Head ws
head_iff ws = (
  (λ e. let h = simp tests at e in record { version = h.0.0; signals = h.0.1; tasks = h.1 }),
  (λ h. simp tests ((h.version, h.signals), h.tasks)),
)

-- ---- 3
abbrev Follows : List ℕ → ℕ → Type 0
Follows ws k = start_of ws (k + 1) ≡ start_of ws k + length_of ws k

abbrev Ends : List ℕ → ℕ → Type 0
Ends ws k = start_of ws k + length_of ws k ≡ length ws

-- the entries from k to t, where the body of entry k is to start at a word
record Chain (ws : List ℕ) (t k start : ℕ) : Type 0 where
  first : start_of ws k ≡ start
  next : (j : ℕ) → k ≤ j → j < t → Follows ws j
  last : Ends ws t

module _ (ws : List ℕ) (t : ℕ) where
  -- the end of a body, by the word at which it is to start
  moved : (k start : ℕ) → start_of ws k ≡ start → start_of ws k + length_of ws k ≡ start + length_of ws k
  moved k start = ap (λ (n : ℕ). n + length_of ws k)

  -- one entry more in front
  longer : (k start : ℕ) → start_of ws k ≡ start → Chain ws t (k + 1) (start + length_of ws k) → Chain ws t k start
  longer k start e r = record { first = e; next = λ j low high. go j high (eq-or-lt_of_le low); last = r.last }
    where
      go : (j : ℕ) → j < t → (k ≡ j) ⊎ (k < j) → Follows ws j
      go j high (inl same) = subst (Follows ws) same (r.first ∙ sym (moved k start e))
      go j high (inr later) = r.next j (omega arith) high

  -- n entries after entry k
  chain_iff : (n k start : ℕ) → k + n ≡ t → (chained ws (suc n) k start ≡ true) ↔ Chain ws t k start
  unfolding chained
  chain_iff zero k start e =
      let same : k ≡ t = omega arith in (
        (λ h.
            let g = simp tests at h in
            record { first = g.0; next = λ j low high. absurd (omega arith); last = subst (Ends ws) same (moved k start g.0 ∙ g.1) }),
        (λ h. simp tests (h.first, sym (moved k start h.first) ∙ subst (Ends ws) (sym same) h.last)),
      )
  chain_iff (suc n) k start e =
      let r = chain_iff n (k + 1) (start + length_of ws k) (omega arith) in (
        (λ h. let g = simp (r, tests) at h in longer k start g.0 g.1),
        (λ h.
            simp (r, tests) (
              h.first,
              record {
                first = h.next k (omega arith) (omega arith) ∙ moved k start h.first;
                next = λ j low high. h.next j (omega arith) high;
                last = h.last;
              },
            )),
      )

contents-iff : (ws : List ℕ) → (contents_rule ws ≡ true) ↔ Contents ws
contents-iff ws =
    let t = task_count ws in
    let start = first_start ws in
    let r = subst (λ n. (chained ws n 0 start ≡ true) ↔ Chain ws t 0 start) (sym (add-one t)) (chain_iff ws t t 0 start (omega arith)) in (
      (λ e.
          let h = simp (r, tests) at e in
          let room = h.0.0 in
          let first = h.1.first in
          record { room = omega arith; first = omega arith; next = λ k. h.1.next k (omega arith); last = h.1.last; signals = h.0.1 }),
      (λ h.
          let room = h.room in
          let first = h.first in
          simp (r, tests) ((omega arith, h.signals), record { first = omega arith; next = λ j low. h.next j; last = h.last })),
    )

-- ---- 4
shape_iff : (ws : List ℕ) → (shape_rule ws ≡ true) ↔ Shape ws
shape_iff ws = (
  (λ e.
      let h = simp tests at e in
      let formula = h.1 in
      record {
        counts = h.0.0.0.0.0;
        inputs = h.0.0.0.0.1;
        outputs = h.0.0.0.1;
        transitions = h.0.0.1;
        actions = h.0.1;
        formula = omega arith;
      }),
  (λ h. simp tests (((((h.counts, h.inputs), h.outputs), h.transitions), h.actions), omega arith)),
)

-- ---- 5
release-iff : (k : Task)
    → (release_rule k ≡ true) ↔ ((k.period ≡ 0 → k.offset ≡ 0) × (k.period ≢ 0 → (k.deadline ≤ k.period) × (k.offset < k.period)))
release-iff k = simp (← and_assoc, choices, tests) Iff.rfl

timing_iff : (k : Task) → (timing_rule k ≡ true) ↔ Timing k
timing_iff k = (
  (λ e.
      let h = simp (release-iff, tests) at e in
      record {
        priority = h.0.0.0.0;
        execution = h.0.0.0.1;
        period = h.0.0.1;
        deadline = h.0.1;
        event_driven = h.1.0;
        periodic = h.1.1;
      }),
  (λ h. simp (release-iff, tests) ((((h.priority, h.execution), h.period), h.deadline), (h.event_driven, h.periodic))),
)

-- ---- 6
kind_iff : (k : Task) → ((supervisor_rule k || controller_rule k) ≡ true) ↔ Kind k
kind_iff k = ((λ e. there (rules.0 e)), (λ h. rules.1 (back h h.either)))
  where
    rules : ((supervisor_rule k || controller_rule k) ≡ true) ↔ ((supervisor_rule k ≡ true) ⊎ (controller_rule k ≡ true))
    rules = or_iff (supervisor_rule k) (controller_rule k)

    there : (supervisor_rule k ≡ true) ⊎ (controller_rule k ≡ true) → Kind k
    there (inl e) =
        let h = simp tests at e in
        let one = h.0.0 in
        record { either = inl one; supervisor = λ s. record { initial = h.0.1; outputs = h.1 }; controller = λ c. absurd (omega arith) }
    there (inr e) =
        let h = simp tests at e in
        let two = h.0.0.0 in
        record {
          either = inr two;
          supervisor = λ s. absurd (omega arith);
          controller = λ c. record { initial = h.0.0.1; transitions = h.0.1; inputs = h.1 };
        }

    back : Kind k → (k.kind ≡ 1) ⊎ (k.kind ≡ 2) → (supervisor_rule k ≡ true) ⊎ (controller_rule k ≡ true)
    back h (inl s) = let g = h.supervisor s in inl (simp tests ((s, g.initial), g.outputs))
    back h (inr c) = let g = h.controller c in inr (simp tests (((c, g.initial), g.transitions), g.inputs))

transition-iff : (ni : ℕ) (x : Transition) → (transition_rule ni x ≡ true) ↔ TransitionGood ni x
transition-iff ni x = (
  (λ e. let h = simp tests at e in record { from = h.0.0.0; to = h.0.0.1; input = h.0.1; order = h.1 }),
  (λ h. simp tests (((h.from, h.to), h.input), h.order)),
)

abbrev Apart : Transition → Transition → Type 0
Apart x y = x.from ≡ y.from → x.order ≢ y.order

apart-iff : (x y : Transition) → (not (same_order x y) ≡ true) ↔ Apart x y
apart-iff x y = simp (choices, tests) Iff.rfl

transitions_iff : (ni : ℕ) (xs : List Transition) → (transitions_rule ni xs ≡ true) ↔ (Every (TransitionGood ni) xs × Pairwise Apart xs)
unfolding transitions_rule
transitions_iff ni [] = ((λ e. (tt, tt)), (λ h. refl))
transitions_iff ni (x ∷ xs) =
    let one = transition-iff ni x in
    let apart = all-iff (λ y. not (same_order x y)) (Apart x) (apart-iff x) xs in
    let rest = transitions_iff ni xs in (
      (λ e.
          let h = (and_iff _ _).0 e in
          let g = (and_iff _ _).0 h.0 in
          let r = rest.0 h.1 in
          ((one.0 g.0, r.0), (apart.0 g.1, r.1))),
      (λ h. (and_iff _ _).1 ((and_iff _ _).1 (one.1 h.0.0, apart.1 h.1.0), rest.1 (h.0.1, h.1.1))),
    )

second_iff : (k : Task) (x : Action)
    → (second_rule (length k.outputs) (lowest k) x ≡ true)
    ↔ ((x.kind ≡ 4 → (k.kind ≡ 1 → 2 ≤ x.b) × ((x.b < length k.outputs) × (x.b ≢ x.a))) × (x.kind ≢ 4 → x.b ≡ 0))
second_iff k x = simp (← and_assoc, choices, tests) Iff.rfl

action-iff : (k : Task) (x : Action) → (action_rule (length k.inputs) (length k.outputs) (lowest k) x ≡ true) ↔ ActionGood k x
action-iff k x = (
  (λ e.
      let h = simp (second_iff, choices, tests) at e in
      let second = h.0.1 in
      record {
        state = h.0.0.0.0.0;
        kind = h.0.0.0.0.1;
        a = h.0.0.1;
        move = λ m. (second.0 m).1;
        other = second.1;
        c = h.1;
        supervisor_a = h.0.0.0.1;
        supervisor_b = λ s m. (second.0 m).0 s;
      }),
  (λ h.
      simp (second_iff, choices, tests)
      (((((h.state, h.kind), h.supervisor_a), h.a), ((λ m. ((λ s. h.supervisor_b s m), h.move m)), h.other)), h.c)),
)

body-iff : (s : ℕ) (k : Task) → (body_rule s k ≡ true) ↔ Body s k
body-iff s k =
    let below = all-iff (λ x. ltb x s) (λ x. x < s) (λ x. ltb_iff x s) in
    let moves = transitions_iff (length k.inputs) k.transitions in
    let actions = all-iff (action_rule (length k.inputs) (length k.outputs) (lowest k)) (ActionGood k) (action-iff k) k.actions in (
      (λ e.
          let h = simp and_iff at e in
          let m = moves.0 h.0.1 in
          record {
            kind = (kind_iff k).0 h.0.0.0.0;
            inputs = (below k.inputs).0 h.0.0.0.1;
            outputs = (below k.outputs).0 h.0.0.1;
            transitions = m.0;
            orders = m.1;
            actions = actions.0 h.1;
          }),
      (λ h.
          simp and_iff (
            ((((kind_iff k).1 h.kind, (below k.inputs).1 h.inputs), (below k.outputs).1 h.outputs), moves.1 (h.transitions, h.orders)),
            actions.1 h.actions,
          )),
    )

-- ---- 4, 5 and 6 of each task
record Tasks (s : ℕ) (bodies : List (List ℕ)) : Type 0 where
  shapes : Every Shape bodies
  timing : Every Timing (map task_of bodies)
  body : Every (Body s) (map task_of bodies)

tasks_iff : (s i : ℕ) (bodies : List (List ℕ)) → (all_hold (task_rules s i bodies) ≡ true) ↔ Tasks s bodies
unfolding task_rules all_hold
tasks_iff s i [] = ((λ e. record { shapes = tt; timing = tt; body = tt }), (λ h. refl))
tasks_iff s i (ws ∷ rest) =
    let shape = shape_iff ws in
    let timing = timing_iff (task_of ws) in
    let body = body-iff s (task_of ws) in
    let later = tasks_iff s (i + 1) rest in (
      (λ e.
          let h = simp holds at e in
          let r = later.0 h.1.1.1 in
          record { shapes = (shape.0 h.0, r.shapes); timing = (timing.0 h.1.0, r.timing); body = (body.0 h.1.1.0, r.body) }),
      (λ h.
          let r = later.1 (record { shapes = h.shapes.1; timing = h.timing.1; body = h.body.1 }) in
          simp holds (shape.1 h.shapes.0, (timing.1 h.timing.0, (body.1 h.body.0, r)))),
    )

-- ---- 7 and 8: no number stands twice among those of all tasks, in order
flat : List (List ℕ) → List ℕ
flat [] = []
flat (xs ∷ rest) = xs ++ flat rest

new_append : (seen xs ys : List ℕ) → all_new seen (xs ++ ys) ≡ (all_new seen xs && all_new (after_all seen xs) ys)
unfolding all_new after_all
new_append seen [] ys = refl
new_append seen (x ∷ xs) ys =
    ap (λ (t : Bool). absent x seen && t) (new_append (x ∷ seen) xs ys)
    ∙ and_assoc (absent x seen) (all_new (x ∷ seen) xs) (all_new (after_all (x ∷ seen) xs) ys)

clash_flat : (number i : ℕ) (seen : List ℕ) (lists : List (List ℕ)) → all_hold (clash_rules number i seen lists) ≡ all_new seen (flat lists)
unfolding clash_rules all_hold all_new flat
clash_flat number i seen [] = refl
clash_flat number i seen (xs ∷ rest) = rw (clash_flat number (i + 1) (after_all seen xs) rest) (sym (new_append seen xs (flat rest)))

new_iff : (seen xs : List ℕ) → (all_new seen xs ≡ true) ↔ (Every (λ x. Every (λ y. x ≢ y) seen) xs × Pairwise ◌≢◌ xs)
unfolding all_new
new_iff seen [] = ((λ e. (tt, tt)), (λ h. refl))
new_iff seen (x ∷ xs) =
    let later = new_iff (x ∷ seen) xs in
    let both = every_both (λ y. y ≢ x) (λ y. Every (λ z. y ≢ z) seen) xs in
    let turned = every_iff (λ y. y ≢ x) (λ y. x ≢ y) xs (λ y. ((λ d e. d (sym e)), (λ d e. d (sym e)))) in (
      (λ e.
          let h = simp (and_iff, absent-every, later, both) at e in
          ((h.0, h.1.0.1), (turned.0 h.1.0.0, h.1.1))),
      (λ h. simp (and_iff, absent-every, later, both) (h.0.0, ((turned.1 h.1.0, h.0.1), h.1.1))),
    )

distinct_iff : (number : ℕ) (lists : List (List ℕ)) → (all_hold (clash_rules number 0 [] lists) ≡ true) ↔ Pairwise ◌≢◌ (flat lists)
distinct_iff number lists =
    let new = new_iff [] (flat lists) in
    let same = clash_flat number 0 [] lists in
    ((λ e. (new.0 (sym same ∙ e)).1), (λ h. same ∙ new.1 (every_all _ (flat lists) (λ x. tt), h)))

flat_priorities : (ks : List Task) → flat (map priority_of ks) ≡ map (λ k. k.priority) ks
unfolding flat
flat_priorities [] = refl
flat_priorities (k ∷ ks) = rw (flat_priorities ks)

flat_outputs : (ks : List Task) → flat (map (λ k. k.outputs) ks) ≡ all_outputs ks
unfolding all_outputs flat
flat_outputs [] = refl
flat_outputs (k ∷ ks) = rw (flat_outputs ks)

priorities_iff : (ks : List Task) → (all_hold (clash_rules 7 0 [] (map priority_of ks)) ≡ true) ↔ Pairwise (λ x y. x.priority ≢ y.priority) ks
priorities_iff ks =
    Iff.trans (rw (flat_priorities ks) at (distinct_iff 7 (map priority_of ks))) (pairwise_map ◌≢◌ (λ k. k.priority) ks)

outputs_iff : (ks : List Task) → (all_hold (clash_rules 8 0 [] (map (λ k. k.outputs) ks)) ≡ true) ↔ Pairwise ◌≢◌ (all_outputs ks)
outputs_iff ks = rw (flat_outputs ks) at (distinct_iff 8 (map (λ k. k.outputs) ks))

-- ---- the whole plan
pub rules_iff : (bytes : List ℕ) → (all_hold (plan_rules bytes) ≡ true) ↔ Accepted bytes
unfolding plan_rules plan_of
rules_iff bytes =
    let ws = words_of bytes in
    let tasks = tasks_iff (signal_count ws) 0 (task_bodies ws) in
    let priorities = priorities_iff (plan_of bytes).tasks in
    let outputs = outputs_iff (plan_of bytes).tasks in (
      (λ e.
          let h = simp holds at e in
          let each = tasks.0 h.1.1.1.0 in
          let clash = h.1.1.1.1 in
          record {
            size = (size_iff bytes).0 h.0;
            head = (head_iff ws).0 h.1.0;
            contents = (contents-iff ws).0 h.1.1.0;
            shapes = each.shapes;
            timing = each.timing;
            bodies = each.body;
            priorities = priorities.0 clash.0;
            outputs = outputs.0 clash.1;
          }),
      (λ h.
          let each = tasks.1 (record { shapes = h.shapes; timing = h.timing; body = h.bodies }) in
          simp holds (
            (size_iff bytes).1 h.size,
            (
              (head_iff ws).1 h.head,
              (
                (contents-iff ws).1 h.contents,
                (each, (priorities.1 h.priorities, outputs.1 h.outputs)),
              ),
            ),
          )),
    )

-- as every list of rules that has no number 0
pub verdict-decides : PlanRefusedByTheFirstBrokenRule
verdict-decides bytes = decides (plan_rules bytes) (plan_numbered bytes)

-- so number 0 says that each rule holds
pub accepted_exactly : PlanAcceptedExactlyWhenTheRulesHold
accepted_exactly bytes = Iff.symm (Iff.trans (verdict-decides bytes).accepts (rules_iff bytes))
