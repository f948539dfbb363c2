-- Document 01, 'The event list' and 'Numbers returned', proved of the definitions: the number is 0 exactly when a person who
-- reads the paper would accept, and a refusal names the first broken rule in the paper's order.
use Prim.Native.Nat.{ℕ, zero, suc, ◌+◌, ◌%◌, ◌<◌, ◌≤◌}
use mathlib.Core.Path.{◌≡◌, refl, sym, ap}
use mathlib.Core.Bool.{Bool, true, false, not, ◌&&◌, ◌||◌, false≢true}
use mathlib.Core.List.{List, [], ◌∷◌, ◌++◌}
use mathlib.Core.Logic.Iff
use mathlib.Core.Logic.{◌⊎◌, inl, inr, ◌↔◌}
use native.Mathlib.Omega.{arith}
use native.Mathlib.Numerals.{add-one}
use lib.ListN.{length, get_or}
use lib.Dec.{eqb}
use borrow.Author.Tests.{ltb-true, leb-true, eqb-true, eqb-false, not-true, lt-ltb, le-leb, eq-eqb, ne_eqb}
use Rattle.limits.specs.Limits.{max_event_bytes, last_instant}
use Rattle.lists.specs.Lists.{absent}
use Rattle.lists.proofs.Laws.{and_left, and_right, and_both, and_assoc}
use Rattle.answers.specs.Answers.{all_hold}
use Rattle.answers.proofs.Decides.{decides, hold_append}
use Rattle.plan.specs.File.{Task, no_task, Plan, plan_of, all_outputs}
use Rattle.plan.specs.Rules.{plan_rules}
use Rattle.plan.proofs.Acceptance.{rules_iff}
use Rattle.events.specs.Events.{Event, event_count, events_of, release_event_rule, set_event_rule, content_rule, event_rules, event_list_rules, check_rules}
use Rattle.events.specs.Accepted.{Releases, Sets, record_at, AcceptedEvents}
use Rattle.events.specs.Acceptance.{EventsAcceptedExactlyWhenTheRulesHold, EventsRefusedByTheFirstBrokenRule}
use Rattle.plan.proofs.Laws.{signals_length, tasks_length}
use Rattle.events.proofs.Laws.{events_length, event_at, numbered_check}

-- ---- a signal that no task writes
-- x stands at no position of a list
abbrev Nowhere : ℕ → List ℕ → Type 0
Nowhere x xs = (k : ℕ) → k < length xs → get_or xs k 0 ≡ x → ⊥

absent-nowhere : (x : ℕ) (xs : List ℕ) → absent x xs ≡ true → Nowhere x xs
unfolding absent
absent-nowhere x [] h k less e = absurd (omega arith)
absent-nowhere x (y ∷ ys) h zero less e = eqb-false x y (not-true _ (and_left _ _ h)) (sym e)
absent-nowhere x (y ∷ ys) h (suc k) less e = absent-nowhere x ys (and_right (not (eqb x y)) _ h) k (omega arith) e

nowhere-absent : (x : ℕ) (xs : List ℕ) → Nowhere x xs → absent x xs ≡ true
unfolding absent
nowhere-absent x [] h = refl
nowhere-absent x (y ∷ ys) h =
    and_both _ _ (ap not (ne_eqb x y (λ e. h zero (omega arith) (sym e)))) (nowhere-absent x ys (λ k less e. h (suc k) (omega arith) e))

absent-append : (x : ℕ) (xs ys : List ℕ) → absent x (xs ++ ys) ≡ (absent x xs && absent x ys)
unfolding absent
absent-append x [] ys = refl
absent-append x (y ∷ xs) ys = rw (absent-append x xs ys) (and_assoc (not (eqb x y)) (absent x xs) (absent x ys))

-- no task of a list writes x
abbrev Unwritten : ℕ → List Task → Type 0
Unwritten x ks = (i k : ℕ) → i < length ks → k < length (get_or ks i no_task).outputs → get_or (get_or ks i no_task).outputs k 0 ≡ x → ⊥

absent-unwritten : (x : ℕ) (ks : List Task) → absent x (all_outputs ks) ≡ true → Unwritten x ks
unfolding all_outputs
absent-unwritten x [] h i k less = absurd (omega arith)
absent-unwritten x (t ∷ ks) h zero k less = absent-nowhere x t.outputs (and_left _ _ (rw (absent-append x t.outputs (all_outputs ks)) at h)) k
absent-unwritten x (t ∷ ks) h (suc i) k less =
    absent-unwritten x ks (and_right (absent x t.outputs) _ (rw (absent-append x t.outputs (all_outputs ks)) at h)) i k (omega arith)

unwritten_absent : (x : ℕ) (ks : List Task) → Unwritten x ks → absent x (all_outputs ks) ≡ true
unfolding all_outputs absent
unwritten_absent x [] h = refl
unwritten_absent x (t ∷ ks) h =
    rw (absent-append x t.outputs (all_outputs ks))
    (and_both _ _ (nowhere-absent x t.outputs (λ k. h zero k (omega arith))) (unwritten_absent x ks (λ i k less. h (suc i) k (omega arith))))

-- ---- one record
either : (a b : Bool) → (a || b) ≡ true → (a ≡ true) ⊎ (b ≡ true)
either true b h = inl h
either false b h = inr h

or_left : (a b : Bool) → a ≡ true → (a || b) ≡ true
or_left true b h = refl
or_left false b h = absurd (false≢true h)

or_right : (a b : Bool) → b ≡ true → (a || b) ≡ true
or_right true b h = refl
or_right false b h = h

module _ (plan_bytes : List ℕ) (e : Event) where
  abbrev plan : Plan
  plan = plan_of plan_bytes

  releases : release_event_rule plan e ≡ true → Releases plan_bytes e
  releases h = record {
    kind = eqb-true _ _ (search (and_left, and_right));
    task = rw (← tasks_length plan_bytes) (ltb-true e.target (length plan.tasks) (search (and_left, and_right)));
    event_driven = eqb-true _ _ (search (and_left, and_right));
    value = eqb-true _ _ (search (and_left, and_right));
  }

  sets : set_event_rule plan e ≡ true → Sets plan_bytes e
  sets h = record {
    kind = eqb-true _ _ (search (and_left, and_right));
    signal = rw (← signals_length plan_bytes) (ltb-true e.target (length plan.signals) (search (and_left, and_right)));
    unwritten = rw (← tasks_length plan_bytes) (absent-unwritten e.target plan.tasks (search (and_left, and_right)));
  }

  told : content_rule plan e ≡ true → Releases plan_bytes e ⊎ Sets plan_bytes e
  told h = go (either (release_event_rule plan e) (set_event_rule plan e) h)
    where
      go : (release_event_rule plan e ≡ true) ⊎ (set_event_rule plan e ≡ true) → Releases plan_bytes e ⊎ Sets plan_bytes e
      go (inl r) = inl (releases r)
      go (inr w) = inr (sets w)

  released : Releases plan_bytes e → release_event_rule plan e ≡ true
  released r =
      let less : e.target < length plan.tasks = rw (tasks_length plan_bytes) r.task in
      rw (eq-eqb _ _ r.kind, lt-ltb _ _ less, eq-eqb _ _ r.event_driven, eq-eqb _ _ r.value)

  set : Sets plan_bytes e → set_event_rule plan e ≡ true
  set w =
      let less : e.target < length plan.signals = rw (signals_length plan_bytes) w.signal in
      let free : Unwritten e.target plan.tasks = rw (tasks_length plan_bytes) w.unwritten in
      rw (eq-eqb _ _ w.kind, lt-ltb _ _ less, unwritten_absent e.target plan.tasks free)

  tells : Releases plan_bytes e ⊎ Sets plan_bytes e → content_rule plan e ≡ true
  tells (inl r) = or_left (release_event_rule plan e) (set_event_rule plan e) (released r)
  tells (inr w) = or_right (release_event_rule plan e) (set_event_rule plan e) (set w)

-- ---- a list of records: record j, after a record of instant last
record Fits (plan_bytes : List ℕ) (last : ℕ) (e : Event) : Type 0 where
  rises : last ≤ e.instant
  bound : e.instant ≤ last_instant
  good : Releases plan_bytes e ⊎ Sets plan_bytes e

abbrev no_event : Event
no_event = record { instant = 0; kind = 0; target = 0; value = 0 }

-- the instant before record j
abbrev before : ℕ → List Event → ℕ → ℕ
before last es zero = last
before last es (suc j) = (get_or es j no_event).instant

-- the instant before record j of the rest
before-rest : (last : ℕ) (e : Event) (es : List Event) (j : ℕ) → before e.instant es j ≡ before last (e ∷ es) (suc j)
before-rest last e es zero = refl
before-rest last e es (suc j) = refl

abbrev Each : List ℕ → ℕ → List Event → Type 0
Each plan_bytes last es = (j : ℕ) → j < length es → Fits plan_bytes (before last es j) (get_or es j no_event)

module _ (plan_bytes : List ℕ) where
  hold_each : (i last : ℕ) (es : List Event) → all_hold (event_rules (content_rule (plan_of plan_bytes)) i last es) ≡ true → Each plan_bytes last es
  unfolding all_hold event_rules
  hold_each i last [] h j less = absurd (omega arith)
  hold_each i last (e ∷ es) h zero less = record {
    rises = leb-true last e.instant (search (and_left, and_right));
    bound = leb-true e.instant last_instant (search (and_left, and_right));
    good = told plan_bytes e (search (and_left, and_right));
  }
  hold_each i last (e ∷ es) h (suc j) less =
      rw (← before-rest last e es j) (hold_each (i + 1) e.instant es (search (and_left, and_right)) j (omega arith))

  each-hold : (i last : ℕ) (es : List Event) → Each plan_bytes last es → all_hold (event_rules (content_rule (plan_of plan_bytes)) i last es) ≡ true
  unfolding all_hold event_rules
  each-hold i last [] h = refl
  each-hold i last (e ∷ es) h =
      let first = h zero (omega arith) in
      let rest : Each plan_bytes e.instant es = λ j less. rw (before-rest last e es j) (h (suc j) (omega arith)) in
      rw (le-leb _ _ first.rises, le-leb _ _ first.bound, tells plan_bytes e first.good) (each-hold (i + 1) e.instant es rest)

-- ---- the whole list
instant_before : (bytes : List ℕ) (j : ℕ) → j < event_count bytes → before 0 (events_of bytes) (suc j) ≡ (record_at bytes j).instant
instant_before bytes j less = ap (λ (e : Event). e.instant) (event_at bytes no_event j less)

instant_next : (bytes : List ℕ) (j : ℕ) → (record_at bytes (j + 1)).instant ≡ (record_at bytes (suc j)).instant
instant_next bytes j = ap (λ (n : ℕ). (record_at bytes n).instant) (add-one j)

module _ (plan_bytes event_bytes : List ℕ) where
  each-record : Each plan_bytes 0 (events_of event_bytes) → (j : ℕ) → j < event_count event_bytes
      → Fits plan_bytes (before 0 (events_of event_bytes) j) (record_at event_bytes j)
  each-record each j less = rw (event_at event_bytes no_event j less) at (each j (rw (events_length event_bytes) less))

  list_accepted : all_hold (event_list_rules plan_bytes event_bytes) ≡ true → AcceptedEvents plan_bytes event_bytes
  unfolding all_hold
  list_accepted h =
      let each = each-record (hold_each plan_bytes 0 0 (events_of event_bytes) (search (and_left, and_right))) in
      record {
        whole = eqb-true (length event_bytes % 16) 0 (search (and_left, and_right));
        size = leb-true (length event_bytes) max_event_bytes (search (and_left, and_right));
        rising = λ j less. omega (arith, (each (suc j) (omega arith)).rises, instant_before event_bytes j (omega arith), instant_next event_bytes j);
        bounded = λ j less. (each j less).bound;
        content = λ j less. (each j less).good;
      }

  -- the first instant, compared with 0, cannot fall
  accepted_rises : AcceptedEvents plan_bytes event_bytes → (j : ℕ) → j < event_count event_bytes → before 0 (events_of event_bytes) j ≤ (record_at event_bytes j).instant
  accepted_rises a zero less = omega arith
  accepted_rises a (suc j) less = omega (arith, a.rising j (omega arith), instant_before event_bytes j (omega arith), instant_next event_bytes j)

  accepted_each : AcceptedEvents plan_bytes event_bytes → Each plan_bytes 0 (events_of event_bytes)
  accepted_each a j below =
      let less : j < event_count event_bytes = rw (events_length event_bytes) at below in
      rw (event_at event_bytes no_event j less) (record { rises = accepted_rises a j less; bound = a.bounded j less; good = a.content j less })

  accepted_list : AcceptedEvents plan_bytes event_bytes → all_hold (event_list_rules plan_bytes event_bytes) ≡ true
  unfolding all_hold
  accepted_list a = rw (eq-eqb _ _ a.whole, le-leb _ _ a.size) (each-hold plan_bytes 0 0 (events_of event_bytes) (accepted_each a))

-- ---- the verdict
-- as every list of rules that has no number 0
pub verdict-decides : EventsRefusedByTheFirstBrokenRule
verdict-decides plan_bytes event_bytes = decides (check_rules plan_bytes event_bytes) (numbered_check plan_bytes event_bytes)

-- so number 0 says that each rule holds
pub accepted_exactly : EventsAcceptedExactlyWhenTheRulesHold
accepted_exactly plan_bytes event_bytes =
    let list-iff : (all_hold (event_list_rules plan_bytes event_bytes) ≡ true) ↔ AcceptedEvents plan_bytes event_bytes
    = (list_accepted plan_bytes event_bytes, accepted_list plan_bytes event_bytes) in
    let both = hold_append (plan_rules plan_bytes) (event_list_rules plan_bytes event_bytes) in
    Iff.symm (Iff.trans (verdict-decides plan_bytes event_bytes).accepts (Iff.trans both (Iff.and (rules_iff plan_bytes) list-iff)))
