-- What the code's proofs cite: the values of a plan, and the event place by its neighbours.
use Prim.Native.Nat.{ℕ, zero, suc, ◌+◌, ◌-◌, ◌<◌, ◌≤◌}
use mathlib.Core.Path.{◌≡◌, refl, sym, ap, subst, ◌∙◌}
use mathlib.Core.Bool.{Bool, true, false, cond}
use mathlib.Core.List.{List, map}
use mathlib.Core.Logic.{◌↔◌, ◌≢◌, ◌⊎◌, inl, inr}
use native.Mathlib.Omega.{arith}
use native.Mathlib.Nat.{zero-add, eq-or-lt_of_le}
use lib.ListN.{length, get_or, length-map, get_or-eq_default}
use lib.Dec.{eqb, ltb}
use borrow.Author.Tests.{ltb-true, ltb-false, lt-ltb, le-ltb, eqb-true, eq-eqb}
use Rattle.words.specs.Words.{words_of}
use Rattle.words.proofs.Laws.{part-words}
use Rattle.lists.specs.Lists.{tab}
use Rattle.lists.proofs.Laws.{length-tab, get_or-tab, map-tab, map-in}
use Rattle.lists.proofs.Tests.{tests, choices, same_or_not}
use Rattle.plan.specs.File.{word, start_of, length_of, body_part, signal_count, task_count, outputs_at, output_count, task_of, Plan, plan_of, no_task, task_at}
use Rattle.plan.proofs.Laws.{signals_length, tasks_length}
use Rattle.plan.proofs.Facts.{task_is}
use Rattle.events.specs.Events.{Event, event_count, events_of, event_of, passed, events_verdict}
use Rattle.events.proofs.Acceptance.{accepted_exactly}
use Rattle.state.specs.State.{value_at, fresh_task, idle}
use Rattle.state.specs.Steps.{neighbours, place_rule, fresh_at}

-- ---- the values of a plan
module _ (bytes : List ℕ) (x : ℕ) where
  abbrev ws : List ℕ
  ws = words_of bytes

  pub value_in : x < signal_count ws → value_at (plan_of bytes).signals x ≡ word ws (start_of ws 0 + x)
  unfolding plan_of
  value_in h =
      get_or-tab (λ j. word ws (start_of ws 0 + j)) 0 0 (signal_count ws) x h ∙ ap (λ (n : ℕ). word ws (start_of ws 0 + n)) (zero-add x)

  pub value_out : signal_count ws ≤ x → value_at (plan_of bytes).signals x ≡ 0
  value_out h = get_or-eq_default (plan_of bytes).signals 0 {n = x} (rw (signals_length bytes) h)

module _ (g : ℕ → ℕ) (ws : List ℕ) (j : ℕ) where
  outputs_are : map g (task_of ws).outputs ≡ tab (λ i. g (word ws (outputs_at ws + i))) 0 (output_count ws)
  unfolding task_of
  outputs_are = map-tab g (λ i. word ws (outputs_at ws + i)) 0 (output_count ws)

  pub output_in : j < output_count ws → get_or (map g (task_of ws).outputs) j 0 ≡ g (word ws (outputs_at ws + j))
  output_in h =
      ap (λ (xs : List ℕ). get_or xs j 0) outputs_are
      ∙ get_or-tab (λ i. g (word ws (outputs_at ws + i))) 0 0 (output_count ws) j h
      ∙ ap (λ (n : ℕ). g (word ws (outputs_at ws + n))) (zero-add j)

  pub output_out : output_count ws ≤ j → get_or (map g (task_of ws).outputs) j 0 ≡ 0
  output_out h =
      ap (λ (xs : List ℕ). get_or xs j 0) outputs_are
      ∙ get_or-eq_default (tab (λ i. g (word ws (outputs_at ws + i))) 0 (output_count ws)) 0 {n = j} (rw (length-tab (λ i. g (word ws (outputs_at ws + i))) 0 (output_count ws)) h)

-- ---- task i of a plan, read from its part of the file
module _ (bytes : List ℕ) (i : ℕ) where
  pub task_read : i < task_count (words_of bytes) → task_of (words_of (body_part bytes i)) ≡ task_at (plan_of bytes) i
  task_read h = ap task_of (part-words bytes (start_of (words_of bytes) (i + 1)) (length_of (words_of bytes) (i + 1))) ∙ sym (task_is bytes i h)

  pub task_in_lem : i < task_count (words_of bytes) → ltb i (length (plan_of bytes).tasks) ≡ true
  task_in_lem h = lt-ltb i (length (plan_of bytes).tasks) (rw (tasks_length bytes) h)

  pub task_out : task_count (words_of bytes) ≤ i → ltb i (length (plan_of bytes).tasks) ≡ false
  task_out h = le-ltb i (length (plan_of bytes).tasks) (rw (tasks_length bytes) h)

-- ---- task i of a fresh state
pub fresh-task_at : (plan : Plan) (i : ℕ) → get_or (map (fresh_task plan.signals) plan.tasks) i idle ≡ fresh_at plan i
fresh-task_at plan i = go (ltb i (length plan.tasks)) refl
  where
    go : (t : Bool) → ltb i (length plan.tasks) ≡ t → get_or (map (fresh_task plan.signals) plan.tasks) i idle ≡ cond t (fresh_task plan.signals (task_at plan i)) idle
    go true e = map-in (fresh_task plan.signals) plan.tasks i no_task idle (ltb-true i (length plan.tasks) e)
    go false e =
        let most = ltb-false i (length plan.tasks) e in
        get_or-eq_default (map (fresh_task plan.signals) plan.tasks) idle {n = i} (simp length-map most)

-- ---- the event place
-- of n instants from place k on, the first c are below t and no other is
pub record Parted (instant : ℕ → ℕ) (t k n c : ℕ) : Type 0 where
  pub bound : c ≤ n
  pub before : (j : ℕ) → k ≤ j → j < k + c → instant j < t
  pub after : (j : ℕ) → k + c ≤ j → j < k + n → t ≤ instant j

abbrev pub Rising : (ℕ → ℕ) → ℕ → ℕ → Type 0
Rising instant k n = (j : ℕ) → k ≤ j → j + 1 < k + n → instant j ≤ instant (j + 1)

module _ (f : ℕ → Event) (t : ℕ) where
  abbrev instant : ℕ → ℕ
  instant j = (f j).instant

  -- one event more in front
  one-past : (k n c : ℕ) → instant k < t → Parted instant t (k + 1) n c → Parted instant t k (suc n) (1 + c)
  one-past k n c past h =
      let bound = h.bound in
      record { bound = omega arith; before = λ j low high. go j high (eq-or-lt_of_le low); after = λ j low high. h.after j (omega arith) (omega arith) }
    where
      go : (j : ℕ) → j < k + (1 + c) → (k ≡ j) ⊎ (k < j) → instant j < t
      go j high (inl e) = subst (λ i. instant i < t) e past
      go j high (inr later) = h.before j (omega arith) (omega arith)

  one-due : (k n c : ℕ) → t ≤ instant k → Rising instant k (suc n) → Parted instant t (k + 1) n c → Parted instant t k (suc n) (0 + c)
  one-due k n c due rising h = from (same_or_not c 0)
    where
      go : c ≡ 0 → (j : ℕ) → j < k + suc n → (k ≡ j) ⊎ (k < j) → t ≤ instant j
      go z j high (inl e) = subst (λ i. t ≤ instant i) e due
      go z j high (inr later) = h.after j (omega arith) (omega arith)

      from : (c ≡ 0) ⊎ (c ≢ 0) → Parted instant t k (suc n) (0 + c)
      from (inl z) = record {
        bound = omega arith;
        before = λ j low high. absurd (omega arith);
        after = λ j low high. let from' : k ≤ j = omega arith in go z j high (eq-or-lt_of_le from');
      }
      from (inr some) =
          let bound = h.bound in
          let next = rising k (omega arith) (omega arith) in
          let past = h.before (k + 1) (omega arith) (omega arith) in
          absurd (omega arith)

  -- instants that never fall: those that are passed stand first
  pub passed-parts : (k n : ℕ) → Rising instant k n → Parted instant t k n (passed t (tab f k n))
  unfolding passed tab
  passed-parts k zero rising = record { bound = omega arith; before = λ j low high. absurd (omega arith); after = λ j low high. absurd (omega arith) }
  passed-parts k (suc n) rising = go (ltb (instant k) t) refl (passed-parts (k + 1) n (λ j low high. rising j (omega arith) (omega arith)))
    where
      go : (b : Bool) → ltb (instant k) t ≡ b → Parted instant t (k + 1) n (passed t (tab f (k + 1) n))
          → Parted instant t k (suc n) (cond b 1 0 + passed t (tab f (k + 1) n))
      go true e h = one-past k n (passed t (tab f (k + 1) n)) (ltb-true (instant k) t e) h
      go false e h = one-due k n (passed t (tab f (k + 1) n)) (ltb-false (instant k) t e) rising h

-- one place has such neighbours
parted_once : (instant : ℕ → ℕ) (t n c p : ℕ) → Parted instant t 0 n c → (neighbours instant n t p ≡ true) ↔ (p ≡ c)
parted_once instant t n c p h = (
  (λ e. let g = simp (choices, tests) at e in only g.0.0 g.0.1 g.1 (same_or_not p c)),
  (λ e. let bound = h.bound in simp (choices, tests) ((omega arith, (λ d. h.before (p - 1) (omega arith) (omega arith))), (λ d. h.after p (omega arith) (omega arith)))),
)
  where
    apart : p ≤ n → (p ≢ 0 → instant (p - 1) < t) → (p ≢ n → t ≤ instant p) → p ≢ c → (b : Bool) → ltb p c ≡ b → p ≡ c
    apart most past due d true e =
        let less = ltb-true p c e in
        let bound = h.bound in
        let early = h.before p (omega arith) (omega arith) in
        let late = due (λ s. absurd (omega arith)) in
        absurd (omega arith)
    apart most past due d false e =
        let above = ltb-false p c e in
        let early = past (λ z. d (omega arith)) in
        let late = h.after (p - 1) (omega (arith, d)) (omega (arith, d)) in
        absurd (omega arith)

    only : p ≤ n → (p ≢ 0 → instant (p - 1) < t) → (p ≢ n → t ≤ instant p) → (p ≡ c) ⊎ (p ≢ c) → p ≡ c
    only most past due (inl e) = e
    only most past due (inr d) = apart most past due d (ltb p c) refl

same_test : (a b : Bool) → ((a ≡ true) ↔ (b ≡ true)) → a ≡ b
same_test true true h = refl
same_test true false h = sym (h.0 refl)
same_test false true h = h.1 refl
same_test false false h = refl

module _ (plan_bytes event_bytes : List ℕ) (accepted : (events_verdict plan_bytes event_bytes).number ≡ 0) where
  -- accepted events: those with instant < t stand first, the others after them
  pub events_parted : (t : ℕ) → Parted (λ j. (event_of (words_of event_bytes) j).instant) t 0 (event_count event_bytes) (passed t (events_of event_bytes))
  events_parted t =
      let list = ((accepted_exactly plan_bytes event_bytes).1 accepted).1 in
      passed-parts (event_of (words_of event_bytes)) t 0 (event_count event_bytes) (λ j low high. list.rising j (omega arith))

  -- so two neighbours tell whether a place is their number
  pub place_told : (t p : ℕ) → place_rule event_bytes t p ≡ eqb p (passed t (events_of event_bytes))
  place_told t p =
      let once = parted_once (λ j. (event_of (words_of event_bytes) j).instant) t (event_count event_bytes) (passed t (events_of event_bytes)) p (events_parted t) in
      same_test (place_rule event_bytes t p) (eqb p (passed t (events_of event_bytes))) ((λ e. eq-eqb _ _ (once.0 e)), (λ e. once.1 (eqb-true _ _ e)))
