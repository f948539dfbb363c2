-- What steps 1, 2 and 3 do to the status, the remaining ticks and the release instant of one task: they stay as a state that fits has them.
use Prim.Native.Nat.{ℕ, ◌+◌, ◌-◌, ◌*◌, ◌%◌, ◌≤◌, ◌<◌}
use mathlib.Core.Path.{◌≡◌, refl, sym, ◌∙◌, subst, subst⁻¹}
use mathlib.Core.Logic.{◌≢◌, ◌⊎◌, inl, inr}
use mathlib.Core.Bool.{true, false, not, false≢true}
use mathlib.Core.List.{List}
use native.Mathlib.Omega.{arith}
use native.Mathlib.Nat.{pos_of_ne-zero}
use lib.Dec.{eqb, leb}
use borrow.Author.Tests.{eqb-true, eq-eqb, ne_eqb, le-leb, leb-true}
use Rattle.lists.specs.Lists.{Between}
use Rattle.lists.proofs.Laws.{and_left, and_right, and_both}
use Rattle.lists.proofs.Tests.{not_iff, same_or_not}
use Rattle.plan.specs.File.{Task}
use Rattle.plan.specs.Accepted.{Timing}
use Rattle.events.specs.Events.{Event}
use Rattle.state.specs.Fitting.{InFlight, AtRest, Multiple, Timed}
use Rattle.state.specs.declared.Status.{Status}
use Rattle.state.specs.declared.Status.TheVariants.{READY, ACTIVE, FINISHED, ERROR}
use Rattle.state.specs.declared.TaskState.{TaskState}
use Rattle.state.proofs.Fitting.{multiple_iff}
use Rattle.state.proofs.Statuses.{ready-active, active-finished, active-error, rest_flight}
use Rattle.tick.specs.Turns.{Turn, at_deadline, deadline_turn, due, waits, release_turn, is_active, run_turn}
use Rattle.tick.proofs.Cases.{active-is, Deadline, rests, misses, writes, deadline_is, asked, Release, starts, overruns, stays, release-is, Running, goes_on, finishes, writes_at_once, run_is}

-- ---- a task in flight, released at r, before tick t
pub record Flight (t : ℕ) (k : Task) (r : ℕ) : Type 0 where
  pub released : r < t
  pub in_time : 0 < k.deadline → t ≤ r + k.deadline
  pub offset : 0 < k.period → k.offset ≤ r
  pub multiple : 0 < k.period → Multiple k.period (r - k.offset)
  pub in_period : 0 < k.period → t ≤ r + k.period

-- after step 1 of tick t: its deadline is still to come
pub record Ahead (t : ℕ) (k : Task) (r : ℕ) : Type 0 where
  pub released : r < t
  pub in_time : 0 < k.deadline → t < r + k.deadline
  pub offset : 0 < k.period → k.offset ≤ r
  pub multiple : 0 < k.period → Multiple k.period (r - k.offset)
  pub in_period : 0 < k.period → t ≤ r + k.period

-- by status, with what is said of a task in flight as an argument
abbrev pub Stands : (ℕ → Task → ℕ → Type 0) → Status → ℕ → Task → ℕ → ℕ → Type 0
Stands F READY t k remaining r = (remaining ≡ 0) × (r ≡ 0)
Stands F ACTIVE t k remaining r = Between 1 k.execution remaining × F t k r
Stands F FINISHED t k remaining r = (remaining ≡ 0) × (0 < k.deadline) × F t k r
Stands F ERROR t k remaining r = (remaining ≡ 0) × (r ≡ 0)

-- the same of a task state
abbrev pub StandsAt : (ℕ → Task → ℕ → Type 0) → ℕ → Task → TaskState → Type 0
StandsAt F t k x = Stands F x.status t k x.remaining x.release

module _ (t : ℕ) (k : Task) (remaining r : ℕ) where
  -- a state that fits has it so
  pub stands : (p : Status) → Timed t k p remaining r → Stands Flight p t k remaining r
  stands READY h = (h.others (ready-active READY refl), h.at_rest (inl refl))
  stands ACTIVE h = (
    h.active refl,
    record { released = h.released (inl refl); in_time = h.in_time (inl refl); offset = h.offset (inl refl); multiple = h.multiple (inl refl); in_period = h.in_period (inl refl) },
  )
  stands FINISHED h = (
    h.others (λ e. active-finished FINISHED e refl),
    h.finished refl,
    record { released = h.released (inr refl); in_time = h.in_time (inr refl); offset = h.offset (inr refl); multiple = h.multiple (inr refl); in_period = h.in_period (inr refl) },
  )
  stands ERROR h = (h.others (λ e. active-error ERROR e refl), h.at_rest (inr refl))

  -- a task that is not in flight
  resting : (p : Status) → (InFlight p → ⊥) → remaining ≡ 0 → r ≡ 0 → Timed t k p remaining r
  resting p none a b = record {
    active = λ e. absurd (none (inl e));
    others = λ d. a;
    released = λ f. absurd (none f);
    in_time = λ f. absurd (none f);
    finished = λ f. absurd (none (inr f));
    offset = λ f. absurd (none f);
    multiple = λ f. absurd (none f);
    in_period = λ f. absurd (none f);
    at_rest = λ e. b;
  }

  -- one in flight
  flying : (p : Status) → (p ≡ ACTIVE → Between 1 k.execution remaining) → (p ≢ ACTIVE → remaining ≡ 0) → (p ≡ FINISHED → 0 < k.deadline)
      → (AtRest p → ⊥) → Flight t k r → Timed t k p remaining r
  flying p active others finished none f = record {
    active = active;
    others = others;
    released = λ w. f.released;
    in_time = λ w. f.in_time;
    finished = finished;
    offset = λ w. f.offset;
    multiple = λ w. f.multiple;
    in_period = λ w. f.in_period;
    at_rest = λ a. absurd (none a);
  }

  -- and the other way round
  pub timed : (p : Status) → Stands Flight p t k remaining r → Timed t k p remaining r
  timed READY h = resting READY (rest_flight READY (inl refl)) h.0 h.1
  timed ACTIVE h =
      flying ACTIVE (λ e. h.0) (λ d. absurd (d refl)) (λ e. absurd (active-finished ACTIVE refl e)) (λ a. rest_flight ACTIVE a (inl refl)) h.1
  timed FINISHED h =
      flying FINISHED (λ e. absurd (active-finished FINISHED e refl)) (λ d. h.0) (λ e. h.1) (λ a. rest_flight FINISHED a (inr refl)) h.2
  timed ERROR h = resting ERROR (rest_flight ERROR (inr refl)) h.0 h.1

-- ---- step 1
module _ (t i : ℕ) (k : Task) (x : TaskState) where
  -- not at its deadline: before it
  later : at_deadline t k x.release ≡ false → Flight t k x.release → Ahead t k x.release
  later e f = record { released = f.released; in_time = λ d. go d (same_or_not t (x.release + k.deadline)); offset = f.offset; multiple = f.multiple; in_period = f.in_period }
    where
      go : 0 < k.deadline → (t ≡ x.release + k.deadline) ⊎ (t ≢ x.release + k.deadline) → t < x.release + k.deadline
      go d (inl same) =
          absurd (false≢true (sym e ∙ and_both (not (eqb k.deadline 0)) (eqb t (x.release + k.deadline)) ((not_iff k.deadline 0).1 (λ z. absurd (omega arith))) (eq-eqb _ _ same)))
      go d (inr other) = let most = f.in_time d in omega arith

  -- by status, where its deadline is not now
  ahead : (p : Status) → (InFlight p → at_deadline t k x.release ≡ false) → Stands Flight p t k x.remaining x.release → Stands Ahead p t k x.remaining x.release
  ahead READY f h = h
  ahead ACTIVE f h = (h.0, later (f (inl refl)) h.1)
  ahead FINISHED f h = (h.0, h.1, later (f (inr refl)) h.2)
  ahead ERROR f h = h

  -- after step 1
  pub deadline_stands : StandsAt Flight t k x → StandsAt Ahead t k (deadline_turn t i k x).state
  deadline_stands h = go (deadline_is t i k x)
    where
      go : {u : Turn} → Deadline t i k x u → StandsAt Ahead t k u.state
      go (rests f) = ahead x.status f h
      go (misses a z) = (refl, refl)
      go (writes f z) = (refl, refl)

-- ---- step 2
module _ (t : ℕ) (signals : List ℕ) (now : List Event) (i : ℕ) (k : Task) (timing : Timing k) (x : TaskState) where
  -- in flight one tick longer
  longer : Ahead t k x.release → (k.deadline ≡ 0 → 0 < k.period → t < x.release + k.period) → Flight (t + 1) k x.release
  longer f free = record {
    released = let l = f.released in omega arith;
    in_time = λ d. let l = f.in_time d in omega arith;
    offset = f.offset;
    multiple = f.multiple;
    in_period = λ p. go p (same_or_not k.deadline 0);
  }
    where
      go : 0 < k.period → (k.deadline ≡ 0) ⊎ (k.deadline ≢ 0) → t + 1 ≤ x.release + k.period
      go p (inl z) = let l = free z p in omega arith
      go p (inr d) =
          let l = f.in_time (pos_of_ne-zero d) in
          let w = (timing.periodic (λ z. absurd (omega arith))).0 in
          omega arith

  -- not due: its period is not over
  not_due : Ahead t k x.release → due t k ≡ false → 0 < k.period → t < x.release + k.period
  not_due f e p = go (same_or_not t (x.release + k.period))
    where
      go : (t ≡ x.release + k.period) ⊎ (t ≢ x.release + k.period) → t < x.release + k.period
      go (inl same) =
          let o = f.offset p in
          let m = f.multiple p in
          let q = m.product in
          let next : t - k.offset ≡ (m.times + 1) * k.period = omega arith in
          absurd (false≢true (sym e ∙ and_both (leb k.offset t) (eqb ((t - k.offset) % k.period) 0) (le-leb k.offset t (omega arith))
          (eq-eqb _ _ ((multiple_iff k.period (t - k.offset)).1 (record { times = m.times + 1; product = next })))))
      go (inr other) = let l = f.in_period p in omega arith

  -- released now
  begun : (0 < k.period → due t k ≡ true) → Flight (t + 1) k t
  begun d = record {
    released = omega arith;
    in_time = λ l. omega arith;
    offset = λ p. leb-true k.offset t (and_left (leb k.offset t) (eqb ((t - k.offset) % k.period) 0) (d p));
    multiple = λ p. (multiple_iff k.period (t - k.offset)).0 (eqb-true _ 0 (and_right (leb k.offset t) (eqb ((t - k.offset) % k.period) 0) (d p)));
    in_period = λ p. omega arith;
  }

  -- by status, where nothing asks for it
  stays_on : (p : Status) → (p ≡ ACTIVE → k.period ≢ 0 → k.deadline ≡ 0 → due t k ≡ false) → Stands Ahead p t k x.remaining x.release
      → Stands Flight p (t + 1) k x.remaining x.release
  stays_on READY f h = h
  stays_on ACTIVE f h = (h.0, longer h.1 (λ w p. not_due h.1 (f refl (λ z. absurd (omega arith)) w) p))
  stays_on FINISHED f h = (h.0, h.1, longer h.2 (λ w p. absurd (let l = h.1 in omega arith)))
  stays_on ERROR f h = h

  -- a periodic task that is asked is due
  asked_due : asked t now i k ≡ true → 0 < k.period → due t k ≡ true
  asked_due a p = rw (ne_eqb k.period 0 (λ z. absurd (omega arith))) at a

  -- after step 2
  pub release-stands : StandsAt Ahead t k x → StandsAt Flight (t + 1) k (release_turn waits t signals now i k x).state
  release-stands h = go (release-is waits t signals now i k x)
    where
      go : {u : Turn} → Release waits t signals now i k x u → StandsAt Flight (t + 1) k u.state
      go (starts e a) = ((timing.execution.0, omega arith), begun (asked_due a))
      go (overruns e p d a) = (refl, refl)
      go (stays u) = stays_on x.status u.active h

-- ---- step 3
pub run_stands : (t i : ℕ) (k : Task) (x : TaskState) (u : ℕ) → is_active x.status ≡ true → StandsAt Flight u k x → StandsAt Flight u k (run_turn t i k x).state
run_stands t i k x u a h = go (run_is t i k x)
  where
    e : x.status ≡ ACTIVE
    e = active-is x.status a

    -- what is known of it, as of an ACTIVE task
    known : Between 1 k.execution x.remaining × Flight u k x.release
    known = subst (λ p. Stands Flight p u k x.remaining x.release) e h

    go : {v : Turn} → Running t i k x v → StandsAt Flight u k v.state
    go (goes_on d) =
        let l = known.0.1 in
        subst⁻¹ (λ p. Stands Flight p u k (x.remaining - 1) x.release) e ((omega (arith, d), omega arith), known.1)
    go (finishes z d) = (refl, pos_of_ne-zero d, known.1)
    go (writes_at_once z d) = (refl, refl)
