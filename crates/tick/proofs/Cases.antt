-- What a turn of each step comes to, case by case, and the same as equations by status. Everything above goes by these, so that
-- the text of the turns stands open here alone.
use Prim.Native.Nat.{ℕ, zero, suc, ◌+◌, ◌-◌}
use mathlib.Core.Path.{◌≡◌, refl, sym, ◌∙◌, subst, ap}
use mathlib.Core.Logic.{◌≢◌, inl, inr}
use mathlib.Core.Bool.{Bool, true, false, cond, not, ◌&&◌, true≢false}
use mathlib.Core.List.{List, [], ◌∷◌}
use native.Mathlib.Omega.{arith}
use lib.ListN.{replicate}
use lib.Dec.{eqb}
use borrow.Author.Tests.{eqb-true, eqb-false, eq-eqb, ne_eqb}
use Rattle.plan.specs.File.{Task}
use Rattle.events.specs.Events.{Event}
use Rattle.trace.specs.Trace.{release_kind, miss_kind, overrun_kind, ignored_kind, entry}
use Rattle.state.specs.Fitting.{InFlight}
use Rattle.state.specs.declared.Status.{Status}
use Rattle.state.specs.declared.Status.TheVariants.{READY, ACTIVE, FINISHED, ERROR}
use Rattle.state.specs.declared.TaskState.{TaskState}
use Rattle.state.proofs.Statuses.{ready-active, ready-finished, ready-error, active-finished, active-error, rest_flight}
use Rattle.tick.specs.Turns.{Turn, quiet, finish, write_out, fail, at_deadline, deadline_of, deadline_turn, due, requests, release, Call, released, overrun, ignored, periodic_call, event_call, call_of, answer, release_turn, is_active, loses, run_turn}

-- ---- ACTIVE as a test and as a status
pub active-is : (p : Status) → is_active p ≡ true → p ≡ ACTIVE
unfolding is_active
active-is READY e = cc
active-is ACTIVE e = refl
active-is FINISHED e = cc
active-is ERROR e = cc

-- the other way round
pub is_active-true : (p : Status) → p ≡ ACTIVE → is_active p ≡ true
unfolding is_active
is_active-true p e = rw e

-- ---- step 1
-- a turn of step 1: nothing, a miss, or the writes
pub data Deadline (t i : ℕ) (k : Task) (x : TaskState) : Turn → Type 0 where
  rests : (InFlight x.status → at_deadline t k x.release ≡ false) → Deadline t i k x (quiet x)
  misses : x.status ≡ ACTIVE → at_deadline t k x.release ≡ true → Deadline t i k x (fail t miss_kind i x)
  writes : x.status ≡ FINISHED → at_deadline t k x.release ≡ true → Deadline t i k x (write_out t i k x)

module _ (t i : ℕ) (k : Task) (x : TaskState) where
  -- which of them
  pub deadline_is : Deadline t i k x (deadline_turn t i k x)
  unfolding deadline_of
  deadline_is = go x.status (at_deadline t k x.release) refl refl
    where
      go : (p : Status) (b : Bool) → x.status ≡ p → at_deadline t k x.release ≡ b → Deadline t i k x (deadline_of p b t i k x)
      go READY b e z = rests (λ f. absurd (rest_flight x.status (inl e) f))
      go ACTIVE true e z = misses e z
      go ACTIVE false e z = rests (λ f. z)
      go FINISHED true e z = writes e z
      go FINISHED false e z = rests (λ f. z)
      go ERROR b e z = rests (λ f. absurd (rest_flight x.status (inr e) f))

  -- by status
  pub deadline_ready : x.status ≡ READY → deadline_turn t i k x ≡ quiet x
  unfolding deadline_of
  deadline_ready e = rw e

  -- "All ERRORs last."
  pub deadline_error : x.status ≡ ERROR → deadline_turn t i k x ≡ quiet x
  unfolding deadline_of
  deadline_error e = rw e

  -- not at the deadline: nothing, whatever the status
  pub deadline_later : at_deadline t k x.release ≡ false → deadline_turn t i k x ≡ quiet x
  unfolding deadline_of
  deadline_later z = rw z (elim x.status as (λ p. deadline_of p false t i k x ≡ quiet x) [ READY ↦ refl | ACTIVE ↦ refl | FINISHED ↦ refl | ERROR ↦ refl ])

  -- "ACTIVE becomes ERROR"
  pub deadline_missed : x.status ≡ ACTIVE → at_deadline t k x.release ≡ true → deadline_turn t i k x ≡ fail t miss_kind i x
  unfolding deadline_of
  deadline_missed e z = rw (e, z)

  -- "FINISHED writes all held outputs to its signals and becomes READY"
  pub deadline_written : x.status ≡ FINISHED → at_deadline t k x.release ≡ true → deadline_turn t i k x ≡ write_out t i k x
  unfolding deadline_of
  deadline_written e z = rw (e, z)

  -- "with D > 0 and t = r + D"
  pub deadline_now : k.deadline ≢ 0 → t ≡ x.release + k.deadline → at_deadline t k x.release ≡ true
  deadline_now d z = rw (ne_eqb k.deadline 0 d, eq-eqb t (x.release + k.deadline) z)

  -- at any other tick it is not now
  pub deadline_not_now : t ≢ x.release + k.deadline → at_deadline t k x.release ≡ false
  deadline_not_now d = rw (ne_eqb t (x.release + k.deadline) d) (elim (not (eqb k.deadline 0)) as (λ (b : Bool). (b && false) ≡ false) [ true ↦ refl | false ↦ refl ])

-- ---- step 2
-- whether a task is asked to start at tick t: by an event if it is event-driven, else by being due
abbrev pub asked : ℕ → List Event → ℕ → Task → Bool
asked t now i k = cond (eqb k.period 0) (not (eqb (requests i now) 0)) (due t k)

-- how many release events name an event-driven task
abbrev pub calls_now : ℕ → Task → List Event → ℕ
calls_now i k now = cond (eqb k.period 0) (requests i now) 0

-- a task is released, and so many further events are ignored
abbrev pub start_turn : (Task → TaskState → TaskState) → ℕ → List ℕ → ℕ → Task → TaskState → ℕ → Turn
start_turn start t signals i k x n =
    record { state = start k (release t signals k x); writes = []; entries = entry t release_kind i ∷ replicate n (entry t ignored_kind i) }

-- so many events are ignored, and nothing else
abbrev pub ignore_turn : ℕ → ℕ → TaskState → ℕ → Turn
ignore_turn t i x n = record { state = x; writes = []; entries = replicate n (entry t ignored_kind i) }

-- why a task stays as it is: a READY one is not asked, an ACTIVE one without a deadline is not due
pub record Unasked (t : ℕ) (now : List Event) (i : ℕ) (k : Task) (x : TaskState) : Type 0 where
  pub ready : x.status ≡ READY → asked t now i k ≡ false
  pub active : x.status ≡ ACTIVE → k.period ≢ 0 → k.deadline ≡ 0 → due t k ≡ false

module _ (t : ℕ) (now : List Event) (i : ℕ) (k : Task) (x : TaskState) where
  -- a FINISHED task is neither
  pub finished-unasked : x.status ≡ FINISHED → Unasked t now i k x
  finished-unasked e = record { ready = λ s. absurd (ready-finished x.status s e); active = λ s. absurd (active-finished x.status s e) }

  -- nor is one in ERROR
  pub error-unasked : x.status ≡ ERROR → Unasked t now i k x
  error-unasked e = record { ready = λ s. absurd (ready-error x.status s e); active = λ s. absurd (active-error x.status s e) }

-- a turn of step 2: a release, an overrun, or nothing but ignored events
pub data Release (start : Task → TaskState → TaskState) (t : ℕ) (signals : List ℕ) (now : List Event) (i : ℕ) (k : Task) (x : TaskState) : Turn → Type 0 where
  starts : x.status ≡ READY → asked t now i k ≡ true → Release start t signals now i k x (start_turn start t signals i k x (calls_now i k now - 1))
  overruns : x.status ≡ ACTIVE → k.period ≢ 0 → k.deadline ≡ 0 → due t k ≡ true → Release start t signals now i k x (fail t overrun_kind i x)
  stays : Unasked t now i k x → Release start t signals now i k x (ignore_turn t i x (calls_now i k now))

module _ (start : Task → TaskState → TaskState) (t : ℕ) (signals : List ℕ) (now : List Event) (i : ℕ) (k : Task) (x : TaskState) where
  -- which of them
  pub release-is : Release start t signals now i k x (release_turn start t signals now i k x)
  unfolding answer event_call periodic_call
  release-is = go x.status (eqb k.period 0) (requests i now) (due t k) (eqb k.deadline 0) refl refl refl refl refl
    where
      -- with so many further events
      begin : (n : ℕ) → calls_now i k now - 1 ≡ n → x.status ≡ READY → asked t now i k ≡ true → Release start t signals now i k x (start_turn start t signals i k x n)
      begin n c e a = subst (λ m. Release start t signals now i k x (start_turn start t signals i k x m)) c (starts e a)

      still : (n : ℕ) → calls_now i k now ≡ n → Unasked t now i k x → Release start t signals now i k x (ignore_turn t i x n)
      still n c u = subst (λ m. Release start t signals now i k x (ignore_turn t i x m)) c (stays u)

      -- one that is READY
      free : x.status ≡ READY → asked t now i k ≡ false → Unasked t now i k x
      free e f = record { ready = λ s. f; active = λ s. absurd (ready-active x.status e s) }

      -- one that is ACTIVE
      busy : x.status ≡ ACTIVE → (k.period ≢ 0 → k.deadline ≡ 0 → due t k ≡ false) → Unasked t now i k x
      busy e f = record { ready = λ s. absurd (ready-active x.status s e); active = λ s. f }

      go : (p : Status) (b : Bool) (n : ℕ) (d z : Bool) → x.status ≡ p → eqb k.period 0 ≡ b → requests i now ≡ n → due t k ≡ d → eqb k.deadline 0 ≡ z
          → Release start t signals now i k x (answer start t signals i k x (cond b (event_call p n) (periodic_call p d z)))
      go READY true zero d z e eb en ed ez = still 0 (rw (eb, en)) (free e (rw (eb, en)))
      go READY true (suc n) d z e eb en ed ez = begin n (rw (eb, en) (omega arith)) e (rw (eb, en, ne_eqb (suc n) 0 (λ w. absurd (omega arith))))
      go READY false n true z e eb en ed ez = begin 0 (rw eb) e (rw (eb, ed))
      go READY false n false z e eb en ed ez = still 0 (rw eb) (free e (rw (eb, ed)))
      go ACTIVE true n d z e eb en ed ez = still n (rw (eb, en)) (busy e (λ p. absurd (p (eqb-true k.period 0 eb))))
      go ACTIVE false n true true e eb en ed ez = overruns e (eqb-false k.period 0 eb) (eqb-true k.deadline 0 ez) ed
      go ACTIVE false n true false e eb en ed ez = still 0 (rw eb) (busy e (λ p q. absurd (eqb-false k.deadline 0 ez q)))
      go ACTIVE false n false z e eb en ed ez = still 0 (rw eb) (busy e (λ p q. ed))
      go FINISHED true n d z e eb en ed ez = still n (rw (eb, en)) (finished-unasked t now i k x e)
      go FINISHED false n d z e eb en ed ez = still 0 (rw eb) (finished-unasked t now i k x e)
      go ERROR true n d z e eb en ed ez = still n (rw (eb, en)) (error-unasked t now i k x e)
      go ERROR false n d z e eb en ed ez = still 0 (rw eb) (error-unasked t now i k x e)

  -- by status: a READY task that is asked is released
  pub release-asked : x.status ≡ READY → asked t now i k ≡ true → release_turn start t signals now i k x ≡ start_turn start t signals i k x (calls_now i k now - 1)
  release-asked e a = go release-is
    where
      go : {u : Turn} → Release start t signals now i k x u → u ≡ start_turn start t signals i k x (calls_now i k now - 1)
      go (starts s b) = refl
      go (overruns s p d b) = absurd (ready-active x.status e s)
      go (stays h) = absurd (true≢false (sym a ∙ h.ready e))

  -- one for which nothing asks stays
  pub release-stays : Unasked t now i k x → release_turn start t signals now i k x ≡ ignore_turn t i x (calls_now i k now)
  release-stays h = go release-is
    where
      go : {u : Turn} → Release start t signals now i k x u → u ≡ ignore_turn t i x (calls_now i k now)
      go (starts s b) = absurd (true≢false (sym b ∙ h.ready s))
      go (overruns s p d b) = absurd (true≢false (sym b ∙ h.active s p d))
      go (stays g) = refl

-- ---- step 3
-- a turn of step 3: one remaining tick less, the body, or the body and the writes
pub data Running (t i : ℕ) (k : Task) (x : TaskState) : Turn → Type 0 where
  goes_on : x.remaining - 1 ≢ 0 → Running t i k x (quiet (loses x))
  finishes : x.remaining - 1 ≡ 0 → k.deadline ≢ 0 → Running t i k x (quiet (finish k x))
  writes_at_once : x.remaining - 1 ≡ 0 → k.deadline ≡ 0 → Running t i k x (write_out t i k (finish k x))

-- which of them
pub run_is : (t i : ℕ) (k : Task) (x : TaskState) → Running t i k x (run_turn t i k x)
run_is t i k x = go (eqb (x.remaining - 1) 0) (eqb k.deadline 0) refl refl
  where
    go : (b c : Bool) → eqb (x.remaining - 1) 0 ≡ b → eqb k.deadline 0 ≡ c
        → Running t i k x (cond b (cond c (write_out t i k (finish k x)) (quiet (finish k x))) (quiet (loses x)))
    go true true e z = writes_at_once (eqb-true (x.remaining - 1) 0 e) (eqb-true k.deadline 0 z)
    go true false e z = finishes (eqb-true (x.remaining - 1) 0 e) (eqb-false k.deadline 0 z)
    go false c e z = goes_on (eqb-false (x.remaining - 1) 0 e)

-- ---- what the turns read of a task
module _ (t i : ℕ) (k l : Task) (x : TaskState) (deadline : k.deadline ≡ l.deadline) where
  -- step 1: its deadline and its outputs
  pub deadline_reads : k.outputs ≡ l.outputs → deadline_turn t i k x ≡ deadline_turn t i l x
  unfolding deadline_of
  deadline_reads outputs =
      ap (λ (d : ℕ). deadline_of x.status (not (eqb d 0) && eqb t (x.release + d)) t i k x) deadline ∙ go x.status (at_deadline t l x.release)
    where
      go : (p : Status) (b : Bool) → deadline_of p b t i k x ≡ deadline_of p b t i l x
      go READY b = refl
      go ACTIVE true = refl
      go ACTIVE false = refl
      go FINISHED true = rw outputs
      go FINISHED false = refl
      go ERROR b = refl

  -- step 2: when it is due, whether it has a deadline, and what it starts with
  pub release-reads : (start : Task → TaskState → TaskState) (signals : List ℕ) (now : List Event) → k.period ≡ l.period → k.offset ≡ l.offset
      → start k (release t signals k x) ≡ start l (release t signals l x) → release_turn start t signals now i k x ≡ release_turn start t signals now i l x
  unfolding answer
  release-reads start signals now period offset begins = ap (answer start t signals i k x) calls ∙ go (call_of t now i l x.status)
    where
      calls : call_of t now i k x.status ≡ call_of t now i l x.status
      calls = rw (period, offset, deadline)

      go : (c : Call) → answer start t signals i k x c ≡ answer start t signals i l x c
      go (released n) = rw begins
      go overrun = refl
      go (ignored n) = refl
