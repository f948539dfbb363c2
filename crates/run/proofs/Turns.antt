-- What each kind of turn of a run comes to.
use Prim.Native.Nat.{ℕ, zero, suc, ◌+◌, ◌-◌, ◌*◌, ◌<◌, ◌≤◌, ◌^◌}
use mathlib.Core.Path.{◌≡◌, refl, ap, ◌∙◌}
use mathlib.Core.Bool.{true, false}
use mathlib.Core.List.{List}
use native.Mathlib.Nat.{sub-zero, add-zero}
use native.Mathlib.Omega.{arith}
use lib.ListN.{length}
use Rattle.arrays.specs.Arrays.{Arrays}
use Rattle.steps.specs.Flat.{between}
use Rattle.step.specs.Step.{Given, place_after, step_flat, step_called, Stepped}
use Rattle.step.specs.declared.Clock.{Clock}
use Rattle.step.proofs.Laws.{place_most}
use Rattle.quiet.specs.Quiet.{OthersWake, OthersLater, OthersRest, lowered, Calm, Passed}
use Rattle.quiet.proofs.Ticks.{with_tasks}
use Rattle.quiet.proofs.Called.{called-all, others_wake, others_rest}
use Rattle.run.specs.Run.{Went, run_flat, Sofar, Watched, Turned}
use Rattle.run.proofs.Laws.{went_more, went_full, sofar_more}
use Rattle.run.proofs.Calm.{later, calm_run}

-- ---- a tick in which rows have no turn
module _ (g : Given) (t place : ℕ) (a : Arrays) (calls last : ℕ) (wakes : List ℕ) (w : Watched g.rows g.count a.tasks t wakes)
    (ends : last ≡ place_after g t place) (later : OthersLater calls g.rows g.count (between g.events place last) t wakes) where
  rests : OthersRest calls g t place a.tasks
  rests = others_rest calls g t place a.tasks wakes w.instants (rw ends at later)

  -- it comes to the same
  pub turns_all : step_called calls g t place a ≡ step_flat g t place a
  turns_all = called-all calls g t place a w.distinct rests

  -- and their instants stand
  pub turns_wake : (clock next : Clock) (a' : Arrays) (old new : List ℕ) → clock.tick ≡ t → clock.place ≡ place → Stepped clock next a' old new g a → OthersWake calls g.rows a'.tasks g.count next.tick wakes
  turns_wake clock next a' old new et ep u = rw (u.arrays, u.tick, et, ep) (others_wake calls g t place a w.distinct rests wakes w.instants)

-- ---- ticks that were passed over
-- where there were none, the tasks are as they were
pub rest_none : (rows : List ℕ) (count n : ℕ) (before after : List ℕ) → after ≡ lowered rows count n before → n ≡ 0 → after ≡ before
unfolding lowered
rest_none rows count n before after h e = h ∙ ap (λ (k : ℕ). lowered rows count k before) e

sofar_later : (n : ℕ) (w₀ w : Went) (done : ℕ) (trace₀ now : List ℕ) (at : ℕ) → Sofar w₀ (later n w) done trace₀ now at → Sofar w₀ w (done + n) trace₀ now at
unfolding later
sofar_later zero w₀ w done trace₀ now at s = rw (add-zero done) s
sofar_later (suc n) w₀ w done trace₀ now at s =
    let c = s.count in
    let t : done + 1 + n ≡ done + suc n = omega arith in
    rw t at (sofar_later n w₀ w (done + 1) trace₀ now at (record { full = s.full; count = omega arith; place = s.place; arrays = s.arrays; trace = s.trace; word = s.word }))

module _ (g : Given) (left : ℕ) (clock : Clock) (a : Arrays) (old : List ℕ) (inside : clock.place ≤ g.records) (fits : clock.at ≤ length old) where
  -- the records of the next tick do not fit: nothing is run
  pub turned_full : length old < clock.at + 5 * length (step_flat g clock.tick clock.place a).entries
      → Turned g (suc left) clock a old (record { clock = clock; ticks = 0; full = true }) a old
  turned_full h = record {
    most = omega arith;
    tick = omega arith;
    place = inside;
    near = omega arith;
    room = fits;
    sofar = λ w₀ done trace₀ s. rw (add-zero done) (rw (went_full g (length old) clock.at left clock.tick clock.place a fits h) at s);
  }

  -- a tick is run
  pub turned_once : (next : Clock) (a' : Arrays) (new : List ℕ) → Stepped clock next a' old new g a → next.at ≤ clock.at + 2 ^ 41
      → clock.at + 5 * length (step_flat g clock.tick clock.place a).entries ≤ length old
      → Turned g (suc left) clock a old (record { clock = next; ticks = 1; full = false }) a' new
  turned_once next a' new u near h =
      let t = u.tick in
      let w = u.word in
      let one : suc left - 1 ≡ left = omega arith in
      record {
        most = omega arith;
        tick = omega arith;
        place = rw u.place (place_most g clock.tick clock.place inside);
        near = omega arith;
        room = omega arith;
        sofar = λ w₀ done trace₀ s. rw (u.arrays, u.trace, u.word, u.tick, u.place, one)
            (sofar_more w₀ g clock.tick clock.place a _ done trace₀ old clock.at (rw (went_more g (length old) clock.at left clock.tick clock.place a h) at s));
      }

  -- no tick is passed over
  pub turned_none : Turned g left clock a old (record { clock = clock; ticks = 0; full = false }) a old
  turned_none = record {
    most = omega arith;
    tick = omega arith;
    place = inside;
    near = omega arith;
    room = fits;
    sofar = λ w₀ done trace₀ s. rw (add-zero done, sub-zero left) s;
  }

  -- ticks are passed over
  pub turned_rest : (n : ℕ) (tasks : List ℕ) → Passed g.rows g.count g.events g.records clock.place clock.tick left n a.tasks tasks
      → Turned g left clock a old (record { clock = record { tick = clock.tick + n; place = clock.place; at = clock.at }; ticks = n; full = false }) (with_tasks a tasks) old
  unfolding lowered
  turned_rest n tasks p = record {
    most = p.most;
    tick = refl;
    place = inside;
    near = omega arith;
    room = fits;
    sofar = λ w₀ done trace₀ s. rw p.tasks (go n p.most p.calm w₀ done trace₀ s);
  }
    where
      go : (m : ℕ) → m ≤ left → (0 < m → Calm g.rows g.count g.events g.records clock.place clock.tick m a.tasks) → (w₀ : Went) (done : ℕ) (trace₀ : List ℕ)
          → Sofar w₀ (run_flat g (length old - clock.at) left clock.tick clock.place a) done trace₀ old clock.at
          → Sofar w₀ (run_flat g (length old - clock.at) (left - m) (clock.tick + m) clock.place (with_tasks a (lowered g.rows g.count m a.tasks))) (done + m) trace₀ old clock.at
      go zero l c w₀ done trace₀ s = rw (sub-zero, add-zero, add-zero) s
      go (suc m) l c w₀ done trace₀ s = sofar_later (suc m) w₀ _ done trace₀ old clock.at (rw (calm_run g (length old - clock.at) (suc m) left clock.tick clock.place a (c (omega arith)) l) at s)
