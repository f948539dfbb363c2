-- The events of a tick, one at a time.
use Prim.Native.Nat.{ℕ, ◌+◌, ◌-◌, ◌<◌, ◌≤◌}
use mathlib.Core.Path.{◌≡◌}
use mathlib.Core.Bool.{cond}
use mathlib.Core.List.{List}
use lib.Dec.{eqb}
use Rattle.lists.specs.Lists.{tab}
use Rattle.lists.proofs.Laws.{more, done, tab-more, tab-done}
use Rattle.events.specs.Events.{Event, event_of}
use Rattle.tick.specs.Tick.{set_now}
use Rattle.steps.specs.Flat.{end_from}
use Rattle.step_events.specs.Events.{set_one}

module _ (ws : List ℕ) (t n p : ℕ) where
  pub end_more : p < n → end_from ws t (n - p) p ≡ cond (eqb (event_of ws p).instant t) (end_from ws t (n - (p + 1)) (p + 1)) p
  unfolding end_from
  end_more h = rw (more n p h)

  pub end_done : n ≤ p → end_from ws t (n - p) p ≡ p
  unfolding end_from
  end_done h = rw (done n p h)

module _ (f : ℕ → Event) (n p : ℕ) where
  pub set_more : (signals : List ℕ) → p < n → set_now (tab f p (n - p)) signals ≡ set_now (tab f (p + 1) (n - (p + 1))) (set_one (f p) signals)
  unfolding set_now
  set_more signals h = rw (tab-more f n p h)

  pub set_done : (signals : List ℕ) → n ≤ p → set_now (tab f p (n - p)) signals ≡ signals
  unfolding set_now
  set_done signals h = rw (tab-done f n p h)
