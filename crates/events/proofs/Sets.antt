-- What the records of an accepted event list are, one by one, and that their instants never fall.
use Prim.Native.Nat.{ℕ, zero, suc, ◌+◌, ◌≤◌, ◌<◌}
use mathlib.Core.Path.{◌≡◌}
use mathlib.Core.Logic.{◌⊎◌, inl, inr}
use mathlib.Core.List.{List}
use native.Mathlib.Omega.{arith}
use Rattle.words.specs.Words.{words_of}
use Rattle.lists.specs.Lists.{tab, Every, Pairwise}
use Rattle.lists.proofs.Tests.{every_tab, every_weaker}
use Rattle.events.specs.Events.{Event, event_of, event_count, events_of}
use Rattle.events.specs.Accepted.{Releases, Sets, AcceptedEvents}

-- a set event of an accepted list is as the paper says
pub each-sets : (plan_bytes event_bytes : List ℕ) → AcceptedEvents plan_bytes event_bytes → Every (λ e. e.kind ≡ 2 → Sets plan_bytes e) (events_of event_bytes)
each-sets plan_bytes event_bytes good =
    every_tab (λ e. e.kind ≡ 2 → Sets plan_bytes e) (event_of (words_of event_bytes)) 0 (event_count event_bytes)
    (λ j low high. go (event_of (words_of event_bytes) j) (good.content j (omega arith)))
  where
    go : (e : Event) → Releases plan_bytes e ⊎ Sets plan_bytes e → e.kind ≡ 2 → Sets plan_bytes e
    go e (inl r) two = absurd (let one = r.kind in omega arith)
    go e (inr s) two = s

-- ---- "Instants never fall"
abbrev pub Ascending : List Event → Type 0
Ascending es = Pairwise (λ a b. a.instant ≤ b.instant) es

module _ (f : ℕ → Event) where
  -- from one record to any later one
  climbs : (k n : ℕ) → ((j : ℕ) → k ≤ j → j + 1 < k + suc n → (f j).instant ≤ (f (j + 1)).instant) → Every (λ e. (f k).instant ≤ e.instant) (tab f (k + 1) n)
  unfolding tab
  climbs k zero up = tt
  climbs k (suc n) up =
      let one = up k (omega arith) (omega arith) in (
        one,
        every_weaker (λ e. (f (k + 1)).instant ≤ e.instant) (λ e. (f k).instant ≤ e.instant) (λ e h. omega arith) (tab f (k + 1 + 1) n)
            (climbs (k + 1) n (λ j l g. up j (omega arith) (omega arith))),
      )

  -- so of any two
  ascends : (k n : ℕ) → ((j : ℕ) → k ≤ j → j + 1 < k + n → (f j).instant ≤ (f (j + 1)).instant) → Ascending (tab f k n)
  unfolding tab
  ascends k zero up = tt
  ascends k (suc n) up = (climbs k n up, ascends (k + 1) n (λ j l g. up j (omega arith) (omega arith)))

-- the records of an accepted list
pub events_ascend : (plan_bytes event_bytes : List ℕ) → AcceptedEvents plan_bytes event_bytes → Ascending (events_of event_bytes)
events_ascend plan_bytes event_bytes good = ascends (event_of (words_of event_bytes)) 0 (event_count event_bytes) (λ j l g. good.rising j (omega arith))
