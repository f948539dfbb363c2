use Prim.Native.Nat.{ℕ, suc, ◌-◌, ◌<◌}
use native.Mathlib.Omega.{arith}
use mathlib.Core.Path.{◌≡◌}
use Rattle.run.proofs.turn.Goals as goal

-- a number above 0 is one more than another
one_more : (n : ℕ) → 0 < n → suc (n - 1) ≡ n
one_more n h = omega arith

pub overflow_cast-events : goal.overflow_cast-events
overflow_cast-events c = omega (arith, c.requires.ready.events)

pub end_of-last-requires : goal.end_of-last-requires
end_of-last-requires c = (c.requires.ready.place, c.requires.ready.events)

pub calls-calls-requires : goal.calls-calls-requires
calls-calls-requires c = c.requires.ready.rows

pub rest-one-requires : goal.rest-one-requires
rest-one-requires c = record { bounds = (c.requires.ready.rows, c.requires.ready.place, c.requires.bounds.2); wakes_known = c.requires.watched.instants }

pub returns-then-one-ne0 : goal.returns-then-one-ne0
returns-then-one-ne0 c = record { turned = c.rest-one.ensures.turned _ _ _ _ _ c.requires.bounds.0; moves = λ f. let n = c.if-one-ne0.true in omega (arith, n); watched = record { distinct = c.requires.watched.distinct; instants = c.rest-one.ensures.wakes } }

pub tick_once-requires : goal.tick_once-requires
tick_once-requires c = rw (c.rest-one.ensures.still c.if-one-ne0.false) (record {
  ready = c.requires.ready;
  sized = c.requires.sized;
  most_is = c.requires.most_is;
  at_inside = c.requires.bounds.0;
  watched = c.requires.watched;
  whole_bodies = c.requires.whole_bodies;
  last_is = c.end_of-last.ensures.value;
  others_later = c.calls-calls.ensures;
})

pub returns : goal.returns
returns c = record { turned = rw (one_more _ c.requires.bounds.1, c.rest-one.ensures.still c.if-one-ne0.false) at (c.tick_once.ensures.turned (c.args.left - 1)); moves = λ f. let t = rw f at c.tick_once.ensures.moves in omega arith; watched = c.tick_once.ensures.watched }
