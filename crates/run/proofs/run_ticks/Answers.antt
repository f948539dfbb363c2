use native.Mathlib.Omega.{arith}
use mathlib.Core.Path.{◌∙◌}
use Rattle.run.proofs.Kept.{kept_none, kept_ready, kept_asks, kept_done, kept_more, kept_full, nearer}
use Rattle.run.proofs.run_ticks.Goals as goal

pub most_entries-most-requires : goal.most_entries-most-requires
most_entries-most-requires c = c.requires.asked.rows

pub no_wakes-wakes-requires : goal.no_wakes-wakes-requires
no_wakes-wakes-requires c = c.requires.asked.rows

pub loop-done-init : goal.loop-done-init
loop-done-init c = (
  kept_none _ _ _ _ _ _ c.requires.asked c.requires.sized,
  record { distinct = c.requires.distinct; instants = λ j h t l b. absurd (omega (arith, b, c.no_wakes-wakes.ensures j h)) },
)

pub turn-one-requires : goal.turn-one-requires
turn-one-requires c = record {
  ready = kept_ready _ _ _ _ _ _ _ _ _ c.loop-done.invariant.0 _ c.requires.asked c.loop-done-test.true;
  sized = c.loop-done.invariant.0.sizes;
  most_is = (c.most_entries-most.ensures.value, c.most_entries-most.ensures.small);
  bounds = kept_asks _ _ _ _ _ _ _ _ _ c.loop-done.invariant.0 _ c.requires.asked c.loop-done-test.true;
  watched = c.loop-done.invariant.1;
  whole_bodies = c.requires.whole_bodies;
}

pub overflow_add-done : goal.overflow_add-done
overflow_add-done c = let m = c.turn-one.ensures.turned.most in omega arith

pub returns-then-one : goal.returns-then-one
returns-then-one c = kept_full _ _ _ _ _ _ _ _ _ c.loop-done.invariant.0 _ _ _ c.turn-one.ensures.turned c.if-one.true

pub loop-done-smaller : goal.loop-done-smaller
loop-done-smaller c = nearer _ _ _ c.loop-done-test.true (c.turn-one.ensures.moves c.if-one.false)

pub loop-done-preserved : goal.loop-done-preserved
loop-done-preserved c = (
  kept_more _ _ _ _ _ _ _ _ _ c.loop-done.invariant.0 _ _ _ c.turn-one.ensures.turned c.if-one.false (record {
    signals = c.turn-one.auto.signals;
    tasks = c.turn-one.auto.tasks;
    latched = c.turn-one.auto.latched;
    held = c.turn-one.auto.held;
  }) c.turn-one.auto.trace,
  c.turn-one.ensures.watched,
)

pub shape_of-signals-then-one : goal.shape_of-signals-then-one
shape_of-signals-then-one c = c.turn-one.auto.signals ∙ c.loop-done.invariant.0.long.signals

pub shape_of-tasks-then-one : goal.shape_of-tasks-then-one
shape_of-tasks-then-one c = c.turn-one.auto.tasks ∙ c.loop-done.invariant.0.long.tasks

pub shape_of-latched-then-one : goal.shape_of-latched-then-one
shape_of-latched-then-one c = c.turn-one.auto.latched ∙ c.loop-done.invariant.0.long.latched

pub shape_of-held-then-one : goal.shape_of-held-then-one
shape_of-held-then-one c = c.turn-one.auto.held ∙ c.loop-done.invariant.0.long.held

pub shape_of-trace-then-one : goal.shape_of-trace-then-one
shape_of-trace-then-one c = c.turn-one.auto.trace ∙ c.loop-done.invariant.0.trace_long

pub shape_of-signals : goal.shape_of-signals
shape_of-signals c = c.loop-done.invariant.0.long.signals

pub shape_of-tasks : goal.shape_of-tasks
shape_of-tasks c = c.loop-done.invariant.0.long.tasks

pub shape_of-latched : goal.shape_of-latched
shape_of-latched c = c.loop-done.invariant.0.long.latched

pub shape_of-held : goal.shape_of-held
shape_of-held c = c.loop-done.invariant.0.long.held

pub shape_of-trace : goal.shape_of-trace
shape_of-trace c = c.loop-done.invariant.0.trace_long

pub returns : goal.returns
returns c = kept_done _ _ _ _ _ _ _ _ _ c.loop-done.invariant.0 c.loop-done-test.false
