use native.Mathlib.Omega.{arith}
use mathlib.Core.Path.{sym, ap, ◌∙◌}
use lib.ListN.{length}
use Rattle.trace.proofs.Laws.{trace_is}
use Rattle.arrays.specs.Arrays.{Arrays}
use Rattle.plan_schedule.specs.Schedule.{Schedule}
use Rattle.plan_schedule.proofs.Laws.{schedule_length}
use Rattle.kernel.proofs.Ticks.{state_of}
use Rattle.kernel.proofs.Ready.{sizes, may_run_of, distinct_of, bodies_of_lem, call-is}
use Rattle.kernel.proofs.run_accepted.Goals as goal

pub slice_bounds-run_ticks-end : goal.slice_bounds-run_ticks-end
slice_bounds-run_ticks-end c = sym (ap (λ (s : Schedule). length s.rows) c.schedule_of-count.ensures ∙ schedule_length _)

pub run_ticks-ran-requires : goal.run_ticks-ran-requires
run_ticks-ran-requires c = let given = c.args in
    let good = c.requires in
    let schedule = c.schedule_of-count.ensures in
    let arrays = c.take_apart.ensures in record {
      asked = may_run_of given.plan.now given.events.now given.state given.asked good _ _ schedule;
      sized = rw (arrays.tasks, arrays.latched, arrays.held) (sizes given.plan.now given.events.now given.state given.asked good);
      distinct = distinct_of given.plan.now given.events.now given.state given.asked good _ _ schedule;
      whole_bodies = bodies_of_lem given.plan.now given.events.now given.state given.asked good _ _ schedule;
    }

pub returns : goal.returns
returns c = let given = c.args in
    let good = c.requires in
    let schedule = c.schedule_of-count.ensures in
    let arrays = c.take_apart.ensures in
    let end = c.run_ticks-ran.result.clock in
    let q = call-is given.plan.now given.events.now given.state given.asked good (length given.trace.now) in
    let e = rw (arrays.tasks, arrays.latched, arrays.held, ap (λ (s : Schedule). s.rows) schedule, ap (λ (s : Schedule). s.count) schedule) at c.run_ticks-ran.ensures in
    let w = e.word in
    record {
      answer = rw q (c.end_answer-answer.ensures ∙ rw e.full);
      ticks = rw q e.ticks;
      records = rw q (omega arith);
      state = rw q (c.together-next.ensures ∙ ap (λ (a : Arrays). state_of end.tick end.place a) e.arrays ∙ rw (e.tick, e.place));
      trace = rw q (e.trace ∙ trace_is _ _ e.room);
    }
