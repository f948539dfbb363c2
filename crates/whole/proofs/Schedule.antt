-- The rows of an accepted plan's schedule are those of its tasks, in order of priority.
use Prim.Native.Nat.{ℕ, ◌<◌}
use mathlib.Core.Path.{◌≡◌, sym, subst, ◌∙◌}
use mathlib.Core.List.{List}
use native.Mathlib.Omega.{arith}
use Rattle.words.specs.Words.{words_of}
use Rattle.plan.specs.File.{task_count, plan_of, task_at}
use Rattle.plan.specs.Rules.{plan_verdict}
use Rattle.plan.proofs.Laws.{tasks_length}
use Rattle.plan.proofs.Facts.{accepted, task_sizes}
use Rattle.plan_schedule.specs.Schedule.{schedule_of}
use Rattle.plan_schedule.proofs.Accepted.{task_in, accepted_length, tasks_few, place_task, schedule_count, schedule_says}
use Rattle.steps.specs.Flat.{task_of_row}
use Rattle.whole.specs.Whole.{RowOf, Rows}

module _ (bytes : List ℕ) (good : (plan_verdict bytes).number ≡ 0) where
  abbrev rows : List ℕ
  rows = (schedule_of bytes).rows

  row_matches : (j : ℕ) → j < task_count (words_of bytes) → RowOf rows j (task_at (plan_of bytes) (task_of_row rows j))
  row_matches j h =
      let says = schedule_says bytes good j h in
      let few = tasks_few bytes good in
      let task = place_task bytes good j h in
      let number = says.task in
      let sizes = task_sizes bytes (accepted bytes good) (task_in bytes j) task in
      subst (λ i. RowOf rows j (task_at (plan_of bytes) i)) (sym number) (record {
        place = omega arith;
        period = says.period;
        deadline = says.deadline;
        execution = says.execution;
        offset = says.offset;
        input_count = says.input_count;
        output_count = says.output_count;
        input = says.input;
        output = says.output;
        inputs = sizes.inputs;
        outputs = sizes.outputs;
      })

  pub rows_of : Rows (plan_of bytes) (schedule_of bytes).rows (schedule_of bytes).count
  rows_of =
      let count = schedule_count bytes good in
      record {
        count = count ∙ sym (accepted_length bytes good);
        number = λ j h. (schedule_says bytes good j (omega arith)).task;
        task = λ j h.
            let number = (schedule_says bytes good j (omega arith)).task in
            let task = place_task bytes good j (omega arith) in
            let all = tasks_length bytes in
            omega arith;
        row = λ j h. row_matches j (omega arith);
      }
