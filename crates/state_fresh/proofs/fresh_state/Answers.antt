use Rattle.std.proofs.Common.{rules, map, get_or}
use Rattle.plan.specs.File.{plan_of}
use Rattle.state.specs.State.{fresh_task, fresh, idle}
use Rattle.state.proofs.Laws.{fresh-task_at}
use Rattle.state.proofs.Made.{made}
use Rattle.state_fresh.proofs.fresh_state.Goals as goal

pub returns : goal.returns
unfolding fresh
returns c = let plan = plan_of c.args.plan.now in
    let tasks = made _ _ (λ i. get_or (map (fresh_task plan.signals) plan.tasks) i idle) _ _ idle (λ i x next less called. rw fresh-task_at (search rules)) c.from_fn.ensures.items in
    rw (c.fresh_signals.ensures, tasks)
