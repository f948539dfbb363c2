-- A state that code holds has as many values in each list as its arrays have places: this is what its type says.
use mathlib.Core.Path.{◌≡◌, refl}
use mathlib.Core.List.{List, [], ◌∷◌}
use mathlib.Core.Bool.{true}
use borrow.Author.Tests.{eq-eqb}
use mir.Val.{Val}
use denote.Shadow.{shadow}
use denote.Laws.{Is}
use denote.Array.{each}
use denote.Struct.Declared.{row}
use lib.ListN.{length}
use Rattle.limits.specs.Limits.{max_ports, max_signals, max_tasks}
use Rattle.lists.specs.Lists.{all}
use Rattle.state.specs.State.{sized_task, sized}
use Rattle.state.specs.declared.TaskState.{TaskState}
use Rattle.state.specs.declared.State.{State}
use Rattle.state.specs.contracts.TaskState as task_state
use Rattle.state.specs.contracts.State as state

task_sized : (x : TaskState) (vs : List Val) → Is (row task_state.the_type) x vs → sized_task x ≡ true
task_sized x vs p =
    let ports = p.1.1.1.1.1.1 in
    let latched : length x.latched ≡ max_ports = ports.0.1.0.1 in
    let held : length x.held ≡ max_ports = ports.1.0.1.0.1 in
    rw (eq-eqb _ _ latched, eq-eqb _ _ held)

tasks_sized : (xs : List TaskState) (us : List Val)
    → shadow (each (task_state.the_row).Denot (task_state.the_row).own_val xs us) → all sized_task xs ≡ true
unfolding all
tasks_sized [] us s = refl
tasks_sized (x ∷ xs) [] s = absurd s
tasks_sized (x ∷ xs) (u ∷ us) s = rw (task_sized x (u ∷ []) s.0) (tasks_sized xs us s.1)

pub state_sized : (s : State) (vs : List Val) → Is (row state.the_type) s vs → sized s ≡ true
unfolding sized
state_sized s vs p =
    let lists = p.1.1.1.1 in
    let signals : length s.signals ≡ max_signals = lists.0.1.0.1 in
    let tasks : length s.tasks ≡ max_tasks = lists.1.0.1.0.1 in
    rw (eq-eqb _ _ signals, eq-eqb _ _ tasks) (tasks_sized s.tasks lists.1.0.0 lists.1.0.1.1)
