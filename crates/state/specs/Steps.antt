-- What the parts of the code hand each other; no public contract cites it.
use Rattle.std.specs.Prelude.{ℕ, ◌-◌, Bool, cond, ◌&&◌, ◌||◌, List, leb, ltb, eqb, length}
use Rattle.words.specs.Words.{words_of}
use Rattle.plan.specs.File.{Plan, task_at}
use Rattle.events.specs.Events.{event_of, event_count}
use Rattle.state.specs.State.{fresh_task, idle}
use Rattle.state.specs.declared.TaskState.{TaskState}

-- place p among n instants that never fall: the one before it is past, the one at it is not
abbrev pub neighbours : (ℕ → ℕ) → ℕ → ℕ → ℕ → Bool
neighbours instant n t p = leb p n && (eqb p 0 || ltb (instant (p - 1)) t) && (eqb p n || leb t (instant p))

abbrev pub instant_at : List ℕ → ℕ → ℕ
instant_at bytes j = (event_of (words_of bytes) j).instant

abbrev pub place_rule : List ℕ → ℕ → ℕ → Bool
place_rule bytes t p = neighbours (instant_at bytes) (event_count bytes) t p

-- task i of a fresh state
abbrev pub fresh_at : Plan → ℕ → TaskState
fresh_at plan i = cond (ltb i (length plan.tasks)) (fresh_task plan.signals (task_at plan i)) idle
