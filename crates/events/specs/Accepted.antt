-- Document 01, 'The event list', once more: when an event list is accepted, as a person would write it from the paper.
use Rattle.std.specs.Prelude.{ℕ, ◌+◌, ◌%◌, ◌<◌, ◌≤◌, ◌≡◌, List, ◌⊎◌, length, get_or}
use Rattle.limits.specs.Limits.{max_event_bytes, last_instant}
use Rattle.words.specs.Words.{words_of}
use Rattle.plan.specs.File.{signal_count, task_count, plan_of, task_at}
use Rattle.events.specs.Events.{Event, event_of, event_count}

-- "Kind 1 releases an event-driven task, value 0."; "Period 0 means event-driven"
pub record Releases (plan_bytes : List ℕ) (e : Event) : Type 0 where
  pub kind : e.kind ≡ 1
  pub task : e.target < task_count (words_of plan_bytes)
  pub event_driven : (task_at (plan_of plan_bytes) e.target).period ≡ 0
  pub value : e.value ≡ 0

-- "Kind 2 sets a signal that no task writes.": it stands at no position k of the outputs of any task i
pub record Sets (plan_bytes : List ℕ) (e : Event) : Type 0 where
  pub kind : e.kind ≡ 2
  pub signal : e.target < signal_count (words_of plan_bytes)
  pub unwritten : (i k : ℕ) → i < task_count (words_of plan_bytes) → k < length (task_at (plan_of plan_bytes) i).outputs
      → get_or (task_at (plan_of plan_bytes) i).outputs k 0 ≡ e.target → ⊥

-- record j of an event list
abbrev pub record_at : List ℕ → ℕ → Event
record_at bytes j = event_of (words_of bytes) j

pub record AcceptedEvents (plan_bytes event_bytes : List ℕ) : Type 0 where
  -- "Records of four words"; "At most 1,024."
  pub whole : length event_bytes % 16 ≡ 0
  pub size : length event_bytes ≤ max_event_bytes
  -- "Instants never fall and are at most 999,999."
  pub rising : (j : ℕ) → j + 1 < event_count event_bytes → (record_at event_bytes j).instant ≤ (record_at event_bytes (j + 1)).instant
  pub bounded : (j : ℕ) → j < event_count event_bytes → (record_at event_bytes j).instant ≤ last_instant
  -- each releases a task or sets a signal
  pub content : (j : ℕ) → j < event_count event_bytes → Releases plan_bytes (record_at event_bytes j) ⊎ Sets plan_bytes (record_at event_bytes j)
