-- Document 01's limits, each named once for the definitions; src/lib.rt names them for the code.
use Rattle.std.specs.Prelude.{ℕ}

-- "signals S, 1..64"
abbrev pub max_signals : ℕ
max_signals = 64

-- "tasks T, 1..16"
abbrev pub max_tasks : ℕ
max_tasks = 16

-- "priority 1..16"
abbrev pub max_priority : ℕ
max_priority = 16

-- "ni and no are at most 8"
abbrev pub max_ports : ℕ
max_ports = 8

-- "nt and na at most 32"
abbrev pub max_transitions : ℕ
max_transitions = 32

abbrev pub max_actions : ℕ
max_actions = 32

-- "its order 1..32"
abbrev pub max_order : ℕ
max_order = 32

-- "States in transitions and actions are 1..16"
abbrev pub max_state : ℕ
max_state = 16

-- "execution 1..1,000,000; period and deadline 0..1,000,000"; "tick ≤ 1,000,000"
abbrev pub max_time : ℕ
max_time = 1000000

-- "Instants never fall and are at most 999,999"
abbrev pub last_instant : ℕ
last_instant = 999999

-- "a file has at most 5,141 words, 20,564 bytes; number 1 uses that"
abbrev pub max_plan_bytes : ℕ
max_plan_bytes = 20564

-- "At most 1,024" events, of 16 bytes each
abbrev pub max_event_bytes : ℕ
max_event_bytes = 16384

-- "All values are unsigned 32-bit"
abbrev pub top_value : ℕ
top_value = 4294967295
