-- The steps of a tick over the arrays of numbers, as the code does them: what its contracts say. That they are document 01's
-- steps (tick/specs) is shown in the crate `whole`.
use Rattle.std.specs.Prelude.{ℕ, zero, suc, ◌+◌, ◌-◌, ◌*◌, ◌%◌, ◌<◌, Bool, cond, not, ◌&&◌, List, [], ◌∷◌, ◌++◌, map, get_or, set, take, drop, replicate, leb, ltb, eqb}
use Rattle.limits.specs.Limits.{max_ports}
use Rattle.marks.specs.Marks.{has}
use Rattle.lists.specs.Lists.{tab}
use Rattle.plan.specs.File.{task_of, body_of, body_part}
use Rattle.events.specs.Events.{Event, event_of}
use Rattle.body.specs.Body.{Result, body}
use Rattle.body.specs.Steps.{Whole}
use Rattle.trace.specs.Trace.{release_kind, miss_kind, overrun_kind, ignored_kind, entry, write_entry}
use Rattle.trace.specs.declared.Entry.{Entry}
use Rattle.state.specs.Numbers.{status_of}
use Rattle.arrays.specs.Arrays.{Arrays, Step, still, ready, active, finished, error, field, with_field, row_field, row_deadline, row_execution, row_input_count, row_inputs, row_offset, row_output_count, row_outputs, row_period, row_task}
use Rattle.tick.specs.Turns.{Write, requests, Call, released, overrun, ignored, periodic_call, event_call}
use Rattle.tick.specs.Tick.{write_all}

-- ---- each row of the schedule in its turn: n rows from row j on
unfoldable pub each_row : (ℕ → Arrays → Step) → ℕ → ℕ → Arrays → Step
each_row act zero j a = still a
each_row act (suc n) j a =
    let u = act j a in
    let v = each_row act n (j + 1) u.arrays in
    record { arrays = v.arrays; entries = u.entries ++ v.entries }

-- the turn of a row whose bit stands in a word; any other row does nothing
abbrev pub called : ℕ → (ℕ → Arrays → Step) → ℕ → Arrays → Step
called calls act j a = cond (has calls j) (act j a) (still a)

-- the fields of a row
abbrev pub task_of_row : List ℕ → ℕ → ℕ
task_of_row rows j = row_field rows j row_task

-- task i becomes READY or ERROR
abbrev pub reset : ℕ → ℕ → List ℕ → List ℕ
reset s i tasks = with_field (with_field (with_field tasks i 0 s) i 1 0) i 2 0

-- what the task of row j writes: its held outputs to its signals, in position order
abbrev pub row_writes : List ℕ → ℕ → List ℕ → List Write
row_writes rows j held =
    tab (λ p. record { signal = row_field rows j (row_outputs + p); value = get_or held (task_of_row rows j * 8 + p) 0 }) 0 (row_field rows j row_output_count)

abbrev pub write_entries : ℕ → ℕ → List Write → List Entry
write_entries t i ws = map (λ w. write_entry t i w.signal w.value) ws

-- the task of row j writes and becomes READY
abbrev pub write_row : ℕ → List ℕ → ℕ → Arrays → Step
write_row t rows j a =
    let i = task_of_row rows j in
    let ws = row_writes rows j a.held in
    record {
      arrays = record { signals = write_all ws a.signals; tasks = reset ready i a.tasks; latched = a.latched; held = a.held };
      entries = write_entries t i ws;
    }

-- the task of row j becomes ERROR, with a record
abbrev pub fail_row : ℕ → ℕ → List ℕ → ℕ → Arrays → Step
fail_row t kind rows j a =
    let i = task_of_row rows j in
    record {
      arrays = record { signals = a.signals; tasks = reset error i a.tasks; latched = a.latched; held = a.held };
      entries = entry t kind i ∷ [];
    }

-- ---- step 1
abbrev pub ends_now : ℕ → ℕ → ℕ → Bool
ends_now t r d = not (eqb d 0) && eqb t (r + d)

unfoldable pub lapse : ℕ → List ℕ → ℕ → Arrays → Step
lapse t rows j a =
    let i = task_of_row rows j in
    let s = field a.tasks i 0 in
    cond (ends_now t (field a.tasks i 2) (row_field rows j row_deadline))
    (cond (eqb s finished) (write_row t rows j a) (cond (eqb s active) (fail_row t miss_kind rows j a) (still a)))
    (still a)

-- ---- the events of a tick: they stand from a place to another in the list
-- the first place from place p on, n records being left, whose instant is not t
unfoldable pub end_from : List ℕ → ℕ → ℕ → ℕ → ℕ
end_from ws t zero p = p
end_from ws t (suc n) p = cond (eqb (event_of ws p).instant t) (end_from ws t n (p + 1)) p

abbrev pub between : List ℕ → ℕ → ℕ → List Event
between ws p q = tab (event_of ws) p (q - p)

-- ---- step 2
-- the inputs of the task of row j, latched; 0 beyond ni
abbrev pub latched_at : List ℕ → ℕ → List ℕ → ℕ → ℕ
latched_at rows j signals p = cond (ltb p (row_field rows j row_input_count)) (get_or signals (row_field rows j (row_inputs + p)) 0) 0

-- n ports from port p on
unfoldable pub latch : List ℕ → ℕ → List ℕ → ℕ → ℕ → List ℕ → List ℕ
latch rows j signals zero p latched = latched
latch rows j signals (suc n) p latched =
    latch rows j signals n (p + 1) (set latched (task_of_row rows j * 8 + p) (latched_at rows j signals p))

abbrev pub is_due : ℕ → ℕ → ℕ → Bool
is_due t offset period = leb offset t && eqb ((t - offset) % period) 0

-- what the turn of row j comes to
abbrev pub call_of_row : ℕ → List ℕ → List Event → ℕ → List ℕ → Call
call_of_row t rows now j tasks =
    let i = task_of_row rows j in
    let s = status_of (field tasks i 0) in
    cond (eqb (row_field rows j row_period) 0) (event_call s (requests i now))
    (periodic_call s (is_due t (row_field rows j row_offset) (row_field rows j row_period)) (eqb (row_field rows j row_deadline) 0))

unfoldable pub answer_row : ℕ → List ℕ → ℕ → Arrays → Call → Step
answer_row t rows j a (released n) =
    let i = task_of_row rows j in
    record {
      arrays = record {
        signals = a.signals;
        tasks = with_field (with_field (with_field a.tasks i 0 active) i 1 (row_field rows j row_execution)) i 2 t;
        latched = latch rows j a.signals max_ports 0 a.latched;
        held = a.held;
      };
      entries = entry t release_kind i ∷ replicate n (entry t ignored_kind i);
    }
answer_row t rows j a overrun = fail_row t overrun_kind rows j a
answer_row t rows j a (ignored n) = record { arrays = a; entries = replicate n (entry t ignored_kind (task_of_row rows j)) }

unfoldable pub grant : ℕ → List ℕ → List Event → ℕ → Arrays → Step
grant t rows now j a = answer_row t rows j a (call_of_row t rows now j a.tasks)

-- ---- step 3
-- eight ports of task i, and the ports with those of task i changed
abbrev pub ports_of : List ℕ → ℕ → List ℕ
ports_of ports i = take max_ports (drop (i * 8) ports)

abbrev pub with_ports : List ℕ → ℕ → List ℕ → List ℕ
with_ports ports i new = take (i * 8) ports ++ new ++ drop (i * 8 + max_ports) ports

-- what the body of task i leaves, by the words of the plan
abbrev pub body_left : List ℕ → ℕ → Arrays → Result
body_left ws i a = body (task_of (body_of ws (i + 1))) (ports_of a.latched i) (field a.tasks i 3) (ports_of a.held i)

-- the body of task i runs, and the task is FINISHED
abbrev pub finish_task : List ℕ → ℕ → Arrays → Arrays
finish_task ws i a =
    let left = body_left ws i a in
    record {
      signals = a.signals;
      tasks = with_field (with_field (with_field a.tasks i 0 finished) i 1 0) i 3 left.machine;
      latched = a.latched;
      held = with_ports a.held i left.held;
    }

-- the task of row j runs for a tick
unfoldable pub work : ℕ → List ℕ → List ℕ → ℕ → Arrays → Step
work t ws rows j a =
    let i = task_of_row rows j in
    let rest = field a.tasks i 1 - 1 in
    cond (eqb rest 0)
    (cond (eqb (row_field rows j row_deadline) 0) (write_row t rows j (finish_task ws i a)) (still (finish_task ws i a)))
    (still (record { signals = a.signals; tasks = with_field a.tasks i 1 rest; latched = a.latched; held = a.held }))

-- the first of n rows from row j on whose task is ACTIVE: rows stand in order of priority. The row past them where there is none
unfoldable pub first_active : List ℕ → List ℕ → ℕ → ℕ → ℕ
first_active rows tasks zero j = j
first_active rows tasks (suc n) j = cond (eqb (field tasks (task_of_row rows j) 0) active) j (first_active rows tasks n (j + 1))

-- step 3: the task of the first ACTIVE row of n, where there is one
unfoldable pub runs_flat : ℕ → List ℕ → List ℕ → ℕ → Arrays → Step
runs_flat t ws rows n a =
    let j = first_active rows a.tasks n 0 in
    cond (ltb j n) (work t ws rows j a) (still a)

-- what its code asks, since it reads without a test: the body parts of the tasks of n rows hold all their transitions and actions
abbrev pub WholeBodies : List ℕ → List ℕ → ℕ → Type 0
WholeBodies plan_bytes rows n = (j : ℕ) → j < n → Whole (body_part plan_bytes (task_of_row rows j))
