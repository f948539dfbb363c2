-- Ticks in which nothing can happen but that the running task loses a tick.
use Rattle.std.specs.Prelude.{ℕ, zero, suc, ◌+◌, ◌-◌, ◌<◌, ◌≤◌, ◌≡◌, Bool, false, cond, ◌&&◌, ◌||◌, List, [], get_or, ltb, eqb}
use Rattle.marks.specs.Marks.{has, seen, mark}
use Rattle.events.specs.Events.{Event}
use Rattle.arrays.specs.Arrays.{active, finished, field, with_field, row_field, row_deadline}
use Rattle.tick.specs.Turns.{requests, ignored}
use Rattle.steps.specs.Flat.{task_of_row, ends_now, end_from, between, is_due, call_of_row, first_active}
use Rattle.step.specs.Step.{Given, place_after}

-- "each task in flight": the numbers of its statuses
abbrev pub in_flight : ℕ → Bool
in_flight s = eqb s finished || eqb s active

-- row j does nothing in steps 1 and 2 of tick t, no event coming
pub record RowQuiet (rows tasks : List ℕ) (j t : ℕ) : Type 0 where
  pub deadline : (ends_now t (field tasks (task_of_row rows j) 2) (row_field rows j row_deadline) && in_flight (field tasks (task_of_row rows j) 0)) ≡ false
  pub call : call_of_row t rows [] j tasks ≡ ignored 0

-- so do n rows, from tick t up to instant w
abbrev pub RowsQuiet : List ℕ → List ℕ → ℕ → ℕ → ℕ → Type 0
RowsQuiet rows tasks n t w = (j : ℕ) → j < n → (t' : ℕ) → t ≤ t' → t' < w → RowQuiet rows tasks j t'

-- each of n rows has an instant: from tick t up to there it does nothing in steps 1 and 2, no event coming
abbrev pub Wakes : List ℕ → List ℕ → ℕ → ℕ → List ℕ → Type 0
Wakes rows tasks n t wakes = (j : ℕ) → j < n → (t' : ℕ) → t ≤ t' → t' < get_or wakes j 0 → RowQuiet rows tasks j t'

-- so have those of them whose bit does not stand in a word
abbrev pub OthersWake : ℕ → List ℕ → List ℕ → ℕ → ℕ → List ℕ → Type 0
OthersWake calls rows tasks n t wakes = (j : ℕ) → j < n → has calls j ≡ false → (t' : ℕ) → t ≤ t' → t' < get_or wakes j 0 → RowQuiet rows tasks j t'

-- of n numbers those of which a test holds have their bit in a word
abbrev pub AllIn : (ℕ → Bool) → ℕ → ℕ → Type 0
AllIn test n w = (j : ℕ) → j < n → has w j ≡ false → test j ≡ false

-- the marks with the task that an event asks to start
abbrev pub with_asked : Event → ℕ → ℕ
with_asked e tasks = cond (eqb e.kind 1) (mark tasks e.target) tasks

-- no event of a list asks a task to start that is not marked
abbrev pub OthersUnasked : ℕ → List Event → Type 0
OthersUnasked tasks now = (i : ℕ) → seen tasks i ≡ false → requests i now ≡ 0

-- no event of a list asks the task of row j to start
abbrev pub Unasked : List ℕ → ℕ → List Event → Type 0
Unasked rows j now = requests (task_of_row rows j) now ≡ 0

-- of n rows those whose bit does not stand in a word have their instant after tick t, and no event of a list asks their task to
-- start
abbrev pub OthersLater : ℕ → List ℕ → ℕ → List Event → ℕ → List ℕ → Type 0
OthersLater calls rows n now t wakes = (j : ℕ) → j < n → has calls j ≡ false → (t < get_or wakes j 0) × Unasked rows j now

-- no two of n rows are of the same task
abbrev pub Distinct : List ℕ → ℕ → Type 0
Distinct rows n = (j k : ℕ) → j < n → k < n → task_of_row rows j ≡ task_of_row rows k → j ≡ k

-- a row may go without its turn at a tick whose events start at a place: it does nothing, and none of them asks its task to start
pub record MayRest (g : Given) (t place : ℕ) (tasks : List ℕ) (j : ℕ) : Type 0 where
  pub quiet : RowQuiet g.rows tasks j t
  pub unasked : Unasked g.rows j (between g.events place (place_after g t place))

-- so may every row whose bit does not stand in a word
abbrev pub OthersRest : ℕ → Given → ℕ → ℕ → List ℕ → Type 0
OthersRest calls g t place tasks = (j : ℕ) → j < g.count → has calls j ≡ false → MayRest g t place tasks j

-- a periodic task is not due from tick t up to instant w
abbrev pub NotDue : ℕ → ℕ → ℕ → ℕ → Type 0
NotDue t w offset period = (t' : ℕ) → t ≤ t' → t' < w → is_due t' offset period ≡ false

-- no event of a list of so many records, at a place in it, comes from tick t up to instant w
abbrev pub NoEvent : List ℕ → ℕ → ℕ → ℕ → ℕ → Type 0
NoEvent ws records place t w = (t' : ℕ) → t ≤ t' → t' < w → end_from ws t' (records - place) place ≡ place

-- the task that runs has lost k ticks, where there is one
unfoldable pub lowered : List ℕ → ℕ → ℕ → List ℕ → List ℕ
lowered rows count zero tasks = tasks
lowered rows count (suc k) tasks =
    let j = first_active rows tasks count 0 in
    cond (ltb j count) (with_field tasks (task_of_row rows j) 1 (field tasks (task_of_row rows j) 1 - suc k)) tasks

-- n ticks from tick t on can be passed over: no event, no row, and the task that runs has a tick to spare after them
pub record Calm (rows : List ℕ) (count : ℕ) (ws : List ℕ) (records place t n : ℕ) (tasks : List ℕ) : Type 0 where
  pub events : NoEvent ws records place t (t + n)
  pub rows_quiet : RowsQuiet rows tasks count t (t + n)
  pub spare : first_active rows tasks count 0 < count → n < field tasks (task_of_row rows (first_active rows tasks count 0)) 1

-- n ticks of at most `left` are passed over
pub record Passed (rows : List ℕ) (count : ℕ) (ws : List ℕ) (records place t left n : ℕ) (before after : List ℕ) : Type 0 where
  pub most : n ≤ left
  pub calm : 0 < n → Calm rows count ws records place t n before
  pub tasks : after ≡ lowered rows count n before
