-- Step 1 over the arrays is document 01's step 1.
use Prim.Native.Nat.{ℕ, zero, suc, ◌+◌, ◌*◌, ◌<◌, ◌≤◌}
use mathlib.Core.Path.{◌≡◌, refl, ap, sym, subst, ◌∙◌}
use mathlib.Core.Logic.{◌≢◌}
use mathlib.Core.Bool.{Bool, true, false, cond}
use mathlib.Core.List.{List, [], ◌∷◌, ◌++◌}
use native.Mathlib.Omega.{arith}
use lib.ListN.{length, get_or, set, length-set}
use lib.Seq.{ext_get_or}
use lib.Dec.{eqb}
use borrow.Author.Tests.{ne_eqb}
use Rattle.limits.specs.Limits.{max_tasks, max_ports}
use Rattle.lists.specs.Lists.{tab}
use Rattle.lists.proofs.Laws.{length-tab}
use Rattle.plan.specs.File.{Task, Plan, task_at}
use Rattle.plan.specs.Order.{order}
use Rattle.trace.specs.Trace.{miss_kind, entry}
use Rattle.trace.specs.declared.Entry.{Entry}
use Rattle.state.specs.declared.Status.TheVariants.{READY}
use Rattle.state.specs.declared.TaskState.{TaskState}
use Rattle.state.specs.Numbers.{status_of}
use Rattle.arrays.specs.Arrays.{Arrays, Step, still, ready, active, finished, error, field, row_field, Sized}
use Rattle.tick.specs.Turns.{Write, becomes, writes_of, write_out, fail, deadline_of, deadline_turn}
use Rattle.tick.specs.Tick.{write_all, visit, each}
use Rattle.steps.specs.Flat.{each_row, task_of_row, reset, row_writes, write_entries, write_row, fail_row, ends_now, lapse}
use Rattle.whole.specs.Whole.{ports_in, task_in, whole, moment_of, RowOf, Rows}
use Rattle.whole.proofs.Laws.{get_or-all, read, change, after, landed, keeps, IsRow, turns_in_order, turns_in_order_leave}
use Rattle.whole.proofs.Fields.{three, three_stored, three_other, task_same}

-- ---- status, remaining ticks and release instant of task i are changed
abbrev pub timed : List ℕ → ℕ → ℕ → ℕ → ℕ → List ℕ
timed l i s u v = three l i 0 s 1 u 2 v

module _ (l : List ℕ) (size : length l ≡ max_tasks * 4) (i : ℕ) (low : i < max_tasks) (s u v : ℕ) where
  pub timed-stored : (q : ℕ) → field (timed l i s u v) i q ≡ cond (eqb q 2) v (cond (eqb q 1) u (cond (eqb q 0) s (field l i q)))
  timed-stored = three_stored l size i low 0 s 1 u 2 v (omega arith) (omega arith) (omega arith)

  pub timed-other : (k q : ℕ) → q < 4 → k ≢ i → field (timed l i s u v) k q ≡ field l k q
  timed-other = three_other l size i low 0 s 1 u 2 v (omega arith) (omega arith) (omega arith)

abbrev with_tasks : Arrays → List ℕ → Arrays
with_tasks a tasks = record { signals = a.signals; tasks = tasks; latched = a.latched; held = a.held }

-- task i becomes READY or ERROR
become : (a : Arrays) (i s : ℕ) → i < max_tasks → length a.tasks ≡ max_tasks * 4
    → whole (with_tasks a (reset s i a.tasks)) ≡ set (whole a) i (becomes (status_of s) (task_in a i))
become a i s low size =
    let b = with_tasks a (reset s i a.tasks) in
    let now = timed-stored a.tasks size i low s 0 0 in
    change a b i low (λ k d. task_same a b k (λ q small. timed-other a.tasks size i low s 0 0 k q small d) refl refl)
    ∙ ap (set (whole a) i) (rw (now 0, now 1, now 2, now 3))

-- ---- what a task writes is what its row writes
zip_tab : (f g : ℕ → ℕ) (j n m : ℕ) → n ≤ m → writes_of (tab f j n) (tab g j m) ≡ tab (λ p. record { signal = f p; value = g p }) j n
unfolding tab writes_of
zip_tab f g j zero m h = refl
zip_tab f g j (suc n) zero h = absurd (omega arith)
zip_tab f g j (suc n) (suc m) h = ap (λ x. record { signal = f j; value = g j } ∷ x) (zip_tab f g (j + 1) n m (omega arith))

module _ (rows : List ℕ) (j : ℕ) (k : Task) (row : RowOf rows j k) where
  outputs_are : k.outputs ≡ tab (λ p. row_field rows j (24 + p)) 0 (row_field rows j 8)
  outputs_are =
      ext_get_or 0 k.outputs (tab (λ p. row_field rows j (24 + p)) 0 (row_field rows j 8))
      (sym row.output_count ∙ sym (length-tab (λ p. row_field rows j (24 + p)) 0 (row_field rows j 8)))
      (λ p less.
      let few = row.outputs in
      let count = row.output_count in
      sym (row.output p (omega arith)) ∙ sym (get_or-all (λ q. row_field rows j (24 + q)) 0 (row_field rows j 8) p (omega arith)))

  pub writes_are : (held : List ℕ) → writes_of k.outputs (ports_in held (task_of_row rows j)) ≡ row_writes rows j held
  writes_are held =
      let few = row.outputs in
      let count = row.output_count in
      ap (λ (xs : List ℕ). writes_of xs (ports_in held (task_of_row rows j))) outputs_are
      ∙ zip_tab (λ p. row_field rows j (24 + p)) (λ p. get_or held (task_of_row rows j * 8 + p) 0) 0 (row_field rows j 8) max_ports (omega arith)

-- ---- lengths stay
pub length-written : (ws : List Write) (signals : List ℕ) → length (write_all ws signals) ≡ length signals
unfolding write_all
length-written [] signals = refl
length-written (w ∷ ws) signals = length-written ws (set signals w.signal w.value) ∙ length-set signals w.signal w.value

pub sized-fail : (t kind : ℕ) (rows : List ℕ) (j : ℕ) (a : Arrays) → Sized a → Sized (fail_row t kind rows j a).arrays
sized-fail t kind rows j a z = record { signals = z.signals; tasks = simp length-set z.tasks; latched = z.latched; held = z.held }

pub sized-write : (t : ℕ) (rows : List ℕ) (j : ℕ) (a : Arrays) → Sized a → Sized (write_row t rows j a).arrays
sized-write t rows j a z =
    record { signals = length-written (row_writes rows j a.held) a.signals ∙ z.signals; tasks = simp length-set z.tasks; latched = z.latched; held = z.held }

pub sized-cond : (b : Bool) (u v : Step) → Sized u.arrays → Sized v.arrays → Sized (cond b u v).arrays
sized-cond true u v x y = x
sized-cond false u v x y = y

sized-lapse : (t : ℕ) (rows : List ℕ) (j : ℕ) (a : Arrays) → Sized a → Sized (lapse t rows j a).arrays
unfolding lapse
sized-lapse t rows j a z =
    sized-cond (ends_now t (field a.tasks (task_of_row rows j) 2) (row_field rows j 2)) _ (still a)
    (sized-cond (eqb (field a.tasks (task_of_row rows j) 0) finished) (write_row t rows j a) _ (sized-write t rows j a z)
    (sized-cond (eqb (field a.tasks (task_of_row rows j) 0) active) (fail_row t miss_kind rows j a) (still a) (sized-fail t miss_kind rows j a z) z))
    z

-- ---- one row's step is one task's turn
module _ (t : ℕ) (rows : List ℕ) (j : ℕ) (k : Task) (row : RowOf rows j k) (a : Arrays) (sized : Sized a) (es : List Entry) where
  abbrev i : ℕ
  i = task_of_row rows j

  pub fails : (kind : ℕ) → after (moment_of a es) (task_of_row rows j) (fail t kind (task_of_row rows j) (task_in a (task_of_row rows j))) ≡ landed es (fail_row t kind rows j a)
  unfolding write_all status_of
  fails kind =
      ap (λ (xs : List TaskState). record { signals = a.signals; tasks = xs; entries = es ++ (entry t kind i ∷ []) })
      (sym (become a i error row.place sized.tasks))

  pub writes : after (moment_of a es) (task_of_row rows j) (write_out t (task_of_row rows j) k (task_in a (task_of_row rows j))) ≡ landed es (write_row t rows j a)
  unfolding status_of
  writes =
      ap (λ (ws : List Write). record { signals = write_all ws a.signals; tasks = set (whole a) i (becomes READY (task_in a i)); entries = es ++ write_entries t i ws })
      (writes_are rows j k row a.held)
      ∙ ap (λ (xs : List TaskState). record { signals = write_all (row_writes rows j a.held) a.signals; tasks = xs; entries = es ++ write_entries t i (row_writes rows j a.held) })
      (sym (become a i ready row.place sized.tasks))

  lapses : (s : ℕ) (b : Bool) → after (moment_of a es) i (deadline_of (status_of s) b t i k (task_in a i))
      ≡ landed es (cond b (cond (eqb s finished) (write_row t rows j a) (cond (eqb s active) (fail_row t miss_kind rows j a) (still a))) (still a))
  unfolding status_of deadline_of
  lapses zero true = keeps a i row.place es []
  lapses zero false = keeps a i row.place es []
  lapses (suc zero) true = fails miss_kind
  lapses (suc zero) false = keeps a i row.place es []
  lapses (suc (suc zero)) true = writes
  lapses (suc (suc zero)) false = keeps a i row.place es []
  lapses (suc (suc (suc n))) true =
      rw (ne_eqb (suc (suc (suc n))) finished (λ e. omega arith), ne_eqb (suc (suc (suc n))) active (λ e. omega arith))
      (keeps a i row.place es [])
  lapses (suc (suc (suc n))) false = keeps a i row.place es []

  lapse-turn : after (moment_of a es) i (deadline_turn t i k (task_in a i)) ≡ landed es (lapse t rows j a)
  unfolding lapse
  lapse-turn =
      ap (λ (d : ℕ). after (moment_of a es) i (deadline_of (task_in a i).status (ends_now t (field a.tasks i 2) d) t i k (task_in a i))) (sym row.deadline)
      ∙ lapses (field a.tasks i 0) (ends_now t (field a.tasks i 2) (row_field rows j 2))

-- ---- step 1
module _ (t : ℕ) (plan : Plan) (rows : List ℕ) (n : ℕ) (said : Rows plan rows n) where
  one : (j i : ℕ) (a : Arrays) (es : List Entry) → IsRow plan rows j i → Sized a
      → visit plan (deadline_turn t) i (moment_of a es) ≡ landed es (lapse t rows j a)
  one j i a es row sized =
      subst (λ m. visit plan (deadline_turn t) m (moment_of a es) ≡ landed es (lapse t rows j a)) row.0
      (ap (λ (x : TaskState). after (moment_of a es) (task_of_row rows j) (deadline_turn t (task_of_row rows j) (task_at plan (task_of_row rows j)) x)) (read a (task_of_row rows j) row.1.place)
      ∙ lapse-turn t rows j (task_at plan (task_of_row rows j)) row.1 a sized es)

  -- "1. In order of priority, each task in flight with D > 0 and t = r + D"
  pub deadlines-same : (a : Arrays) (es : List Entry) → Sized a
      → each plan (deadline_turn t) (order plan) (moment_of a es) ≡ landed es (each_row (lapse t rows) n 0 a)
  deadlines-same a es sized =
      turns_in_order plan rows n said (lapse t rows) (deadline_turn t) Sized one (λ j i b row z. sized-lapse t rows j b z) a es sized

  pub deadlines-sized : (a : Arrays) → Sized a → Sized (each_row (lapse t rows) n 0 a).arrays
  deadlines-sized a sized = turns_in_order_leave plan rows n said (lapse t rows) (deadline_turn t) Sized one (λ j i b row z. sized-lapse t rows j b z) a sized
