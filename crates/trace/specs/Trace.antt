-- Document 01, 'Trace and printing'.
use Rattle.std.specs.Prelude.{ℕ, zero, suc, ◌+◌, ◌*◌, cond, List, [], ◌∷◌, ◌++◌, length, get_or, set, drop, leb, ltb, eqb}
use Rattle.trace.specs.declared.Entry.{Entry}
use Rattle.trace.specs.declared.Kind.{Kind}
use Rattle.trace.specs.declared.Kind.TheVariants.{Release, Write, Miss, Overrun, Ignored}

-- "Kinds: 1 release, 2 write (one for each output, in position order), 3 deadline missed, 4 due while ACTIVE, 5 event ignored (one each)."
abbrev pub release_kind : ℕ
release_kind = 1

abbrev pub write_kind : ℕ
write_kind = 2

abbrev pub miss_kind : ℕ
miss_kind = 3

abbrev pub overrun_kind : ℕ
overrun_kind = 4

abbrev pub ignored_kind : ℕ
ignored_kind = 5

abbrev pub number_of : Kind → ℕ
number_of Release = release_kind
number_of Write = write_kind
number_of Miss = miss_kind
number_of Overrun = overrun_kind
number_of Ignored = ignored_kind

-- "Signal and value are 0 except in 2."
abbrev pub entry : ℕ → ℕ → ℕ → Entry
entry t kind i = record { instant = t; kind = kind; task = i; signal = 0; value = 0 }

-- a write record
abbrev pub write_entry : ℕ → ℕ → ℕ → ℕ → Entry
write_entry t i signal value = record { instant = t; kind = write_kind; task = i; signal = signal; value = value }

-- "Records of five words: instant, kind, task, signal, value"
unfoldable pub lines : List Entry → List ℕ
lines [] = []
lines (e ∷ es) = e.instant ∷ e.kind ∷ e.task ∷ e.signal ∷ e.value ∷ lines es

-- ".. from the trace's start at each call"; "words beyond the records stay"
abbrev pub trace_after : List Entry → List ℕ → List ℕ
trace_after es trace = lines es ++ drop (5 * length es) trace

-- the first n records that stand in a trace
unfoldable pub records_in : List ℕ → ℕ → List Entry
records_in trace zero = []
records_in trace (suc n) =
    record { instant = get_or trace 0 0; kind = get_or trace 1 0; task = get_or trace 2 0; signal = get_or trace 3 0; value = get_or trace 4 0 }
    ∷ records_in (drop 5 trace) n

-- "each task's lines": the records of task i, in their order
unfoldable pub own : ℕ → List Entry → List Entry
own i [] = []
own i (e ∷ es) = cond (eqb e.task i) (e ∷ own i es) (own i es)

-- the records before tick k: those of an instant below k
unfoldable pub before : ℕ → List Entry → List Entry
before k [] = []
before k (e ∷ es) = cond (ltb e.instant k) (e ∷ before k es) (before k es)

-- the records of tick n: those of instant n
unfoldable pub of_tick : ℕ → List Entry → List Entry
of_tick n [] = []
of_tick n (e ∷ es) = cond (eqb e.instant n) (e ∷ of_tick n es) (of_tick n es)

-- ---- one record after the other, as the steps come
-- five words from word `at` on
abbrev pub store : List ℕ → ℕ → Entry → List ℕ
store l at e = set (set (set (set (set l at e.instant) (at + 1) e.kind) (at + 2) e.task) (at + 3) e.signal) (at + 4) e.value

-- the trace with one record from word `at` on, where it fits; else as it was
unfoldable pub put_at : List ℕ → ℕ → Entry → List ℕ
put_at l at e = cond (leb (at + 5) (length l)) (store l at e) l

-- the trace with records from word `at` on, each where it fits
unfoldable pub over : List ℕ → ℕ → List Entry → List ℕ
over l at [] = l
over l at (e ∷ es) = over (put_at l at e) (at + 5) es
