-- A state taken apart and read again is that state.
use Prim.Native.Nat.{ℕ, zero, suc, ◌+◌, ◌*◌, ◌<◌}
use mathlib.Core.Path.{◌≡◌, refl, ap, sym, ◌∙◌}
use mathlib.Core.List.{List, [], ◌∷◌, ◌++◌}
use native.Mathlib.Omega.{arith}
use native.Mathlib.Nat.{zero-add, zero-mul, suc-mul}
use lib.ListN.{length, get_or, length-append, get_or-append}
use lib.Seq.{get_or-append-add, ext_get_or}
use Rattle.limits.specs.Limits.{max_tasks, max_ports}
use Rattle.lists.specs.Lists.{Every}
use Rattle.lists.proofs.Laws.{length-tab}
use Rattle.lists.proofs.Tests.{every_at}
use Rattle.state.specs.State.{nowhere}
use Rattle.state.specs.Fitting.{PortSizes}
use Rattle.state.specs.Fitting as fitting
use Rattle.state.specs.declared.Status.{Status}
use Rattle.state.specs.declared.Status.TheVariants.{READY, ACTIVE, FINISHED, ERROR}
use Rattle.state.specs.declared.TaskState.{TaskState}
use Rattle.state.specs.declared.State.{State}
use Rattle.state.specs.Numbers.{status_of, number_of}
use Rattle.arrays.specs.Arrays.{field, Sized}
use Rattle.whole.specs.Whole.{ports_in, task_in, whole, four_of, off_each, apart}
use Rattle.whole.proofs.Laws.{get_or-all}

pub status_same : (s : Status) → status_of (number_of s) ≡ s
unfolding status_of number_of
status_same READY = refl
status_same ACTIVE = refl
status_same FINISHED = refl
status_same ERROR = refl

-- the first of a task's four numbers is that of its status, for each of the four
status_kept : (x : TaskState) → status_of (get_or (four_of x) 0 0) ≡ x.status
unfolding status_of number_of
status_kept x = go x.status refl
  where
    go : (s : Status) → x.status ≡ s → status_of (get_or (four_of x) 0 0) ≡ s
    go READY e = rw e refl
    go ACTIVE e = rw e refl
    go FINISHED e = rw e refl
    go ERROR e = rw e refl

-- ---- w numbers are read off each task
module _ (f : TaskState → List ℕ) (w : ℕ) where
  off_length : (xs : List TaskState) → Every (λ x. length (f x) ≡ w) xs → length (off_each f xs) ≡ length xs * w
  unfolding off_each
  off_length [] h = omega arith
  off_length (x ∷ xs) h =
      let first = h.0 in
      let rest = off_length xs h.1 in
      rw (length-append (f x) (off_each f xs), first, rest, suc-mul (length xs) w) (omega arith)

  -- number p of task i
  off_at : (xs : List TaskState) (i p : ℕ) → Every (λ x. length (f x) ≡ w) xs → i < length xs → p < w
      → get_or (off_each f xs) (i * w + p) 0 ≡ get_or (f (get_or xs i nowhere)) p 0
  unfolding off_each
  off_at [] i p h less small = absurd (omega arith)
  off_at (x ∷ xs) zero p h less small =
      ap (λ (n : ℕ). get_or (f x ++ off_each f xs) n 0) (rw (zero-mul w) (zero-add p))
      ∙ get_or-append (f x) (off_each f xs) 0 p (rw h.0 small)
  off_at (x ∷ xs) (suc i) p h less small =
      let first = h.0 in
      ap (λ (n : ℕ). get_or (f x ++ off_each f xs) n 0) (rw (suc-mul i w) (omega arith))
      ∙ get_or-append-add (f x) (off_each f xs) (i * w + p) 0
      ∙ off_at xs i p h.1 (omega arith) small

every_weaker : (P Q : TaskState → Type 0) → ((x : TaskState) → P x → Q x) → (xs : List TaskState) → Every P xs → Every Q xs
every_weaker P Q f [] h = tt
every_weaker P Q f (x ∷ xs) h = (f x h.0, every_weaker P Q f xs h.1)

-- ---- of a state whose lists have their lengths
module _ (s : State) (sized : fitting.StateSizes s) where
  fours : Every (λ x. length (four_of x) ≡ 4) s.tasks
  fours = every_weaker PortSizes (λ x. length (four_of x) ≡ 4) (λ x h. refl) s.tasks sized.ports

  eights : Every (λ x. length x.latched ≡ max_ports) s.tasks
  eights = every_weaker PortSizes (λ x. length x.latched ≡ max_ports) (λ x h. h.latched) s.tasks sized.ports

  held_eights : Every (λ x. length x.held ≡ max_ports) s.tasks
  held_eights = every_weaker PortSizes (λ x. length x.held ≡ max_ports) (λ x h. h.held) s.tasks sized.ports

  pub apart-sized : Sized (apart s)
  apart-sized =
      let count = sized.tasks in
      record {
        signals = sized.signals;
        tasks = off_length four_of 4 s.tasks fours ∙ ap (λ (n : ℕ). n * 4) count;
        latched = off_length (λ x. x.latched) max_ports s.tasks eights ∙ ap (λ (n : ℕ). n * max_ports) count;
        held = off_length (λ x. x.held) max_ports s.tasks held_eights ∙ ap (λ (n : ℕ). n * max_ports) count;
      }

  abbrev at : ℕ → TaskState
  at i = get_or s.tasks i nowhere

  -- the eight ports of task i
  ports_same : (f : TaskState → List ℕ) → Every (λ x. length (f x) ≡ max_ports) s.tasks → (i : ℕ) → i < length s.tasks
      → ports_in (off_each f s.tasks) i ≡ f (at i)
  ports_same f h i less =
      let size = every_at (λ x. length (f x) ≡ max_ports) nowhere s.tasks h i less in
      ext_get_or 0 (ports_in (off_each f s.tasks) i) (f (at i)) (length-tab _ 0 max_ports ∙ sym size)
      (λ p small.
      let few : p < max_ports = rw (length-tab (λ q. get_or (off_each f s.tasks) (i * 8 + q) 0) 0 max_ports) at small in
      get_or-all (λ q. get_or (off_each f s.tasks) (i * 8 + q) 0) 0 max_ports p few ∙ off_at f max_ports s.tasks i p h less few)

  four : (i p : ℕ) → i < length s.tasks → p < 4 → field (apart s).tasks i p ≡ get_or (four_of (at i)) p 0
  four i p less small = off_at four_of 4 s.tasks i p fours less small

  task_same : (i : ℕ) → i < length s.tasks → task_in (apart s) i ≡ at i
  task_same i less =
      rw (four i 0 less (omega arith), four i 1 less (omega arith), four i 2 less (omega arith), four i 3 less (omega arith), status_kept (at i), ports_same (λ x. x.latched) eights i less, ports_same (λ x. x.held) held_eights i less)

  pub whole_apart : whole (apart s) ≡ s.tasks
  whole_apart =
      let count = sized.tasks in
      ext_get_or nowhere (whole (apart s)) s.tasks (length-tab (task_in (apart s)) 0 max_tasks ∙ sym count)
      (λ i small.
      let few : i < max_tasks = rw (length-tab (task_in (apart s)) 0 max_tasks) at small in
      get_or-all (task_in (apart s)) nowhere max_tasks i few ∙ task_same i (omega arith))
