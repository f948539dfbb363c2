-- The order of priority changes no signal, no task state and no task's own records.
use Prim.Native.Nat.{ℕ}
use mathlib.Core.Path.{◌≡◌, refl, sym, ◌∙◌}
use mathlib.Core.Logic.{◌≢◌}
use mathlib.Core.List.{List, [], ◌∷◌, ◌++◌}
use native.Mathlib.Decide.{ℕ_discrete}
use lib.ListN.{get_or}
use lib.Seq.{set_comm, get_or-set_other}
use Rattle.plan.specs.File.{Plan, task_at}
use Rattle.plan.proofs.Order.{Perm, pnil, pcons, pswap, ptrans}
use Rattle.trace.specs.Trace.{own}
use Rattle.trace.proofs.Records.{own-append, own-swap}
use Rattle.state.specs.State.{nowhere}
use Rattle.state.specs.declared.TaskState.{TaskState}
use Rattle.tick.specs.Tick.{Moment, Act, write_all, visit, each}

-- ---- the same signals, the same task states, the same own records of every task
pub record Alike (m n : Moment) : Type 0 where
  pub signals : m.signals ≡ n.signals
  pub tasks : m.tasks ≡ n.tasks
  pub own-records : (k : ℕ) → own k m.entries ≡ own k n.entries

-- every moment is like itself
alike_refl : (m : Moment) → Alike m m
alike_refl m = record { signals = refl; tasks = refl; own-records = λ k. refl }

-- like a third
pub alike_trans : {m n o : Moment} → Alike m n → Alike n o → Alike m o
alike_trans a b = record { signals = a.signals ∙ b.signals; tasks = a.tasks ∙ b.tasks; own-records = λ k. a.own-records k ∙ b.own-records k }

module _ (plan : Plan) (act : Act) where
  -- one turn from moments that are alike
  visit-alike : (i : ℕ) (m n : Moment) → Alike m n → Alike (visit plan act i m) (visit plan act i n)
  visit-alike i m n a =
      record { signals = rw (a.signals, a.tasks); tasks = rw a.tasks; own-records = λ k. simp (own-append, a.own-records k, a.tasks) }

  -- turns of tasks from moments that are alike
  pub each-alike : (is : List ℕ) (m n : Moment) → Alike m n → Alike (each plan act is m) (each plan act is n)
  unfolding each
  each-alike [] m n a = a
  each-alike (i ∷ is) m n a = each-alike is (visit plan act i m) (visit plan act i n) (visit-alike i m n a)

  -- where a turn writes only its task's records, and the writes of two tasks commute
  module _ (owned : (i k : ℕ) (x : TaskState) → k ≢ i → own k (act i (task_at plan i) x).entries ≡ [])
      (apart : (i j : ℕ) (x y : TaskState) (s : List ℕ) → i ≢ j
      → write_all (act i (task_at plan i) x).writes (write_all (act j (task_at plan j) y).writes s)
      ≡ write_all (act j (task_at plan j) y).writes (write_all (act i (task_at plan i) x).writes s)) where
    -- two tasks take their turns in either order
    swap_apart : (i j : ℕ) (m : Moment) → i ≢ j → Alike (visit plan act i (visit plan act j m)) (visit plan act j (visit plan act i m))
    swap_apart i j m d =
        let u = act i (task_at plan i) (get_or m.tasks i nowhere) in
        let v = act j (task_at plan j) (get_or m.tasks j nowhere) in
        let d' : j ≢ i = λ e. d (sym e) in
        let p = get_or-set_other m.tasks j i v.state nowhere d in
        let q = get_or-set_other m.tasks i j u.state nowhere d' in
        record {
          signals = rw (p, q) (apart i j (get_or m.tasks i nowhere) (get_or m.tasks j nowhere) m.signals d);
          tasks = rw (p, q) (set_comm m.tasks j i v.state u.state d');
          own-records = λ k. rw (p, q) (swapped k (get_or m.tasks i nowhere) (get_or m.tasks j nowhere) (ℕ_discrete k i));
        }
      where
        swapped : (k : ℕ) (x y : TaskState) → Dec (k ≡ i) → let u = act i (task_at plan i) x in let v = act j (task_at plan j) y in
            own k (m.entries ++ v.entries ++ u.entries) ≡ own k (m.entries ++ u.entries ++ v.entries)
        swapped k x y (yes e) = sym (own-swap k m.entries _ _ (owned j k y (λ f. d (sym e ∙ f))))
        swapped k x y (no f) = own-swap k m.entries _ _ (owned i k x f)

    -- whether they are two or one
    swap : (i j : ℕ) (m : Moment) → Alike (visit plan act i (visit plan act j m)) (visit plan act j (visit plan act i m))
    swap i j m = go (ℕ_discrete i j)
      where
        go : Dec (i ≡ j) → Alike (visit plan act i (visit plan act j m)) (visit plan act j (visit plan act i m))
        go (yes e) = rw e (alike_refl _)
        go (no d) = swap_apart i j m d

    -- in whatever order the tasks take their turns: the same
    pub perm_alike : {xs ys : List ℕ} → Perm xs ys → (m : Moment) → Alike (each plan act xs m) (each plan act ys m)
    unfolding each
    perm_alike pnil m = alike_refl m
    perm_alike (pcons {x = i} p) m = perm_alike p (visit plan act i m)
    perm_alike (pswap {x = i} {y = j} {xs = is}) m = each-alike is _ _ (swap j i m)
    perm_alike (ptrans p q) m = alike_trans (perm_alike p m) (perm_alike q m)
