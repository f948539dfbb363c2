-- Laws of the ports of a task, cut to those that there are, and of what its last tick comes to.
use Prim.Native.Nat.{ℕ, ◌+◌, ◌*◌, ◌-◌, min}
use mathlib.Core.Path.{◌≡◌, sym, ap, ◌∙◌, subst}
use mathlib.Core.List.{List, ◌++◌, append_assoc}
use native.Mathlib.Omega.{arith}
use native.Mathlib.Nat.{add-zero}
use lib.ListN.{length, set, take, drop, length-drop}
use lib.Seq.{drop-drop}
use borrow.Author.Tests.{eq-eqb}
use Rattle.lists.proofs.Laws.{cut_take, cut_drop}
use Rattle.words.specs.Words.{words_of}
use Rattle.words.proofs.Laws.{part-words}
use Rattle.plan.specs.File.{Task, task_of, body_part}
use Rattle.body.specs.Body.{Result, body, leaves}
use Rattle.arrays.specs.Arrays.{Arrays, Step, Does, ready, finished, field, row_field}
use Rattle.steps.specs.Flat.{task_of_row, reset, row_writes, write_row, ports_of, with_ports, finish_task, work}
use Rattle.writes.specs.Writes.{Wrote}
use Rattle.step_running.specs.Finish.{Ran, Finished}

-- the ports of task i that there are, and the ports with those changed
module _ (ports : List ℕ) (i : ℕ) where
  abbrev start : ℕ
  start = min (i * 8) (length ports)

  abbrev end : ℕ
  end = min (i * 8 + 8) (length ports)

  pub ports_cut : take (end - start) (drop start ports) ≡ ports_of ports i
  ports_cut =
      let size : end - start ≡ min 8 (length ports - start) = omega arith in
      ap (λ (k : ℕ). take k (drop start ports)) (size ∙ ap (min 8) (sym (length-drop start ports)))
      ∙ cut_take 8 (drop start ports) ∙ ap (take 8) (cut_drop (i * 8) ports)

  pub with_cut : (new : List ℕ) → take start ports ++ (new ++ drop (end - start) (drop start ports)) ≡ with_ports ports i new
  with_cut new =
      let e : start + (end - start) ≡ end = omega arith in
      rw (drop-drop (end - start) start ports, e, cut_take (i * 8) ports, cut_drop (i * 8 + 8) ports) (sym (append_assoc (take (i * 8) ports) new (drop (i * 8 + 8) ports)))

-- a body that ran on the ports that there are has run on the task's ports
pub ran : (k : Task) (latched : List ℕ) (machine : ℕ) (held : List ℕ) (i : ℕ) {first last from to : ℕ}
    → first ≡ start latched i → last ≡ end latched i → from ≡ start held i → to ≡ end held i
    → (next : ℕ) (new : List ℕ) → leaves next new ≡ body k (take (last - first) (drop first latched)) machine (take (to - from) (drop from held))
    → Ran (body k (ports_of latched i) machine (ports_of held i)) i held (take from held ++ (new ++ drop (to - from) (drop from held))) next
ran k latched machine held i p q r s next new e =
    let f = rw (p, q, r, s, ports_cut latched i, ports_cut held i) at e in
    record { machine = ap (λ (u : Result). u.machine) f; held = rw (r, s, with_cut held i) (ap (λ (u : Result). with_ports held i u.held) f) }

-- .. and then the task is FINISHED, with the machine state that the body left
pub finished-is : (bytes : List ℕ) (i : ℕ) (latched tasks₀ held₀ part : List ℕ) {machine next : ℕ} {tasks₁ tasks₂ tasks₃ held : List ℕ}
    → part ≡ body_part bytes i → machine ≡ field tasks₀ i 3
    → Ran (body (task_of (words_of part)) (ports_of latched i) machine (ports_of held₀ i)) i held₀ held next
    → tasks₁ ≡ set tasks₀ (i * 4) finished → tasks₂ ≡ set tasks₁ (i * 4 + 1) 0 → tasks₃ ≡ set tasks₂ (i * 4 + 3) next
    → Finished (words_of bytes) i latched tasks₀ tasks₃ held₀ held
finished-is bytes i latched tasks₀ held₀ part p m r a b c =
    let h = rw (p, part-words, m) at r.held in
    let n = rw (p, part-words, m) at r.machine in
    record { arrays = λ signals. rw (c, b, a, n, h, add-zero) }

-- ---- a task whose last tick this is, with D = 0: it has finished, written and become READY
pub work-writes : (t : ℕ) (ws rows : List ℕ) (j : ℕ) (a b : Arrays) {i d left rest from to : ℕ} {signals tasks trace₀ trace : List ℕ}
    → i ≡ task_of_row rows j → d ≡ row_field rows j 2 → left ≡ field a.tasks i 1 → rest ≡ left - 1 → rest ≡ 0 → d ≡ 0
    → b ≡ finish_task ws i a
    → Wrote b.signals signals trace₀ trace from to t (task_of_row rows j) (row_writes rows j b.held)
    → tasks ≡ reset ready i b.tasks
    → Does (record { signals = signals; tasks = tasks; latched = b.latched; held = b.held }) trace₀ trace from to (work t ws rows j a)
unfolding work
work-writes t ws rows j a b {from = from} {to = to} {signals = signals} {tasks = tasks} {trace₀ = trace₀} {trace = trace} task deadline left rest none free done w back =
    let e : work t ws rows j a ≡ write_row t rows j b = rw (← deadline, eq-eqb _ _ free, ← task, ← left, ← rest, eq-eqb _ _ none) (rw task (ap (write_row t rows j) (sym (rw task at done)))) in
    subst (λ (s : Step). Does (record { signals = signals; tasks = tasks; latched = b.latched; held = b.held }) trace₀ trace from to s) (sym e)
    (record { arrays = rw (w.signals, back, task); trace = w.trace; ends = w.ends })
