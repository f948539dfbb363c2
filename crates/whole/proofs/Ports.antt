-- Eight ports of one task: what latching changes, and what a body does.
use Prim.Native.Nat.{ℕ, zero, suc, ◌+◌, ◌*◌, ◌<◌, ◌≤◌}
use mathlib.Core.Path.{◌≡◌, refl, ap, sym, ◌∙◌}
use mathlib.Core.Logic.{◌≢◌}
use mathlib.Core.Bool.{Bool, true, false, cond}
use mathlib.Core.List.{List, [], ◌∷◌, map}
use native.Mathlib.Omega.{arith}
use native.Mathlib.Nat.{zero-add, add-zero}
use lib.ListN.{length, get_or, set, drop, length-set, length-map, length-drop, get_or-eq_default}
use lib.Seq.{get_or-set_same, get_or-set_other, get_or-take, get_or-drop, length-take-le, ext_get_or, sets, sets-eq, length-sets}
use lib.Dec.{ltb}
use borrow.Author.Tests.{ltb-true, ltb-false}
use Rattle.limits.specs.Limits.{max_ports}
use Rattle.lists.specs.Lists.{tab}
use Rattle.lists.proofs.Laws.{length-tab, map-in}
use Rattle.plan.specs.File.{Task}
use Rattle.state.specs.State.{pad, value_at}
use Rattle.arrays.specs.Arrays.{row_field}
use Rattle.steps.specs.Flat.{task_of_row, latched_at, latch, ports_of, with_ports}
use Rattle.whole.specs.Whole.{ports_in, RowOf}
use Rattle.whole.proofs.Laws.{tab-within, get_or-all}

-- ---- n ports from port p on
module _ (rows : List ℕ) (j : ℕ) (signals : List ℕ) where
  pub length-latch : (n p : ℕ) (l : List ℕ) → length (latch rows j signals n p l) ≡ length l
  unfolding latch
  length-latch zero p l = refl
  length-latch (suc n) p l =
      length-latch n (p + 1) (set l (task_of_row rows j * 8 + p) (latched_at rows j signals p)) ∙ length-set l (task_of_row rows j * 8 + p) (latched_at rows j signals p)

  latch-other : (n p : ℕ) (l : List ℕ) (m : ℕ) → ((q : ℕ) → p ≤ q → q < p + n → m ≢ task_of_row rows j * 8 + q)
      → get_or (latch rows j signals n p l) m 0 ≡ get_or l m 0
  unfolding latch
  latch-other zero p l m d = refl
  latch-other (suc n) p l m d =
      latch-other n (p + 1) (set l (task_of_row rows j * 8 + p) (latched_at rows j signals p)) m (λ q low high. d q (omega arith) (omega arith))
      ∙ get_or-set_other l (task_of_row rows j * 8 + p) m (latched_at rows j signals p) 0 (d p (omega arith) (omega arith))

  latch-same : (n p : ℕ) (l : List ℕ) (q : ℕ) → task_of_row rows j * 8 + p + n ≤ length l → q < n
      → get_or (latch rows j signals n p l) (task_of_row rows j * 8 + (p + q)) 0 ≡ latched_at rows j signals (p + q)
  unfolding latch
  latch-same zero p l q fits less = absurd (omega arith)
  latch-same (suc n) p l zero fits less =
      rw (add-zero p)
      (latch-other n (p + 1) (set l (task_of_row rows j * 8 + p) (latched_at rows j signals p)) (task_of_row rows j * 8 + p) (λ q low high e. omega arith)
      ∙ get_or-set_same l (task_of_row rows j * 8 + p) (latched_at rows j signals p) 0 (omega arith))
  latch-same (suc n) p l (suc q) fits less =
      let e : p + suc q ≡ p + 1 + q = omega arith in
      rw e
      (latch-same n (p + 1) (set l (task_of_row rows j * 8 + p) (latched_at rows j signals p)) q
      (rw (length-set l (task_of_row rows j * 8 + p) (latched_at rows j signals p)) (omega arith)) (omega arith))

  -- another task's ports stay
  pub latched_other : (k : ℕ) (l : List ℕ) → k ≢ task_of_row rows j → ports_in (latch rows j signals max_ports 0 l) k ≡ ports_in l k
  latched_other k l d =
      tab-within (λ p. get_or (latch rows j signals max_ports 0 l) (k * 8 + p) 0) (λ p. get_or l (k * 8 + p) 0) 0 max_ports
      (λ p low high. latch-other max_ports 0 l (k * 8 + p) (λ q from to e. d (omega arith)))

  pub latched_same : (l : List ℕ) → task_of_row rows j * 8 + max_ports ≤ length l
      → ports_in (latch rows j signals max_ports 0 l) (task_of_row rows j) ≡ tab (latched_at rows j signals) 0 max_ports
  latched_same l fits =
      tab-within (λ p. get_or (latch rows j signals max_ports 0 l) (task_of_row rows j * 8 + p) 0) (latched_at rows j signals) 0 max_ports
      (λ p low high. rw (zero-add p) at (latch-same max_ports 0 l p (omega arith) (omega arith)))

-- ---- what a row latches is what its task latches: "latch all inputs"
module _ (rows : List ℕ) (j : ℕ) (k : Task) (row : RowOf rows j k) (signals : List ℕ) where
  latched_at-same : (p : ℕ) → p < max_ports → latched_at rows j signals p ≡ get_or (map (value_at signals) k.inputs) p 0
  latched_at-same p small = go (ltb p (row_field rows j 7)) refl
    where
      go : (b : Bool) → ltb p (row_field rows j 7) ≡ b
          → cond b (get_or signals (row_field rows j (16 + p)) 0) 0 ≡ get_or (map (value_at signals) k.inputs) p 0
      go true e =
          let less = ltb-true p (row_field rows j 7) e in
          let count = row.input_count in
          ap (λ (s : ℕ). get_or signals s 0) (row.input p small) ∙ sym (map-in (value_at signals) k.inputs p 0 0 (omega arith))
      go false e =
          let most = ltb-false p (row_field rows j 7) e in
          let count = row.input_count in
          sym (get_or-eq_default (map (value_at signals) k.inputs) 0 {n = p} (simp length-map (omega arith)))

  pub latches : tab (latched_at rows j signals) 0 max_ports ≡ pad max_ports 0 (map (value_at signals) k.inputs)
  latches =
      tab-within (latched_at rows j signals) (λ p. get_or (map (value_at signals) k.inputs) p 0) 0 max_ports
      (λ p low high. latched_at-same p (omega arith))

-- ---- eight ports in one piece: what steps/specs/Flat.antt's ports_of and with_ports come to for a task that has its place
sets_other : (l vs : List ℕ) (i m : ℕ) → ((q : ℕ) → q < length vs → m ≢ i + q) → get_or (sets l i vs) m 0 ≡ get_or l m 0
sets_other l [] i m d = refl
sets_other l (v ∷ vs) i m d =
    sets_other (set l i v) vs (suc i) m (λ q less e. d (suc q) (omega arith) (omega arith))
    ∙ get_or-set_other l i m v 0 (λ e. d 0 (omega arith) (omega arith))

sets_same : (l vs : List ℕ) (i q : ℕ) → i + length vs ≤ length l → q < length vs → get_or (sets l i vs) (i + q) 0 ≡ get_or vs q 0
sets_same l [] i q fits less = absurd (omega arith)
sets_same l (v ∷ vs) i zero fits less =
    rw (add-zero i) (sets_other (set l i v) vs (suc i) i (λ q small e. omega arith) ∙ get_or-set_same l i v 0 (omega arith))
sets_same l (v ∷ vs) i (suc q) fits less =
    let e : i + suc q ≡ suc i + q = omega arith in
    rw e (sets_same (set l i v) vs (suc i) q (rw (length-set l i v) (omega arith)) (omega arith))

module _ (l : List ℕ) (i : ℕ) (fits : i * 8 + max_ports ≤ length l) where
  pub ports_read : ports_of l i ≡ ports_in l i
  ports_read =
      let size : length (ports_of l i) ≡ max_ports = length-take-le max_ports (drop (i * 8) l) (simp length-drop (omega arith)) in
      ext_get_or 0 (ports_of l i) (ports_in l i) (size ∙ sym (length-tab (λ p. get_or l (i * 8 + p) 0) 0 max_ports))
      (λ p less.
      let few : p < max_ports = rw size at less in
      get_or-take max_ports (drop (i * 8) l) p 0 few ∙ get_or-drop (i * 8) l p 0 ∙ sym (get_or-all (λ q. get_or l (i * 8 + q) 0) 0 max_ports p few))

  module _ (new : List ℕ) (size : length new ≡ max_ports) where
    ports_stored : with_ports l i new ≡ sets l (i * 8) new
    ports_stored =
        let e : i * 8 + max_ports ≡ i * 8 + length new = omega arith in
        rw e (sym (sets-eq new l (i * 8) (omega arith)))

    pub ports_length : length (with_ports l i new) ≡ length l
    ports_length = ap length ports_stored ∙ length-sets l (i * 8) new

    pub ports_same : ports_in (with_ports l i new) i ≡ new
    ports_same =
        ap (λ (xs : List ℕ). ports_in xs i) ports_stored
        ∙ ext_get_or 0 (ports_in (sets l (i * 8) new) i) new (length-tab _ 0 max_ports ∙ sym size)
        (λ p less.
        let few : p < max_ports = rw (length-tab (λ q. get_or (sets l (i * 8) new) (i * 8 + q) 0) 0 max_ports) at less in
        get_or-all (λ q. get_or (sets l (i * 8) new) (i * 8 + q) 0) 0 max_ports p few ∙ sets_same l new (i * 8) p (omega arith) (omega arith))

    pub ports_other : (k : ℕ) → k ≢ i → ports_in (with_ports l i new) k ≡ ports_in l k
    ports_other k d =
        ap (λ (xs : List ℕ). ports_in xs k) ports_stored
        ∙ tab-within (λ p. get_or (sets l (i * 8) new) (k * 8 + p) 0) (λ p. get_or l (k * 8 + p) 0) 0 max_ports
        (λ p low high. sets_other l new (i * 8) (k * 8 + p) (λ q less e. d (omega arith)))
