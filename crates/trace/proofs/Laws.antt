-- Laws of a lent trace: records one after the other are the lines of 01, and words beyond them stay.
use Prim.Native.Nat.{ℕ, suc, ◌+◌, ◌*◌, ◌≤◌}
use mathlib.Core.Path.{◌≡◌, refl, ap, sym, ◌∙◌}
use mathlib.Core.List.{List, [], ◌∷◌, ◌++◌, append_assoc, append-nil}
use mathlib.Core.Bool.{Bool, true, false, cond}
use native.Mathlib.Omega.{arith}
use native.Mathlib.Nat.{add-zero}
use lib.ListN.{length, take, drop, length-set, take-append-drop, length-append}
use lib.Seq.{sets-eq, take_at, drop_at, drop-drop, length-take-le}
use lib.Dec.{leb}
use borrow.Author.Tests.{le-leb}
use Rattle.trace.specs.Trace.{store, put_at, over, lines, trace_after, records_in}
use Rattle.trace.specs.declared.Entry.{Entry}

-- the five words of a record
abbrev five_of : Entry → List ℕ
five_of e = e.instant ∷ e.kind ∷ e.task ∷ e.signal ∷ e.value ∷ []

-- two runs of records, one after the other
pub over-append : (l : List ℕ) (at : ℕ) (rs ss : List Entry) → over l at (rs ++ ss) ≡ over (over l at rs) (at + 5 * length rs) ss
unfolding over
over-append l at [] ss = ap (λ (k : ℕ). over l k ss) (omega arith)
over-append l at (r ∷ rs) ss = over-append (put_at l at r) (at + 5) rs ss ∙ ap (λ (k : ℕ). over (over (put_at l at r) (at + 5) rs) k ss) (omega arith)

-- one record that fits
pub put_is : (l : List ℕ) (at : ℕ) (r : Entry) → at + 5 ≤ length l → put_at l at r ≡ take at l ++ five_of r ++ drop (at + 5) l
unfolding put_at
put_is l at r h =
    let e1 : at + 1 ≡ suc at = omega arith in
    let e2 : at + 2 ≡ suc (suc at) = omega arith in
    let e3 : at + 3 ≡ suc (suc (suc at)) = omega arith in
    let e4 : at + 4 ≡ suc (suc (suc (suc at))) = omega arith in
    rw (le-leb _ _ h, e1, e2, e3, e4) (sets-eq (five_of r) l at h)

kept : (t : Bool) (a l : List ℕ) → length a ≡ length l → length (cond t a l) ≡ length l
kept true a l e = e
kept false a l e = refl

pub length-put : (l : List ℕ) (at : ℕ) (r : Entry) → length (put_at l at r) ≡ length l
unfolding put_at
length-put l at r = kept (leb (at + 5) (length l)) (store l at r) l (simp length-set)

-- a record that fits leaves the words before it, and those from five words on
module _ (l : List ℕ) (at : ℕ) (r : Entry) (h : at + 5 ≤ length l) where
  head : List ℕ
  head = take at l ++ five_of r

  head_length : length head ≡ at + 5
  unfolding head
  head_length = length-append (take at l) (five_of r) ∙ ap (λ (k : ℕ). k + 5) (length-take-le at l (omega arith))

  take_put : take (at + 5) (put_at l at r) ≡ head
  unfolding head
  take_put = rw (put_is l at r h) (take_at head (drop (at + 5) l) (at + 5) head_length)

  drop-put : (m : ℕ) → drop (at + 5 + m) (put_at l at r) ≡ drop (at + 5 + m) l
  unfolding head
  drop-put m =
      sym (drop-drop m (at + 5) (put_at l at r))
      ∙ ap (drop m) (ap (drop (at + 5)) (put_is l at r h) ∙ drop_at head (drop (at + 5) l) (at + 5) head_length)
      ∙ drop-drop m (at + 5) l

-- records that fit: the words before them, theirs, and the words beyond them
pub over-is : (rs : List Entry) (l : List ℕ) (at : ℕ) → at + 5 * length rs ≤ length l → over l at rs ≡ take at l ++ lines rs ++ drop (at + 5 * length rs) l
unfolding over head lines
over-is [] l at h = rw add-zero (sym (ap (λ (p : List ℕ). p ++ drop at l) (append-nil (take at l)) ∙ take-append-drop at l))
over-is (r ∷ rs) l at h =
    let one : at + 5 ≤ length l = omega arith in
    let e : at + 5 * suc (length rs) ≡ at + 5 + 5 * length rs = omega arith in
    over-is rs (put_at l at r) (at + 5) (rw (length-put l at r) (omega arith))
    ∙ rw (take_put l at r one, drop-put l at r one (5 * length rs), e) (simp append_assoc)

-- from the trace's start, where they fit
pub trace_is : (es : List Entry) (l : List ℕ) → 5 * length es ≤ length l → over l 0 es ≡ trace_after es l
trace_is es l h =
    let e : 0 + 5 * length es ≡ 5 * length es = omega arith in
    over-is es l 0 (omega arith) ∙ rw e

pub length_over : (es : List Entry) (l : List ℕ) (at : ℕ) → length (over l at es) ≡ length l
unfolding over
length_over [] l at = refl
length_over (e ∷ es) l at = length_over es (put_at l at e) (at + 5) ∙ length-put l at e

-- ---- the records that were laid from a trace's start are those that are read there
pub records_laid : (es : List Entry) (rest : List ℕ) → records_in (lines es ++ rest) (length es) ≡ es
unfolding records_in lines
records_laid [] rest = refl
records_laid (e ∷ es) rest = rw (records_laid es rest)
