use Rattle.std.proofs.Common.{◌≡◌, ℕ, ◌+◌, ◌-◌, ◌≤◌, List, ◌++◌, rules, ap, ◌∙◌, sym, subst, length, take, length-take-le}
use Rattle.std.proofs.lemmas.List.{take-append-le}
use Rattle.std.proofs.Math.Seq.{take-append-add}
use Rattle.std.specs.Io.KnownBytes.{Consumes}
use Rattle.std.proofs.KnownBytes.{Consumes-trans}
use borrow.Rule.Slice.PartMut.{put_mid, post_of}
use Rattle.input.proofs.read_full.Goals as goal

-- what stands in a buffer up to the end of what was read into a part of it
put_mid-take : (at got room : ℕ) (xs ys : List ℕ) → at ≤ length xs → got ≤ length ys → take (at + got) (put_mid at room xs ys) ≡ take at xs ++ take got ys
put_mid-take at got room xs ys within fits =
    ap (λ n. take (n + got) (put_mid at room xs ys)) (sym (length-take-le at xs within)) ∙ take-append-add (take at xs) (ys ++ post_of at room xs) got
    ∙ ap (λ l. take at xs ++ l) (take-append-le got ys (post_of at room xs) fits)

pub loop-done-preserved : goal.loop-done-preserved
loop-done-preserved g c =
    let joined = put_mid-take c.loop-done.done c.in_ok-got.got (length c.loop-done.buffer - c.loop-done.done) c.loop-done.buffer c.read.new.buf c.loop-done.invariant.0 c.in_ok-got.ensures.bound.0 in
    (search rules, subst (Consumes _ _) (sym joined) (Consumes-trans _ _ _ _ _ c.loop-done.invariant.1 c.in_ok-got.ensures.bytes.0))
