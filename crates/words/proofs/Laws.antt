-- How the list of words hangs together with the bytes.
use Prim.Native.Nat.{ℕ, zero, suc, ◌+◌, ◌*◌, ◌-◌, ◌/◌, ◌<◌, ◌≤◌, min}
use mathlib.Core.Path.{◌≡◌, refl, sym, ap, ◌∙◌}
use mathlib.Core.List.{List, [], ◌∷◌}
use native.Mathlib.Omega.{arith}
use lib.ListN.{length, take, drop, length-drop, get_or-eq_default}
use Rattle.lists.proofs.Laws.{cut_take, cut_drop}
use Rattle.words.specs.Words.{joined, words_of, word_at, four_at, part_of}

-- as many words as there are whole fours of bytes
pub words_length : (s : List ℕ) → length (words_of s) ≡ length s / 4
unfolding words_of
words_length [] = refl
words_length (a ∷ []) = refl
words_length (a ∷ b ∷ []) = refl
words_length (a ∷ b ∷ c ∷ []) = refl
words_length (a ∷ b ∷ c ∷ d ∷ rest) = let e = words_length rest in omega arith

-- word i is the four bytes from 4 i on
pub word-is : (s : List ℕ) (i : ℕ) → i < length s / 4 → word_at s i ≡ four_at s (i * 4)
unfolding words_of
word-is [] i h = absurd (omega arith)
word-is (a ∷ []) i h = absurd (omega arith)
word-is (a ∷ b ∷ []) i h = absurd (omega arith)
word-is (a ∷ b ∷ c ∷ []) i h = absurd (omega arith)
word-is (a ∷ b ∷ c ∷ d ∷ rest) zero h = refl
word-is (a ∷ b ∷ c ∷ d ∷ rest) (suc i) h =
    let e0 : suc i * 4 ≡ suc (suc (suc (suc (i * 4)))) = omega arith in
    let e1 : suc i * 4 + 1 ≡ suc (suc (suc (suc (i * 4 + 1)))) = omega arith in
    let e2 : suc i * 4 + 2 ≡ suc (suc (suc (suc (i * 4 + 2)))) = omega arith in
    let e3 : suc i * 4 + 3 ≡ suc (suc (suc (suc (i * 4 + 3)))) = omega arith in
    rw (e1, e2, e3, e0) (word-is rest i (omega arith))

-- past the last whole word there is 0
pub word_out : (s : List ℕ) (i : ℕ) → length s / 4 ≤ i → word_at s i ≡ 0
word_out s i h = get_or-eq_default (words_of s) 0 {n = i} (rw (words_length s) h)

-- ---- the words of a part that starts at a word are that part of the words
four_more : (n : ℕ) → suc n * 4 ≡ suc (suc (suc (suc (n * 4))))
four_more n = omega arith

words_drop : (n : ℕ) (s : List ℕ) → words_of (drop (n * 4) s) ≡ drop n (words_of s)
unfolding words_of
words_drop zero s = refl
words_drop (suc n) s = rw (four_more n) (go (λ r. words_drop n r) s)
  where
    go : ((r : List ℕ) → words_of (drop (n * 4) r) ≡ drop n (words_of r)) → (s : List ℕ) → words_of (drop (suc (suc (suc (suc (n * 4))))) s) ≡ drop (suc n) (words_of s)
    go ih [] = refl
    go ih (a ∷ []) = refl
    go ih (a ∷ b ∷ []) = refl
    go ih (a ∷ b ∷ c ∷ []) = refl
    go ih (a ∷ b ∷ c ∷ d ∷ rest) = ih rest

words_take : (n : ℕ) (s : List ℕ) → words_of (take (n * 4) s) ≡ take n (words_of s)
unfolding words_of
words_take zero s = refl
words_take (suc n) s = rw (four_more n) (go (λ r. words_take n r) s)
  where
    go : ((r : List ℕ) → words_of (take (n * 4) r) ≡ take n (words_of r)) → (s : List ℕ) → words_of (take (suc (suc (suc (suc (n * 4))))) s) ≡ take (suc n) (words_of s)
    go ih [] = refl
    go ih (a ∷ []) = refl
    go ih (a ∷ b ∷ []) = refl
    go ih (a ∷ b ∷ c ∷ []) = refl
    go ih (a ∷ b ∷ c ∷ d ∷ rest) = ap (λ (l : List ℕ). joined a b c d ∷ l) (ih rest)

words_of_part : (s : List ℕ) (start size : ℕ) → words_of (take (size * 4) (drop (start * 4) s)) ≡ take size (drop start (words_of s))
words_of_part s start size = words_take size (drop (start * 4) s) ∙ ap (take size) (words_drop start s)

-- the words of a part are that part of the words
pub part-words : (s : List ℕ) (start size : ℕ) → words_of (part_of s start size) ≡ take size (drop start (words_of s))
unfolding part_of
part-words s start size =
    let first = min start (length s / 4) in
    words_of_part s first (min size (length s / 4 - first))
    ∙ rw (← words_length s) (
    ap (λ (k : ℕ). take (min size k) (drop (min start (length (words_of s))) (words_of s))) (sym (length-drop (min start (length (words_of s))) (words_of s)))
    ∙ cut_take size (drop (min start (length (words_of s))) (words_of s))
    ∙ ap (take size) (cut_drop start (words_of s)))

-- a part that lies inside is not cut
pub part-inside : (s : List ℕ) (start size : ℕ) → start + size ≤ length s / 4 → part_of s start size ≡ take (size * 4) (drop (start * 4) s)
unfolding part_of
part-inside s start size h =
    let a : min start (length s / 4) ≡ start = omega arith in
    let b : min size (length s / 4 - start) ≡ size = omega arith in
    rw (a, b)
