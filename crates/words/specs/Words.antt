-- Document 01, 'The plan file': words of 4 bytes, lowest byte first.
use Rattle.std.specs.Prelude.{ℕ, ◌+◌, ◌*◌, ◌-◌, ◌/◌, min, List, [], ◌∷◌, length, get_or, take, drop}

-- four bytes as a number, lowest byte first
abbrev pub joined : ℕ → ℕ → ℕ → ℕ → ℕ
joined a b c d = a + b * 256 + c * 65536 + d * 16777216

-- "Words of 4 bytes, lowest byte first": bytes at the end that make no whole word are no word
unfoldable pub words_of : List ℕ → List ℕ
words_of [] = []
words_of (a ∷ []) = []
words_of (a ∷ b ∷ []) = []
words_of (a ∷ b ∷ c ∷ []) = []
words_of (a ∷ b ∷ c ∷ d ∷ rest) = joined a b c d ∷ words_of rest

-- word i of the bytes, 0 where there is none
abbrev pub word_at : List ℕ → ℕ → ℕ
word_at bytes i = get_or (words_of bytes) i 0

-- the four bytes from k on as a number
abbrev pub four_at : List ℕ → ℕ → ℕ
four_at bytes k = joined (get_or bytes k 0) (get_or bytes (k + 1) 0) (get_or bytes (k + 2) 0) (get_or bytes (k + 3) 0)

-- the part of the bytes that starts at a word and has a size in words, cut to the words that there are
unfoldable pub part_of : List ℕ → ℕ → ℕ → List ℕ
part_of bytes start size =
    let first = min start (length bytes / 4) in
    take (min size (length bytes / 4 - first) * 4) (drop (first * 4) bytes)
