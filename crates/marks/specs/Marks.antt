-- A number as a set of bits; a word of 64 bits as a set of numbers below 64.
use Rattle.std.specs.Prelude.{ℕ, ◌/◌, ◌%◌, ◌^◌, Bool, eqb}
use Rattle.std.specs.Int.Bits.{bit_or}

-- bit k of w is set
abbrev pub has : ℕ → ℕ → Bool
has w k = eqb (w / 2 ^ k % 2) 1

-- w with bit k set
abbrev pub marked : ℕ → ℕ → ℕ
marked w k = bit_or w (2 ^ k)

-- a number is marked in a word of 64 bits
abbrev pub seen : ℕ → ℕ → Bool
seen w x = has w (x % 64)

-- the word with a number marked
abbrev pub mark : ℕ → ℕ → ℕ
mark w x = marked w (x % 64)
