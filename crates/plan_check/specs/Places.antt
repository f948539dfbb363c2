-- How far the words of a body can stand from its start.
use Rattle.std.specs.Prelude.{ℕ}

-- above every sum of three 32-bit counts and their widths, and far below what an index can be: places are added without wrapping
abbrev pub far : ℕ
far = 1099511627776
