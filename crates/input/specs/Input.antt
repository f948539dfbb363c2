-- What a program reads of an input whose bytes are known.
use Rattle.std.specs.Prelude.{ℕ, ◌<◌, List, length, IfSome}
use Rattle.std.specs.Io.KnownBytes.{IsAtEnd}
use Rattle.std.specs.declared.option.Option.{Option}

-- the known bytes were fewer than so many, and none is left
abbrev pub RunsOut : Option (List ℕ) → Option (List ℕ) → ℕ → Type 0
RunsOut old new size = IfSome old (λ xs. length xs < size) × IsAtEnd new
