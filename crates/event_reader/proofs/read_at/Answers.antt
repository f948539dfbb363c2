-- `event_reader::read_at` meets its contract: each branch's test says which case of `read_at` holds, and each call of `word` what its word is.
use borrow.Author.Tests.{le-ltb, lt-ltb}
use Rattle.event_reader.proofs.read_at.Goals as goal

pub returns-then-place-records : goal.returns-then-place-records
returns-then-place-records c = rw (lt-ltb _ _ c.if-place-records.true, c.word-then-place-records-3.ensures, c.word-then-place-records-2.ensures, c.word-then-place-records.ensures, c.word.ensures)

pub returns-else-place-records : goal.returns-else-place-records
returns-else-place-records c = simp (le-ltb _ _ c.if-place-records.false)
