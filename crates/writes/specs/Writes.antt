-- What writing comes to: signals, trace, and the word at which the records end.
use Rattle.std.specs.Prelude.{ℕ, ◌+◌, ◌*◌, ◌≡◌, List, length}
use Rattle.trace.specs.Trace.{over}
use Rattle.tick.specs.Turns.{Write}
use Rattle.tick.specs.Tick.{write_all}
use Rattle.steps.specs.Flat.{write_entries}

pub record Wrote (old-signals new-signals old-trace new-trace : List ℕ) (from end t i : ℕ) (ws : List Write) : Type 0 where
  pub signals : new-signals ≡ write_all ws old-signals
  pub trace : new-trace ≡ over old-trace from (write_entries t i ws)
  pub ends : end ≡ from + 5 * length (write_entries t i ws)
