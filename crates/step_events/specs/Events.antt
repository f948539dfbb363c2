-- What one event does to the signals.
use Rattle.std.specs.Prelude.{ℕ, cond, List, set, eqb}
use Rattle.events.specs.Events.{Event}

-- one event takes effect if it sets a signal
abbrev pub set_one : Event → List ℕ → List ℕ
set_one e signals = cond (eqb e.kind 2) (set signals e.target e.value) signals
