-- The statuses as numbers, as the arrays of a tick hold them.
use Rattle.std.specs.Prelude.{ℕ, zero, suc}
use Rattle.state.specs.declared.Status.{Status}
use Rattle.state.specs.declared.Status.TheVariants.{READY, ACTIVE, FINISHED, ERROR}

-- the status that a number stands for
unfoldable pub status_of : ℕ → Status
status_of zero = READY
status_of (suc zero) = ACTIVE
status_of (suc (suc zero)) = FINISHED
status_of (suc (suc (suc n))) = ERROR

-- the number that stands for a status
unfoldable pub number_of : Status → ℕ
number_of READY = 0
number_of ACTIVE = 1
number_of FINISHED = 2
number_of ERROR = 3
