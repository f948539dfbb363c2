-- What a word is that is the number of no kind of event.
use Prim.Native.Nat.{ℕ}
use mathlib.Core.Path.{◌≡◌, sym}
use mathlib.Core.Bool.{false}
use mathlib.Core.Logic.{◌≢◌}
use lib.Dec.{eqb}
use borrow.Author.Tests.{ne_eqb}
use Rattle.events.specs.declared.EventKind.{EventKind}
use Rattle.events.specs.declared.EventKind.TheVariants.{Release, Set}
use Rattle.events.specs.Kinds.{event_kind_number}

-- neither releases nor sets
pub no_release : (n : ℕ) → ((kind : EventKind) → event_kind_number kind ≢ n) → eqb n 1 ≡ false
no_release n none = ne_eqb n 1 (λ e. none Release (sym e))

pub no_set : (n : ℕ) → ((kind : EventKind) → event_kind_number kind ≢ n) → eqb n 2 ≡ false
no_set n none = ne_eqb n 2 (λ e. none Set (sym e))
