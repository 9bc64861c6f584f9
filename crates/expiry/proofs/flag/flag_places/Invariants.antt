-- `flag_places` meets its contract: each turn sets the flag of its place.
use Prim.Native.Nat.{ℕ, ◌<◌}
use mathlib.Core.Path.{◌≡◌}
use mathlib.Core.Bool.{Bool}
use Rattle.lists.specs.Pieces.{Flags}
use Rattle.expiry.proofs.flag.flag_places.Given as goal

abbrev pub invariant-loop-i : goal.invariant-loop-i
invariant-loop-i g l = (q : ℕ → Bool) → ((i : ℕ) (r : Bool) → i < l.n → goal.F-post g l.stays i r → r ≡ q i) → Flags q l.i l.flags
