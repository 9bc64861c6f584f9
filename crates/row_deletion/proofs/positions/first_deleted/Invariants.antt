-- `first_deleted` meets its contract: both lists ascend, so the lower of two that differ is not in what is left of the other list.
use Prim.Native.Nat.{◌+◌, ◌-◌, ◌≤◌}
use mathlib.Core.Path.{◌≡◌}
use mathlib.Core.Bool.{true}
use lib.Dec.{ltb}
use lib.ListN.{length}
use Rattle.lists.specs.Lists.{chained, has, place}
use Rattle.row_deletion.proofs.Offending.{offending}
use Rattle.row_deletion.proofs.positions.first_deleted.Given as goal

abbrev pub invariant-loop-i : goal.invariant-loop-i
invariant-loop-i l = (l.i ≤ length l.positions) × (l.j ≤ length l.deleted)
    × (chained ltb l.deleted ≡ true → chained ltb l.positions ≡ true → place (λ p. has p l.deleted) 0 l.positions ≡ offending l.deleted l.positions l.i l.j)

abbrev pub decreases-loop-i : goal.decreases-loop-i
decreases-loop-i l = (length l.positions - l.i) + (length l.deleted - l.j)
