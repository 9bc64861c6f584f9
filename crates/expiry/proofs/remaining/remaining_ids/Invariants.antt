-- `remaining_ids` meets its contract: each turn writes the id of its snapshot, if it is not listed, behind those written before.
use Prim.Native.Nat.{◌≤◌}
use mathlib.Core.Path.{◌≡◌}
use lib.ListN.{length}
use Rattle.lists.proofs.Loops.{counted, sent}
use Rattle.layout.specs.Words.{snapshot_at, snapshots_in}
use Rattle.ducklake.specs.Maintenance.{leaves, remaining}
use Rattle.expiry.proofs.remaining.remaining_ids.Given as goal

abbrev pub invariant-loop-i : goal.invariant-loop-i
invariant-loop-i l =
    (l.k ≤ l.i) × (length (remaining (snapshots_in l.snapshots l.n) l.ids) ≡ counted (snapshot_at l.snapshots) (leaves l.ids) l.n l.k l.i)
    × (sent (snapshot_at l.snapshots) (leaves l.ids) l.n (λ s. s.id) l.initial.left 0 0 ≡ sent (snapshot_at l.snapshots) (leaves l.ids) l.n (λ s. s.id) l.left l.k l.i)
