-- What the latest snapshot gives the next, and an accepted commit its writes: room behind the records in use, by the counts after it.
use Prim.Native.Nat.{ℕ, ◌≤◌}
use mathlib.Core.Path.{◌≡◌, ap, ◌∙◌}
use mathlib.Core.List.{List}
use native.Mathlib.Omega.{arith}
use Rattle.layout.specs.declared.outcome.Counts.{Counts}
use Rattle.layout.specs.Catalog.{number_limit, Snapshot}
use Rattle.layout.specs.Words.{Words, snapshots_in}
use Rattle.layout.proofs.Room.{Held}
use Rattle.ducklake.specs.Liveness.{latest_of}
use Rattle.ducklake.specs.Soundness.{snapshot_in_range}
use Rattle.call_laws.specs.Latest.{HasLatest}
use Rattle.call_laws.specs.Writes.{add_counts}
use Rattle.call_laws.proofs.Ready.{Ready}
use Rattle.commits.specs.LentRecords.{CanFollow}
use Rattle.commits.specs.Written.{SnapshotRoom}

-- the latest snapshot, as it was read, can be followed by one that takes few ids
pub can_follow : {run : List ℕ} {n : ℕ} {l : Snapshot} {a b : ℕ} → HasLatest run n → l ≡ latest_of (snapshots_in run n) → a ≤ number_limit → b ≤ number_limit → CanFollow l a b
can_follow h e p q = record { in_range = ap snapshot_in_range e ∙ h.in_range; few_catalog_ids = p; few_file_ids = q }

-- room for the snapshot of a commit, which takes so many ids
pub snapshot_room : (w : Words) (c added : Counts) (a b : ℕ) → Ready w c → added.snapshots ≡ 1 → Held w (add_counts c added) → a ≤ number_limit → b ≤ number_limit
    → SnapshotRoom w.snapshots c.snapshots a b
unfolding add_counts
snapshot_room w c added a b R e h p q = record { latest = R.latest; room = omega (arith, h.snapshots, e); few_catalog_ids = p; few_file_ids = q }
