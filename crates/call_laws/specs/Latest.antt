-- The latest snapshot of a run.
use Rattle.std.specs.Prelude.{ℕ, ◌*◌, ◌≤◌, ◌<◌, ◌≡◌, true, List, length}
use Rattle.layout.specs.Fields.{snapshot_size}
use Rattle.layout.specs.Words.{snapshots_in}
use Rattle.ducklake.specs.Liveness.{latest_of}
use Rattle.ducklake.specs.Soundness.{snapshot_in_range}

-- the run holds n snapshots, at least one, and the numbers of the latest are in their limits
pub record HasLatest (run : List ℕ) (n : ℕ) : Type 0 where
  pub held : snapshot_size * n ≤ length run
  pub some : 0 < n
  pub in_range : snapshot_in_range (latest_of (snapshots_in run n)) ≡ true
