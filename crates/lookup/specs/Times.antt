-- What a place tells of the snapshots by a time.
use Rattle.std.specs.Prelude.{ℕ, ◌<◌, ◌≡◌, true, false, List, None, Option, Some}
use Rattle.lists.specs.Lists.{non_empty, highest}
use Rattle.layout.specs.Words.{snapshot_at, snapshots_in}
use Rattle.ducklake.specs.Readings.{snapshots_by_time}

-- it is that of "the highest retained id whose time ≤ t", or there is none
abbrev pub LatestBy : List ℕ → ℕ → ℕ → Option ℕ → Type 0
LatestBy run n t (Some i) =
    (i < n) × (non_empty (snapshots_by_time (snapshots_in run n) t) ≡ true) × (highest (snapshots_by_time (snapshots_in run n) t) ≡ (snapshot_at run i).id)
LatestBy run n t None = non_empty (snapshots_by_time (snapshots_in run n) t) ≡ false
