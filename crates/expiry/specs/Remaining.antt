-- The snapshots that an expiry leaves, by their ids in the first words of a run, and which records are live at one of them.
use Rattle.std.specs.Prelude.{ℕ, ◌+◌, ◌*◌, ◌≤◌, ◌<◌, ◌≡◌, Bool, true, List, map, ltb, length}
use Rattle.lists.specs.Lists.{chained}
use Rattle.layout.specs.Words.{snapshot_at, snapshots_in, table_limit}
use Rattle.ducklake.specs.Maintenance.{leaves, remaining}
use Rattle.lookup.specs.Order.{SnapshotsById}
use Rattle.lookup.specs.Versions.{life_at, with_life, live_among}

-- a list of ids has one word each
abbrev pub id_size : ℕ
id_size = 1

-- the snapshots and a list of ids that ascends
pub record Expirable (snapshots : List ℕ) (n : ℕ) (ids : List ℕ) : Type 0 where
  pub by_id : SnapshotsById snapshots n
  pub few : n ≤ table_limit
  pub ascending : chained ltb ids ≡ true

-- the ids of the snapshots that remain of the first n
abbrev pub ids_left : List ℕ → ℕ → List ℕ → List ℕ
ids_left snapshots n ids = map (λ s. s.id) (remaining (snapshots_in snapshots n) ids)

-- whether the snapshot at a place remains
abbrev pub snapshot_stays : List ℕ → List ℕ → ℕ → Bool
snapshot_stays snapshots ids j = leaves ids (snapshot_at snapshots j)

-- whether the record at a place is live at one of these snapshots, records of `size` words with a life from the word `life` on
abbrev pub stays : ℕ → ℕ → List ℕ → List ℕ → ℕ → Bool
stays size life run ids j = live_among ids (with_life (life_at size life run j))

-- n such records
pub record Versions (size life : ℕ) (run : List ℕ) (n : ℕ) : Type 0 where
  pub held : size * n ≤ length run
  pub inside : life + 1 < size
  pub few : n ≤ table_limit
