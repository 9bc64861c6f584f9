-- What the functions of this crate rely on, and what they leave.
use Rattle.std.specs.Prelude.{ℕ, ◌+◌, ◌*◌, ◌≤◌, ◌≡◌, List, length}
use Rattle.lists.specs.Runs.{overwrite}
use Rattle.layout.specs.Fields.{snapshot_size}
use Rattle.layout.specs.Records.{snapshot_words}
use Rattle.layout.specs.Catalog.{number_limit, Snapshot, snapshot_record}
use Rattle.layout.specs.Names.{name_size}
use Rattle.call_laws.specs.Latest.{HasLatest}

-- n snapshots with room for one more, and so few ids to take that none wraps
pub record SnapshotRoom (run : List ℕ) (n catalog_ids file_ids : ℕ) : Type 0 where
  pub latest : HasLatest run n
  pub room : snapshot_size * n + snapshot_size ≤ length run
  pub few_catalog_ids : catalog_ids ≤ number_limit
  pub few_file_ids : file_ids ≤ number_limit

-- n records of `size` words with names, room for one more, and a name that fits its place
pub record NamedRoom (size : ℕ) (run names : List ℕ) (n : ℕ) (name : List ℕ) : Type 0 where
  pub room : size * n + size ≤ length run
  pub place : name_size * n + name_size ≤ length names
  pub short : length name ≤ name_size

-- a snapshot of that id behind the first n
pub record SnapshotAppended (run : List ℕ) (n : ℕ) (s : Snapshot) (given : ℕ) (run' : List ℕ) : Type 0 where
  pub id : given ≡ s.id
  pub snapshots : run' ≡ overwrite run (snapshot_size * n) (snapshot_words (snapshot_record s))

-- a record's words behind the first n records, and a name in its place
pub record NamedAppended (size : ℕ) (words name run places : List ℕ) (n : ℕ) (run' places' : List ℕ) : Type 0 where
  pub records : run' ≡ overwrite run (size * n) words
  pub names : places' ≡ overwrite places (name_size * n) name
