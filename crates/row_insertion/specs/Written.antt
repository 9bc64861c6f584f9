-- What the functions of this crate rely on, and what they leave and add.
use Rattle.std.specs.Prelude.{ℕ, ◌+◌, ◌*◌, ◌≤◌, ◌<◌, ◌≡◌, true, List, length}
use Rattle.lists.specs.Runs.{at}
use Rattle.layout.specs.declared.outcome.Counts.{Counts}
use Rattle.layout.specs.Fields.{table_size, table_id_word, table_next_row_id_word, data_file_size, statistics_size}
use Rattle.layout.specs.Records.{table_layout}
use Rattle.layout.specs.Catalog.{number_limit, record_count_limit, Snapshot}
use Rattle.layout.specs.Words.{tables_in}
use Rattle.ducklake.specs.Arguments.{statistics_arguments}
use Rattle.ducklake.specs.Liveness.{table_of_id}
use Rattle.ducklake.specs.Soundness.{snapshot_in_range}
use Rattle.call_laws.specs.Latest.{HasLatest}
use Rattle.call_laws.specs.Writes.{grow_records}
use Rattle.lookup.specs.Order.{TablesById, ColumnsByTable}
use Rattle.commits.specs.LentRecords.{FilesLent}
use Rattle.commits.specs.Written.{SnapshotRoom}

-- what an insert looks at
pub record InsertChecked (ns ts cs fs ds xs : List ℕ) (c : Counts) : Type 0 where
  pub latest : HasLatest ns c.snapshots
  pub tables : TablesById ts c.tables
  pub columns : ColumnsByTable cs c.columns
  pub files : FilesLent fs ds xs c

-- what its numbers are judged by
pub record NumbersChecked (latest : Snapshot) (ts : List ℕ) (n : ℕ) : Type 0 where
  pub in_range : snapshot_in_range latest ≡ true
  pub tables : TablesById ts n

-- tables to be found by id, none of which comes to a number that wraps with so many rows more
pub record CanGrow (run : List ℕ) (n rows : ℕ) : Type 0 where
  pub by_id : TablesById run n
  pub in_limit : (i : ℕ) → i < n → (at table_layout run i).next_row_id.0 ≤ number_limit
  pub few : rows ≤ record_count_limit

-- the table of an id with so many rows more, and the number of the first of them
pub record TableGrown (run : List ℕ) (n table rows given : ℕ) (run' : List ℕ) : Type 0 where
  pub tables : run' ≡ grow_records table_size table_id_word table_next_row_id_word table rows run n
  pub first : (names : List ℕ) → given ≡ (table_of_id (tables_in run names n) table).body.next_row_id

-- what an insert of so many rows, with these statistics, writes in
pub record InsertRoom (ns ts fs qs : List ℕ) (c : Counts) (rows : ℕ) (words : List ℕ) : Type 0 where
  pub snapshots : SnapshotRoom ns c.snapshots 0 1
  pub tables : CanGrow ts c.tables rows
  pub data_files : data_file_size * c.data_files + data_file_size ≤ length fs
  pub statistics : statistics_size * (c.statistics + statistics_arguments words) ≤ length qs

-- a snapshot, a data file and its statistics
abbrev pub insert_adds : List ℕ → Counts
insert_adds statistics = record {
  snapshots = 1;
  schemas = 0;
  tables = 0;
  columns = 0;
  data_files = 1;
  delete_files = 0;
  positions = 0;
  statistics = statistics_arguments statistics;
  scheduled = 0;
}
