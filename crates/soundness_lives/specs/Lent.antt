-- What the check of lives relies on: the runs that it is lent, and what can be found in them.
use Rattle.std.specs.Prelude.{ℕ, ◌*◌, ◌≤◌, ◌<◌, List, map, length}
use Rattle.lists.specs.Lists.{range}
use Rattle.layout.specs.declared.outcome.Counts.{Counts}
use Rattle.layout.specs.Catalog.{Versioned}
use Rattle.layout.specs.Fields.{schema_size, table_size, column_size, data_file_size, delete_file_size}
use Rattle.lookup.specs.Order.{SnapshotsById, SchemasById, TablesById, DataFilesById}
use Rattle.lookup.specs.Versions.{life_at, with_life}

-- the lives of the first n records, records of `size` words with a life from the word `at` on
abbrev pub lives_in : ℕ → ℕ → List ℕ → ℕ → List (Versioned (Unit {0}))
lives_in size at run n = map (λ i. with_life (life_at size at run i)) (range 0 n)

-- some snapshots, and the records that live at them
pub record LivesLent (snapshot_run schema_run table_run column_run data_file_run delete_file_run : List ℕ) (counts : Counts) : Type 0 where
  pub some : 0 < counts.snapshots
  pub snapshots : SnapshotsById snapshot_run counts.snapshots
  pub schemas : schema_size * counts.schemas ≤ length schema_run
  pub tables : table_size * counts.tables ≤ length table_run
  pub columns : column_size * counts.columns ≤ length column_run
  pub data_files : data_file_size * counts.data_files ≤ length data_file_run
  pub delete_files : delete_file_size * counts.delete_files ≤ length delete_file_run

-- records, and those that they belong to by id
pub record Nestable (schema_run table_run column_run data_file_run delete_file_run : List ℕ) (counts : Counts) : Type 0 where
  pub schemas : SchemasById schema_run counts.schemas
  pub tables : TablesById table_run counts.tables
  pub columns : column_size * counts.columns ≤ length column_run
  pub data_files : DataFilesById data_file_run counts.data_files
  pub delete_files : delete_file_size * counts.delete_files ≤ length delete_file_run
