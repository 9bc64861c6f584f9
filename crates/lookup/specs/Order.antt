-- What lookups rely on, named for what it gives. By what a table is sorted is known to this crate alone: others pass these on.
use Rattle.std.specs.Prelude.{ℕ, ◌*◌, ◌≤◌, ◌<◌, ◌≡◌, true, List, leb, ltb, eqb, length, Option}
use Rattle.lists.specs.Lists.{chained, place}
use Rattle.lists.specs.Runs.{fields}
use Rattle.layout.specs.Fields.{snapshot_size, snapshot_id_word, snapshot_time_word, schema_size, schema_id_word, table_size, table_id_word, column_size, column_table_word, data_file_size, data_file_id_word, delete_file_size, delete_file_id_word, statistics_size, statistics_data_file_word}

-- n records of `size` words, of which each can be found by its word `word`
pub record ById (size word : ℕ) (run : List ℕ) (n : ℕ) : Type 0 where
  pub lent : size * n ≤ length run
  pub inside : word < size
  pub ascending : chained ltb (fields size word run n) ≡ true

abbrev pub SnapshotsById : List ℕ → ℕ → Type 0
SnapshotsById run n = ById snapshot_size snapshot_id_word run n

abbrev pub SchemasById : List ℕ → ℕ → Type 0
SchemasById run n = ById schema_size schema_id_word run n

abbrev pub TablesById : List ℕ → ℕ → Type 0
TablesById run n = ById table_size table_id_word run n

abbrev pub DataFilesById : List ℕ → ℕ → Type 0
DataFilesById run n = ById data_file_size data_file_id_word run n

abbrev pub DeleteFilesById : List ℕ → ℕ → Type 0
DeleteFilesById run n = ById delete_file_size delete_file_id_word run n

-- n records of `size` words, of which those with the same word `word` stand together
pub record Grouped (size word : ℕ) (run : List ℕ) (n : ℕ) : Type 0 where
  pub lent : size * n ≤ length run
  pub inside : word < size
  pub never_falling : chained leb (fields size word run n) ≡ true

abbrev pub ColumnsByTable : List ℕ → ℕ → Type 0
ColumnsByTable run n = Grouped column_size column_table_word run n

abbrev pub SnapshotsByTime : List ℕ → ℕ → Type 0
SnapshotsByTime run n = Grouped snapshot_size snapshot_time_word run n

abbrev pub StatisticsByFile : List ℕ → ℕ → Type 0
StatisticsByFile run n = Grouped statistics_size statistics_data_file_word run n

-- the place of the first record whose word `word` is k
abbrev pub place_of : ℕ → ℕ → List ℕ → ℕ → ℕ → Option ℕ
place_of size word run n k = place (λ y. eqb y k) 0 (fields size word run n)
