-- The lent runs, what they mean, and how a meaning is written into them.
use Rattle.std.specs.Prelude.{ℕ, zero, suc, ◌+◌, ◌*◌, ◌/◌, min, ◌≡◌, refl, Bool, ◌&&◌, leb, eqb, length, take, drop}
use mathlib.Core.List.{List, map, flat_map}
use Rattle.lists.specs.Lists.{range, sum}
use Rattle.lists.specs.Runs.{Layout, at, replace}
use Rattle.lists.specs.Pieces.{Pieces}
use Rattle.layout.specs.declared.outcome.Counts.{Counts}
use Rattle.layout.specs.Records.{snapshot_layout, schema_layout, table_layout, column_layout, data_file_layout, delete_file_layout, statistics_layout, scheduled_layout}
use Rattle.layout.specs.Catalog.{Versioned, Snapshot, Schema, Table, Column, DataFile, DeleteFile, Statistics, Scheduled, Catalog, snapshot_of, snapshot_record, schema_of, schema_record, table_of, table_record, column_of, column_record, data_file_of, data_file_record, delete_file_of, delete_file_record, statistics_of, statistics_record, scheduled_of, scheduled_record}
use Rattle.layout.specs.Names.{name_size, name_at}

-- nine runs of words and three of bytes
pub record Words : Type 0 where
  pub snapshots : List ℕ
  pub schemas : List ℕ
  pub schema_names : List ℕ
  pub tables : List ℕ
  pub table_names : List ℕ
  pub columns : List ℕ
  pub column_names : List ℕ
  pub data_files : List ℕ
  pub delete_files : List ℕ
  pub positions : List ℕ
  pub statistics : List ℕ
  pub scheduled : List ℕ

-- the runs that a function is lent, in the order of its parameters, each as `read` reads it
abbrev pub lent_by : {A : Type 0} → (A → List ℕ) → A → A → A → A → A → A → A → A → A → A → A → A → Words
lent_by read snapshots schemas schema_names tables table_names columns column_names data_files delete_files positions statistics scheduled = record {
  snapshots = read snapshots;
  schemas = read schemas;
  schema_names = read schema_names;
  tables = read tables;
  table_names = read table_names;
  columns = read columns;
  column_names = read column_names;
  data_files = read data_files;
  delete_files = read delete_files;
  positions = read positions;
  statistics = read statistics;
  scheduled = read scheduled;
}

abbrev pub lent : List ℕ → List ℕ → List ℕ → List ℕ → List ℕ → List ℕ → List ℕ → List ℕ → List ℕ → List ℕ → List ℕ → List ℕ → Words
lent = lent_by (λ run. run)

-- Reading: the record at a place of a run, with what lies beside it

abbrev pub snapshot_at : List ℕ → ℕ → Snapshot
snapshot_at run i = snapshot_of (at snapshot_layout run i)

abbrev pub schema_at : List ℕ → List ℕ → ℕ → Versioned Schema
schema_at run names i = schema_of (at schema_layout run i) (name_at names i)

abbrev pub table_at : List ℕ → List ℕ → ℕ → Versioned Table
table_at run names i = table_of (at table_layout run i) (name_at names i)

abbrev pub column_at : List ℕ → List ℕ → ℕ → Versioned Column
column_at run names i = column_of (at column_layout run i) (name_at names i)

abbrev pub data_file_at : List ℕ → ℕ → Versioned DataFile
data_file_at run i = data_file_of (at data_file_layout run i)

abbrev pub delete_count : List ℕ → ℕ → ℕ
delete_count run i = (at delete_file_layout run i).delete_count

-- how many positions the first i delete files have
unfoldable pub positions_before : List ℕ → ℕ → ℕ
positions_before run zero = 0
positions_before run (suc i) = positions_before run i + delete_count run i

pub positions_first : (run : List ℕ) → positions_before run 0 ≡ 0
unfolding positions_before
positions_first run = refl

pub positions_then : (run : List ℕ) (i : ℕ) → positions_before run (suc i) ≡ positions_before run i + delete_count run i
unfolding positions_before
positions_then run i = refl

-- "the delete files' positions follow each other in delete file order"
abbrev pub position_pieces : List ℕ → Pieces
position_pieces run = record { size = delete_count run; start = positions_before run; first = positions_first run; then = positions_then run }

abbrev pub positions_at : List ℕ → List ℕ → ℕ → List ℕ
positions_at run positions i = take (delete_count run i) (drop (positions_before run i) positions)

abbrev pub delete_file_at : List ℕ → List ℕ → ℕ → Versioned DeleteFile
delete_file_at run positions i = delete_file_of (at delete_file_layout run i) (positions_at run positions i)

abbrev pub statistics_at : List ℕ → ℕ → Statistics
statistics_at run i = statistics_of (at statistics_layout run i)

abbrev pub scheduled_at : List ℕ → ℕ → Scheduled
scheduled_at run i = scheduled_of (at scheduled_layout run i)

-- the first n records of a run

abbrev pub snapshots_in : List ℕ → ℕ → List Snapshot
snapshots_in run n = map (snapshot_at run) (range 0 n)

abbrev pub schemas_in : List ℕ → List ℕ → ℕ → List (Versioned Schema)
schemas_in run names n = map (schema_at run names) (range 0 n)

abbrev pub tables_in : List ℕ → List ℕ → ℕ → List (Versioned Table)
tables_in run names n = map (table_at run names) (range 0 n)

abbrev pub columns_in : List ℕ → List ℕ → ℕ → List (Versioned Column)
columns_in run names n = map (column_at run names) (range 0 n)

abbrev pub data_files_in : List ℕ → ℕ → List (Versioned DataFile)
data_files_in run n = map (data_file_at run) (range 0 n)

abbrev pub delete_files_in : List ℕ → List ℕ → ℕ → List (Versioned DeleteFile)
delete_files_in run positions n = map (delete_file_at run positions) (range 0 n)

abbrev pub statistics_in : List ℕ → ℕ → List Statistics
statistics_in run n = map (statistics_at run) (range 0 n)

abbrev pub scheduled_in : List ℕ → ℕ → List Scheduled
scheduled_in run n = map (scheduled_at run) (range 0 n)

-- what the used records mean: "A catalogue record, passed in and handed back by value, says how many records of each table are used."
unfoldable pub load : Words → Counts → Catalog
load w c = record {
  snapshots = snapshots_in w.snapshots c.snapshots;
  schemas = schemas_in w.schemas w.schema_names c.schemas;
  tables = tables_in w.tables w.table_names c.tables;
  columns = columns_in w.columns w.column_names c.columns;
  data_files = data_files_in w.data_files c.data_files;
  delete_files = delete_files_in w.delete_files w.positions c.delete_files;
  statistics = statistics_in w.statistics c.statistics;
  scheduled = scheduled_in w.scheduled c.scheduled;
}

-- Writing

-- the records rs, in a run of which n records were in use
abbrev pub store_table : {A : Type 0} → Layout A → List ℕ → ℕ → List A → List ℕ
store_table L old n rs = replace old (L.size * n) (flat_map L.words rs)

-- their names, in a run of which n places were in use
abbrev pub store_names : {A : Type 0} → (A → List ℕ) → List ℕ → ℕ → List A → List ℕ
store_names name old n rs = replace old (name_size * n) (flat_map name rs)

-- a catalog in runs of which the counts c were in use: "Places that a call frees become 0; all other words past the used counts (..) keep their
-- content."
unfoldable pub store : Words → Counts → Catalog → Words
store w c C = record {
  snapshots = store_table snapshot_layout w.snapshots c.snapshots (map snapshot_record C.snapshots);
  schemas = store_table schema_layout w.schemas c.schemas (map schema_record C.schemas);
  schema_names = store_names (λ v. v.body.name) w.schema_names c.schemas C.schemas;
  tables = store_table table_layout w.tables c.tables (map table_record C.tables);
  table_names = store_names (λ v. v.body.name) w.table_names c.tables C.tables;
  columns = store_table column_layout w.columns c.columns (map column_record C.columns);
  column_names = store_names (λ v. v.body.name) w.column_names c.columns C.columns;
  data_files = store_table data_file_layout w.data_files c.data_files (map data_file_record C.data_files);
  delete_files = store_table delete_file_layout w.delete_files c.delete_files (map delete_file_record C.delete_files);
  positions = replace w.positions c.positions (flat_map (λ v. v.body.positions) C.delete_files);
  statistics = store_table statistics_layout w.statistics c.statistics (map statistics_record C.statistics);
  scheduled = store_table scheduled_layout w.scheduled c.scheduled (map scheduled_record C.scheduled);
}

unfoldable pub counts_of : Catalog → Counts
counts_of C = record {
  snapshots = length C.snapshots;
  schemas = length C.schemas;
  tables = length C.tables;
  columns = length C.columns;
  data_files = length C.data_files;
  delete_files = length C.delete_files;
  positions = sum (map (λ v. length v.body.positions) C.delete_files);
  statistics = length C.statistics;
  scheduled = length C.scheduled;
}

-- What fits

-- "Each table uses at most 4,096 records, positions at most 65,536."
abbrev pub table_limit : ℕ
table_limit = 4096

abbrev pub position_limit : ℕ
position_limit = 65536

-- how many records of a table may be used: the whole records lent, up to the limit
abbrev pub record_room : {A : Type 0} → Layout A → List ℕ → ℕ
record_room L run = min table_limit (length run / L.size)

-- the same of a table with names, which lends what both its runs hold
abbrev pub named_room : {A : Type 0} → Layout A → List ℕ → List ℕ → ℕ
named_room L run names = min (record_room L run) (length names / name_size)

unfoldable pub capacity : Words → Counts
capacity w = record {
  snapshots = record_room snapshot_layout w.snapshots;
  schemas = named_room schema_layout w.schemas w.schema_names;
  tables = named_room table_layout w.tables w.table_names;
  columns = named_room column_layout w.columns w.column_names;
  data_files = record_room data_file_layout w.data_files;
  delete_files = record_room delete_file_layout w.delete_files;
  positions = min position_limit (length w.positions);
  statistics = record_room statistics_layout w.statistics;
  scheduled = record_room scheduled_layout w.scheduled;
}

-- each count is at most the other's
unfoldable pub within : Counts → Counts → Bool
within a b =
    leb a.snapshots b.snapshots && leb a.schemas b.schemas && leb a.tables b.tables && leb a.columns b.columns
    && leb a.data_files b.data_files && leb a.delete_files b.delete_files && leb a.positions b.positions
    && leb a.statistics b.statistics && leb a.scheduled b.scheduled

-- "used counts fit the lent lengths and the limits", and the delete counts "add up to the used positions"
unfoldable pub fits : Words → Counts → Bool
fits w c = within c (capacity w) && eqb (positions_before w.delete_files c.delete_files) c.positions
