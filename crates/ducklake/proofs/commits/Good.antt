-- What a change has to meet so that the commit leaves sound tables, and what a catalogue grown from a fresh one has beyond soundness.
use Prim.Native.Nat.{ℕ, suc, ◌+◌, ◌≤◌, ◌<◌}
use mathlib.Core.Path.{◌≡◌}
use mathlib.Core.List.{List}
use mathlib.Core.Bool.{true}
use lib.ListN.{length}
use Rattle.lists.specs.Lists.{has, count}
use Rattle.lists.proofs.Members.{In, All, Any, Pairwise}
use Rattle.layout.specs.declared.record.Uuid.{Uuid}
use Rattle.layout.specs.Catalog.{absent, number_limit, Versioned, Schema, Table, Column, DataFile, DeleteFile, Catalog}
use Rattle.layout.specs.Names.{is_name, same_name}
use Rattle.layout.specs.Types.{is_type}
use Rattle.ducklake.specs.Kinds.{is_kind}
use Rattle.ducklake.specs.Liveness.{latest, latest_id, columns_at}
use Rattle.ducklake.specs.Soundness.{is_flag, is_record_count, statistics_in_range, file_uuids, same_uuid, file_statistics_sound}
use Rattle.ducklake.specs.Commits.{Change, close, grow, additions, next_snapshot, commit, numbers_fit}
use Rattle.ducklake.proofs.facts.Facts.{Passed, ByTableAndId, ByFileAndColumn, TableIn, ColumnIn, DataFileIn, DeleteFileIn, SchemasApart, TablesApart, ColumnsApart, SucceededBy, DeleteFilesApart, Positions, RowsBefore, RowsIn}

-- the new snapshot's number, the records that move on, and those that are born
module _ (C : Catalog) (d : Change) where
  abbrev pub next_id : ℕ
  next_id = suc (latest_id C)

  abbrev pub schema_next : Versioned Schema → Versioned Schema
  schema_next = close next_id d.ends.schema

  abbrev pub table_next : Versioned Table → Versioned Table
  table_next t = close next_id d.ends.table (grow d.rows t)

  abbrev pub column_next : Versioned Column → Versioned Column
  column_next = close next_id d.ends.column

  abbrev pub data_file_next : Versioned DataFile → Versioned DataFile
  data_file_next = close next_id d.ends.data_file

  abbrev pub delete_file_next : Versioned DeleteFile → Versioned DeleteFile
  delete_file_next = close next_id d.ends.delete_file

  abbrev pub born_schemas : List (Versioned Schema)
  born_schemas = (additions C d).schemas

  abbrev pub born_tables : List (Versioned Table)
  born_tables = (additions C d).tables

  abbrev pub born_columns : List (Versioned Column)
  born_columns = (additions C d).columns

  abbrev pub born_delete_files : List (Versioned DeleteFile)
  born_delete_files = (additions C d).delete_files

  abbrev pub born_data_files : List (Versioned DataFile)
  born_data_files = (additions C d).data_files

-- the fields of new records that are in range whatever their ids

pub record TableFits (x : Table) : Type 0 where
  pub schema : x.schema ≤ number_limit
  pub next_row_id : x.next_row_id ≤ number_limit
  pub name : is_name x.name ≡ true

pub record ColumnFits (x : Column) : Type 0 where
  pub table : x.table ≤ number_limit
  pub order : x.order ≤ number_limit
  pub type_code : is_type x.type_code ≡ true
  pub nulls_allowed : is_flag x.nulls_allowed ≡ true
  pub name : is_name x.name ≡ true

pub record DataFileFits (x : DataFile) : Type 0 where
  pub table : x.table ≤ number_limit
  pub row_id_start : x.row_id_start ≤ number_limit
  pub record_count : is_record_count x.record_count ≡ true

pub record DeleteFileFits (x : DeleteFile) : Type 0 where
  pub table : x.table ≤ number_limit
  pub data_file : x.data_file ≤ number_limit

-- what a change has to meet
pub record Good (C : Catalog) (d : Change) : Type 0 where
  pub time : (latest C).time ≤ d.time
  pub numbers : numbers_fit C d ≡ true
  pub kind : is_kind d.kind ≡ true
  pub object : d.object < (next_snapshot C d).next_catalog_id
  -- fields in range
  pub schemas_fit : All (λ x. is_name x.name ≡ true) d.added.schemas
  pub tables_fit : All TableFits d.added.tables
  pub columns_fit : All ColumnFits d.added.columns
  pub columns_few : length d.added.columns ≤ 16
  pub data_files_fit : All DataFileFits d.added.data_files
  pub delete_files_fit : All DeleteFileFits d.added.delete_files
  pub statistics_fit : All (Passed statistics_in_range) d.added.statistics
  -- what lies in a record that ends is over or ends with it; a column ends just with its table
  pub end_tables : (t : Versioned Table) → In t C.tables → (s : Versioned Schema) → In s C.schemas → TableIn t s → d.ends.schema s ≡ true → t.end ≡ absent → d.ends.table (grow d.rows t) ≡ true
  pub end_columns : (c : Versioned Column) → In c C.columns → (t : Versioned Table) → In t C.tables → ColumnIn c t → d.ends.column c ≡ d.ends.table (grow d.rows t)
  pub end_data_files : (f : Versioned DataFile) → In f C.data_files → (t : Versioned Table) → In t C.tables → DataFileIn f t → d.ends.table (grow d.rows t) ≡ true → f.end ≡ absent → d.ends.data_file f ≡ true
  pub end_delete_files : (e : Versioned DeleteFile) → In e C.delete_files → (f : Versioned DataFile) → In f C.data_files → DeleteFileIn e f → d.ends.data_file f ≡ true → e.end ≡ absent → d.ends.delete_file e ≡ true
  -- new records lie in others
  pub tables_in : All (λ t. Any (TableIn t) (commit C d).schemas) (born_tables C d)
  pub columns_in : All (λ c. Any (ColumnIn c) (commit C d).tables) (born_columns C d)
  pub data_files_in : All (λ f. Any (DataFileIn f) (commit C d).tables) (born_data_files C d)
  pub delete_files_in : All (λ e. Any (DeleteFileIn e) (commit C d).data_files) (born_delete_files C d)
  -- new columns are of new tables, new statistics of new files, in order
  pub columns_new : All (λ x. (latest C).next_catalog_id ≤ x.table) d.added.columns
  pub columns_ascend : Pairwise ByTableAndId (born_columns C d)
  pub statistics_new : All (λ x. (latest C).next_file_id ≤ x.data_file) d.added.statistics
  pub statistics_ascend : Pairwise ByFileAndColumn d.added.statistics
  -- new names
  pub schemas_apart : Pairwise SchemasApart (born_schemas C d)
  pub tables_apart : Pairwise TablesApart (born_tables C d)
  pub columns_apart : Pairwise ColumnsApart (born_columns C d)
  pub schema_names_free : (v : Versioned Schema) → In v C.schemas → v.end ≡ absent → All (λ x. same_name v.body.name x.name ≡ true → ⊥) d.added.schemas
  pub table_names_free : (v : Versioned Table) → In v C.tables → v.end ≡ absent → All (λ x. v.body.schema ≡ x.schema → same_name v.body.name x.name ≡ true → ⊥) d.added.tables
  -- new delete files
  pub deletes_apart : Pairwise DeleteFilesApart (born_delete_files C d)
  pub deletes_succeed : (e : Versioned DeleteFile) → In e C.delete_files → All (λ x. e.body.data_file ≡ x.body.data_file → SucceededBy (delete_file_next C d e) x) (born_delete_files C d)
  pub positions : All (Positions (commit C d)) (born_delete_files C d)
  -- new rows
  pub rows_ascend : Pairwise RowsBefore (born_data_files C d)
  pub rows_after : (f : Versioned DataFile) → In f C.data_files → All (RowsBefore f) (born_data_files C d)
  pub rows_in : All (λ f. Any (RowsIn f) (commit C d).tables) (born_data_files C d)
  -- new UUIDs
  pub uuids : (u : Uuid) → count (λ i. same_uuid i u) (file_uuids C) + (count (λ x. same_uuid x.uuid u) d.added.delete_files + count (λ x. same_uuid x.uuid u) d.added.data_files) ≤ 1
  -- new statistics
  pub statistics_each : All (Passed (file_statistics_sound (commit C d).columns (commit C d).statistics)) (born_data_files C d)
  pub statistics_on_file : All (λ x. Any (λ f. f.id ≡ x.data_file) (commit C d).data_files) d.added.statistics
  -- new tables have columns
  pub column_counts : All (λ t. (1 ≤ length (columns_at (commit C d).columns (next_id C d) t.id)) × (length (columns_at (commit C d).columns (next_id C d) t.id) ≤ 16)) (born_tables C d)

-- an open delete file of the same data file that holds the positions
pub record Covers (d e : Versioned DeleteFile) : Type 0 where
  pub same : e.body.data_file ≡ d.body.data_file
  pub open' : e.end ≡ absent
  pub held : All (λ p. has p e.body.positions ≡ true) d.body.positions

-- beyond soundness: a data file that is open and has a delete file on record has an open one, which holds the positions of all of them
pub record Chain (C : Catalog) : Type 0 where
  pub covered : (d : Versioned DeleteFile) → In d C.delete_files → (f : Versioned DataFile) → In f C.data_files → f.id ≡ d.body.data_file → f.end ≡ absent → Any (Covers d) C.delete_files
