-- Document 01, 'Commits': Fresh, the one `commit`, and the change that each commit makes.
use Rattle.std.specs.Prelude.{ℕ, suc, ◌+◌, Bool, false, cond, ◌&&◌, List, [], ◌∷◌, ◌++◌, map, eqb, length}
use Rattle.lists.specs.Lists.{all, bit, sort_by}
use Rattle.layout.specs.declared.record.Uuid.{Uuid}
use Rattle.layout.specs.Catalog.{absent, Versioned, Snapshot, Schema, Table, Column, DataFile, DeleteFile, Statistics, Catalog}
use Rattle.layout.specs.Names.{padded}
use Rattle.ducklake.specs.Kinds.{created_schema, created_table, inserted_into_table, deleted_from_table, dropped_schema, dropped_table, raises_schema_version}
use Rattle.ducklake.specs.Liveness.{latest, latest_id, table_of_id, data_file_of_id, deleted_at}
use Rattle.ducklake.specs.Soundness.{in_limit}
use Rattle.ducklake.specs.Arguments.{new_columns, new_statistics}

-- "Fresh: snapshot 0, schema_version 0, next_catalog_id 1, next_file_id 0, kind 1, object 0;"
abbrev pub fresh_snapshot : ℕ → Snapshot
fresh_snapshot time = record { id = 0; time = time; schema_version = 0; next_catalog_id = 1; next_file_id = 0; kind = created_schema; object = 0 }

-- "`main`"
abbrev pub fresh_name : List ℕ
fresh_name = padded (109 ∷ 97 ∷ 105 ∷ 110 ∷ [])

-- "schema 0 `main`, begin 0."
abbrev pub fresh_schema : Versioned Schema
fresh_schema = record { id = 0; begin = 0; end = absent; body = record { name = fresh_name } }

-- "writes just these two records and the name"
unfoldable pub fresh_catalog : ℕ → Catalog
fresh_catalog time = record {
  snapshots = fresh_snapshot time ∷ [];
  schemas = fresh_schema ∷ [];
  tables = [];
  columns = [];
  data_files = [];
  delete_files = [];
  statistics = [];
  scheduled = [];
}

-- the records that a commit ends, of those that are open
pub record Ends : Type 0 where
  pub schema : Versioned Schema → Bool
  pub table : Versioned Table → Bool
  pub column : Versioned Column → Bool
  pub data_file : Versioned DataFile → Bool
  pub delete_file : Versioned DeleteFile → Bool

-- the records that a commit adds
pub record Added : Type 0 where
  pub schemas : List Schema
  pub tables : List Table
  pub columns : List Column
  pub delete_files : List DeleteFile
  pub data_files : List DataFile
  pub statistics : List Statistics

-- what a commit does: its time, kind and object, which records end, how many rows a table gains, which records are new
pub record Change : Type 0 where
  pub time : ℕ
  pub kind : ℕ
  pub object : ℕ
  pub ends : Ends
  pub rows : Versioned Table → ℕ
  pub added : Added

-- an open record that is named ends at n
unfoldable pub close : {A : Type 0} → ℕ → (Versioned A → Bool) → Versioned A → Versioned A
close n named v = record { id = v.id; begin = v.begin; end = cond (named v && eqb v.end absent) n v.end; body = v.body }

-- a table gains rows
unfoldable pub grow : (Versioned Table → ℕ) → Versioned Table → Versioned Table
grow rows t = record {
  id = t.id;
  begin = t.begin;
  end = t.end;
  body = record { schema = t.body.schema; next_row_id = t.body.next_row_id + rows t; name = t.body.name };
}

-- "New records begin at the new snapshot, end ABSENT", with ids from k on
abbrev pub born : {A : Type 0} → ℕ → ℕ → List A → List (Versioned A)
born n k [] = []
born n k (x ∷ xs) = record { id = k; begin = n; end = absent; body = x } ∷ born n (suc k) xs

-- "Each commit makes one snapshot, id one above the latest. New ids come from the next ids.": the snapshot after one, with its time, kind and object, and how many
-- catalog ids and file ids it takes
abbrev pub following : Snapshot → ℕ → ℕ → ℕ → ℕ → ℕ → Snapshot
following s time kind object catalog_ids file_ids = record {
  id = suc s.id;
  time = time;
  schema_version = s.schema_version + bit (raises_schema_version kind);
  next_catalog_id = s.next_catalog_id + catalog_ids;
  next_file_id = s.next_file_id + file_ids;
  kind = kind;
  object = object;
}

unfoldable pub next_snapshot : Catalog → Change → Snapshot
next_snapshot C d =
    following (latest C) d.time d.kind d.object (length d.added.schemas + length d.added.tables)
    (length d.added.delete_files + length d.added.data_files)

-- "New ids come from the next ids": the first id of a commit's new delete files, and that of its new data files, after so many new delete files
abbrev pub new_delete_file_id : Catalog → ℕ
new_delete_file_id C = (latest C).next_file_id

abbrev pub new_data_file_id : Catalog → ℕ → ℕ
new_data_file_id C delete_files = new_delete_file_id C + delete_files

-- the records that a commit adds, as a catalog of their own
abbrev pub additions : Catalog → Change → Catalog
additions C d =
    let n : ℕ = suc (latest_id C) in
    let catalog_id : ℕ = (latest C).next_catalog_id in
    record {
      snapshots = next_snapshot C d ∷ [];
      schemas = born n catalog_id d.added.schemas;
      tables = born n (catalog_id + length d.added.schemas) d.added.tables;
      columns = born n 1 d.added.columns;
      data_files = born n (new_data_file_id C (length d.added.delete_files)) d.added.data_files;
      delete_files = born n (new_delete_file_id C) d.added.delete_files;
      statistics = d.added.statistics;
      scheduled = [];
    }

-- a commit ends records, lets tables grow, and adds
unfoldable pub commit : Catalog → Change → Catalog
commit C d =
    let n : ℕ = suc (latest_id C) in
    record {
      snapshots = C.snapshots ++ (additions C d).snapshots;
      schemas = map (close n d.ends.schema) C.schemas ++ (additions C d).schemas;
      tables = map (λ t. close n d.ends.table (grow d.rows t)) C.tables ++ (additions C d).tables;
      columns = map (close n d.ends.column) C.columns ++ (additions C d).columns;
      data_files = map (close n d.ends.data_file) C.data_files ++ (additions C d).data_files;
      delete_files = map (close n d.ends.delete_file) C.delete_files ++ (additions C d).delete_files;
      statistics = C.statistics ++ (additions C d).statistics;
      scheduled = C.scheduled;
    }

-- "4 a number would pass 2^62": the numbers that a commit moves
unfoldable pub numbers_fit : Catalog → Change → Bool
numbers_fit C d =
    in_limit (next_snapshot C d).id && in_limit (next_snapshot C d).schema_version && in_limit (next_snapshot C d).next_catalog_id
    && in_limit (next_snapshot C d).next_file_id && all (λ t. in_limit (grow d.rows t).body.next_row_id) C.tables

-- The commits, with their arguments.
pub data Commit : Type 0 where
  create_schema : (name : List ℕ) → Commit
  create_table : (schema : ℕ) (name : List ℕ) (columns names : List ℕ) → Commit
  insert : (table record_count : ℕ) (uuid : Uuid) (statistics : List ℕ) → Commit
  delete : (data_file : ℕ) (uuid : Uuid) (positions : List ℕ) → Commit
  drop_table : (table : ℕ) → Commit
  drop_schema : (schema : ℕ) → Commit

abbrev pub none : {A : Type 0} → Versioned A → Bool
none v = false

abbrev pub ends_nothing : Ends
ends_nothing = record { schema = none; table = none; column = none; data_file = none; delete_file = none }

abbrev pub adds_nothing : Added
adds_nothing = record { schemas = []; tables = []; columns = []; delete_files = []; data_files = []; statistics = [] }

abbrev pub no_rows : Versioned Table → ℕ
no_rows t = 0

-- "next_row_id is 0"
abbrev pub new_table : ℕ → List ℕ → Table
new_table schema name = record { schema = schema; next_row_id = 0; name = padded name }

abbrev pub new_data_file : ℕ → ℕ → ℕ → Uuid → DataFile
new_data_file table record_count row_id_start uuid = record { table = table; record_count = record_count; row_id_start = row_id_start; uuid = uuid }

-- what each commit changes
unfoldable pub change_of : Catalog → ℕ → Commit → Change
change_of C time (create_schema name) = record {
  time = time;
  kind = created_schema;
  object = (latest C).next_catalog_id;
  ends = ends_nothing;
  rows = no_rows;
  added = record { schemas = record { name = padded name } ∷ []; tables = []; columns = []; delete_files = []; data_files = []; statistics = [] };
}
-- "Create table: columns get ids 1, 2, … and orders 0, 1, …; next_row_id is 0."
change_of C time (create_table schema name columns names) = record {
  time = time;
  kind = created_table;
  object = (latest C).next_catalog_id;
  ends = ends_nothing;
  rows = no_rows;
  added = record {
    schemas = [];
    tables = new_table schema name ∷ [];
    columns = new_columns (latest C).next_catalog_id columns names;
    delete_files = [];
    data_files = [];
    statistics = [];
  };
}
-- "Insert: row_id_start is next_row_id, which grows by record_count."
change_of C time (insert table record_count uuid statistics) = record {
  time = time;
  kind = inserted_into_table;
  object = table;
  ends = ends_nothing;
  rows = λ t. cond (eqb t.id table) record_count 0;
  added = record {
    schemas = [];
    tables = [];
    columns = [];
    delete_files = [];
    data_files = new_data_file table record_count (table_of_id C.tables table).body.next_row_id uuid ∷ [];
    statistics = new_statistics (new_data_file_id C 0) statistics;
  };
}
-- "Delete: names a live data file and the newly deleted positions. The old delete file, if any, ends; the new one holds both sets."
change_of C time (delete data_file uuid positions) = record {
  time = time;
  kind = deleted_from_table;
  object = (data_file_of_id C.data_files data_file).body.table;
  ends = record { schema = none; table = none; column = none; data_file = none; delete_file = λ d. eqb d.body.data_file data_file };
  rows = no_rows;
  added = record {
    schemas = [];
    tables = [];
    columns = [];
    delete_files = record {
      table = (data_file_of_id C.data_files data_file).body.table;
      data_file = data_file;
      positions = sort_by (λ p. p) (deleted_at C.delete_files (latest_id C) data_file ++ positions);
      uuid = uuid;
    } ∷ [];
    data_files = [];
    statistics = [];
  };
}
-- "Drop table: ends the table and its live columns, data files and delete files."
change_of C time (drop_table table) = record {
  time = time;
  kind = dropped_table;
  object = table;
  ends = record {
    schema = none;
    table = λ t. eqb t.id table;
    column = λ c. eqb c.body.table table;
    data_file = λ f. eqb f.body.table table;
    delete_file = λ d. eqb d.body.table table;
  };
  rows = no_rows;
  added = adds_nothing;
}
change_of C time (drop_schema schema) = record {
  time = time;
  kind = dropped_schema;
  object = schema;
  ends = record { schema = λ s. eqb s.id schema; table = none; column = none; data_file = none; delete_file = none };
  rows = no_rows;
  added = adds_nothing;
}
