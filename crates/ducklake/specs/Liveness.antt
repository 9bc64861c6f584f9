-- Lives, snapshots, and what is live at a snapshot.
use Rattle.std.specs.Prelude.{ℕ, Bool, ◌&&◌, ◌||◌, leb, ltb, eqb}
use mathlib.Core.List.{List, flat_map}
use Rattle.lists.specs.Lists.{any, filter, find, last}
use Rattle.layout.specs.Records.{uuid_of}
use Rattle.layout.specs.Catalog.{absent, Versioned, Snapshot, Schema, Table, Column, DataFile, DeleteFile, Catalog}

-- "A record is *live at s* when begin ≤ s and (end is ABSENT or s < end)."
unfoldable pub live : {A : Type 0} → ℕ → Versioned A → Bool
live s v = leb v.begin s && (eqb v.end absent || ltb s v.end)

-- live at one of these snapshots
unfoldable pub live_at_some : {A : Type 0} → List Snapshot → Versioned A → Bool
live_at_some ns v = any (λ n. live n.id v) ns

-- a snapshot that the tables hold
unfoldable pub retained : List Snapshot → ℕ → Bool
retained ns s = any (λ n. eqb n.id s) ns

abbrev pub no_snapshot : Snapshot
no_snapshot = record { id = 0; time = 0; schema_version = 0; next_catalog_id = 0; next_file_id = 0; kind = 0; object = 0 }

-- "the latest snapshot": ids ascend, so it is the last
abbrev pub latest_of : List Snapshot → Snapshot
latest_of ns = last no_snapshot ns

abbrev pub latest : Catalog → Snapshot
latest C = latest_of C.snapshots

abbrev pub latest_id : Catalog → ℕ
latest_id C = (latest C).id

-- what is live at s, in the tables' order: by id, data files in file order (Soundness, `in_file_order`)

unfoldable pub schemas_at : List (Versioned Schema) → ℕ → List (Versioned Schema)
schemas_at vs s = filter (live s) vs

unfoldable pub tables_at : List (Versioned Table) → ℕ → ℕ → List (Versioned Table)
tables_at ts s schema = filter (λ t. eqb t.body.schema schema && live s t) ts

unfoldable pub columns_at : List (Versioned Column) → ℕ → ℕ → List (Versioned Column)
columns_at cs s table = filter (λ c. eqb c.body.table table && live s c) cs

unfoldable pub data_files_at : List (Versioned DataFile) → ℕ → ℕ → List (Versioned DataFile)
data_files_at fs s table = filter (λ f. eqb f.body.table table && live s f) fs

-- in sound tables at most one
unfoldable pub delete_files_at : List (Versioned DeleteFile) → ℕ → ℕ → List (Versioned DeleteFile)
delete_files_at ds s data_file = filter (λ d. eqb d.body.data_file data_file && live s d) ds

-- the positions that the delete file of a data file holds at s
unfoldable pub deleted_at : List (Versioned DeleteFile) → ℕ → ℕ → List ℕ
deleted_at ds s data_file = flat_map (λ d. d.body.positions) (delete_files_at ds s data_file)

-- whether an id is one of a record live at s: of schemas, tables, data files; of the columns of a table

unfoldable pub is_live : {A : Type 0} → List (Versioned A) → ℕ → ℕ → Bool
is_live vs s k = any (λ v. eqb v.id k && live s v) vs

unfoldable pub column_live : List (Versioned Column) → ℕ → ℕ → ℕ → Bool
column_live cs s table k = any (λ v. eqb v.id k) (columns_at cs s table)

-- the record of an id

abbrev pub no_table : Versioned Table
no_table = record { id = 0; begin = 0; end = 0; body = record { schema = 0; next_row_id = 0; name = List.[] } }

unfoldable pub table_of_id : List (Versioned Table) → ℕ → Versioned Table
table_of_id ts k = find (λ t. eqb t.id k) no_table ts

abbrev pub no_data_file : Versioned DataFile
no_data_file = record { id = 0; begin = 0; end = 0; body = record { table = 0; record_count = 0; row_id_start = 0; uuid = uuid_of 0 0 } }

unfoldable pub data_file_of_id : List (Versioned DataFile) → ℕ → Versioned DataFile
data_file_of_id fs k = find (λ f. eqb f.id k) no_data_file fs
