-- Document 01, 'Readings': the list that each gives.
use Rattle.std.specs.Prelude.{ℕ, ◌+◌, Bool, not, ◌&&◌, ◌||◌, leb, eqb, ℤ, take}
use mathlib.Core.List.{List, [], ◌∷◌, map, flat_map}
use Rattle.std.specs.Int.Signed.{le_z}
use Rattle.lists.specs.Lists.{range, any, non_empty, filter, has, sort_by}
use Rattle.layout.specs.Catalog.{absent, Versioned, Snapshot, Table, DataFile, DeleteFile, Statistics, Catalog}
use Rattle.layout.specs.Names.{is_name_argument, padded, same_name}
use Rattle.layout.specs.Types.{signed}
use Rattle.ducklake.specs.Liveness.{schemas_at, tables_at, columns_at, data_files_at, delete_files_at, deleted_at, is_live, column_live}
use Rattle.ducklake.specs.Refusals.{not_live, id_of_schema, id_of_table, id_of_column, no_such_id}

-- "At a retained snapshot: schemas, tables of a schema, columns of a table by column_order, a table by name; files of a table, by id, each with its
-- delete file; the file list filtered by `column = scalar` (signed 64-bit)"; "Rows"
pub data Query : Type 0 where
  schemas : Query
  tables : (schema : ℕ) → Query
  columns : (table : ℕ) → Query
  table_named : (schema : ℕ) (name : List ℕ) → Query
  files : (table : ℕ) → Query
  filtered_files : (table column : ℕ) (scalar : ℤ) → Query
  rows : (table : ℕ) → Query

-- the tables of a schema that bear the name
unfoldable pub tables_named : List (Versioned Table) → ℕ → ℕ → List ℕ → List (Versioned Table)
tables_named ts s schema name = filter (λ t. same_name t.body.name (padded name)) (tables_at ts s schema)

-- the first number, or ABSENT
abbrev pub or_absent : List ℕ → ℕ
or_absent [] = absent
or_absent (k ∷ ks) = k

-- "a file list has two words a file", in the table's file order, "the second the delete file's id or ABSENT"
unfoldable pub listed : List (Versioned DeleteFile) → ℕ → Versioned DataFile → List ℕ
listed ds s f = f.id ∷ or_absent (map (λ d. d.id) (delete_files_at ds s f.id)) ∷ []

-- "(min missing or scalar ≥ min) and (max missing or scalar ≤ max)"
unfoldable pub admits : ℤ → Statistics → Bool
admits scalar x = (eqb x.has_min 0 || le_z (signed x.min) scalar) && (eqb x.has_max 0 || le_z scalar (signed x.max))

-- "a listed file is kept when its statistics record for that column exists and" admits the scalar
unfoldable pub kept : List Statistics → ℕ → ℤ → Versioned DataFile → Bool
kept xs column scalar f = any (λ x. eqb x.data_file f.id && eqb x.column column && admits scalar x) xs

-- "row_id_start + p for each position p not deleted, ascending"
unfoldable pub file_rows : List (Versioned DeleteFile) → ℕ → Versioned DataFile → List ℕ
file_rows ds s f =
    map (λ p. f.body.row_id_start + p) (filter (λ p. not (has p (deleted_at ds s f.id))) (range 0 f.body.record_count))

-- "Lists are of ids, a word each"; "A single id is a list of one word."; "the rows of each file go straight after those of the file before"
unfoldable pub query_answer : Catalog → ℕ → Query → List ℕ
query_answer C s schemas = map (λ v. v.id) (schemas_at C.schemas s)
query_answer C s (tables schema) = map (λ t. t.id) (tables_at C.tables s schema)
query_answer C s (columns table) = map (λ c. c.id) (sort_by (λ c. c.body.order) (columns_at C.columns s table))
query_answer C s (table_named schema name) = take 1 (map (λ t. t.id) (tables_named C.tables s schema name))
query_answer C s (files table) = flat_map (listed C.delete_files s) (data_files_at C.data_files s table)
query_answer C s (filtered_files table column scalar) = flat_map (listed C.delete_files s) (filter (kept C.statistics column scalar) (data_files_at C.data_files s table))
query_answer C s (rows table) = flat_map (file_rows C.delete_files s) (data_files_at C.data_files s table)

-- what a query names has to be live at s: "Several ids are judged schema, table, column"; "A badly formed name in a lookup gives 6."
abbrev pub query_refusals : Catalog → ℕ → Query → List (ℕ × Bool)
query_refusals C s schemas = []
query_refusals C s (tables schema) = (no_such_id C id_of_schema schema, is_live C.schemas s schema) ∷ []
query_refusals C s (columns table) = (no_such_id C id_of_table table, is_live C.tables s table) ∷ []
query_refusals C s (table_named schema name) =
    (no_such_id C id_of_schema schema, is_live C.schemas s schema)
    ∷ (not_live, is_name_argument name && non_empty (tables_named C.tables s schema name))
    ∷ []
query_refusals C s (files table) = (no_such_id C id_of_table table, is_live C.tables s table) ∷ []
query_refusals C s (filtered_files table column scalar) =
    (no_such_id C id_of_table table, is_live C.tables s table)
    ∷ (no_such_id C (id_of_column table) column, column_live C.columns s table column)
    ∷ []
query_refusals C s (rows table) = (no_such_id C id_of_table table, is_live C.tables s table) ∷ []

-- "By time t: the highest retained id whose time ≤ t."
unfoldable pub snapshots_by_time : List Snapshot → ℕ → List ℕ
snapshots_by_time ns t = map (λ n. n.id) (filter (λ n. leb n.time t) ns)
