-- The tables that every list of cases begins with: lent runs full of other words, and five calls from Fresh on, each with all that it changes. The
-- format is that of Lines.
use Prim.Native.Nat.{ℕ}
use mathlib.Core.List.{List, [], ◌∷◌, ◌++◌}
use Rattle.layout.specs.Catalog.{absent}
use Rattle.layout.specs.Fields.{table_next_row_id_word}
use Rattle.ducklake.specs.Refusals.{accepted}
use Rattle.ducklake.specs.Kinds.{created_schema, created_table, inserted_into_table, deleted_from_table}
use Rattle.ducklake.proofs.cases.Names.{lend, leaves_field, leaves, call_kept, snapshots, schemas, tables, columns, data_files, delete_files, positions, statistics, scheduled, counts, schema_names, table_names, column_names, answer_area, fresh, create_schema, create_table, insert, delete, at, records, words, each, area, place, int8, int64, minus, bytes, counted, name, names, bounded}

unfoldable pub base : List (List ℕ)
base =
    -- snapshots, schemas, tables, columns, data files, delete files, positions, statistics, scheduled
    (lend ∷ snapshots ∷ records 14 ∷ words 3 ∷ each 7 ∷ [])
    ∷ (lend ∷ schemas ∷ records 4 ∷ words 1 ∷ each 7 ∷ [])
    ∷ (lend ∷ tables ∷ records 6 ∷ words 2 ∷ each 7 ∷ [])
    ∷ (lend ∷ columns ∷ records 10 ∷ words 5 ∷ each 7 ∷ [])
    ∷ (lend ∷ data_files ∷ records 5 ∷ words 4 ∷ each 7 ∷ [])
    ∷ (lend ∷ delete_files ∷ records 4 ∷ words 4 ∷ each 7 ∷ [])
    ∷ (lend ∷ positions ∷ records 11 ∷ words 0 ∷ each 7 ∷ [])
    ∷ (lend ∷ statistics ∷ records 11 ∷ words 3 ∷ each 7 ∷ [])
    ∷ (lend ∷ scheduled ∷ records 6 ∷ words 2 ∷ each 7 ∷ [])
    -- used counts, which Fresh ignores
    ∷ (lend ∷ counts ∷ records 9 ∷ words 0 ∷ each 5 ∷ [])
    -- names of schemas, of tables, of columns
    ∷ (lend ∷ schema_names ∷ records 3 ∷ words 4 ∷ each 88 ∷ [])
    ∷ (lend ∷ table_names ∷ records 6 ∷ words 8 ∷ each 88 ∷ [])
    ∷ (lend ∷ column_names ∷ records 10 ∷ words 10 ∷ each 88 ∷ [])
    -- the answer area
    ∷ (lend ∷ answer_area ∷ records 16 ∷ words 0 ∷ each 9 ∷ [])
    -- Fresh
    ∷ (leaves ∷ snapshots ∷ at 0 ∷ 0 ∷ 100 ∷ 0 ∷ 1 ∷ 0 ∷ created_schema ∷ 0 ∷ [])
    ∷ (leaves ∷ schemas ∷ at 0 ∷ 0 ∷ 0 ∷ absent ∷ [])
    ∷ (leaves ∷ counts ∷ at snapshots ∷ 1 ∷ 1 ∷ 0 ∷ 0 ∷ 0 ∷ 0 ∷ 0 ∷ 0 ∷ 0 ∷ [])
    ∷ (leaves ∷ schema_names ∷ at 0 ∷ bytes "main")
    ∷ (call_kept ∷ area 0 ∷ accepted ∷ place 0 ∷ words 0 ∷ fresh ∷ 100 ∷ [])
    -- schema sales
    ∷ (leaves ∷ snapshots ∷ at 1 ∷ 1 ∷ 110 ∷ 1 ∷ 2 ∷ 0 ∷ created_schema ∷ 1 ∷ [])
    ∷ (leaves ∷ schemas ∷ at 1 ∷ 1 ∷ 1 ∷ absent ∷ [])
    ∷ (leaves ∷ counts ∷ at snapshots ∷ 2 ∷ 2 ∷ [])
    ∷ (leaves ∷ schema_names ∷ at 1 ∷ bytes "sales")
    ∷ (call_kept ∷ area 0 ∷ accepted ∷ place 0 ∷ words 0 ∷ create_schema ∷ 110 ∷ bytes "sales")
    -- table t of schema main: a, int8, with nulls, and b, int64, without
    ∷ (leaves ∷ snapshots ∷ at 2 ∷ 2 ∷ 120 ∷ 2 ∷ 3 ∷ 0 ∷ created_table ∷ 2 ∷ [])
    ∷ (leaves ∷ tables ∷ at 0 ∷ 2 ∷ 2 ∷ absent ∷ 0 ∷ 0 ∷ [])
    ∷ (leaves ∷ columns ∷ at 0 ∷ 1 ∷ 2 ∷ 2 ∷ absent ∷ 0 ∷ int8 ∷ 1 ∷ [])
    ∷ (leaves ∷ columns ∷ at 1 ∷ 2 ∷ 2 ∷ 2 ∷ absent ∷ 1 ∷ int64 ∷ 0 ∷ [])
    ∷ (leaves ∷ counts ∷ at snapshots ∷ 3 ∷ 2 ∷ 1 ∷ 2 ∷ [])
    ∷ (leaves ∷ table_names ∷ at 0 ∷ bytes "t")
    ∷ (leaves ∷ column_names ∷ at 0 ∷ bytes "a")
    ∷ (leaves ∷ column_names ∷ at 1 ∷ bytes "b")
    ∷ (call_kept ∷ area 0 ∷ accepted ∷ place 0 ∷ words 0 ∷ create_table ∷ 120 ∷ 0 ∷ name "t" ++ counted (int8 ∷ 1 ∷ int64 ∷ 0 ∷ []) ++ names ("a" ∷ "b" ∷ []))
    -- three rows: a from minus five to nine, one null; b three
    ∷ (leaves ∷ snapshots ∷ at 3 ∷ 3 ∷ 130 ∷ 2 ∷ 3 ∷ 1 ∷ inserted_into_table ∷ 2 ∷ [])
    ∷ (leaves_field ∷ tables ∷ at 0 ∷ table_next_row_id_word ∷ 3 ∷ [])
    ∷ (leaves ∷ data_files ∷ at 0 ∷ 0 ∷ 2 ∷ 3 ∷ absent ∷ 3 ∷ 0 ∷ 0 ∷ 1 ∷ [])
    ∷ (leaves ∷ statistics ∷ at 0 ∷ 0 ∷ bounded 1 1 (minus 5) 9)
    ∷ (leaves ∷ statistics ∷ at 1 ∷ 0 ∷ bounded 2 0 3 3)
    ∷ (leaves ∷ counts ∷ at snapshots ∷ 4 ∷ [])
    ∷ (leaves ∷ counts ∷ at data_files ∷ 1 ∷ [])
    ∷ (leaves ∷ counts ∷ at statistics ∷ 2 ∷ [])
    ∷ (call_kept ∷ area 0 ∷ accepted ∷ place 0 ∷ words 0 ∷ insert ∷ 130 ∷ 2 ∷ 3 ∷ 0 ∷ 1 ∷ bounded 1 1 (minus 5) 9 ++ bounded 2 0 3 3)
    -- the last of them is deleted
    ∷ (leaves ∷ snapshots ∷ at 4 ∷ 4 ∷ 140 ∷ 2 ∷ 3 ∷ 2 ∷ deleted_from_table ∷ 2 ∷ [])
    ∷ (leaves ∷ delete_files ∷ at 0 ∷ 1 ∷ 2 ∷ 4 ∷ absent ∷ 0 ∷ 1 ∷ 0 ∷ 2 ∷ [])
    ∷ (leaves ∷ positions ∷ at 0 ∷ 2 ∷ [])
    ∷ (leaves ∷ counts ∷ at snapshots ∷ 5 ∷ [])
    ∷ (leaves ∷ counts ∷ at delete_files ∷ 1 ∷ 1 ∷ [])
    ∷ (call_kept ∷ area 0 ∷ accepted ∷ place 0 ∷ words 0 ∷ delete ∷ 140 ∷ 0 ∷ 0 ∷ 2 ∷ 2 ∷ [])
    ∷ []
