-- A table with a column of each type: the lowest and the highest value of each as bounds, and one past either. The format is that of Lines.
use Prim.Native.Nat.{ℕ}
use mathlib.Core.List.{List, [], ◌∷◌, ◌++◌}
use Rattle.layout.specs.Catalog.{absent}
use Rattle.layout.specs.Fields.{table_next_row_id_word, column_id_word}
use Rattle.layout.specs.Names.{padded}
use Rattle.ducklake.specs.Refusals.{accepted, not_sound, bad_columns, bad_statistics}
use Rattle.ducklake.specs.Kinds.{created_schema, created_table, inserted_into_table}
use Rattle.ducklake.proofs.cases.Names.{lend, finds_field, leaves_field, leaves, call, call_kept, snapshots, schemas, tables, columns, data_files, delete_files, positions, statistics, scheduled, counts, schema_names, table_names, column_names, answer_area, fresh, create_table, insert, snapshot_by_time, at, byte, records, words, each, area, only_word, place, int8, int16, int32, int64, uint8, uint16, uint32, boolean, minus, bytes, counted, name, names, bounded}

-- the whole range of each type, as statistics of the column of that type

abbrev pub whole_int8 : List ℕ
whole_int8 = bounded 1 0 (minus 128) 127

abbrev pub whole_int16 : List ℕ
whole_int16 = bounded 2 0 (minus 32768) 32767

abbrev pub whole_int32 : List ℕ
whole_int32 = bounded 3 0 (minus 2147483648) 2147483647

abbrev pub whole_int64 : List ℕ
whole_int64 = bounded 4 0 (minus 9223372036854775808) 9223372036854775807

abbrev pub whole_uint8 : List ℕ
whole_uint8 = bounded 5 0 0 255

abbrev pub whole_uint16 : List ℕ
whole_uint16 = bounded 6 0 0 65535

abbrev pub whole_uint32 : List ℕ
whole_uint32 = bounded 7 0 0 4294967295

abbrev pub whole_boolean : List ℕ
whole_boolean = bounded 8 0 0 1

unfoldable pub type_ranges : List (List ℕ)
type_ranges =
    -- lent runs as before, with places for more columns
    (lend ∷ snapshots ∷ records 4 ∷ words 2 ∷ each 7 ∷ [])
    ∷ (lend ∷ schemas ∷ records 1 ∷ words 2 ∷ each 7 ∷ [])
    ∷ (lend ∷ tables ∷ records 2 ∷ words 2 ∷ each 7 ∷ [])
    ∷ (lend ∷ columns ∷ records 20 ∷ words 0 ∷ each 7 ∷ [])
    ∷ (lend ∷ data_files ∷ records 1 ∷ words 2 ∷ each 7 ∷ [])
    ∷ (lend ∷ delete_files ∷ records 0 ∷ words 1 ∷ each 7 ∷ [])
    ∷ (lend ∷ positions ∷ records 0 ∷ words 0 ∷ each 7 ∷ [])
    ∷ (lend ∷ statistics ∷ records 8 ∷ words 4 ∷ each 7 ∷ [])
    ∷ (lend ∷ scheduled ∷ records 0 ∷ words 0 ∷ each 7 ∷ [])
    ∷ (lend ∷ counts ∷ records 9 ∷ words 0 ∷ each 5 ∷ [])
    ∷ (lend ∷ schema_names ∷ records 1 ∷ words 8 ∷ each 88 ∷ [])
    ∷ (lend ∷ table_names ∷ records 2 ∷ words 6 ∷ each 88 ∷ [])
    ∷ (lend ∷ column_names ∷ records 20 ∷ words 10 ∷ each 88 ∷ [])
    ∷ (lend ∷ answer_area ∷ records 16 ∷ words 0 ∷ each 9 ∷ [])
    ∷ (leaves ∷ snapshots ∷ at 0 ∷ 0 ∷ 100 ∷ 0 ∷ 1 ∷ 0 ∷ created_schema ∷ 0 ∷ [])
    ∷ (leaves ∷ schemas ∷ at 0 ∷ 0 ∷ 0 ∷ absent ∷ [])
    ∷ (leaves ∷ counts ∷ at snapshots ∷ 1 ∷ 1 ∷ 0 ∷ 0 ∷ 0 ∷ 0 ∷ 0 ∷ 0 ∷ 0 ∷ [])
    ∷ (leaves ∷ schema_names ∷ at 0 ∷ bytes "main")
    ∷ (call_kept ∷ area 0 ∷ accepted ∷ place 0 ∷ words 0 ∷ fresh ∷ 100 ∷ [])
    -- Columns: the most, and one more
    ∷ (leaves ∷ snapshots ∷ at 1 ∷ 1 ∷ 150 ∷ 1 ∷ 2 ∷ 0 ∷ created_table ∷ 1 ∷ [])
    ∷ (leaves ∷ tables ∷ at 0 ∷ 1 ∷ 1 ∷ absent ∷ 0 ∷ 0 ∷ [])
    ∷ (leaves ∷ columns ∷ at 0 ∷ 1 ∷ 1 ∷ 1 ∷ absent ∷ 0 ∷ boolean ∷ 1 ∷ [])
    ∷ (leaves ∷ columns ∷ at 1 ∷ 2 ∷ 1 ∷ 1 ∷ absent ∷ 1 ∷ boolean ∷ 1 ∷ [])
    ∷ (leaves ∷ columns ∷ at 2 ∷ 3 ∷ 1 ∷ 1 ∷ absent ∷ 2 ∷ boolean ∷ 1 ∷ [])
    ∷ (leaves ∷ columns ∷ at 3 ∷ 4 ∷ 1 ∷ 1 ∷ absent ∷ 3 ∷ boolean ∷ 1 ∷ [])
    ∷ (leaves ∷ columns ∷ at 4 ∷ 5 ∷ 1 ∷ 1 ∷ absent ∷ 4 ∷ boolean ∷ 1 ∷ [])
    ∷ (leaves ∷ columns ∷ at 5 ∷ 6 ∷ 1 ∷ 1 ∷ absent ∷ 5 ∷ boolean ∷ 1 ∷ [])
    ∷ (leaves ∷ columns ∷ at 6 ∷ 7 ∷ 1 ∷ 1 ∷ absent ∷ 6 ∷ boolean ∷ 1 ∷ [])
    ∷ (leaves ∷ columns ∷ at 7 ∷ 8 ∷ 1 ∷ 1 ∷ absent ∷ 7 ∷ boolean ∷ 1 ∷ [])
    ∷ (leaves ∷ columns ∷ at 8 ∷ 9 ∷ 1 ∷ 1 ∷ absent ∷ 8 ∷ boolean ∷ 1 ∷ [])
    ∷ (leaves ∷ columns ∷ at 9 ∷ 10 ∷ 1 ∷ 1 ∷ absent ∷ 9 ∷ boolean ∷ 1 ∷ [])
    ∷ (leaves ∷ columns ∷ at 10 ∷ 11 ∷ 1 ∷ 1 ∷ absent ∷ 10 ∷ boolean ∷ 1 ∷ [])
    ∷ (leaves ∷ columns ∷ at 11 ∷ 12 ∷ 1 ∷ 1 ∷ absent ∷ 11 ∷ boolean ∷ 1 ∷ [])
    ∷ (leaves ∷ columns ∷ at 12 ∷ 13 ∷ 1 ∷ 1 ∷ absent ∷ 12 ∷ boolean ∷ 1 ∷ [])
    ∷ (leaves ∷ columns ∷ at 13 ∷ 14 ∷ 1 ∷ 1 ∷ absent ∷ 13 ∷ boolean ∷ 1 ∷ [])
    ∷ (leaves ∷ columns ∷ at 14 ∷ 15 ∷ 1 ∷ 1 ∷ absent ∷ 14 ∷ boolean ∷ 1 ∷ [])
    ∷ (leaves ∷ columns ∷ at 15 ∷ 16 ∷ 1 ∷ 1 ∷ absent ∷ 15 ∷ boolean ∷ 1 ∷ [])
    ∷ (leaves ∷ counts ∷ at snapshots ∷ 2 ∷ 1 ∷ 1 ∷ 16 ∷ [])
    ∷ (leaves ∷ table_names ∷ at 0 ∷ bytes "u")
    ∷ (leaves ∷ column_names ∷ at 0 ∷ bytes "a")
    ∷ (leaves ∷ column_names ∷ at 1 ∷ bytes "b")
    ∷ (leaves ∷ column_names ∷ at 2 ∷ bytes "c")
    ∷ (leaves ∷ column_names ∷ at 3 ∷ bytes "d")
    ∷ (leaves ∷ column_names ∷ at 4 ∷ bytes "e")
    ∷ (leaves ∷ column_names ∷ at 5 ∷ bytes "f")
    ∷ (leaves ∷ column_names ∷ at 6 ∷ bytes "g")
    ∷ (leaves ∷ column_names ∷ at 7 ∷ bytes "h")
    ∷ (leaves ∷ column_names ∷ at 8 ∷ bytes "i")
    ∷ (leaves ∷ column_names ∷ at 9 ∷ bytes "j")
    ∷ (leaves ∷ column_names ∷ at 10 ∷ bytes "k")
    ∷ (leaves ∷ column_names ∷ at 11 ∷ bytes "l")
    ∷ (leaves ∷ column_names ∷ at 12 ∷ bytes "m")
    ∷ (leaves ∷ column_names ∷ at 13 ∷ bytes "n")
    ∷ (leaves ∷ column_names ∷ at 14 ∷ bytes "o")
    ∷ (leaves ∷ column_names ∷ at 15 ∷ bytes "p")
    ∷ (call ∷ area 0 ∷ accepted ∷ place 0 ∷ words 0 ∷ create_table ∷ 150 ∷ 0 ∷ name "u"
    ++ counted (boolean ∷ 1 ∷ boolean ∷ 1 ∷ boolean ∷ 1 ∷ boolean ∷ 1 ∷ boolean ∷ 1 ∷ boolean ∷ 1 ∷ boolean ∷ 1 ∷ boolean ∷ 1 ∷ boolean ∷ 1 ∷ boolean ∷ 1 ∷ boolean ∷ 1 ∷ boolean ∷ 1 ∷ boolean ∷ 1 ∷ boolean ∷ 1 ∷ boolean ∷ 1 ∷ boolean ∷ 1 ∷ [])
    ++ names ("a" ∷ "b" ∷ "c" ∷ "d" ∷ "e" ∷ "f" ∷ "g" ∷ "h" ∷ "i" ∷ "j" ∷ "k" ∷ "l" ∷ "m" ∷ "n" ∷ "o" ∷ "p" ∷ []))
    ∷ (call ∷ area 0 ∷ bad_columns ∷ place 0 ∷ words 0 ∷ create_table ∷ 150 ∷ 0 ∷ name "u"
    ++ counted (boolean ∷ 1 ∷ boolean ∷ 1 ∷ boolean ∷ 1 ∷ boolean ∷ 1 ∷ boolean ∷ 1 ∷ boolean ∷ 1 ∷ boolean ∷ 1 ∷ boolean ∷ 1 ∷ boolean ∷ 1 ∷ boolean ∷ 1 ∷ boolean ∷ 1 ∷ boolean ∷ 1 ∷ boolean ∷ 1 ∷ boolean ∷ 1 ∷ boolean ∷ 1 ∷ boolean ∷ 1 ∷ boolean ∷ 1 ∷ [])
    ++ names ("a" ∷ "b" ∷ "c" ∷ "d" ∷ "e" ∷ "f" ∷ "g" ∷ "h" ∷ "i" ∷ "j" ∷ "k" ∷ "l" ∷ "m" ∷ "n" ∷ "o" ∷ "p" ∷ "q" ∷ []))
    -- table u, which has a column of each type
    ∷ (leaves ∷ snapshots ∷ at 1 ∷ 1 ∷ 150 ∷ 1 ∷ 2 ∷ 0 ∷ created_table ∷ 1 ∷ [])
    ∷ (leaves ∷ tables ∷ at 0 ∷ 1 ∷ 1 ∷ absent ∷ 0 ∷ 0 ∷ [])
    ∷ (leaves ∷ columns ∷ at 0 ∷ 1 ∷ 1 ∷ 1 ∷ absent ∷ 0 ∷ int8 ∷ 0 ∷ [])
    ∷ (leaves ∷ columns ∷ at 1 ∷ 2 ∷ 1 ∷ 1 ∷ absent ∷ 1 ∷ int16 ∷ 0 ∷ [])
    ∷ (leaves ∷ columns ∷ at 2 ∷ 3 ∷ 1 ∷ 1 ∷ absent ∷ 2 ∷ int32 ∷ 0 ∷ [])
    ∷ (leaves ∷ columns ∷ at 3 ∷ 4 ∷ 1 ∷ 1 ∷ absent ∷ 3 ∷ int64 ∷ 0 ∷ [])
    ∷ (leaves ∷ columns ∷ at 4 ∷ 5 ∷ 1 ∷ 1 ∷ absent ∷ 4 ∷ uint8 ∷ 0 ∷ [])
    ∷ (leaves ∷ columns ∷ at 5 ∷ 6 ∷ 1 ∷ 1 ∷ absent ∷ 5 ∷ uint16 ∷ 0 ∷ [])
    ∷ (leaves ∷ columns ∷ at 6 ∷ 7 ∷ 1 ∷ 1 ∷ absent ∷ 6 ∷ uint32 ∷ 0 ∷ [])
    ∷ (leaves ∷ columns ∷ at 7 ∷ 8 ∷ 1 ∷ 1 ∷ absent ∷ 7 ∷ boolean ∷ 0 ∷ [])
    ∷ (leaves ∷ counts ∷ at snapshots ∷ 2 ∷ 1 ∷ 1 ∷ 8 ∷ [])
    ∷ (leaves ∷ table_names ∷ at 0 ∷ bytes "u")
    ∷ (leaves ∷ column_names ∷ at 0 ∷ bytes "a")
    ∷ (leaves ∷ column_names ∷ at 1 ∷ bytes "b")
    ∷ (leaves ∷ column_names ∷ at 2 ∷ bytes "c")
    ∷ (leaves ∷ column_names ∷ at 3 ∷ bytes "d")
    ∷ (leaves ∷ column_names ∷ at 4 ∷ bytes "e")
    ∷ (leaves ∷ column_names ∷ at 5 ∷ bytes "f")
    ∷ (leaves ∷ column_names ∷ at 6 ∷ bytes "g")
    ∷ (leaves ∷ column_names ∷ at 7 ∷ bytes "h")
    ∷ (call_kept ∷ area 0 ∷ accepted ∷ place 0 ∷ words 0 ∷ create_table ∷ 150 ∷ 0 ∷ name "u"
    ++ counted (int8 ∷ 0 ∷ int16 ∷ 0 ∷ int32 ∷ 0 ∷ int64 ∷ 0 ∷ uint8 ∷ 0 ∷ uint16 ∷ 0 ∷ uint32 ∷ 0 ∷ boolean ∷ 0 ∷ [])
    ++ names ("a" ∷ "b" ∷ "c" ∷ "d" ∷ "e" ∷ "f" ∷ "g" ∷ "h" ∷ []))
    -- the most columns are sound, one more is not
    ∷ (finds_field ∷ columns ∷ at 8 ∷ column_id_word ∷ 9 ∷ 1 ∷ 1 ∷ absent ∷ 8 ∷ boolean ∷ 0 ∷ [])
    ∷ (finds_field ∷ columns ∷ at 9 ∷ column_id_word ∷ 10 ∷ 1 ∷ 1 ∷ absent ∷ 9 ∷ boolean ∷ 0 ∷ [])
    ∷ (finds_field ∷ columns ∷ at 10 ∷ column_id_word ∷ 11 ∷ 1 ∷ 1 ∷ absent ∷ 10 ∷ boolean ∷ 0 ∷ [])
    ∷ (finds_field ∷ columns ∷ at 11 ∷ column_id_word ∷ 12 ∷ 1 ∷ 1 ∷ absent ∷ 11 ∷ boolean ∷ 0 ∷ [])
    ∷ (finds_field ∷ columns ∷ at 12 ∷ column_id_word ∷ 13 ∷ 1 ∷ 1 ∷ absent ∷ 12 ∷ boolean ∷ 0 ∷ [])
    ∷ (finds_field ∷ columns ∷ at 13 ∷ column_id_word ∷ 14 ∷ 1 ∷ 1 ∷ absent ∷ 13 ∷ boolean ∷ 0 ∷ [])
    ∷ (finds_field ∷ columns ∷ at 14 ∷ column_id_word ∷ 15 ∷ 1 ∷ 1 ∷ absent ∷ 14 ∷ boolean ∷ 0 ∷ [])
    ∷ (finds_field ∷ columns ∷ at 15 ∷ column_id_word ∷ 16 ∷ 1 ∷ 1 ∷ absent ∷ 15 ∷ boolean ∷ 0 ∷ [])
    ∷ (finds_field ∷ column_names ∷ at 8 ∷ byte 0 ∷ padded (bytes "i"))
    ∷ (finds_field ∷ column_names ∷ at 9 ∷ byte 0 ∷ padded (bytes "j"))
    ∷ (finds_field ∷ column_names ∷ at 10 ∷ byte 0 ∷ padded (bytes "k"))
    ∷ (finds_field ∷ column_names ∷ at 11 ∷ byte 0 ∷ padded (bytes "l"))
    ∷ (finds_field ∷ column_names ∷ at 12 ∷ byte 0 ∷ padded (bytes "m"))
    ∷ (finds_field ∷ column_names ∷ at 13 ∷ byte 0 ∷ padded (bytes "n"))
    ∷ (finds_field ∷ column_names ∷ at 14 ∷ byte 0 ∷ padded (bytes "o"))
    ∷ (finds_field ∷ column_names ∷ at 15 ∷ byte 0 ∷ padded (bytes "p"))
    ∷ (finds_field ∷ counts ∷ at columns ∷ only_word ∷ 16 ∷ [])
    ∷ (leaves ∷ answer_area ∷ at 0 ∷ 0 ∷ [])
    ∷ (call ∷ area 1 ∷ accepted ∷ place 0 ∷ words 1 ∷ snapshot_by_time ∷ 100 ∷ [])
    ∷ (finds_field ∷ columns ∷ at 8 ∷ column_id_word ∷ 9 ∷ 1 ∷ 1 ∷ absent ∷ 8 ∷ boolean ∷ 0 ∷ [])
    ∷ (finds_field ∷ columns ∷ at 9 ∷ column_id_word ∷ 10 ∷ 1 ∷ 1 ∷ absent ∷ 9 ∷ boolean ∷ 0 ∷ [])
    ∷ (finds_field ∷ columns ∷ at 10 ∷ column_id_word ∷ 11 ∷ 1 ∷ 1 ∷ absent ∷ 10 ∷ boolean ∷ 0 ∷ [])
    ∷ (finds_field ∷ columns ∷ at 11 ∷ column_id_word ∷ 12 ∷ 1 ∷ 1 ∷ absent ∷ 11 ∷ boolean ∷ 0 ∷ [])
    ∷ (finds_field ∷ columns ∷ at 12 ∷ column_id_word ∷ 13 ∷ 1 ∷ 1 ∷ absent ∷ 12 ∷ boolean ∷ 0 ∷ [])
    ∷ (finds_field ∷ columns ∷ at 13 ∷ column_id_word ∷ 14 ∷ 1 ∷ 1 ∷ absent ∷ 13 ∷ boolean ∷ 0 ∷ [])
    ∷ (finds_field ∷ columns ∷ at 14 ∷ column_id_word ∷ 15 ∷ 1 ∷ 1 ∷ absent ∷ 14 ∷ boolean ∷ 0 ∷ [])
    ∷ (finds_field ∷ columns ∷ at 15 ∷ column_id_word ∷ 16 ∷ 1 ∷ 1 ∷ absent ∷ 15 ∷ boolean ∷ 0 ∷ [])
    ∷ (finds_field ∷ columns ∷ at 16 ∷ column_id_word ∷ 17 ∷ 1 ∷ 1 ∷ absent ∷ 16 ∷ boolean ∷ 0 ∷ [])
    ∷ (finds_field ∷ column_names ∷ at 8 ∷ byte 0 ∷ padded (bytes "i"))
    ∷ (finds_field ∷ column_names ∷ at 9 ∷ byte 0 ∷ padded (bytes "j"))
    ∷ (finds_field ∷ column_names ∷ at 10 ∷ byte 0 ∷ padded (bytes "k"))
    ∷ (finds_field ∷ column_names ∷ at 11 ∷ byte 0 ∷ padded (bytes "l"))
    ∷ (finds_field ∷ column_names ∷ at 12 ∷ byte 0 ∷ padded (bytes "m"))
    ∷ (finds_field ∷ column_names ∷ at 13 ∷ byte 0 ∷ padded (bytes "n"))
    ∷ (finds_field ∷ column_names ∷ at 14 ∷ byte 0 ∷ padded (bytes "o"))
    ∷ (finds_field ∷ column_names ∷ at 15 ∷ byte 0 ∷ padded (bytes "p"))
    ∷ (finds_field ∷ column_names ∷ at 16 ∷ byte 0 ∷ padded (bytes "q"))
    ∷ (finds_field ∷ counts ∷ at columns ∷ only_word ∷ 17 ∷ [])
    ∷ (call ∷ area 1 ∷ not_sound ∷ place 0 ∷ words 0 ∷ snapshot_by_time ∷ 100 ∷ [])
    -- the whole range of each
    ∷ (leaves ∷ snapshots ∷ at 2 ∷ 2 ∷ 160 ∷ 1 ∷ 2 ∷ 1 ∷ inserted_into_table ∷ 1 ∷ [])
    ∷ (leaves_field ∷ tables ∷ at 0 ∷ table_next_row_id_word ∷ 1 ∷ [])
    ∷ (leaves ∷ data_files ∷ at 0 ∷ 0 ∷ 1 ∷ 2 ∷ absent ∷ 1 ∷ 0 ∷ 0 ∷ 9 ∷ [])
    ∷ (leaves ∷ statistics ∷ at 0 ∷ 0 ∷ bounded 1 0 (minus 128) 127)
    ∷ (leaves ∷ statistics ∷ at 1 ∷ 0 ∷ bounded 2 0 (minus 32768) 32767)
    ∷ (leaves ∷ statistics ∷ at 2 ∷ 0 ∷ bounded 3 0 (minus 2147483648) 2147483647)
    ∷ (leaves ∷ statistics ∷ at 3 ∷ 0 ∷ bounded 4 0 (minus 9223372036854775808) 9223372036854775807)
    ∷ (leaves ∷ statistics ∷ at 4 ∷ 0 ∷ bounded 5 0 0 255)
    ∷ (leaves ∷ statistics ∷ at 5 ∷ 0 ∷ bounded 6 0 0 65535)
    ∷ (leaves ∷ statistics ∷ at 6 ∷ 0 ∷ bounded 7 0 0 4294967295)
    ∷ (leaves ∷ statistics ∷ at 7 ∷ 0 ∷ bounded 8 0 0 1)
    ∷ (leaves ∷ counts ∷ at snapshots ∷ 3 ∷ [])
    ∷ (leaves ∷ counts ∷ at data_files ∷ 1 ∷ [])
    ∷ (leaves ∷ counts ∷ at statistics ∷ 8 ∷ [])
    ∷ (call ∷ area 0 ∷ accepted ∷ place 0 ∷ words 0 ∷ insert ∷ 160 ∷ 1 ∷ 1 ∷ 0 ∷ 9 ∷ whole_int8 ++ whole_int16 ++ whole_int32 ++ whole_int64 ++ whole_uint8
    ++ whole_uint16 ++ whole_uint32 ++ whole_boolean)
    -- the lowest alone, and the highest alone
    ∷ (leaves ∷ snapshots ∷ at 2 ∷ 2 ∷ 160 ∷ 1 ∷ 2 ∷ 1 ∷ inserted_into_table ∷ 1 ∷ [])
    ∷ (leaves_field ∷ tables ∷ at 0 ∷ table_next_row_id_word ∷ 1 ∷ [])
    ∷ (leaves ∷ data_files ∷ at 0 ∷ 0 ∷ 1 ∷ 2 ∷ absent ∷ 1 ∷ 0 ∷ 0 ∷ 9 ∷ [])
    ∷ (leaves ∷ statistics ∷ at 0 ∷ 0 ∷ bounded 1 0 (minus 128) (minus 128))
    ∷ (leaves ∷ statistics ∷ at 1 ∷ 0 ∷ bounded 2 0 (minus 32768) (minus 32768))
    ∷ (leaves ∷ statistics ∷ at 2 ∷ 0 ∷ bounded 3 0 (minus 2147483648) (minus 2147483648))
    ∷ (leaves ∷ statistics ∷ at 3 ∷ 0 ∷ bounded 4 0 (minus 9223372036854775808) (minus 9223372036854775808))
    ∷ (leaves ∷ statistics ∷ at 4 ∷ 0 ∷ bounded 5 0 0 0)
    ∷ (leaves ∷ statistics ∷ at 5 ∷ 0 ∷ bounded 6 0 0 0)
    ∷ (leaves ∷ statistics ∷ at 6 ∷ 0 ∷ bounded 7 0 0 0)
    ∷ (leaves ∷ statistics ∷ at 7 ∷ 0 ∷ bounded 8 0 0 0)
    ∷ (leaves ∷ counts ∷ at snapshots ∷ 3 ∷ [])
    ∷ (leaves ∷ counts ∷ at data_files ∷ 1 ∷ [])
    ∷ (leaves ∷ counts ∷ at statistics ∷ 8 ∷ [])
    ∷ (call ∷ area 0 ∷ accepted ∷ place 0 ∷ words 0 ∷ insert ∷ 160 ∷ 1 ∷ 1 ∷ 0 ∷ 9 ∷ bounded 1 0 (minus 128) (minus 128)
    ++ bounded 2 0 (minus 32768) (minus 32768) ++ bounded 3 0 (minus 2147483648) (minus 2147483648)
    ++ bounded 4 0 (minus 9223372036854775808) (minus 9223372036854775808) ++ bounded 5 0 0 0 ++ bounded 6 0 0 0 ++ bounded 7 0 0 0 ++ bounded 8 0 0 0)
    ∷ (leaves ∷ snapshots ∷ at 2 ∷ 2 ∷ 160 ∷ 1 ∷ 2 ∷ 1 ∷ inserted_into_table ∷ 1 ∷ [])
    ∷ (leaves_field ∷ tables ∷ at 0 ∷ table_next_row_id_word ∷ 1 ∷ [])
    ∷ (leaves ∷ data_files ∷ at 0 ∷ 0 ∷ 1 ∷ 2 ∷ absent ∷ 1 ∷ 0 ∷ 0 ∷ 9 ∷ [])
    ∷ (leaves ∷ statistics ∷ at 0 ∷ 0 ∷ bounded 1 0 127 127)
    ∷ (leaves ∷ statistics ∷ at 1 ∷ 0 ∷ bounded 2 0 32767 32767)
    ∷ (leaves ∷ statistics ∷ at 2 ∷ 0 ∷ bounded 3 0 2147483647 2147483647)
    ∷ (leaves ∷ statistics ∷ at 3 ∷ 0 ∷ bounded 4 0 9223372036854775807 9223372036854775807)
    ∷ (leaves ∷ statistics ∷ at 4 ∷ 0 ∷ bounded 5 0 255 255)
    ∷ (leaves ∷ statistics ∷ at 5 ∷ 0 ∷ bounded 6 0 65535 65535)
    ∷ (leaves ∷ statistics ∷ at 6 ∷ 0 ∷ bounded 7 0 4294967295 4294967295)
    ∷ (leaves ∷ statistics ∷ at 7 ∷ 0 ∷ bounded 8 0 1 1)
    ∷ (leaves ∷ counts ∷ at snapshots ∷ 3 ∷ [])
    ∷ (leaves ∷ counts ∷ at data_files ∷ 1 ∷ [])
    ∷ (leaves ∷ counts ∷ at statistics ∷ 8 ∷ [])
    ∷ (call ∷ area 0 ∷ accepted ∷ place 0 ∷ words 0 ∷ insert ∷ 160 ∷ 1 ∷ 1 ∷ 0 ∷ 9 ∷ bounded 1 0 127 127 ++ bounded 2 0 32767 32767
    ++ bounded 3 0 2147483647 2147483647 ++ bounded 4 0 9223372036854775807 9223372036854775807 ++ bounded 5 0 255 255 ++ bounded 6 0 65535 65535
    ++ bounded 7 0 4294967295 4294967295 ++ bounded 8 0 1 1)
    -- one below the lowest, type by type, int64 apart, which holds every word
    ∷ (call ∷ area 0 ∷ bad_statistics ∷ place 0 ∷ words 0 ∷ insert ∷ 160 ∷ 1 ∷ 1 ∷ 0 ∷ 9 ∷ bounded 1 0 (minus 129) 127 ++ whole_int16 ++ whole_int32 ++ whole_int64
    ++ whole_uint8 ++ whole_uint16 ++ whole_uint32 ++ whole_boolean)
    ∷ (call ∷ area 0 ∷ bad_statistics ∷ place 0 ∷ words 0 ∷ insert ∷ 160 ∷ 1 ∷ 1 ∷ 0 ∷ 9 ∷ whole_int8 ++ bounded 2 0 (minus 32769) 32767 ++ whole_int32
    ++ whole_int64 ++ whole_uint8 ++ whole_uint16 ++ whole_uint32 ++ whole_boolean)
    ∷ (call ∷ area 0 ∷ bad_statistics ∷ place 0 ∷ words 0 ∷ insert ∷ 160 ∷ 1 ∷ 1 ∷ 0 ∷ 9 ∷ whole_int8 ++ whole_int16 ++ bounded 3 0 (minus 2147483649) 2147483647
    ++ whole_int64 ++ whole_uint8 ++ whole_uint16 ++ whole_uint32 ++ whole_boolean)
    ∷ (call ∷ area 0 ∷ bad_statistics ∷ place 0 ∷ words 0 ∷ insert ∷ 160 ∷ 1 ∷ 1 ∷ 0 ∷ 9 ∷ whole_int8 ++ whole_int16 ++ whole_int32 ++ whole_int64
    ++ bounded 5 0 (minus 1) 255 ++ whole_uint16 ++ whole_uint32 ++ whole_boolean)
    ∷ (call ∷ area 0 ∷ bad_statistics ∷ place 0 ∷ words 0 ∷ insert ∷ 160 ∷ 1 ∷ 1 ∷ 0 ∷ 9 ∷ whole_int8 ++ whole_int16 ++ whole_int32 ++ whole_int64 ++ whole_uint8
    ++ bounded 6 0 (minus 1) 65535 ++ whole_uint32 ++ whole_boolean)
    ∷ (call ∷ area 0 ∷ bad_statistics ∷ place 0 ∷ words 0 ∷ insert ∷ 160 ∷ 1 ∷ 1 ∷ 0 ∷ 9 ∷ whole_int8 ++ whole_int16 ++ whole_int32 ++ whole_int64 ++ whole_uint8
    ++ whole_uint16 ++ bounded 7 0 (minus 1) 4294967295 ++ whole_boolean)
    ∷ (call ∷ area 0 ∷ bad_statistics ∷ place 0 ∷ words 0 ∷ insert ∷ 160 ∷ 1 ∷ 1 ∷ 0 ∷ 9 ∷ whole_int8 ++ whole_int16 ++ whole_int32 ++ whole_int64 ++ whole_uint8
    ++ whole_uint16 ++ whole_uint32 ++ bounded 8 0 (minus 1) 1)
    -- one above the highest
    ∷ (call ∷ area 0 ∷ bad_statistics ∷ place 0 ∷ words 0 ∷ insert ∷ 160 ∷ 1 ∷ 1 ∷ 0 ∷ 9 ∷ bounded 1 0 (minus 128) 128 ++ whole_int16 ++ whole_int32 ++ whole_int64
    ++ whole_uint8 ++ whole_uint16 ++ whole_uint32 ++ whole_boolean)
    ∷ (call ∷ area 0 ∷ bad_statistics ∷ place 0 ∷ words 0 ∷ insert ∷ 160 ∷ 1 ∷ 1 ∷ 0 ∷ 9 ∷ whole_int8 ++ bounded 2 0 (minus 32768) 32768 ++ whole_int32
    ++ whole_int64 ++ whole_uint8 ++ whole_uint16 ++ whole_uint32 ++ whole_boolean)
    ∷ (call ∷ area 0 ∷ bad_statistics ∷ place 0 ∷ words 0 ∷ insert ∷ 160 ∷ 1 ∷ 1 ∷ 0 ∷ 9 ∷ whole_int8 ++ whole_int16 ++ bounded 3 0 (minus 2147483648) 2147483648
    ++ whole_int64 ++ whole_uint8 ++ whole_uint16 ++ whole_uint32 ++ whole_boolean)
    ∷ (call ∷ area 0 ∷ bad_statistics ∷ place 0 ∷ words 0 ∷ insert ∷ 160 ∷ 1 ∷ 1 ∷ 0 ∷ 9 ∷ whole_int8 ++ whole_int16 ++ whole_int32 ++ whole_int64
    ++ bounded 5 0 0 256 ++ whole_uint16 ++ whole_uint32 ++ whole_boolean)
    ∷ (call ∷ area 0 ∷ bad_statistics ∷ place 0 ∷ words 0 ∷ insert ∷ 160 ∷ 1 ∷ 1 ∷ 0 ∷ 9 ∷ whole_int8 ++ whole_int16 ++ whole_int32 ++ whole_int64 ++ whole_uint8
    ++ bounded 6 0 0 65536 ++ whole_uint32 ++ whole_boolean)
    ∷ (call ∷ area 0 ∷ bad_statistics ∷ place 0 ∷ words 0 ∷ insert ∷ 160 ∷ 1 ∷ 1 ∷ 0 ∷ 9 ∷ whole_int8 ++ whole_int16 ++ whole_int32 ++ whole_int64 ++ whole_uint8
    ++ whole_uint16 ++ bounded 7 0 0 4294967296 ++ whole_boolean)
    ∷ (call ∷ area 0 ∷ bad_statistics ∷ place 0 ∷ words 0 ∷ insert ∷ 160 ∷ 1 ∷ 1 ∷ 0 ∷ 9 ∷ whole_int8 ++ whole_int16 ++ whole_int32 ++ whole_int64 ++ whole_uint8
    ++ whole_uint16 ++ whole_uint32 ++ bounded 8 0 0 2)
    -- a least above the greatest, which is below nought
    ∷ (call ∷ area 0 ∷ bad_statistics ∷ place 0 ∷ words 0 ∷ insert ∷ 160 ∷ 1 ∷ 1 ∷ 0 ∷ 9 ∷ whole_int8 ++ whole_int16 ++ whole_int32 ++ bounded 4 0 0 (minus 1)
    ++ whole_uint8 ++ whole_uint16 ++ whole_uint32 ++ whole_boolean)
    ∷ []
