-- Document 01, 'Sound tables': a test for each of its lines, and the limits of 'The lent tables' above it.
use Rattle.std.specs.Prelude.{ℕ, ◌+◌, Bool, not, ◌&&◌, ◌||◌, List, [], ◌∷◌, ◌++◌, map, leb, ltb, eqb, length}
use Rattle.lists.specs.Lists.{all, any, non_empty, pairwise, chained, agree, filter, has, before}
use Rattle.layout.specs.declared.outcome.Counts.{Counts}
use Rattle.layout.specs.declared.record.Uuid.{Uuid}
use Rattle.layout.specs.Catalog.{absent, number_limit, record_count_limit, column_limit, Versioned, Snapshot, Schema, Table, Column, DataFile, DeleteFile, Statistics, Scheduled, Catalog}
use Rattle.layout.specs.Names.{is_name, same_name}
use Rattle.layout.specs.Types.{signed, is_type, in_type, bound_at_most}
use Rattle.layout.specs.Words.{Words, load, positions_before, capacity, within}
use Rattle.ducklake.specs.Kinds.{is_kind}
use Rattle.ducklake.specs.Liveness.{live, live_at_some, latest_of, latest, columns_at}
use Rattle.ducklake.specs.Refusals.{first}

-- "Ids, next ids, row numbers, column orders and schema versions are at most 2^62."
abbrev pub in_limit : ℕ → Bool
in_limit n = leb n number_limit

-- "(0 or 1)"
abbrev pub is_flag : ℕ → Bool
is_flag n = leb n 1

-- "record_count is 1 to 1,048,576."
unfoldable pub is_record_count : ℕ → Bool
is_record_count n = leb 1 n && leb n record_count_limit

-- "every field is in its range; padding is zero". Begins, ends, change kinds and objects, positions, null counts and bounds are judged by lines
-- of their own, below.

unfoldable pub snapshot_in_range : Snapshot → Bool
snapshot_in_range n = in_limit n.id && in_limit n.schema_version && in_limit n.next_catalog_id && in_limit n.next_file_id

unfoldable pub schema_in_range : Versioned Schema → Bool
schema_in_range v = in_limit v.id && is_name v.body.name

unfoldable pub table_in_range : Versioned Table → Bool
table_in_range v = in_limit v.id && in_limit v.body.schema && in_limit v.body.next_row_id && is_name v.body.name

unfoldable pub column_in_range : Versioned Column → Bool
column_in_range v =
    in_limit v.id && in_limit v.body.table && in_limit v.body.order
    && is_type v.body.type_code && is_flag v.body.nulls_allowed && is_name v.body.name

unfoldable pub data_file_in_range : Versioned DataFile → Bool
data_file_in_range v =
    in_limit v.id && in_limit v.body.table && in_limit v.body.row_id_start && is_record_count v.body.record_count

unfoldable pub delete_file_in_range : Versioned DeleteFile → Bool
delete_file_in_range v = in_limit v.id && in_limit v.body.table && in_limit v.body.data_file

unfoldable pub statistics_in_range : Statistics → Bool
statistics_in_range x = in_limit x.data_file && in_limit x.column

unfoldable pub scheduled_in_range : Scheduled → Bool
scheduled_in_range x = in_limit x.file

unfoldable pub fields_in_range : Catalog → Bool
fields_in_range C =
    all snapshot_in_range C.snapshots && all schema_in_range C.schemas && all table_in_range C.tables
    && all column_in_range C.columns && all data_file_in_range C.data_files && all delete_file_in_range C.delete_files
    && all statistics_in_range C.statistics && all scheduled_in_range C.scheduled

-- "snapshot ids ascend strictly; times, schema versions and next ids never fall"
unfoldable pub follows : Snapshot → Snapshot → Bool
follows a b =
    ltb a.id b.id && leb a.time b.time && leb a.schema_version b.schema_version
    && leb a.next_catalog_id b.next_catalog_id && leb a.next_file_id b.next_file_id

-- what a snapshot's change may be, where the next catalog id is this: "change kinds are those below"; "the object is the schema's or table's id", so it
-- is below the next one
abbrev pub change_sound : ℕ → Snapshot → Bool
change_sound next_catalog_id n = is_kind n.kind && ltb n.object next_catalog_id

-- "at least one snapshot; snapshot ids ascend strictly; times, schema versions and next ids never fall; change kinds are those below"
unfoldable pub snapshots_rise : List Snapshot → Bool
snapshots_rise ns = non_empty ns && chained follows ns && all (change_sound (latest_of ns).next_catalog_id) ns

-- "each begin and each end that isn't ABSENT is at most the latest snapshot id; begin < end; every record is live at some retained snapshot"
unfoldable pub life_sound : {A : Type 0} → List Snapshot → Versioned A → Bool
life_sound ns v =
    leb v.begin (latest_of ns).id && (eqb v.end absent || leb v.end (latest_of ns).id) && ltb v.begin v.end && live_at_some ns v

unfoldable pub lives_sound : Catalog → Bool
lives_sound C =
    all (life_sound C.snapshots) C.schemas && all (life_sound C.snapshots) C.tables && all (life_sound C.snapshots) C.columns
    && all (life_sound C.snapshots) C.data_files && all (life_sound C.snapshots) C.delete_files

abbrev pub by_id : {A : Type 0} → Versioned A → Versioned A → Bool
by_id v w = ltb v.id w.id

-- the order of a table's files, and of a file list: by id
abbrev pub in_file_order : Versioned DataFile → Versioned DataFile → Bool
in_file_order = by_id

unfoldable pub by_table_and_id : Versioned Column → Versioned Column → Bool
by_table_and_id v w = before (v.body.table, v.id) (w.body.table, w.id)

unfoldable pub by_file_and_column : Statistics → Statistics → Bool
by_file_and_column x y = before (x.data_file, x.column) (y.data_file, y.column)

-- "ids ascend strictly in schema, table, data file and delete file, columns by (table id, column id), statistics by (data file id, column id)"
unfoldable pub ids_ascend : Catalog → Bool
ids_ascend C =
    chained by_id C.schemas && chained by_id C.tables && chained in_file_order C.data_files && chained by_id C.delete_files
    && chained by_table_and_id C.columns && chained by_file_and_column C.statistics

-- the files of data files, delete files and scheduled: their ids, and their UUIDs
unfoldable pub ids_of_files : List (Versioned DataFile) → List (Versioned DeleteFile) → List Scheduled → List ℕ
ids_of_files fs ds xs = map (λ f. f.id) fs ++ (map (λ d. d.id) ds ++ map (λ x. x.file) xs)

unfoldable pub uuids_of_files : List (Versioned DataFile) → List (Versioned DeleteFile) → List Scheduled → List Uuid
uuids_of_files fs ds xs = map (λ f. f.body.uuid) fs ++ (map (λ d. d.body.uuid) ds ++ map (λ x. x.uuid) xs)

abbrev pub file_ids : Catalog → List ℕ
file_ids C = ids_of_files C.data_files C.delete_files C.scheduled

abbrev pub file_uuids : Catalog → List Uuid
file_uuids C = uuids_of_files C.data_files C.delete_files C.scheduled

unfoldable pub same_uuid : Uuid → Uuid → Bool
same_uuid a b = eqb a.high b.high && eqb a.low b.low

-- "schema, table and file ids are below the latest snapshot's next ids"
unfoldable pub ids_below_next : Catalog → Bool
ids_below_next C =
    all (λ v. ltb v.id (latest C).next_catalog_id) C.schemas && all (λ v. ltb v.id (latest C).next_catalog_id) C.tables
    && all (λ k. ltb k (latest C).next_file_id) (file_ids C)

-- "no file id or UUID occurs twice over data files, delete files and scheduled"
unfoldable pub files_distinct : Catalog → Bool
files_distinct C = pairwise (λ a b. not (eqb a b)) (file_ids C) && pairwise (λ a b. not (same_uuid a b)) (file_uuids C)

-- the first's life contains the second's: half-open intervals of numbers, ABSENT greatest
unfoldable pub contains : {A B : Type 0} → Versioned A → Versioned B → Bool
contains a b = leb a.begin b.begin && leb b.end a.end

unfoldable pub same_life : {A B : Type 0} → Versioned A → Versioned B → Bool
same_life a b = eqb a.begin b.begin && eqb a.end b.end

-- "a table's life lies within its schema's"
unfoldable pub table_nests : List (Versioned Schema) → Versioned Table → Bool
table_nests ss t = any (λ s. eqb s.id t.body.schema && contains s t) ss

-- "a column's is its table's"
unfoldable pub column_nests : List (Versioned Table) → Versioned Column → Bool
column_nests ts c = any (λ t. eqb t.id c.body.table && same_life t c) ts

-- "a data file's lies within its table's"
unfoldable pub data_file_nests : List (Versioned Table) → Versioned DataFile → Bool
data_file_nests ts f = any (λ t. eqb t.id f.body.table && contains t f) ts

-- "a delete file's within its data file's, and their table ids match"
unfoldable pub delete_file_nests : List (Versioned DataFile) → Versioned DeleteFile → Bool
delete_file_nests fs d = any (λ f. eqb f.id d.body.data_file && eqb f.body.table d.body.table && contains f d) fs

unfoldable pub lives_nest : Catalog → Bool
lives_nest C =
    all (table_nests C.schemas) C.tables && all (column_nests C.tables) C.columns && all (data_file_nests C.tables) C.data_files
    && all (delete_file_nests C.data_files) C.delete_files

-- "a common live snapshot number"
unfoldable pub overlap : {A B : Type 0} → Versioned A → Versioned B → Bool
overlap a b = ltb a.begin b.end && ltb b.begin a.end

unfoldable pub schemas_apart : Versioned Schema → Versioned Schema → Bool
schemas_apart a b = not (overlap a b) || not (same_name a.body.name b.body.name)

unfoldable pub tables_apart : Versioned Table → Versioned Table → Bool
tables_apart a b =
    not (eqb a.body.schema b.body.schema) || not (overlap a b) || not (same_name a.body.name b.body.name)

unfoldable pub columns_apart : Versioned Column → Versioned Column → Bool
columns_apart a b =
    not (eqb a.body.table b.body.table) || not (overlap a b)
    || (not (same_name a.body.name b.body.name) && not (eqb a.body.order b.body.order))

-- "schemas, tables of one schema and columns of one table with a common live snapshot number have different names, such columns also different
-- orders"
unfoldable pub names_apart : Catalog → Bool
names_apart C = pairwise schemas_apart C.schemas && pairwise tables_apart C.tables && pairwise columns_apart C.columns

-- d ends before e begins, and e holds every position of d
unfoldable pub succeeded_by : Versioned DeleteFile → Versioned DeleteFile → Bool
succeeded_by d e = leb d.end e.begin && all (λ p. has p e.body.positions) d.body.positions

-- "two delete files of one data file have no common live number; the later holds every position of the earlier"
unfoldable pub delete_files_apart : Versioned DeleteFile → Versioned DeleteFile → Bool
delete_files_apart d e = not (eqb d.body.data_file e.body.data_file) || succeeded_by d e || succeeded_by e d

-- "positions ascend strictly below record_count; delete_count is 1 or more"
unfoldable pub positions_sound : List (Versioned DataFile) → Versioned DeleteFile → Bool
positions_sound fs d =
    non_empty d.body.positions && chained ltb d.body.positions
    && any (λ f. eqb f.id d.body.data_file && all (λ p. ltb p f.body.record_count) d.body.positions) fs

unfoldable pub deletes_sound : Catalog → Bool
deletes_sound C = pairwise delete_files_apart C.delete_files && all (positions_sound C.data_files) C.delete_files

-- the row number after the last of a file
abbrev pub row_id_end : Versioned DataFile → ℕ
row_id_end f = f.body.row_id_start + f.body.record_count

unfoldable pub rows_before : Versioned DataFile → Versioned DataFile → Bool
rows_before f g = not (eqb f.body.table g.body.table) || leb (row_id_end f) g.body.row_id_start

-- the range ends "at or below next_row_id"
unfoldable pub rows_in_table : List (Versioned Table) → Versioned DataFile → Bool
rows_in_table ts f = any (λ t. eqb t.id f.body.table && leb (row_id_end f) t.body.next_row_id) ts

-- "row ranges of a table's files ascend with the file id, don't overlap, and end at or below next_row_id"
unfoldable pub row_ranges_sound : Catalog → Bool
row_ranges_sound C = pairwise rows_before C.data_files && all (rows_in_table C.tables) C.data_files

-- a bound: its flag, and "0 where the flag is 0"; "Given values lie in the type's range"
unfoldable pub bound_fits : ℕ → ℕ → ℕ → Bool
bound_fits type_code flag word = (eqb flag 0 && eqb word 0) || (eqb flag 1 && in_type type_code (signed word))

-- the statistics of a column in a file of so many rows: "null_count ≤ record_count, and 0 where nulls aren't allowed. If all rows are null, min
-- and max are missing; else either may be missing. Given values lie in the type's range, min ≤ max."
unfoldable pub statistics_fit : ℕ → Versioned Column → Statistics → Bool
statistics_fit rows c x =
    eqb x.column c.id && leb x.null_count rows && (eqb c.body.nulls_allowed 1 || eqb x.null_count 0)
    && (ltb x.null_count rows || (eqb x.has_min 0 && eqb x.has_max 0))
    && bound_fits c.body.type_code x.has_min x.min && bound_fits c.body.type_code x.has_max x.max
    && (eqb x.has_min 0 || eqb x.has_max 0 || bound_at_most c.body.type_code x.min x.max)

unfoldable pub file_statistics : List Statistics → ℕ → List Statistics
file_statistics xs k = filter (λ x. eqb x.data_file k) xs

-- the columns of which a file has statistics: each "column live at its begin"
unfoldable pub statistics_wanted : List (Versioned Column) → Versioned DataFile → List (Versioned Column)
statistics_wanted cs f = columns_at cs f.begin f.body.table

-- "each data file has one statistics record for each column live at its begin"
unfoldable pub file_statistics_sound : List (Versioned Column) → List Statistics → Versioned DataFile → Bool
file_statistics_sound cs xs f = agree (statistics_fit f.body.record_count) (statistics_wanted cs f) (file_statistics xs f.id)

-- "and no other"
unfoldable pub statistics_on_file : List (Versioned DataFile) → Statistics → Bool
statistics_on_file fs x = any (λ f. eqb f.id x.data_file) fs

unfoldable pub statistics_sound : Catalog → Bool
statistics_sound C = all (file_statistics_sound C.columns C.statistics) C.data_files && all (statistics_on_file C.data_files) C.statistics

-- "A table has 1 to 16 live columns at each retained snapshot where it lives."
unfoldable pub column_count_sound : List (Versioned Column) → ℕ → Versioned Table → Bool
column_count_sound cs s t = not (live s t) || (leb 1 (length (columns_at cs s t.id)) && leb (length (columns_at cs s t.id)) column_limit)

unfoldable pub column_counts_sound : Catalog → Bool
column_counts_sound C = all (λ n. all (column_count_sound C.columns n.id) C.tables) C.snapshots

-- "the counts add up to the used positions"
abbrev pub positions_add_up : Words → Counts → Bool
positions_add_up w c = eqb (positions_before w.delete_files c.delete_files) c.positions

-- 'Sound means': each line with its number, counted from 1. The limit of 'The lent tables', "A table has 1 to 16 live columns at each retained snapshot where it
-- lives.", is in none of the ten lines and comes after them, as 11.
abbrev pub sound_lines : Words → Counts → List (ℕ × Bool)
sound_lines w c =
    (1, within c (capacity w) && fields_in_range (load w c))
    ∷ (2, snapshots_rise (load w c).snapshots)
    ∷ (3, lives_sound (load w c))
    ∷ (4, ids_ascend (load w c))
    ∷ (5, ids_below_next (load w c) && files_distinct (load w c))
    ∷ (6, lives_nest (load w c))
    ∷ (7, names_apart (load w c))
    ∷ (8, positions_add_up w c && deletes_sound (load w c))
    ∷ (9, row_ranges_sound (load w c))
    ∷ (10, statistics_sound (load w c))
    ∷ (11, column_counts_sound (load w c))
    ∷ []

-- the first line that doesn't hold; 0 where all hold
unfoldable pub first_unsound : Words → Counts → ℕ
first_unsound w c = first (sound_lines w c) 0

unfoldable pub sound : Words → Counts → Bool
sound w c = eqb (first_unsound w c) 0
