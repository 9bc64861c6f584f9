-- What the check of the tables is tried on: small sound tables, cases that each change some of their words, and the words that the diary session leaves call by
-- call. Proved in SoundLines. host/cases reads this file too, line by line, and holds the compiled check to it; so a list stands on a line of its own,
-- and a remark has one as well.
use Prim.Native.Nat.{ℕ, ◌+◌}
use mathlib.Core.List.{List, [], ◌∷◌}
use Rattle.layout.specs.Catalog.{absent, number_limit, record_count_limit}
use Rattle.layout.specs.Fields.{snapshot_id_word, snapshot_time_word, snapshot_schema_version_word, snapshot_next_catalog_id_word, snapshot_next_file_id_word, snapshot_kind_word, snapshot_object_word, schema_id_word, schema_begin_word, schema_end_word, table_id_word, table_begin_word, table_end_word, table_schema_word, table_next_row_id_word, column_id_word, column_table_word, column_begin_word, column_end_word, column_order_word, column_type_code_word, column_nulls_allowed_word, data_file_id_word, data_file_begin_word, data_file_end_word, data_file_record_count_word, data_file_row_id_start_word, data_file_uuid_low_word, delete_file_id_word, delete_file_table_word, delete_file_begin_word, delete_file_end_word, delete_file_data_file_word, delete_file_delete_count_word, delete_file_uuid_low_word, statistics_data_file_word, statistics_column_word, statistics_null_count_word, statistics_has_min_word, statistics_has_max_word, statistics_min_word, statistics_max_word, scheduled_file_word, scheduled_uuid_high_word, scheduled_uuid_low_word}

-- The runs by number, in the order of the used counts, so that the number of a table is also the word of its count; then the used counts themselves, and names.

abbrev pub snapshots : ℕ
snapshots = 0

abbrev pub schemas : ℕ
schemas = 1

abbrev pub tables : ℕ
tables = 2

abbrev pub columns : ℕ
columns = 3

abbrev pub data_files : ℕ
data_files = 4

abbrev pub delete_files : ℕ
delete_files = 5

abbrev pub positions : ℕ
positions = 6

abbrev pub statistics : ℕ
statistics = 7

abbrev pub scheduled : ℕ
scheduled = 8

abbrev pub counts : ℕ
counts = 9

abbrev pub schema_names : ℕ
schema_names = 10

abbrev pub table_names : ℕ
table_names = 11

abbrev pub column_names : ℕ
column_names = 12

-- Words just past their limit

abbrev pub above_number_limit : ℕ
above_number_limit = number_limit + 1

abbrev pub above_record_count_limit : ℕ
above_record_count_limit = record_count_limit + 1

-- a call of the session ends here
abbrev pub done : List ℕ
done = []

-- the lent runs, of zeros: how many records each has, and how many words after them. Names of schemas have less room than their words, words of tables less
-- than their names
unfoldable pub lent : List (List ℕ)
lent =
    (snapshots ∷ 8 ∷ 0 ∷ [])
    ∷ (schemas ∷ 5 ∷ 0 ∷ [])
    ∷ (tables ∷ 4 ∷ 0 ∷ [])
    ∷ (columns ∷ 5 ∷ 0 ∷ [])
    ∷ (data_files ∷ 4 ∷ 0 ∷ [])
    ∷ (delete_files ∷ 4 ∷ 0 ∷ [])
    ∷ (positions ∷ 6 ∷ 0 ∷ [])
    ∷ (statistics ∷ 7 ∷ 3 ∷ [])
    ∷ (scheduled ∷ 4 ∷ 0 ∷ [])
    ∷ (counts ∷ 1 ∷ 0 ∷ [])
    ∷ (schema_names ∷ 4 ∷ 0 ∷ [])
    ∷ (table_names ∷ 5 ∷ 0 ∷ [])
    ∷ (column_names ∷ 5 ∷ 0 ∷ [])
    ∷ []

-- sound tables by their records: the run, the record, its words from the first on
unfoldable pub small : List (List ℕ)
small =
    -- snapshots: id, time, schema version, next catalog id, next file id, change kind, change object
    (snapshots ∷ 0 ∷ 0 ∷ 100 ∷ 0 ∷ 1 ∷ 0 ∷ 1 ∷ 0 ∷ [])
    ∷ (snapshots ∷ 1 ∷ 1 ∷ 110 ∷ 1 ∷ 2 ∷ 0 ∷ 2 ∷ 1 ∷ [])
    ∷ (snapshots ∷ 2 ∷ 2 ∷ 120 ∷ 1 ∷ 2 ∷ 1 ∷ 3 ∷ 1 ∷ [])
    ∷ (snapshots ∷ 3 ∷ 3 ∷ 130 ∷ 2 ∷ 5 ∷ 3 ∷ 1 ∷ 2 ∷ [])
    ∷ (snapshots ∷ 4 ∷ 5 ∷ 150 ∷ 2 ∷ 5 ∷ 7 ∷ 3 ∷ 3 ∷ [])
    ∷ (snapshots ∷ 5 ∷ 6 ∷ 160 ∷ 3 ∷ 6 ∷ 8 ∷ 2 ∷ 5 ∷ [])
    -- schemas: id, begin, end
    ∷ (schemas ∷ 0 ∷ 0 ∷ 0 ∷ absent ∷ [])
    ∷ (schemas ∷ 1 ∷ 2 ∷ 3 ∷ absent ∷ [])
    ∷ (schemas ∷ 2 ∷ 4 ∷ 3 ∷ 6 ∷ [])
    -- tables: id, begin, end, schema, next row id
    ∷ (tables ∷ 0 ∷ 1 ∷ 1 ∷ absent ∷ 0 ∷ 10 ∷ [])
    ∷ (tables ∷ 1 ∷ 3 ∷ 3 ∷ 6 ∷ 2 ∷ 4 ∷ [])
    ∷ (tables ∷ 2 ∷ 5 ∷ 6 ∷ absent ∷ 2 ∷ 0 ∷ [])
    -- columns: id, table, begin, end, order, type, nulls allowed
    ∷ (columns ∷ 0 ∷ 1 ∷ 1 ∷ 1 ∷ absent ∷ 0 ∷ 4 ∷ 0 ∷ [])
    ∷ (columns ∷ 1 ∷ 2 ∷ 1 ∷ 1 ∷ absent ∷ 1 ∷ 1 ∷ 1 ∷ [])
    ∷ (columns ∷ 2 ∷ 1 ∷ 3 ∷ 3 ∷ 6 ∷ 0 ∷ 8 ∷ 1 ∷ [])
    ∷ (columns ∷ 3 ∷ 1 ∷ 5 ∷ 6 ∷ absent ∷ 0 ∷ 5 ∷ 0 ∷ [])
    -- data files: id, table, begin, end, record count, row id start, UUID
    ∷ (data_files ∷ 0 ∷ 0 ∷ 1 ∷ 2 ∷ absent ∷ 3 ∷ 0 ∷ 0 ∷ 1 ∷ [])
    ∷ (data_files ∷ 1 ∷ 1 ∷ 1 ∷ 3 ∷ 6 ∷ 4 ∷ 3 ∷ 0 ∷ 2 ∷ [])
    ∷ (data_files ∷ 2 ∷ 5 ∷ 3 ∷ 5 ∷ 6 ∷ 2 ∷ 1 ∷ 1 ∷ 1 ∷ [])
    -- delete files: id, table, begin, end, data file, delete count, UUID
    ∷ (delete_files ∷ 0 ∷ 2 ∷ 1 ∷ 3 ∷ 5 ∷ 0 ∷ 1 ∷ 0 ∷ 3 ∷ [])
    ∷ (delete_files ∷ 1 ∷ 3 ∷ 1 ∷ 5 ∷ absent ∷ 0 ∷ 2 ∷ 0 ∷ 4 ∷ [])
    ∷ (delete_files ∷ 2 ∷ 6 ∷ 3 ∷ 5 ∷ 6 ∷ 5 ∷ 1 ∷ 2 ∷ 1 ∷ [])
    -- positions
    ∷ (positions ∷ 0 ∷ 1 ∷ 0 ∷ 1 ∷ 1 ∷ [])
    -- statistics: data file, column, null count, has min, has max, min, max
    ∷ (statistics ∷ 0 ∷ 0 ∷ 1 ∷ 0 ∷ 1 ∷ 1 ∷ 1 ∷ 3 ∷ [])
    ∷ (statistics ∷ 1 ∷ 0 ∷ 2 ∷ 1 ∷ 1 ∷ 1 ∷ 18446744073709551611 ∷ 14 ∷ [])
    ∷ (statistics ∷ 2 ∷ 1 ∷ 1 ∷ 0 ∷ 1 ∷ 1 ∷ 4 ∷ 5 ∷ [])
    ∷ (statistics ∷ 3 ∷ 1 ∷ 2 ∷ 4 ∷ 0 ∷ 0 ∷ 0 ∷ 0 ∷ [])
    ∷ (statistics ∷ 4 ∷ 5 ∷ 1 ∷ 1 ∷ 1 ∷ 0 ∷ 1 ∷ 0 ∷ [])
    -- scheduled: file, UUID, schedule start
    ∷ (scheduled ∷ 0 ∷ 4 ∷ 0 ∷ 5 ∷ 160 ∷ [])
    ∷ (scheduled ∷ 1 ∷ 7 ∷ 0 ∷ 6 ∷ 160 ∷ [])
    -- used counts
    ∷ (counts ∷ 0 ∷ 6 ∷ 3 ∷ 3 ∷ 4 ∷ 3 ∷ 3 ∷ 4 ∷ 5 ∷ 2 ∷ [])
    -- names of schemas
    ∷ (schema_names ∷ 0 ∷ 109 ∷ 97 ∷ 105 ∷ 110 ∷ [])
    ∷ (schema_names ∷ 1 ∷ 111 ∷ 116 ∷ 104 ∷ 101 ∷ 114 ∷ [])
    ∷ (schema_names ∷ 2 ∷ 111 ∷ 108 ∷ 100 ∷ [])
    -- names of tables
    ∷ (table_names ∷ 0 ∷ 100 ∷ 105 ∷ 97 ∷ 114 ∷ 121 ∷ [])
    ∷ (table_names ∷ 1 ∷ 100 ∷ 105 ∷ 97 ∷ 114 ∷ 121 ∷ [])
    ∷ (table_names ∷ 2 ∷ 100 ∷ 105 ∷ 97 ∷ 114 ∷ 121 ∷ [])
    -- names of columns
    ∷ (column_names ∷ 0 ∷ 105 ∷ 116 ∷ 101 ∷ 109 ∷ [])
    ∷ (column_names ∷ 1 ∷ 112 ∷ 114 ∷ 105 ∷ 99 ∷ 101 ∷ [])
    ∷ (column_names ∷ 2 ∷ 105 ∷ 116 ∷ 101 ∷ 109 ∷ [])
    ∷ (column_names ∷ 3 ∷ 105 ∷ 116 ∷ 101 ∷ 109 ∷ [])
    ∷ []

-- cases: the line of 'Sound tables' that is broken, and for each change the run, the record, the field and the word. A zero stands for no line, the number after
-- the last for the limit of columns
unfoldable pub cases : List (List ℕ)
cases =
    -- Used counts fit the lent lengths and the limits:
    -- one more than lent: snapshots
    (1 ∷ counts ∷ 0 ∷ snapshots ∷ 9 ∷ [])
    -- one more than lent: schemas, whose names have less room than their words
    ∷ (1 ∷ counts ∷ 0 ∷ schemas ∷ 5 ∷ [])
    -- one more than lent: tables, whose words have less room than their names
    ∷ (1 ∷ counts ∷ 0 ∷ tables ∷ 5 ∷ [])
    -- one more than lent: columns
    ∷ (1 ∷ counts ∷ 0 ∷ columns ∷ 6 ∷ [])
    -- one more than lent: data files
    ∷ (1 ∷ counts ∷ 0 ∷ data_files ∷ 5 ∷ [])
    -- one more than lent: delete files
    ∷ (1 ∷ counts ∷ 0 ∷ delete_files ∷ 5 ∷ [])
    -- one more than lent: positions
    ∷ (1 ∷ counts ∷ 0 ∷ positions ∷ 7 ∷ [])
    -- one more than lent: statistics, of which the last is cut off
    ∷ (1 ∷ counts ∷ 0 ∷ statistics ∷ 8 ∷ [])
    -- one more than lent: scheduled files
    ∷ (1 ∷ counts ∷ 0 ∷ scheduled ∷ 5 ∷ [])
    -- a count whose words would wrap to none
    ∷ (1 ∷ counts ∷ 0 ∷ snapshots ∷ 9223372036854775808 ∷ [])
    -- the highest count
    ∷ (1 ∷ counts ∷ 0 ∷ scheduled ∷ 18446744073709551615 ∷ [])
    -- Every field is in its range; padding is zero:
    -- snapshot id
    ∷ (1 ∷ snapshots ∷ 5 ∷ snapshot_id_word ∷ above_number_limit ∷ [])
    -- schema version
    ∷ (1 ∷ snapshots ∷ 5 ∷ snapshot_schema_version_word ∷ above_number_limit ∷ [])
    -- next catalog id
    ∷ (1 ∷ snapshots ∷ 5 ∷ snapshot_next_catalog_id_word ∷ above_number_limit ∷ [])
    -- next file id
    ∷ (1 ∷ snapshots ∷ 5 ∷ snapshot_next_file_id_word ∷ above_number_limit ∷ [])
    -- schema without a name
    ∷ (1 ∷ schema_names ∷ 2 ∷ 0 ∷ 0 ∷ schema_names ∷ 2 ∷ 1 ∷ 0 ∷ schema_names ∷ 2 ∷ 2 ∷ 0 ∷ [])
    -- a schema name with a byte after its end
    ∷ (1 ∷ schema_names ∷ 2 ∷ 5 ∷ 97 ∷ [])
    -- a schema name with a byte that no name has
    ∷ (1 ∷ schema_names ∷ 0 ∷ 0 ∷ 45 ∷ [])
    -- table name with a byte beyond the letters
    ∷ (1 ∷ table_names ∷ 0 ∷ 0 ∷ 91 ∷ [])
    -- table name with a byte before the small letters
    ∷ (1 ∷ table_names ∷ 0 ∷ 1 ∷ 96 ∷ [])
    -- next row id
    ∷ (1 ∷ tables ∷ 0 ∷ table_next_row_id_word ∷ above_number_limit ∷ [])
    -- column name with the byte before the digits
    ∷ (1 ∷ column_names ∷ 0 ∷ 0 ∷ 47 ∷ [])
    -- column name with the byte after the digits
    ∷ (1 ∷ column_names ∷ 1 ∷ 0 ∷ 58 ∷ [])
    -- column name with the byte after the small letters
    ∷ (1 ∷ column_names ∷ 1 ∷ 0 ∷ 123 ∷ [])
    -- column name with the byte before the capitals
    ∷ (1 ∷ column_names ∷ 3 ∷ 0 ∷ 64 ∷ [])
    -- column id
    ∷ (1 ∷ columns ∷ 3 ∷ column_id_word ∷ above_number_limit ∷ [])
    -- column order
    ∷ (1 ∷ columns ∷ 3 ∷ column_order_word ∷ above_number_limit ∷ [])
    -- the type before the first
    ∷ (1 ∷ columns ∷ 3 ∷ column_type_code_word ∷ 0 ∷ [])
    -- the type after the last
    ∷ (1 ∷ columns ∷ 3 ∷ column_type_code_word ∷ 9 ∷ [])
    -- nulls allowed is no flag
    ∷ (1 ∷ columns ∷ 3 ∷ column_nulls_allowed_word ∷ 2 ∷ [])
    -- a file of no rows
    ∷ (1 ∷ data_files ∷ 1 ∷ data_file_record_count_word ∷ 0 ∷ statistics ∷ 2 ∷ statistics_null_count_word ∷ 0 ∷ statistics ∷ 2 ∷ statistics_has_min_word ∷ 0 ∷ statistics ∷ 2 ∷ statistics_has_max_word ∷ 0 ∷ statistics ∷ 2 ∷ statistics_min_word ∷ 0 ∷ statistics ∷ 2 ∷ statistics_max_word ∷ 0 ∷ statistics ∷ 3 ∷ statistics_null_count_word ∷ 0 ∷ [])
    -- a file of a row too many
    ∷ (1 ∷ data_files ∷ 1 ∷ data_file_record_count_word ∷ above_record_count_limit ∷ tables ∷ 0 ∷ table_next_row_id_word ∷ 2000000 ∷ [])
    -- a column of statistics, with its column
    ∷ (1 ∷ columns ∷ 2 ∷ column_id_word ∷ above_number_limit ∷ statistics ∷ 4 ∷ statistics_column_word ∷ above_number_limit ∷ [])
    -- At least one snapshot; ids ascend strictly; times, schema versions and next ids never fall; change kinds:
    -- no snapshot and nothing else
    ∷ (2 ∷ counts ∷ 0 ∷ snapshots ∷ 0 ∷ counts ∷ 0 ∷ schemas ∷ 0 ∷ counts ∷ 0 ∷ tables ∷ 0 ∷ counts ∷ 0 ∷ columns ∷ 0 ∷ counts ∷ 0 ∷ data_files ∷ 0 ∷ counts ∷ 0 ∷ delete_files ∷ 0 ∷ counts ∷ 0 ∷ positions ∷ 0 ∷ counts ∷ 0 ∷ statistics ∷ 0 ∷ counts ∷ 0 ∷ scheduled ∷ 0 ∷ [])
    -- an id twice
    ∷ (2 ∷ snapshots ∷ 1 ∷ snapshot_id_word ∷ 0 ∷ [])
    -- an id that falls
    ∷ (2 ∷ snapshots ∷ 0 ∷ snapshot_id_word ∷ 2 ∷ snapshots ∷ 1 ∷ snapshot_id_word ∷ 1 ∷ schemas ∷ 0 ∷ schema_begin_word ∷ 1 ∷ [])
    -- a time that falls
    ∷ (2 ∷ snapshots ∷ 1 ∷ snapshot_time_word ∷ 99 ∷ [])
    -- a schema version that falls
    ∷ (2 ∷ snapshots ∷ 2 ∷ snapshot_schema_version_word ∷ 0 ∷ [])
    -- a next catalog id that falls
    ∷ (2 ∷ snapshots ∷ 4 ∷ snapshot_next_catalog_id_word ∷ 7 ∷ [])
    -- a next file id that falls
    ∷ (2 ∷ snapshots ∷ 4 ∷ snapshot_next_file_id_word ∷ 9 ∷ [])
    -- no kind
    ∷ (2 ∷ snapshots ∷ 1 ∷ snapshot_kind_word ∷ 0 ∷ [])
    -- the kind between
    ∷ (2 ∷ snapshots ∷ 1 ∷ snapshot_kind_word ∷ 5 ∷ [])
    -- the kind past the last
    ∷ (2 ∷ snapshots ∷ 5 ∷ snapshot_kind_word ∷ 8 ∷ [])
    -- an object that is not below the next catalog id
    ∷ (2 ∷ snapshots ∷ 5 ∷ snapshot_object_word ∷ 6 ∷ [])
    -- Each begin and end at most the latest snapshot id; begin < end; live at some retained snapshot:
    -- a schema live only where no snapshot is retained
    ∷ (3 ∷ schemas ∷ 2 ∷ schema_begin_word ∷ 4 ∷ schemas ∷ 2 ∷ schema_end_word ∷ 5 ∷ [])
    -- a table and its column after the latest snapshot
    ∷ (3 ∷ tables ∷ 2 ∷ table_begin_word ∷ 7 ∷ columns ∷ 3 ∷ column_begin_word ∷ 7 ∷ [])
    -- a table and its column with an end past the latest snapshot
    ∷ (3 ∷ tables ∷ 2 ∷ table_end_word ∷ 7 ∷ columns ∷ 3 ∷ column_end_word ∷ 7 ∷ [])
    -- a table live only where no snapshot is retained, under another name
    ∷ (3 ∷ tables ∷ 2 ∷ table_begin_word ∷ 4 ∷ tables ∷ 2 ∷ table_end_word ∷ 5 ∷ columns ∷ 3 ∷ column_begin_word ∷ 4 ∷ columns ∷ 3 ∷ column_end_word ∷ 5 ∷ table_names ∷ 2 ∷ 0 ∷ 97 ∷ [])
    -- a data file live only where no snapshot is retained
    ∷ (3 ∷ data_files ∷ 1 ∷ data_file_begin_word ∷ 4 ∷ data_files ∷ 1 ∷ data_file_end_word ∷ 5 ∷ [])
    -- a delete file live only where no snapshot is retained
    ∷ (3 ∷ delete_files ∷ 0 ∷ delete_file_begin_word ∷ 4 ∷ [])
    -- a delete file that ends where it begins
    ∷ (3 ∷ delete_files ∷ 0 ∷ delete_file_end_word ∷ 3 ∷ [])
    -- a delete file that ends before it begins
    ∷ (3 ∷ delete_files ∷ 0 ∷ delete_file_begin_word ∷ 5 ∷ delete_files ∷ 0 ∷ delete_file_end_word ∷ 3 ∷ [])
    -- Ids ascend strictly:
    -- a schema id twice
    ∷ (4 ∷ schemas ∷ 2 ∷ schema_id_word ∷ 2 ∷ [])
    -- a schema id that falls
    ∷ (4 ∷ schemas ∷ 0 ∷ schema_id_word ∷ 3 ∷ tables ∷ 0 ∷ table_schema_word ∷ 3 ∷ [])
    -- a table id twice
    ∷ (4 ∷ tables ∷ 2 ∷ table_id_word ∷ 3 ∷ columns ∷ 3 ∷ column_id_word ∷ 2 ∷ columns ∷ 3 ∷ column_table_word ∷ 3 ∷ [])
    -- a data file id that falls
    ∷ (4 ∷ snapshots ∷ 5 ∷ snapshot_next_file_id_word ∷ 10 ∷ data_files ∷ 1 ∷ data_file_id_word ∷ 9 ∷ statistics ∷ 2 ∷ statistics_data_file_word ∷ 5 ∷ statistics ∷ 2 ∷ statistics_column_word ∷ 1 ∷ statistics ∷ 2 ∷ statistics_null_count_word ∷ 1 ∷ statistics ∷ 2 ∷ statistics_has_min_word ∷ 1 ∷ statistics ∷ 2 ∷ statistics_has_max_word ∷ 0 ∷ statistics ∷ 2 ∷ statistics_min_word ∷ 1 ∷ statistics ∷ 2 ∷ statistics_max_word ∷ 0 ∷ statistics ∷ 3 ∷ statistics_data_file_word ∷ 9 ∷ statistics ∷ 3 ∷ statistics_column_word ∷ 1 ∷ statistics ∷ 3 ∷ statistics_null_count_word ∷ 0 ∷ statistics ∷ 3 ∷ statistics_has_min_word ∷ 1 ∷ statistics ∷ 3 ∷ statistics_has_max_word ∷ 1 ∷ statistics ∷ 3 ∷ statistics_min_word ∷ 4 ∷ statistics ∷ 3 ∷ statistics_max_word ∷ 5 ∷ statistics ∷ 4 ∷ statistics_data_file_word ∷ 9 ∷ statistics ∷ 4 ∷ statistics_column_word ∷ 2 ∷ statistics ∷ 4 ∷ statistics_null_count_word ∷ 4 ∷ statistics ∷ 4 ∷ statistics_has_min_word ∷ 0 ∷ statistics ∷ 4 ∷ statistics_has_max_word ∷ 0 ∷ statistics ∷ 4 ∷ statistics_min_word ∷ 0 ∷ statistics ∷ 4 ∷ statistics_max_word ∷ 0 ∷ [])
    -- a delete file id that falls
    ∷ (4 ∷ delete_files ∷ 0 ∷ delete_file_id_word ∷ 3 ∷ delete_files ∷ 1 ∷ delete_file_id_word ∷ 2 ∷ [])
    -- a column id twice
    ∷ (4 ∷ counts ∷ 0 ∷ columns ∷ 5 ∷ columns ∷ 4 ∷ column_id_word ∷ 1 ∷ columns ∷ 4 ∷ column_table_word ∷ 5 ∷ columns ∷ 4 ∷ column_begin_word ∷ 6 ∷ columns ∷ 4 ∷ column_end_word ∷ absent ∷ columns ∷ 4 ∷ column_order_word ∷ 1 ∷ columns ∷ 4 ∷ column_type_code_word ∷ 5 ∷ columns ∷ 4 ∷ column_nulls_allowed_word ∷ 0 ∷ column_names ∷ 4 ∷ 0 ∷ 98 ∷ [])
    -- a column id that falls
    ∷ (4 ∷ counts ∷ 0 ∷ columns ∷ 5 ∷ columns ∷ 3 ∷ column_id_word ∷ 2 ∷ columns ∷ 4 ∷ column_id_word ∷ 1 ∷ columns ∷ 4 ∷ column_table_word ∷ 5 ∷ columns ∷ 4 ∷ column_begin_word ∷ 6 ∷ columns ∷ 4 ∷ column_end_word ∷ absent ∷ columns ∷ 4 ∷ column_order_word ∷ 1 ∷ columns ∷ 4 ∷ column_type_code_word ∷ 5 ∷ columns ∷ 4 ∷ column_nulls_allowed_word ∷ 0 ∷ column_names ∷ 4 ∷ 0 ∷ 98 ∷ [])
    -- a column's table that falls
    ∷ (4 ∷ columns ∷ 2 ∷ column_id_word ∷ 1 ∷ columns ∷ 2 ∷ column_table_word ∷ 5 ∷ columns ∷ 2 ∷ column_begin_word ∷ 6 ∷ columns ∷ 2 ∷ column_end_word ∷ absent ∷ columns ∷ 2 ∷ column_order_word ∷ 0 ∷ columns ∷ 2 ∷ column_type_code_word ∷ 5 ∷ columns ∷ 2 ∷ column_nulls_allowed_word ∷ 0 ∷ columns ∷ 3 ∷ column_id_word ∷ 1 ∷ columns ∷ 3 ∷ column_table_word ∷ 3 ∷ columns ∷ 3 ∷ column_begin_word ∷ 3 ∷ columns ∷ 3 ∷ column_end_word ∷ 6 ∷ columns ∷ 3 ∷ column_order_word ∷ 0 ∷ columns ∷ 3 ∷ column_type_code_word ∷ 8 ∷ columns ∷ 3 ∷ column_nulls_allowed_word ∷ 1 ∷ [])
    -- statistics whose data file falls
    ∷ (4 ∷ statistics ∷ 1 ∷ statistics_data_file_word ∷ 1 ∷ statistics ∷ 1 ∷ statistics_column_word ∷ 1 ∷ statistics ∷ 1 ∷ statistics_null_count_word ∷ 0 ∷ statistics ∷ 1 ∷ statistics_has_min_word ∷ 1 ∷ statistics ∷ 1 ∷ statistics_has_max_word ∷ 1 ∷ statistics ∷ 1 ∷ statistics_min_word ∷ 4 ∷ statistics ∷ 1 ∷ statistics_max_word ∷ 5 ∷ statistics ∷ 2 ∷ statistics_data_file_word ∷ 0 ∷ statistics ∷ 2 ∷ statistics_column_word ∷ 2 ∷ statistics ∷ 2 ∷ statistics_null_count_word ∷ 1 ∷ statistics ∷ 2 ∷ statistics_has_min_word ∷ 1 ∷ statistics ∷ 2 ∷ statistics_has_max_word ∷ 1 ∷ statistics ∷ 2 ∷ statistics_min_word ∷ 18446744073709551611 ∷ statistics ∷ 2 ∷ statistics_max_word ∷ 14 ∷ [])
    -- Schema, table and file ids are below the latest snapshot's next ids:
    -- a schema
    ∷ (5 ∷ schemas ∷ 2 ∷ schema_id_word ∷ 6 ∷ [])
    -- a table
    ∷ (5 ∷ snapshots ∷ 5 ∷ snapshot_next_catalog_id_word ∷ 5 ∷ snapshots ∷ 5 ∷ snapshot_object_word ∷ 4 ∷ [])
    -- a data file
    ∷ (5 ∷ data_files ∷ 2 ∷ data_file_id_word ∷ 8 ∷ delete_files ∷ 2 ∷ delete_file_data_file_word ∷ 8 ∷ statistics ∷ 4 ∷ statistics_data_file_word ∷ 8 ∷ [])
    -- a delete file
    ∷ (5 ∷ delete_files ∷ 2 ∷ delete_file_id_word ∷ 8 ∷ [])
    -- a scheduled file
    ∷ (5 ∷ snapshots ∷ 5 ∷ snapshot_next_file_id_word ∷ 7 ∷ [])
    -- No file id or UUID occurs twice:
    -- id of a data file and a delete file
    ∷ (5 ∷ delete_files ∷ 0 ∷ delete_file_id_word ∷ 1 ∷ [])
    -- id of a data file and a scheduled one
    ∷ (5 ∷ scheduled ∷ 0 ∷ scheduled_file_word ∷ 5 ∷ [])
    -- id of a delete file and a scheduled one
    ∷ (5 ∷ scheduled ∷ 0 ∷ scheduled_file_word ∷ 3 ∷ [])
    -- id of two scheduled files
    ∷ (5 ∷ scheduled ∷ 1 ∷ scheduled_file_word ∷ 4 ∷ [])
    -- UUID of two data files
    ∷ (5 ∷ data_files ∷ 1 ∷ data_file_uuid_low_word ∷ 1 ∷ [])
    -- UUID of a data file and a delete file
    ∷ (5 ∷ delete_files ∷ 0 ∷ delete_file_uuid_low_word ∷ 1 ∷ [])
    -- UUID of a data file and a scheduled one
    ∷ (5 ∷ scheduled ∷ 0 ∷ scheduled_uuid_high_word ∷ 1 ∷ scheduled ∷ 0 ∷ scheduled_uuid_low_word ∷ 1 ∷ [])
    -- UUID of two delete files
    ∷ (5 ∷ delete_files ∷ 1 ∷ delete_file_uuid_low_word ∷ 3 ∷ [])
    -- UUID of a delete file and a scheduled one
    ∷ (5 ∷ scheduled ∷ 1 ∷ scheduled_uuid_high_word ∷ 2 ∷ scheduled ∷ 1 ∷ scheduled_uuid_low_word ∷ 1 ∷ [])
    -- UUID of two scheduled files
    ∷ (5 ∷ scheduled ∷ 1 ∷ scheduled_uuid_low_word ∷ 5 ∷ [])
    -- Lives within lives, and table ids match:
    -- a table that begins before its schema
    ∷ (6 ∷ tables ∷ 1 ∷ table_begin_word ∷ 2 ∷ columns ∷ 2 ∷ column_begin_word ∷ 2 ∷ [])
    -- a table that ends after its schema
    ∷ (6 ∷ tables ∷ 1 ∷ table_schema_word ∷ 4 ∷ tables ∷ 1 ∷ table_end_word ∷ absent ∷ columns ∷ 2 ∷ column_end_word ∷ absent ∷ [])
    -- a table without a schema
    ∷ (6 ∷ tables ∷ 1 ∷ table_schema_word ∷ 7 ∷ [])
    -- a column that begins after its table
    ∷ (6 ∷ columns ∷ 1 ∷ column_begin_word ∷ 2 ∷ [])
    -- a column that ends before its table
    ∷ (6 ∷ columns ∷ 1 ∷ column_end_word ∷ 6 ∷ [])
    -- a column without a table
    ∷ (6 ∷ counts ∷ 0 ∷ columns ∷ 5 ∷ columns ∷ 4 ∷ column_id_word ∷ 1 ∷ columns ∷ 4 ∷ column_table_word ∷ 7 ∷ columns ∷ 4 ∷ column_begin_word ∷ 6 ∷ columns ∷ 4 ∷ column_end_word ∷ absent ∷ columns ∷ 4 ∷ column_order_word ∷ 0 ∷ columns ∷ 4 ∷ column_type_code_word ∷ 5 ∷ columns ∷ 4 ∷ column_nulls_allowed_word ∷ 0 ∷ column_names ∷ 4 ∷ 0 ∷ 98 ∷ [])
    -- a data file that begins before its table and its columns
    ∷ (6 ∷ data_files ∷ 2 ∷ data_file_begin_word ∷ 2 ∷ counts ∷ 0 ∷ statistics ∷ 4 ∷ [])
    -- a data file that ends after its table
    ∷ (6 ∷ data_files ∷ 2 ∷ data_file_end_word ∷ absent ∷ [])
    -- a delete file that begins before its data file
    ∷ (6 ∷ delete_files ∷ 2 ∷ delete_file_begin_word ∷ 3 ∷ [])
    -- a delete file that ends after its data file
    ∷ (6 ∷ delete_files ∷ 2 ∷ delete_file_end_word ∷ absent ∷ [])
    -- a delete file of another table than its data file
    ∷ (6 ∷ delete_files ∷ 2 ∷ delete_file_table_word ∷ 1 ∷ [])
    -- Different names and orders with a common live snapshot number:
    -- schemas
    ∷ (7 ∷ schema_names ∷ 2 ∷ 0 ∷ 111 ∷ schema_names ∷ 2 ∷ 1 ∷ 116 ∷ schema_names ∷ 2 ∷ 2 ∷ 104 ∷ schema_names ∷ 2 ∷ 3 ∷ 101 ∷ schema_names ∷ 2 ∷ 4 ∷ 114 ∷ [])
    -- tables of one schema
    ∷ (7 ∷ tables ∷ 2 ∷ table_begin_word ∷ 5 ∷ columns ∷ 3 ∷ column_begin_word ∷ 5 ∷ [])
    -- columns of one table
    ∷ (7 ∷ column_names ∷ 1 ∷ 0 ∷ 105 ∷ column_names ∷ 1 ∷ 1 ∷ 116 ∷ column_names ∷ 1 ∷ 2 ∷ 101 ∷ column_names ∷ 1 ∷ 3 ∷ 109 ∷ column_names ∷ 1 ∷ 4 ∷ 0 ∷ [])
    -- columns of one order
    ∷ (7 ∷ columns ∷ 1 ∷ column_order_word ∷ 0 ∷ [])
    -- Delete files of one data file, and their positions:
    -- a common live number
    ∷ (8 ∷ delete_files ∷ 0 ∷ delete_file_end_word ∷ 6 ∷ [])
    -- the later lacks a position of the earlier
    ∷ (8 ∷ positions ∷ 2 ∷ 0 ∷ 2 ∷ [])
    -- the later, of the lower id, lacks a position of the earlier
    ∷ (8 ∷ delete_files ∷ 0 ∷ delete_file_begin_word ∷ 5 ∷ delete_files ∷ 0 ∷ delete_file_end_word ∷ absent ∷ delete_files ∷ 1 ∷ delete_file_begin_word ∷ 3 ∷ delete_files ∷ 1 ∷ delete_file_end_word ∷ 5 ∷ [])
    -- positions that fall
    ∷ (8 ∷ positions ∷ 1 ∷ 0 ∷ 1 ∷ positions ∷ 2 ∷ 0 ∷ 0 ∷ [])
    -- a position twice
    ∷ (8 ∷ positions ∷ 1 ∷ 0 ∷ 1 ∷ [])
    -- a position past the file
    ∷ (8 ∷ positions ∷ 3 ∷ 0 ∷ 2 ∷ [])
    -- no position
    ∷ (8 ∷ delete_files ∷ 2 ∷ delete_file_delete_count_word ∷ 0 ∷ counts ∷ 0 ∷ positions ∷ 3 ∷ [])
    -- The delete counts add up to the used positions:
    -- a position more than the delete counts
    ∷ (8 ∷ counts ∷ 0 ∷ positions ∷ 5 ∷ [])
    -- a position fewer
    ∷ (8 ∷ counts ∷ 0 ∷ positions ∷ 3 ∷ [])
    -- delete counts whose sum wraps to the used positions
    ∷ (8 ∷ delete_files ∷ 0 ∷ delete_file_delete_count_word ∷ 18446744073709551615 ∷ delete_files ∷ 1 ∷ delete_file_delete_count_word ∷ 4 ∷ [])
    -- Row ranges:
    -- ranges that overlap
    ∷ (9 ∷ data_files ∷ 1 ∷ data_file_row_id_start_word ∷ 2 ∷ [])
    -- ranges that fall
    ∷ (9 ∷ data_files ∷ 0 ∷ data_file_row_id_start_word ∷ 7 ∷ [])
    -- a range that ends after the next row id
    ∷ (9 ∷ tables ∷ 0 ∷ table_next_row_id_word ∷ 6 ∷ [])
    -- the same, by far
    ∷ (9 ∷ data_files ∷ 1 ∷ data_file_row_id_start_word ∷ number_limit ∷ tables ∷ 0 ∷ table_next_row_id_word ∷ number_limit ∷ [])
    -- Statistics:
    -- a file without
    ∷ (10 ∷ counts ∷ 0 ∷ statistics ∷ 4 ∷ [])
    -- of a column that the table lacks
    ∷ (10 ∷ statistics ∷ 4 ∷ statistics_column_word ∷ 2 ∷ [])
    -- a record too many
    ∷ (10 ∷ counts ∷ 0 ∷ statistics ∷ 6 ∷ statistics ∷ 5 ∷ statistics_data_file_word ∷ 5 ∷ statistics ∷ 5 ∷ statistics_column_word ∷ 2 ∷ statistics ∷ 5 ∷ statistics_null_count_word ∷ 0 ∷ statistics ∷ 5 ∷ statistics_has_min_word ∷ 0 ∷ statistics ∷ 5 ∷ statistics_has_max_word ∷ 0 ∷ statistics ∷ 5 ∷ statistics_min_word ∷ 0 ∷ statistics ∷ 5 ∷ statistics_max_word ∷ 0 ∷ [])
    -- of a file that there isn't
    ∷ (10 ∷ counts ∷ 0 ∷ statistics ∷ 6 ∷ statistics ∷ 5 ∷ statistics_data_file_word ∷ 6 ∷ statistics ∷ 5 ∷ statistics_column_word ∷ 1 ∷ statistics ∷ 5 ∷ statistics_null_count_word ∷ 0 ∷ statistics ∷ 5 ∷ statistics_has_min_word ∷ 0 ∷ statistics ∷ 5 ∷ statistics_has_max_word ∷ 0 ∷ statistics ∷ 5 ∷ statistics_min_word ∷ 0 ∷ statistics ∷ 5 ∷ statistics_max_word ∷ 0 ∷ [])
    -- more nulls than rows
    ∷ (10 ∷ statistics ∷ 3 ∷ statistics_null_count_word ∷ 5 ∷ [])
    -- nulls where they aren't allowed
    ∷ (10 ∷ statistics ∷ 0 ∷ statistics_null_count_word ∷ 1 ∷ [])
    -- all null, with a min
    ∷ (10 ∷ statistics ∷ 3 ∷ statistics_has_min_word ∷ 1 ∷ [])
    -- all null, with a max
    ∷ (10 ∷ statistics ∷ 3 ∷ statistics_has_max_word ∷ 1 ∷ [])
    -- a min that is no flag
    ∷ (10 ∷ statistics ∷ 1 ∷ statistics_has_min_word ∷ 2 ∷ [])
    -- a max that is no flag
    ∷ (10 ∷ statistics ∷ 1 ∷ statistics_has_max_word ∷ 2 ∷ [])
    -- a min without its flag
    ∷ (10 ∷ statistics ∷ 3 ∷ statistics_min_word ∷ 3 ∷ [])
    -- a max without its flag
    ∷ (10 ∷ statistics ∷ 4 ∷ statistics_max_word ∷ 1 ∷ [])
    -- a min below the type
    ∷ (10 ∷ statistics ∷ 1 ∷ statistics_min_word ∷ 18446744073709551487 ∷ [])
    -- a max above the type
    ∷ (10 ∷ statistics ∷ 1 ∷ statistics_max_word ∷ 128 ∷ [])
    -- a min above the boolean
    ∷ (10 ∷ statistics ∷ 4 ∷ statistics_min_word ∷ 2 ∷ [])
    -- a min above the max
    ∷ (10 ∷ statistics ∷ 1 ∷ statistics_min_word ∷ 15 ∷ [])
    -- A table has live columns at each retained snapshot where it lives:
    -- a table without columns
    ∷ (11 ∷ counts ∷ 0 ∷ columns ∷ 3 ∷ [])
    -- Edges, and all sound:
    -- the tables as they are
    ∷ (0 ∷ [])
    -- the highest numbers
    ∷ (0 ∷ snapshots ∷ 5 ∷ snapshot_id_word ∷ number_limit ∷ snapshots ∷ 5 ∷ snapshot_schema_version_word ∷ number_limit ∷ snapshots ∷ 5 ∷ snapshot_next_catalog_id_word ∷ number_limit ∷ snapshots ∷ 5 ∷ snapshot_next_file_id_word ∷ number_limit ∷ tables ∷ 0 ∷ table_next_row_id_word ∷ number_limit ∷ columns ∷ 3 ∷ column_order_word ∷ number_limit ∷ [])
    -- the highest times
    ∷ (0 ∷ snapshots ∷ 4 ∷ snapshot_time_word ∷ 18446744073709551615 ∷ snapshots ∷ 5 ∷ snapshot_time_word ∷ 18446744073709551615 ∷ [])
    -- a name without padding
    ∷ (0 ∷ schema_names ∷ 0 ∷ 0 ∷ 90 ∷ schema_names ∷ 0 ∷ 1 ∷ 95 ∷ schema_names ∷ 0 ∷ 2 ∷ 57 ∷ schema_names ∷ 0 ∷ 3 ∷ 122 ∷ schema_names ∷ 0 ∷ 4 ∷ 90 ∷ schema_names ∷ 0 ∷ 5 ∷ 95 ∷ schema_names ∷ 0 ∷ 6 ∷ 57 ∷ schema_names ∷ 0 ∷ 7 ∷ 122 ∷ schema_names ∷ 0 ∷ 8 ∷ 90 ∷ schema_names ∷ 0 ∷ 9 ∷ 95 ∷ schema_names ∷ 0 ∷ 10 ∷ 57 ∷ schema_names ∷ 0 ∷ 11 ∷ 122 ∷ schema_names ∷ 0 ∷ 12 ∷ 90 ∷ schema_names ∷ 0 ∷ 13 ∷ 95 ∷ schema_names ∷ 0 ∷ 14 ∷ 57 ∷ schema_names ∷ 0 ∷ 15 ∷ 122 ∷ schema_names ∷ 0 ∷ 16 ∷ 90 ∷ schema_names ∷ 0 ∷ 17 ∷ 95 ∷ schema_names ∷ 0 ∷ 18 ∷ 57 ∷ schema_names ∷ 0 ∷ 19 ∷ 122 ∷ schema_names ∷ 0 ∷ 20 ∷ 90 ∷ schema_names ∷ 0 ∷ 21 ∷ 95 ∷ schema_names ∷ 0 ∷ 22 ∷ 57 ∷ schema_names ∷ 0 ∷ 23 ∷ 122 ∷ schema_names ∷ 0 ∷ 24 ∷ 90 ∷ schema_names ∷ 0 ∷ 25 ∷ 95 ∷ schema_names ∷ 0 ∷ 26 ∷ 57 ∷ schema_names ∷ 0 ∷ 27 ∷ 122 ∷ schema_names ∷ 0 ∷ 28 ∷ 90 ∷ schema_names ∷ 0 ∷ 29 ∷ 95 ∷ schema_names ∷ 0 ∷ 30 ∷ 57 ∷ schema_names ∷ 0 ∷ 31 ∷ 122 ∷ [])
    -- the most rows
    ∷ (0 ∷ data_files ∷ 1 ∷ data_file_record_count_word ∷ record_count_limit ∷ tables ∷ 0 ∷ table_next_row_id_word ∷ 1048579 ∷ [])
    -- a name again, after its schema ended
    ∷ (0 ∷ schemas ∷ 2 ∷ schema_begin_word ∷ 1 ∷ schemas ∷ 2 ∷ schema_end_word ∷ 3 ∷ schema_names ∷ 2 ∷ 0 ∷ 111 ∷ schema_names ∷ 2 ∷ 1 ∷ 116 ∷ schema_names ∷ 2 ∷ 2 ∷ 104 ∷ schema_names ∷ 2 ∷ 3 ∷ 101 ∷ schema_names ∷ 2 ∷ 4 ∷ 114 ∷ [])
    -- UUIDs of one remainder
    ∷ (0 ∷ scheduled ∷ 0 ∷ scheduled_uuid_low_word ∷ 65537 ∷ [])
    -- names of one key
    ∷ (0 ∷ schema_names ∷ 1 ∷ 0 ∷ 97 ∷ schema_names ∷ 1 ∷ 1 ∷ 98 ∷ schema_names ∷ 1 ∷ 2 ∷ 0 ∷ schema_names ∷ 1 ∷ 3 ∷ 0 ∷ schema_names ∷ 1 ∷ 4 ∷ 0 ∷ schema_names ∷ 2 ∷ 0 ∷ 98 ∷ schema_names ∷ 2 ∷ 1 ∷ 67 ∷ schema_names ∷ 2 ∷ 2 ∷ 0 ∷ [])
    -- scheduled ids of one remainder
    ∷ (0 ∷ snapshots ∷ 5 ∷ snapshot_next_file_id_word ∷ 65541 ∷ scheduled ∷ 1 ∷ scheduled_file_word ∷ 65540 ∷ [])
    -- a UUID in one half alike
    ∷ (0 ∷ scheduled ∷ 0 ∷ scheduled_uuid_high_word ∷ 9 ∷ scheduled ∷ 0 ∷ scheduled_uuid_low_word ∷ 1 ∷ [])
    -- the later of two delete files has the lower id
    ∷ (0 ∷ delete_files ∷ 0 ∷ delete_file_begin_word ∷ 5 ∷ delete_files ∷ 0 ∷ delete_file_end_word ∷ absent ∷ delete_files ∷ 0 ∷ delete_file_delete_count_word ∷ 2 ∷ delete_files ∷ 1 ∷ delete_file_begin_word ∷ 3 ∷ delete_files ∷ 1 ∷ delete_file_end_word ∷ 5 ∷ delete_files ∷ 1 ∷ delete_file_delete_count_word ∷ 1 ∷ positions ∷ 0 ∷ 0 ∷ 0 ∷ positions ∷ 1 ∷ 0 ∷ 1 ∷ positions ∷ 2 ∷ 0 ∷ 1 ∷ [])
    -- rows up to the next row id
    ∷ (0 ∷ tables ∷ 0 ∷ table_next_row_id_word ∷ 7 ∷ [])
    -- the whole range of a type
    ∷ (0 ∷ statistics ∷ 1 ∷ statistics_min_word ∷ 18446744073709551488 ∷ statistics ∷ 1 ∷ statistics_max_word ∷ 127 ∷ [])
    -- the whole range of the widest type
    ∷ (0 ∷ statistics ∷ 0 ∷ statistics_min_word ∷ 9223372036854775808 ∷ statistics ∷ 0 ∷ statistics_max_word ∷ 9223372036854775807 ∷ [])
    -- min and max alike
    ∷ (0 ∷ statistics ∷ 1 ∷ statistics_min_word ∷ 14 ∷ [])
    -- a max alone, and neither
    ∷ (0 ∷ statistics ∷ 0 ∷ statistics_has_min_word ∷ 0 ∷ statistics ∷ 0 ∷ statistics_min_word ∷ 0 ∷ statistics ∷ 1 ∷ statistics_has_min_word ∷ 0 ∷ statistics ∷ 1 ∷ statistics_has_max_word ∷ 0 ∷ statistics ∷ 1 ∷ statistics_min_word ∷ 0 ∷ statistics ∷ 1 ∷ statistics_max_word ∷ 0 ∷ [])
    -- nothing but the snapshots
    ∷ (0 ∷ counts ∷ 0 ∷ schemas ∷ 0 ∷ counts ∷ 0 ∷ tables ∷ 0 ∷ counts ∷ 0 ∷ columns ∷ 0 ∷ counts ∷ 0 ∷ data_files ∷ 0 ∷ counts ∷ 0 ∷ delete_files ∷ 0 ∷ counts ∷ 0 ∷ positions ∷ 0 ∷ counts ∷ 0 ∷ statistics ∷ 0 ∷ counts ∷ 0 ∷ scheduled ∷ 0 ∷ [])
    -- other words past the used counts
    ∷ (0 ∷ snapshots ∷ 6 ∷ snapshot_id_word ∷ 18446744073709551615 ∷ columns ∷ 4 ∷ column_id_word ∷ 18446744073709551615 ∷ positions ∷ 4 ∷ 0 ∷ 18446744073709551615 ∷ scheduled ∷ 2 ∷ scheduled_file_word ∷ 18446744073709551615 ∷ schema_names ∷ 3 ∷ 0 ∷ 255 ∷ [])
    ∷ []

-- cases that break more lines than one, in the same form: the first is named
unfoldable pub several : List (List ℕ)
several =
    -- a change kind that is none, and a position more than the delete counts
    (2 ∷ snapshots ∷ 2 ∷ snapshot_kind_word ∷ 5 ∷ counts ∷ 0 ∷ positions ∷ 5 ∷ [])
    -- a schema that begins after the latest snapshot, with the id of the one before
    ∷ (3 ∷ schemas ∷ 2 ∷ schema_id_word ∷ 2 ∷ schemas ∷ 2 ∷ schema_begin_word ∷ 9 ∷ [])
    -- two data files with one UUID, and a table of no schema
    ∷ (5 ∷ tables ∷ 1 ∷ table_schema_word ∷ 99 ∷ data_files ∷ 1 ∷ data_file_uuid_low_word ∷ 1 ∷ [])
    -- a position fewer than the delete counts, and more nulls than rows
    ∷ (8 ∷ statistics ∷ 0 ∷ statistics_null_count_word ∷ 9 ∷ counts ∷ 0 ∷ positions ∷ 3 ∷ [])
    ∷ []

-- the session, from runs of zeros: the records that each call changes, as above
unfoldable pub session : List (List ℕ)
session =
    -- fresh
    (snapshots ∷ 0 ∷ 0 ∷ 100 ∷ 0 ∷ 1 ∷ 0 ∷ 1 ∷ 0 ∷ [])
    ∷ (schemas ∷ 0 ∷ 0 ∷ 0 ∷ absent ∷ [])
    ∷ (counts ∷ 0 ∷ 1 ∷ 1 ∷ 0 ∷ 0 ∷ 0 ∷ 0 ∷ 0 ∷ 0 ∷ 0 ∷ [])
    ∷ (schema_names ∷ 0 ∷ 109 ∷ 97 ∷ 105 ∷ 110 ∷ [])
    ∷ done
    -- create table
    ∷ (snapshots ∷ 1 ∷ 1 ∷ 110 ∷ 1 ∷ 2 ∷ 0 ∷ 2 ∷ 1 ∷ [])
    ∷ (tables ∷ 0 ∷ 1 ∷ 1 ∷ absent ∷ 0 ∷ 0 ∷ [])
    ∷ (columns ∷ 0 ∷ 1 ∷ 1 ∷ 1 ∷ absent ∷ 0 ∷ 4 ∷ 0 ∷ [])
    ∷ (columns ∷ 1 ∷ 2 ∷ 1 ∷ 1 ∷ absent ∷ 1 ∷ 4 ∷ 1 ∷ [])
    ∷ (counts ∷ 0 ∷ 2 ∷ 1 ∷ 1 ∷ 2 ∷ 0 ∷ 0 ∷ 0 ∷ 0 ∷ 0 ∷ [])
    ∷ (table_names ∷ 0 ∷ 100 ∷ 105 ∷ 97 ∷ 114 ∷ 121 ∷ [])
    ∷ (column_names ∷ 0 ∷ 105 ∷ 116 ∷ 101 ∷ 109 ∷ [])
    ∷ (column_names ∷ 1 ∷ 112 ∷ 114 ∷ 105 ∷ 99 ∷ 101 ∷ [])
    ∷ done
    -- insert
    ∷ (snapshots ∷ 2 ∷ 2 ∷ 120 ∷ 1 ∷ 2 ∷ 1 ∷ 3 ∷ 1 ∷ [])
    ∷ (tables ∷ 0 ∷ 1 ∷ 1 ∷ absent ∷ 0 ∷ 3 ∷ [])
    ∷ (data_files ∷ 0 ∷ 0 ∷ 1 ∷ 2 ∷ absent ∷ 3 ∷ 0 ∷ 0 ∷ 1 ∷ [])
    ∷ (statistics ∷ 0 ∷ 0 ∷ 1 ∷ 0 ∷ 1 ∷ 1 ∷ 1 ∷ 3 ∷ [])
    ∷ (statistics ∷ 1 ∷ 0 ∷ 2 ∷ 0 ∷ 1 ∷ 1 ∷ 9 ∷ 14 ∷ [])
    ∷ (counts ∷ 0 ∷ 3 ∷ 1 ∷ 1 ∷ 2 ∷ 1 ∷ 0 ∷ 0 ∷ 2 ∷ 0 ∷ [])
    ∷ done
    -- insert
    ∷ (snapshots ∷ 3 ∷ 3 ∷ 130 ∷ 1 ∷ 2 ∷ 2 ∷ 3 ∷ 1 ∷ [])
    ∷ (tables ∷ 0 ∷ 1 ∷ 1 ∷ absent ∷ 0 ∷ 5 ∷ [])
    ∷ (data_files ∷ 1 ∷ 1 ∷ 1 ∷ 3 ∷ absent ∷ 2 ∷ 3 ∷ 0 ∷ 2 ∷ [])
    ∷ (statistics ∷ 2 ∷ 1 ∷ 1 ∷ 0 ∷ 1 ∷ 1 ∷ 4 ∷ 5 ∷ [])
    ∷ (statistics ∷ 3 ∷ 1 ∷ 2 ∷ 1 ∷ 1 ∷ 1 ∷ 20 ∷ 20 ∷ [])
    ∷ (counts ∷ 0 ∷ 4 ∷ 1 ∷ 1 ∷ 2 ∷ 2 ∷ 0 ∷ 0 ∷ 4 ∷ 0 ∷ [])
    ∷ done
    -- delete
    ∷ (snapshots ∷ 4 ∷ 4 ∷ 140 ∷ 1 ∷ 2 ∷ 3 ∷ 4 ∷ 1 ∷ [])
    ∷ (delete_files ∷ 0 ∷ 2 ∷ 1 ∷ 4 ∷ absent ∷ 0 ∷ 1 ∷ 0 ∷ 3 ∷ [])
    ∷ (positions ∷ 0 ∷ 1 ∷ 0 ∷ 0 ∷ 0 ∷ [])
    ∷ (counts ∷ 0 ∷ 5 ∷ 1 ∷ 1 ∷ 2 ∷ 2 ∷ 1 ∷ 1 ∷ 4 ∷ 0 ∷ [])
    ∷ done
    -- delete
    ∷ (snapshots ∷ 5 ∷ 5 ∷ 150 ∷ 1 ∷ 2 ∷ 4 ∷ 4 ∷ 1 ∷ [])
    ∷ (delete_files ∷ 0 ∷ 2 ∷ 1 ∷ 4 ∷ 5 ∷ 0 ∷ 1 ∷ 0 ∷ 3 ∷ [])
    ∷ (delete_files ∷ 1 ∷ 3 ∷ 1 ∷ 5 ∷ absent ∷ 0 ∷ 2 ∷ 0 ∷ 4 ∷ [])
    ∷ (positions ∷ 0 ∷ 1 ∷ 0 ∷ 1 ∷ 0 ∷ [])
    ∷ (counts ∷ 0 ∷ 6 ∷ 1 ∷ 1 ∷ 2 ∷ 2 ∷ 2 ∷ 3 ∷ 4 ∷ 0 ∷ [])
    ∷ done
    -- expire
    ∷ (snapshots ∷ 4 ∷ 5 ∷ 150 ∷ 1 ∷ 2 ∷ 4 ∷ 4 ∷ 1 ∷ [])
    ∷ (snapshots ∷ 5 ∷ 0 ∷ 0 ∷ 0 ∷ 0 ∷ 0 ∷ 0 ∷ 0 ∷ [])
    ∷ (delete_files ∷ 0 ∷ 3 ∷ 1 ∷ 5 ∷ absent ∷ 0 ∷ 2 ∷ 0 ∷ 4 ∷ [])
    ∷ (delete_files ∷ 1 ∷ 0 ∷ 0 ∷ 0 ∷ 0 ∷ 0 ∷ 0 ∷ 0 ∷ 0 ∷ [])
    ∷ (positions ∷ 0 ∷ 0 ∷ 1 ∷ 0 ∷ 0 ∷ [])
    ∷ (scheduled ∷ 0 ∷ 2 ∷ 0 ∷ 3 ∷ 160 ∷ [])
    ∷ (counts ∷ 0 ∷ 5 ∷ 1 ∷ 1 ∷ 2 ∷ 2 ∷ 1 ∷ 2 ∷ 4 ∷ 1 ∷ [])
    ∷ done
    -- clean up, too early
    ∷ done
    -- clean up
    ∷ (scheduled ∷ 0 ∷ 0 ∷ 0 ∷ 0 ∷ 0 ∷ [])
    ∷ (counts ∷ 0 ∷ 5 ∷ 1 ∷ 1 ∷ 2 ∷ 2 ∷ 1 ∷ 2 ∷ 4 ∷ 0 ∷ [])
    ∷ done
    -- drop table
    ∷ (snapshots ∷ 5 ∷ 6 ∷ 170 ∷ 2 ∷ 2 ∷ 4 ∷ 7 ∷ 1 ∷ [])
    ∷ (tables ∷ 0 ∷ 1 ∷ 1 ∷ 6 ∷ 0 ∷ 5 ∷ [])
    ∷ (columns ∷ 0 ∷ 1 ∷ 1 ∷ 1 ∷ 6 ∷ 0 ∷ 4 ∷ 0 ∷ [])
    ∷ (columns ∷ 1 ∷ 2 ∷ 1 ∷ 1 ∷ 6 ∷ 1 ∷ 4 ∷ 1 ∷ [])
    ∷ (data_files ∷ 0 ∷ 0 ∷ 1 ∷ 2 ∷ 6 ∷ 3 ∷ 0 ∷ 0 ∷ 1 ∷ [])
    ∷ (data_files ∷ 1 ∷ 1 ∷ 1 ∷ 3 ∷ 6 ∷ 2 ∷ 3 ∷ 0 ∷ 2 ∷ [])
    ∷ (delete_files ∷ 0 ∷ 3 ∷ 1 ∷ 5 ∷ 6 ∷ 0 ∷ 2 ∷ 0 ∷ 4 ∷ [])
    ∷ (counts ∷ 0 ∷ 6 ∷ 1 ∷ 1 ∷ 2 ∷ 2 ∷ 1 ∷ 2 ∷ 4 ∷ 0 ∷ [])
    ∷ done
    -- expire all but the latest
    ∷ (snapshots ∷ 0 ∷ 6 ∷ 170 ∷ 2 ∷ 2 ∷ 4 ∷ 7 ∷ 1 ∷ [])
    ∷ (snapshots ∷ 1 ∷ 0 ∷ 0 ∷ 0 ∷ 0 ∷ 0 ∷ 0 ∷ 0 ∷ [])
    ∷ (snapshots ∷ 2 ∷ 0 ∷ 0 ∷ 0 ∷ 0 ∷ 0 ∷ 0 ∷ 0 ∷ [])
    ∷ (snapshots ∷ 3 ∷ 0 ∷ 0 ∷ 0 ∷ 0 ∷ 0 ∷ 0 ∷ 0 ∷ [])
    ∷ (snapshots ∷ 4 ∷ 0 ∷ 0 ∷ 0 ∷ 0 ∷ 0 ∷ 0 ∷ 0 ∷ [])
    ∷ (snapshots ∷ 5 ∷ 0 ∷ 0 ∷ 0 ∷ 0 ∷ 0 ∷ 0 ∷ 0 ∷ [])
    ∷ (tables ∷ 0 ∷ 0 ∷ 0 ∷ 0 ∷ 0 ∷ 0 ∷ [])
    ∷ (columns ∷ 0 ∷ 0 ∷ 0 ∷ 0 ∷ 0 ∷ 0 ∷ 0 ∷ 0 ∷ [])
    ∷ (columns ∷ 1 ∷ 0 ∷ 0 ∷ 0 ∷ 0 ∷ 0 ∷ 0 ∷ 0 ∷ [])
    ∷ (data_files ∷ 0 ∷ 0 ∷ 0 ∷ 0 ∷ 0 ∷ 0 ∷ 0 ∷ 0 ∷ 0 ∷ [])
    ∷ (data_files ∷ 1 ∷ 0 ∷ 0 ∷ 0 ∷ 0 ∷ 0 ∷ 0 ∷ 0 ∷ 0 ∷ [])
    ∷ (delete_files ∷ 0 ∷ 0 ∷ 0 ∷ 0 ∷ 0 ∷ 0 ∷ 0 ∷ 0 ∷ 0 ∷ [])
    ∷ (positions ∷ 0 ∷ 0 ∷ 0 ∷ 0 ∷ 0 ∷ [])
    ∷ (statistics ∷ 0 ∷ 0 ∷ 0 ∷ 0 ∷ 0 ∷ 0 ∷ 0 ∷ 0 ∷ [])
    ∷ (statistics ∷ 1 ∷ 0 ∷ 0 ∷ 0 ∷ 0 ∷ 0 ∷ 0 ∷ 0 ∷ [])
    ∷ (statistics ∷ 2 ∷ 0 ∷ 0 ∷ 0 ∷ 0 ∷ 0 ∷ 0 ∷ 0 ∷ [])
    ∷ (statistics ∷ 3 ∷ 0 ∷ 0 ∷ 0 ∷ 0 ∷ 0 ∷ 0 ∷ 0 ∷ [])
    ∷ (scheduled ∷ 0 ∷ 0 ∷ 0 ∷ 1 ∷ 180 ∷ [])
    ∷ (scheduled ∷ 1 ∷ 1 ∷ 0 ∷ 2 ∷ 180 ∷ [])
    ∷ (scheduled ∷ 2 ∷ 3 ∷ 0 ∷ 4 ∷ 180 ∷ [])
    ∷ (counts ∷ 0 ∷ 1 ∷ 1 ∷ 0 ∷ 0 ∷ 0 ∷ 0 ∷ 0 ∷ 0 ∷ 3 ∷ [])
    ∷ (table_names ∷ 0 ∷ 0 ∷ 0 ∷ 0 ∷ 0 ∷ 0 ∷ [])
    ∷ (column_names ∷ 0 ∷ 0 ∷ 0 ∷ 0 ∷ 0 ∷ [])
    ∷ (column_names ∷ 1 ∷ 0 ∷ 0 ∷ 0 ∷ 0 ∷ 0 ∷ [])
    ∷ done
    ∷ []
