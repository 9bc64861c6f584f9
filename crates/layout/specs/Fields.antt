-- The words of each record: "fields in this order". A size is the number of them, and the word of a field is counted from the record's first.
use Rattle.std.specs.Prelude.{ℕ}

-- "snapshot: id, time (microseconds since 1970, every word allowed), schema_version, next_catalog_id, next_file_id, change kind, change object"

abbrev pub snapshot_size : ℕ
snapshot_size = 7

abbrev pub snapshot_id_word : ℕ
snapshot_id_word = 0

abbrev pub snapshot_time_word : ℕ
snapshot_time_word = 1

abbrev pub snapshot_schema_version_word : ℕ
snapshot_schema_version_word = 2

abbrev pub snapshot_next_catalog_id_word : ℕ
snapshot_next_catalog_id_word = 3

abbrev pub snapshot_next_file_id_word : ℕ
snapshot_next_file_id_word = 4

abbrev pub snapshot_kind_word : ℕ
snapshot_kind_word = 5

abbrev pub snapshot_object_word : ℕ
snapshot_object_word = 6

-- "schema: id, begin, end; and a name"

abbrev pub schema_size : ℕ
schema_size = 3

abbrev pub schema_id_word : ℕ
schema_id_word = 0

abbrev pub schema_begin_word : ℕ
schema_begin_word = 1

abbrev pub schema_end_word : ℕ
schema_end_word = 2

-- "table: id, begin, end, schema id, next_row_id; and a name"

abbrev pub table_size : ℕ
table_size = 5

abbrev pub table_id_word : ℕ
table_id_word = 0

abbrev pub table_begin_word : ℕ
table_begin_word = 1

abbrev pub table_end_word : ℕ
table_end_word = 2

abbrev pub table_schema_word : ℕ
table_schema_word = 3

abbrev pub table_next_row_id_word : ℕ
table_next_row_id_word = 4

-- "column: id, table id, begin, end, column_order, type, nulls_allowed (0 or 1); and a name"

abbrev pub column_size : ℕ
column_size = 7

abbrev pub column_id_word : ℕ
column_id_word = 0

abbrev pub column_table_word : ℕ
column_table_word = 1

abbrev pub column_begin_word : ℕ
column_begin_word = 2

abbrev pub column_end_word : ℕ
column_end_word = 3

abbrev pub column_order_word : ℕ
column_order_word = 4

abbrev pub column_type_code_word : ℕ
column_type_code_word = 5

abbrev pub column_nulls_allowed_word : ℕ
column_nulls_allowed_word = 6

-- "data file: id, table id, begin, end, record_count, row_id_start, UUID high word, UUID low word"

abbrev pub data_file_size : ℕ
data_file_size = 8

abbrev pub data_file_id_word : ℕ
data_file_id_word = 0

abbrev pub data_file_table_word : ℕ
data_file_table_word = 1

abbrev pub data_file_begin_word : ℕ
data_file_begin_word = 2

abbrev pub data_file_end_word : ℕ
data_file_end_word = 3

abbrev pub data_file_record_count_word : ℕ
data_file_record_count_word = 4

abbrev pub data_file_row_id_start_word : ℕ
data_file_row_id_start_word = 5

abbrev pub data_file_uuid_high_word : ℕ
data_file_uuid_high_word = 6

abbrev pub data_file_uuid_low_word : ℕ
data_file_uuid_low_word = 7

-- "delete file: id, table id, begin, end, data file id, delete_count, UUID high, UUID low"

abbrev pub delete_file_size : ℕ
delete_file_size = 8

abbrev pub delete_file_id_word : ℕ
delete_file_id_word = 0

abbrev pub delete_file_table_word : ℕ
delete_file_table_word = 1

abbrev pub delete_file_begin_word : ℕ
delete_file_begin_word = 2

abbrev pub delete_file_end_word : ℕ
delete_file_end_word = 3

abbrev pub delete_file_data_file_word : ℕ
delete_file_data_file_word = 4

abbrev pub delete_file_delete_count_word : ℕ
delete_file_delete_count_word = 5

abbrev pub delete_file_uuid_high_word : ℕ
delete_file_uuid_high_word = 6

abbrev pub delete_file_uuid_low_word : ℕ
delete_file_uuid_low_word = 7

-- "statistics: data file id, column id, null_count, has_min, has_max (0 or 1); and signed 64-bit (two's complement) min and max"

abbrev pub statistics_size : ℕ
statistics_size = 7

abbrev pub statistics_data_file_word : ℕ
statistics_data_file_word = 0

abbrev pub statistics_column_word : ℕ
statistics_column_word = 1

abbrev pub statistics_null_count_word : ℕ
statistics_null_count_word = 2

abbrev pub statistics_has_min_word : ℕ
statistics_has_min_word = 3

abbrev pub statistics_has_max_word : ℕ
statistics_has_max_word = 4

abbrev pub statistics_min_word : ℕ
statistics_min_word = 5

abbrev pub statistics_max_word : ℕ
statistics_max_word = 6

-- "scheduled: file id, UUID high, UUID low, schedule_start (a time)"

abbrev pub scheduled_size : ℕ
scheduled_size = 4

abbrev pub scheduled_file_word : ℕ
scheduled_file_word = 0

abbrev pub scheduled_uuid_high_word : ℕ
scheduled_uuid_high_word = 1

abbrev pub scheduled_uuid_low_word : ℕ
scheduled_uuid_low_word = 2

abbrev pub scheduled_schedule_start_word : ℕ
scheduled_schedule_start_word = 3
