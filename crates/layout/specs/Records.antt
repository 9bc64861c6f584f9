-- How each record of document 01 lies in its run: "A table is a lent run of unsigned 64-bit words, one record after another, fields in this
-- order." Names and positions lie in runs of their own (Words).
use Rattle.std.specs.Prelude.{ℕ, ◌+◌, List, [], ◌∷◌, get_or}
use Rattle.lists.specs.Runs.{Layout}
use Rattle.layout.specs.declared.number.SnapshotId.{SnapshotId}
use Rattle.layout.specs.declared.number.CatalogId.{CatalogId}
use Rattle.layout.specs.declared.number.FileId.{FileId}
use Rattle.layout.specs.declared.number.RowId.{RowId}
use Rattle.layout.specs.declared.record.Uuid.{Uuid}
use Rattle.layout.specs.declared.record.SnapshotRecord.{SnapshotRecord}
use Rattle.layout.specs.declared.record.SchemaRecord.{SchemaRecord}
use Rattle.layout.specs.declared.record.TableRecord.{TableRecord}
use Rattle.layout.specs.declared.record.ColumnRecord.{ColumnRecord}
use Rattle.layout.specs.declared.record.DataFileRecord.{DataFileRecord}
use Rattle.layout.specs.declared.record.DeleteFileRecord.{DeleteFileRecord}
use Rattle.layout.specs.declared.record.StatisticsRecord.{StatisticsRecord}
use Rattle.layout.specs.declared.record.ScheduledRecord.{ScheduledRecord}
use Rattle.layout.specs.Fields.{snapshot_size, snapshot_id_word, snapshot_time_word, snapshot_schema_version_word, snapshot_next_catalog_id_word, snapshot_next_file_id_word, snapshot_kind_word, snapshot_object_word, schema_size, schema_id_word, schema_begin_word, schema_end_word, table_size, table_id_word, table_begin_word, table_end_word, table_schema_word, table_next_row_id_word, column_size, column_id_word, column_table_word, column_begin_word, column_end_word, column_order_word, column_type_code_word, column_nulls_allowed_word, data_file_size, data_file_id_word, data_file_table_word, data_file_begin_word, data_file_end_word, data_file_record_count_word, data_file_row_id_start_word, data_file_uuid_high_word, data_file_uuid_low_word, delete_file_size, delete_file_id_word, delete_file_table_word, delete_file_begin_word, delete_file_end_word, delete_file_data_file_word, delete_file_delete_count_word, delete_file_uuid_high_word, delete_file_uuid_low_word, statistics_size, statistics_data_file_word, statistics_column_word, statistics_null_count_word, statistics_has_min_word, statistics_has_max_word, statistics_min_word, statistics_max_word, scheduled_size, scheduled_file_word, scheduled_uuid_high_word, scheduled_uuid_low_word, scheduled_schedule_start_word}

-- "one type each for snapshot, catalog, file and row numbers"
abbrev pub snapshot_id : ℕ → SnapshotId
snapshot_id n = record { 0 = n }

abbrev pub catalog_id : ℕ → CatalogId
catalog_id n = record { 0 = n }

abbrev pub file_id : ℕ → FileId
file_id n = record { 0 = n }

abbrev pub row_id : ℕ → RowId
row_id n = record { 0 = n }

abbrev pub uuid_of : ℕ → ℕ → Uuid
uuid_of h l = record { high = h; low = l }

-- "snapshot: id, time (microseconds since 1970, every word allowed), schema_version, next_catalog_id, next_file_id, change kind, change object"
abbrev pub read_snapshot : List ℕ → ℕ → SnapshotRecord
read_snapshot w k = record {
  id = snapshot_id (get_or w (k + snapshot_id_word) 0);
  time = get_or w (k + snapshot_time_word) 0;
  schema_version = get_or w (k + snapshot_schema_version_word) 0;
  next_catalog_id = catalog_id (get_or w (k + snapshot_next_catalog_id_word) 0);
  next_file_id = file_id (get_or w (k + snapshot_next_file_id_word) 0);
  kind = get_or w (k + snapshot_kind_word) 0;
  object = catalog_id (get_or w (k + snapshot_object_word) 0);
}

unfoldable pub snapshot_words : SnapshotRecord → List ℕ
snapshot_words r = r.id.0 ∷ r.time ∷ r.schema_version ∷ r.next_catalog_id.0 ∷ r.next_file_id.0 ∷ r.kind ∷ r.object.0 ∷ []

abbrev pub snapshot_layout : Layout SnapshotRecord
snapshot_layout = record { size = snapshot_size; read = read_snapshot; words = snapshot_words }

-- "schema: id, begin, end; and a name"
abbrev pub read_schema : List ℕ → ℕ → SchemaRecord
read_schema w k = record {
  id = catalog_id (get_or w (k + schema_id_word) 0);
  begin = snapshot_id (get_or w (k + schema_begin_word) 0);
  end = snapshot_id (get_or w (k + schema_end_word) 0);
}

unfoldable pub schema_words : SchemaRecord → List ℕ
schema_words r = r.id.0 ∷ r.begin.0 ∷ r.end.0 ∷ []

abbrev pub schema_layout : Layout SchemaRecord
schema_layout = record { size = schema_size; read = read_schema; words = schema_words }

-- "table: id, begin, end, schema id, next_row_id; and a name"
abbrev pub read_table : List ℕ → ℕ → TableRecord
read_table w k = record {
  id = catalog_id (get_or w (k + table_id_word) 0);
  begin = snapshot_id (get_or w (k + table_begin_word) 0);
  end = snapshot_id (get_or w (k + table_end_word) 0);
  schema = catalog_id (get_or w (k + table_schema_word) 0);
  next_row_id = row_id (get_or w (k + table_next_row_id_word) 0);
}

unfoldable pub table_words : TableRecord → List ℕ
table_words r = r.id.0 ∷ r.begin.0 ∷ r.end.0 ∷ r.schema.0 ∷ r.next_row_id.0 ∷ []

abbrev pub table_layout : Layout TableRecord
table_layout = record { size = table_size; read = read_table; words = table_words }

-- "column: id, table id, begin, end, column_order, type, nulls_allowed (0 or 1); and a name"
abbrev pub read_column : List ℕ → ℕ → ColumnRecord
read_column w k = record {
  id = get_or w (k + column_id_word) 0;
  table = catalog_id (get_or w (k + column_table_word) 0);
  begin = snapshot_id (get_or w (k + column_begin_word) 0);
  end = snapshot_id (get_or w (k + column_end_word) 0);
  order = get_or w (k + column_order_word) 0;
  type_code = get_or w (k + column_type_code_word) 0;
  nulls_allowed = get_or w (k + column_nulls_allowed_word) 0;
}

unfoldable pub column_words : ColumnRecord → List ℕ
column_words r = r.id ∷ r.table.0 ∷ r.begin.0 ∷ r.end.0 ∷ r.order ∷ r.type_code ∷ r.nulls_allowed ∷ []

abbrev pub column_layout : Layout ColumnRecord
column_layout = record { size = column_size; read = read_column; words = column_words }

-- "data file: id, table id, begin, end, record_count, row_id_start, UUID high word, UUID low word"
abbrev pub read_data_file : List ℕ → ℕ → DataFileRecord
read_data_file w k = record {
  id = file_id (get_or w (k + data_file_id_word) 0);
  table = catalog_id (get_or w (k + data_file_table_word) 0);
  begin = snapshot_id (get_or w (k + data_file_begin_word) 0);
  end = snapshot_id (get_or w (k + data_file_end_word) 0);
  record_count = get_or w (k + data_file_record_count_word) 0;
  row_id_start = row_id (get_or w (k + data_file_row_id_start_word) 0);
  uuid = uuid_of (get_or w (k + data_file_uuid_high_word) 0) (get_or w (k + data_file_uuid_low_word) 0);
}

unfoldable pub data_file_words : DataFileRecord → List ℕ
data_file_words r = r.id.0 ∷ r.table.0 ∷ r.begin.0 ∷ r.end.0 ∷ r.record_count ∷ r.row_id_start.0 ∷ r.uuid.high ∷ r.uuid.low ∷ []

abbrev pub data_file_layout : Layout DataFileRecord
data_file_layout = record { size = data_file_size; read = read_data_file; words = data_file_words }

-- "delete file: id, table id, begin, end, data file id, delete_count, UUID high, UUID low"
abbrev pub read_delete_file : List ℕ → ℕ → DeleteFileRecord
read_delete_file w k = record {
  id = file_id (get_or w (k + delete_file_id_word) 0);
  table = catalog_id (get_or w (k + delete_file_table_word) 0);
  begin = snapshot_id (get_or w (k + delete_file_begin_word) 0);
  end = snapshot_id (get_or w (k + delete_file_end_word) 0);
  data_file = file_id (get_or w (k + delete_file_data_file_word) 0);
  delete_count = get_or w (k + delete_file_delete_count_word) 0;
  uuid = uuid_of (get_or w (k + delete_file_uuid_high_word) 0) (get_or w (k + delete_file_uuid_low_word) 0);
}

unfoldable pub delete_file_words : DeleteFileRecord → List ℕ
delete_file_words r = r.id.0 ∷ r.table.0 ∷ r.begin.0 ∷ r.end.0 ∷ r.data_file.0 ∷ r.delete_count ∷ r.uuid.high ∷ r.uuid.low ∷ []

abbrev pub delete_file_layout : Layout DeleteFileRecord
delete_file_layout = record { size = delete_file_size; read = read_delete_file; words = delete_file_words }

-- "statistics: data file id, column id, null_count, has_min, has_max (0 or 1); and signed 64-bit (two's complement) min and max"
abbrev pub read_statistics : List ℕ → ℕ → StatisticsRecord
read_statistics w k = record {
  data_file = file_id (get_or w (k + statistics_data_file_word) 0);
  column = get_or w (k + statistics_column_word) 0;
  null_count = get_or w (k + statistics_null_count_word) 0;
  has_min = get_or w (k + statistics_has_min_word) 0;
  has_max = get_or w (k + statistics_has_max_word) 0;
  min = get_or w (k + statistics_min_word) 0;
  max = get_or w (k + statistics_max_word) 0;
}

unfoldable pub statistics_words : StatisticsRecord → List ℕ
statistics_words r = r.data_file.0 ∷ r.column ∷ r.null_count ∷ r.has_min ∷ r.has_max ∷ r.min ∷ r.max ∷ []

abbrev pub statistics_layout : Layout StatisticsRecord
statistics_layout = record { size = statistics_size; read = read_statistics; words = statistics_words }

-- "scheduled: file id, UUID high, UUID low, schedule_start (a time)"
abbrev pub read_scheduled : List ℕ → ℕ → ScheduledRecord
read_scheduled w k = record {
  file = file_id (get_or w (k + scheduled_file_word) 0);
  uuid = uuid_of (get_or w (k + scheduled_uuid_high_word) 0) (get_or w (k + scheduled_uuid_low_word) 0);
  schedule_start = get_or w (k + scheduled_schedule_start_word) 0;
}

unfoldable pub scheduled_words : ScheduledRecord → List ℕ
scheduled_words r = r.file.0 ∷ r.uuid.high ∷ r.uuid.low ∷ r.schedule_start ∷ []

abbrev pub scheduled_layout : Layout ScheduledRecord
scheduled_layout = record { size = scheduled_size; read = read_scheduled; words = scheduled_words }
