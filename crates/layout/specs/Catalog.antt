-- What the lent tables mean: lists of records. A record with a life is versioned; a name is the 32 bytes of its place; a delete file carries
-- its own positions.
use Rattle.std.specs.Prelude.{ℕ, ◌^◌, ◌-◌, List, length}
use Rattle.layout.specs.declared.record.Uuid.{Uuid}
use Rattle.layout.specs.declared.record.SnapshotRecord.{SnapshotRecord}
use Rattle.layout.specs.declared.record.SchemaRecord.{SchemaRecord}
use Rattle.layout.specs.declared.record.TableRecord.{TableRecord}
use Rattle.layout.specs.declared.record.ColumnRecord.{ColumnRecord}
use Rattle.layout.specs.declared.record.DataFileRecord.{DataFileRecord}
use Rattle.layout.specs.declared.record.DeleteFileRecord.{DeleteFileRecord}
use Rattle.layout.specs.declared.record.StatisticsRecord.{StatisticsRecord}
use Rattle.layout.specs.declared.record.ScheduledRecord.{ScheduledRecord}
use Rattle.layout.specs.Records.{snapshot_id, catalog_id, file_id, row_id}

-- "ABSENT is 2^64 − 1"
abbrev pub absent : ℕ
absent = 2 ^ 64 - 1

-- "Ids, next ids, row numbers, column orders and schema versions are at most 2^62."
abbrev pub number_limit : ℕ
number_limit = 2 ^ 62

-- "record_count is 1 to 1,048,576."
abbrev pub record_count_limit : ℕ
record_count_limit = 1048576

-- "A table has 1 to 16 live columns at each retained snapshot where it lives."
abbrev pub column_limit : ℕ
column_limit = 16

pub record Versioned (A : Type 0) : Type 0 where
  pub id : ℕ
  pub begin : ℕ
  pub end : ℕ
  pub body : A

pub record Snapshot : Type 0 where
  pub id : ℕ
  pub time : ℕ
  pub schema_version : ℕ
  pub next_catalog_id : ℕ
  pub next_file_id : ℕ
  pub kind : ℕ
  pub object : ℕ

pub record Schema : Type 0 where
  pub name : List ℕ

pub record Table : Type 0 where
  pub schema : ℕ
  pub next_row_id : ℕ
  pub name : List ℕ

pub record Column : Type 0 where
  pub table : ℕ
  pub order : ℕ
  pub type_code : ℕ
  pub nulls_allowed : ℕ
  pub name : List ℕ

pub record DataFile : Type 0 where
  pub table : ℕ
  pub record_count : ℕ
  pub row_id_start : ℕ
  pub uuid : Uuid

pub record DeleteFile : Type 0 where
  pub table : ℕ
  pub data_file : ℕ
  pub positions : List ℕ
  pub uuid : Uuid

-- bounds as their words, read as signed numbers where they are compared
pub record Statistics : Type 0 where
  pub data_file : ℕ
  pub column : ℕ
  pub null_count : ℕ
  pub has_min : ℕ
  pub has_max : ℕ
  pub min : ℕ
  pub max : ℕ

pub record Scheduled : Type 0 where
  pub file : ℕ
  pub uuid : Uuid
  pub start : ℕ

pub record Catalog : Type 0 where
  pub snapshots : List Snapshot
  pub schemas : List (Versioned Schema)
  pub tables : List (Versioned Table)
  pub columns : List (Versioned Column)
  pub data_files : List (Versioned DataFile)
  pub delete_files : List (Versioned DeleteFile)
  pub statistics : List Statistics
  pub scheduled : List Scheduled

-- A record of a run, with what lies beside it, and what it means.

abbrev pub snapshot_of : SnapshotRecord → Snapshot
snapshot_of r = record {
  id = r.id.0;
  time = r.time;
  schema_version = r.schema_version;
  next_catalog_id = r.next_catalog_id.0;
  next_file_id = r.next_file_id.0;
  kind = r.kind;
  object = r.object.0;
}

abbrev pub snapshot_record : Snapshot → SnapshotRecord
snapshot_record n = record {
  id = snapshot_id n.id;
  time = n.time;
  schema_version = n.schema_version;
  next_catalog_id = catalog_id n.next_catalog_id;
  next_file_id = file_id n.next_file_id;
  kind = n.kind;
  object = catalog_id n.object;
}

abbrev pub schema_of : SchemaRecord → List ℕ → Versioned Schema
schema_of r name = record { id = r.id.0; begin = r.begin.0; end = r.end.0; body = record { name = name } }

abbrev pub schema_record : Versioned Schema → SchemaRecord
schema_record v = record { id = catalog_id v.id; begin = snapshot_id v.begin; end = snapshot_id v.end }

abbrev pub table_of : TableRecord → List ℕ → Versioned Table
table_of r name = record {
  id = r.id.0;
  begin = r.begin.0;
  end = r.end.0;
  body = record { schema = r.schema.0; next_row_id = r.next_row_id.0; name = name };
}

abbrev pub table_record : Versioned Table → TableRecord
table_record v = record {
  id = catalog_id v.id;
  begin = snapshot_id v.begin;
  end = snapshot_id v.end;
  schema = catalog_id v.body.schema;
  next_row_id = row_id v.body.next_row_id;
}

abbrev pub column_of : ColumnRecord → List ℕ → Versioned Column
column_of r name = record {
  id = r.id;
  begin = r.begin.0;
  end = r.end.0;
  body = record { table = r.table.0; order = r.order; type_code = r.type_code; nulls_allowed = r.nulls_allowed; name = name };
}

abbrev pub column_record : Versioned Column → ColumnRecord
column_record v = record {
  id = v.id;
  table = catalog_id v.body.table;
  begin = snapshot_id v.begin;
  end = snapshot_id v.end;
  order = v.body.order;
  type_code = v.body.type_code;
  nulls_allowed = v.body.nulls_allowed;
}

abbrev pub data_file_of : DataFileRecord → Versioned DataFile
data_file_of r = record {
  id = r.id.0;
  begin = r.begin.0;
  end = r.end.0;
  body = record { table = r.table.0; record_count = r.record_count; row_id_start = r.row_id_start.0; uuid = r.uuid };
}

abbrev pub data_file_record : Versioned DataFile → DataFileRecord
data_file_record v = record {
  id = file_id v.id;
  table = catalog_id v.body.table;
  begin = snapshot_id v.begin;
  end = snapshot_id v.end;
  record_count = v.body.record_count;
  row_id_start = row_id v.body.row_id_start;
  uuid = v.body.uuid;
}

abbrev pub delete_file_of : DeleteFileRecord → List ℕ → Versioned DeleteFile
delete_file_of r positions = record {
  id = r.id.0;
  begin = r.begin.0;
  end = r.end.0;
  body = record { table = r.table.0; data_file = r.data_file.0; positions = positions; uuid = r.uuid };
}

abbrev pub delete_file_record : Versioned DeleteFile → DeleteFileRecord
delete_file_record v = record {
  id = file_id v.id;
  table = catalog_id v.body.table;
  begin = snapshot_id v.begin;
  end = snapshot_id v.end;
  data_file = file_id v.body.data_file;
  delete_count = length v.body.positions;
  uuid = v.body.uuid;
}

abbrev pub statistics_of : StatisticsRecord → Statistics
statistics_of r = record {
  data_file = r.data_file.0;
  column = r.column;
  null_count = r.null_count;
  has_min = r.has_min;
  has_max = r.has_max;
  min = r.min;
  max = r.max;
}

abbrev pub statistics_record : Statistics → StatisticsRecord
statistics_record x = record {
  data_file = file_id x.data_file;
  column = x.column;
  null_count = x.null_count;
  has_min = x.has_min;
  has_max = x.has_max;
  min = x.min;
  max = x.max;
}

abbrev pub scheduled_of : ScheduledRecord → Scheduled
scheduled_of r = record { file = r.file.0; uuid = r.uuid; start = r.schedule_start }

abbrev pub scheduled_record : Scheduled → ScheduledRecord
scheduled_record x = record { file = file_id x.file; uuid = x.uuid; schedule_start = x.start }
