-- What sound tables give lookups: records found by id, those of one table, one file or one time together.
use native.Mathlib.Omega.{arith}
use Rattle.layout.specs.declared.outcome.Counts.{Counts}
use Rattle.layout.specs.Words.{Words}
use Rattle.call_laws.proofs.Ready.{Ready}
use Rattle.lookup.specs.Order.{SnapshotsById, SnapshotsByTime, SchemasById, TablesById, ColumnsByTable, DataFilesById, DeleteFilesById, StatisticsByFile}

pub record Findable (w : Words) (c : Counts) : Type 0 where
  pub snapshots : SnapshotsById w.snapshots c.snapshots
  pub snapshots_by_time : SnapshotsByTime w.snapshots c.snapshots
  pub schemas : SchemasById w.schemas c.schemas
  pub tables : TablesById w.tables c.tables
  pub columns : ColumnsByTable w.columns c.columns
  pub data_files : DataFilesById w.data_files c.data_files
  pub delete_files : DeleteFilesById w.delete_files c.delete_files
  pub statistics : StatisticsByFile w.statistics c.statistics

pub findable : {w : Words} {c : Counts} → Ready w c → Findable w c
findable R = record {
  snapshots = record { lent = R.held.snapshots; inside = omega arith; ascending = R.snapshot_ids };
  snapshots_by_time = record { lent = R.held.snapshots; inside = omega arith; never_falling = R.snapshot_times };
  schemas = record { lent = R.held.schemas; inside = omega arith; ascending = R.schema_ids };
  tables = record { lent = R.held.tables; inside = omega arith; ascending = R.table_ids };
  columns = record { lent = R.held.columns; inside = omega arith; never_falling = R.column_tables };
  data_files = record { lent = R.held.data_files; inside = omega arith; ascending = R.data_file_ids };
  delete_files = record { lent = R.held.delete_files; inside = omega arith; ascending = R.delete_file_ids };
  statistics = record { lent = R.held.statistics; inside = omega arith; never_falling = R.statistics_files };
}
