-- What sound tables give readings: records found by id, those of one table or one file together.
use Prim.Native.Nat.{ℕ, ◌*◌, ◌≤◌}
use mathlib.Core.Path.{◌≡◌}
use mathlib.Core.Bool.{true}
use mathlib.Core.List.{List}
use lib.ListN.{length}
use Rattle.layout.specs.declared.outcome.Counts.{Counts}
use Rattle.layout.specs.Names.{name_size}
use Rattle.layout.specs.Words.{Words}
use Rattle.ducklake.specs.Soundness.{sound}
use Rattle.call_laws.proofs.Ready.{ready}
use Rattle.lookup.specs.Order.{SnapshotsById, SnapshotsByTime, SchemasById, TablesById, ColumnsByTable, DataFilesById, DeleteFilesById, StatisticsByFile}
use Rattle.lookup.proofs.Findable.{Findable, findable}

module _ (w : Words) (c : Counts) (h : sound w c ≡ true) where
  given : Findable w c
  given = findable (ready w c h)

  pub snapshots_by_id : {run : List ℕ} → w.snapshots ≡ run → SnapshotsById run c.snapshots
  snapshots_by_id e = rw (← e) given.snapshots

  pub snapshots_by_time_lem : {run : List ℕ} → w.snapshots ≡ run → SnapshotsByTime run c.snapshots
  snapshots_by_time_lem e = rw (← e) given.snapshots_by_time

  pub schemas_by_id_lem : {run : List ℕ} → w.schemas ≡ run → SchemasById run c.schemas
  schemas_by_id_lem e = rw (← e) given.schemas

  pub tables_by_id_lem : {run : List ℕ} → w.tables ≡ run → TablesById run c.tables
  tables_by_id_lem e = rw (← e) given.tables

  pub table_names_lent_lem : {run : List ℕ} → w.table_names ≡ run → name_size * c.tables ≤ length run
  table_names_lent_lem e = rw (← e) (ready w c h).held.table_names

  pub columns_by_table_lem : {run : List ℕ} → w.columns ≡ run → ColumnsByTable run c.columns
  columns_by_table_lem e = rw (← e) given.columns

  pub data_files_by_id_lem : {run : List ℕ} → w.data_files ≡ run → DataFilesById run c.data_files
  data_files_by_id_lem e = rw (← e) given.data_files

  pub delete_files_by_id_lem : {run : List ℕ} → w.delete_files ≡ run → DeleteFilesById run c.delete_files
  delete_files_by_id_lem e = rw (← e) given.delete_files

  pub statistics_by_file_lem : {run : List ℕ} → w.statistics ≡ run → StatisticsByFile run c.statistics
  statistics_by_file_lem e = rw (← e) given.statistics
