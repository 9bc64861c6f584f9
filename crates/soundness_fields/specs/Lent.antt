-- The runs that the check of fields and ids is lent, of a length for the records and names in use.
use Rattle.std.specs.Prelude.{ℕ, ◌*◌, ◌≤◌, List, length}
use Rattle.layout.specs.declared.outcome.Counts.{Counts}
use Rattle.layout.specs.Fields.{snapshot_size, schema_size, table_size, column_size, data_file_size, delete_file_size, statistics_size, scheduled_size}
use Rattle.layout.specs.Names.{name_size}
use Rattle.layout.specs.Words.{Words}

-- every record and every name
pub record FieldsLent (w : Words) (counts : Counts) : Type 0 where
  pub snapshots : snapshot_size * counts.snapshots ≤ length w.snapshots
  pub schemas : schema_size * counts.schemas ≤ length w.schemas
  pub schema_names : name_size * counts.schemas ≤ length w.schema_names
  pub tables : table_size * counts.tables ≤ length w.tables
  pub table_names : name_size * counts.tables ≤ length w.table_names
  pub columns : column_size * counts.columns ≤ length w.columns
  pub column_names : name_size * counts.columns ≤ length w.column_names
  pub data_files : data_file_size * counts.data_files ≤ length w.data_files
  pub delete_files : delete_file_size * counts.delete_files ≤ length w.delete_files
  pub statistics : statistics_size * counts.statistics ≤ length w.statistics
  pub scheduled : scheduled_size * counts.scheduled ≤ length w.scheduled

-- the records that ascend by id
pub record IdsLent (schema_run table_run column_run data_file_run delete_file_run statistics_run : List ℕ) (counts : Counts) : Type 0 where
  pub schemas : schema_size * counts.schemas ≤ length schema_run
  pub tables : table_size * counts.tables ≤ length table_run
  pub columns : column_size * counts.columns ≤ length column_run
  pub data_files : data_file_size * counts.data_files ≤ length data_file_run
  pub delete_files : delete_file_size * counts.delete_files ≤ length delete_file_run
  pub statistics : statistics_size * counts.statistics ≤ length statistics_run
