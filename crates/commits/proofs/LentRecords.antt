-- What sound tables give the checks: names beside their records, files as far as they are used.
use Rattle.layout.specs.declared.outcome.Counts.{Counts}
use Rattle.layout.specs.Fields.{schema_size, table_size}
use Rattle.layout.specs.Words.{Words}
use Rattle.call_laws.proofs.Ready.{Ready}
use Rattle.commits.specs.LentRecords.{WithNames, FilesLent}

module _ (w : Words) (c : Counts) (R : Ready w c) where
  pub schemas_named_lem : WithNames schema_size w.schemas w.schema_names c.schemas
  schemas_named_lem = record { records = R.held.schemas; places = R.held.schema_names }

  pub tables_named_lem : WithNames table_size w.tables w.table_names c.tables
  tables_named_lem = record { records = R.held.tables; places = R.held.table_names }

  pub files_lent : FilesLent w.data_files w.delete_files w.scheduled c
  files_lent = record { data_files = R.held.data_files; delete_files = R.held.delete_files; scheduled = R.held.scheduled }
