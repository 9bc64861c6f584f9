-- What the parts of a drop rely on, named.
use Rattle.std.specs.Prelude.{ℕ, ◌*◌, ◌≤◌, List, length}
use Rattle.layout.specs.declared.outcome.Counts.{Counts}
use Rattle.layout.specs.Fields.{schema_size, table_size, column_size, data_file_size, delete_file_size}
use Rattle.call_laws.specs.Latest.{HasLatest}
use Rattle.lookup.specs.Order.{SchemasById, TablesById}
use Rattle.commits.specs.Written.{SnapshotRoom}

-- what the refusals look at
pub record DropSchemaChecked (ns ss ts : List ℕ) (c : Counts) : Type 0 where
  pub latest : HasLatest ns c.snapshots
  pub schemas : SchemasById ss c.schemas
  pub tables : table_size * c.tables ≤ length ts

pub record DropTableChecked (ns ts : List ℕ) (c : Counts) : Type 0 where
  pub latest : HasLatest ns c.snapshots
  pub tables : TablesById ts c.tables

-- what is written in
pub record DropSchemaRoom (ns ss : List ℕ) (c : Counts) : Type 0 where
  pub snapshots : SnapshotRoom ns c.snapshots 0 0
  pub schemas : schema_size * c.schemas ≤ length ss

pub record DropTableRoom (ns ts cs fs ds : List ℕ) (c : Counts) : Type 0 where
  pub snapshots : SnapshotRoom ns c.snapshots 0 0
  pub tables : table_size * c.tables ≤ length ts
  pub columns : column_size * c.columns ≤ length cs
  pub data_files : data_file_size * c.data_files ≤ length fs
  pub delete_files : delete_file_size * c.delete_files ≤ length ds
