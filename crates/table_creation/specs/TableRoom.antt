-- What 'create table' looks at, writes in and adds.
use Rattle.std.specs.Prelude.{ℕ, List}
use Rattle.layout.specs.declared.outcome.Counts.{Counts}
use Rattle.layout.specs.Fields.{table_size}
use Rattle.layout.specs.Words.{snapshots_in}
use Rattle.ducklake.specs.Liveness.{latest_of}
use Rattle.call_laws.specs.Latest.{HasLatest}
use Rattle.lookup.specs.Order.{SchemasById}
use Rattle.commits.specs.LentRecords.{WithNames}
use Rattle.commits.specs.Written.{SnapshotRoom, NamedRoom}
use Rattle.table_creation.specs.Appended.{ColumnsRoom}

-- what it looks at
pub record TableChecked (ns ss ts tn : List ℕ) (c : Counts) : Type 0 where
  pub latest : HasLatest ns c.snapshots
  pub schemas : SchemasById ss c.schemas
  pub tables : WithNames table_size ts tn c.tables

-- what it writes in: room for the snapshot, the table and the columns
pub record TableRoom (ns ts tn cs cn : List ℕ) (c : Counts) (name words names : List ℕ) : Type 0 where
  pub snapshots : SnapshotRoom ns c.snapshots 1 0
  pub tables : NamedRoom table_size ts tn c.tables name
  pub columns : ColumnsRoom cs cn c.columns (latest_of (snapshots_in ns c.snapshots)).next_catalog_id words names

-- the records that it adds, with so many columns
abbrev pub table_added : ℕ → Counts
table_added columns =
    record { snapshots = 1; schemas = 0; tables = 1; columns = columns; data_files = 0; delete_files = 0; positions = 0; statistics = 0; scheduled = 0 }
