-- What the functions of this crate rely on, named.
use Rattle.std.specs.Prelude.{◌≤◌}
use Rattle.layout.specs.declared.outcome.Counts.{Counts}
use Rattle.layout.specs.Words.{position_limit}

-- counts so small that two can be added
pub record Few (c : Counts) : Type 0 where
  pub snapshots : c.snapshots ≤ position_limit
  pub schemas : c.schemas ≤ position_limit
  pub tables : c.tables ≤ position_limit
  pub columns : c.columns ≤ position_limit
  pub data_files : c.data_files ≤ position_limit
  pub delete_files : c.delete_files ≤ position_limit
  pub positions : c.positions ≤ position_limit
  pub statistics : c.statistics ≤ position_limit
  pub scheduled : c.scheduled ≤ position_limit
