-- What the check of row ranges relies on.
use Rattle.std.specs.Prelude.{ℕ, ◌*◌, ◌≤◌, ◌≡◌, true, List, length}
use Rattle.lists.specs.Lists.{all}
use Rattle.layout.specs.declared.outcome.Counts.{Counts}
use Rattle.layout.specs.Fields.{data_file_size}
use Rattle.layout.specs.Words.{data_files_in}
use Rattle.ducklake.specs.Soundness.{data_file_in_range}
use Rattle.lookup.specs.Order.{TablesById}

-- tables by id, and data files whose row numbers and record counts are in range
pub record RowRangesCheckable (tables data_files : List ℕ) (counts : Counts) : Type 0 where
  pub tables_by_id : TablesById tables counts.tables
  pub data_files_lent : data_file_size * counts.data_files ≤ length data_files
  pub in_range : all data_file_in_range (data_files_in data_files counts.data_files) ≡ true
