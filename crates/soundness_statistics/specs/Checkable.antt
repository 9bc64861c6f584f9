-- What the check of statistics relies on.
use Rattle.std.specs.Prelude.{ℕ, List}
use Rattle.layout.specs.declared.outcome.Counts.{Counts}
use Rattle.lookup.specs.Order.{ColumnsByTable, DataFilesById, StatisticsByFile}

-- the columns of a table stand together, the statistics of a file too, and a data file can be found by its id
pub record StatisticsCheckable (columns data_files statistics : List ℕ) (counts : Counts) : Type 0 where
  pub columns_by_table : ColumnsByTable columns counts.columns
  pub data_files_by_id : DataFilesById data_files counts.data_files
  pub statistics_by_file : StatisticsByFile statistics counts.statistics
