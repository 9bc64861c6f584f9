-- What readings of files rely on: facts of sound tables, about the runs that they look at.
use Rattle.std.specs.Prelude.{ℕ, ◌*◌, ◌≤◌, List, length}
use Rattle.layout.specs.declared.outcome.Counts.{Counts}
use Rattle.layout.specs.Fields.{data_file_size, delete_file_size}
use Rattle.layout.specs.Words.{table_limit}
use Rattle.lookup.specs.Order.{DataFilesById, StatisticsByFile}

-- n data files, and q statistics records that a filter looks at
pub record FilesSelectable (files : List ℕ) (n : ℕ) (statistics : List ℕ) (q : ℕ) : Type 0 where
  pub lent : data_file_size * n ≤ length files
  pub by_file : StatisticsByFile statistics q

pub record FilesReadable (files run statistics : List ℕ) (c : Counts) : Type 0 where
  pub by_id : DataFilesById files c.data_files
  pub few : c.data_files ≤ table_limit
  pub lent : delete_file_size * c.delete_files ≤ length run
  pub by_file : StatisticsByFile statistics c.statistics
