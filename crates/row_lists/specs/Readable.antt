-- What the reading of rows relies on: facts of sound tables, about the runs that it looks at.
use Rattle.std.specs.Prelude.{ℕ, ◌*◌, ◌≤◌, ◌<◌, ◌≡◌, true, List, ltb, length}
use Rattle.lists.specs.Lists.{all, chained}
use Rattle.layout.specs.declared.outcome.Counts.{Counts}
use Rattle.layout.specs.Fields.{data_file_size}
use Rattle.layout.specs.Words.{table_limit, position_limit, data_file_at, data_files_in, delete_files_in}
use Rattle.ducklake.specs.Liveness.{delete_files_at, deleted_at}
use Rattle.ducklake.specs.Soundness.{data_file_in_range}
use Rattle.lookup.specs.Order.{DataFilesById}
use Rattle.lookup.specs.declared.positions.DeleteFiles.{DeleteFiles}
use Rattle.lookup.specs.Positions.{PositionsWithin}
use Rattle.scans.specs.Deletions.{DeleteFilesFound}

-- the delete files that are live at s: at most one of a data file, with positions that ascend below its record_count
pub record DeletesFit (files : List ℕ) (n : ℕ) (run positions : List ℕ) (m s : ℕ) : Type 0 where
  pub single : (file : ℕ) → length (delete_files_at (delete_files_in run positions m) s file) ≤ 1
  pub ascending : (k : ℕ) → k < n → chained ltb (deleted_at (delete_files_in run positions m) s (data_file_at files k).id) ≡ true
  pub below : (k : ℕ) → k < n
      → all (λ p. ltb p (data_file_at files k).body.record_count) (deleted_at (delete_files_in run positions m) s (data_file_at files k).id) ≡ true

-- n data files and the delete files by which rows are read: those live at s have been found
pub record RowsLocated (files : List ℕ) (n : ℕ) (d : DeleteFiles) (s : ℕ) (places : List ℕ) : Type 0 where
  pub lent : data_file_size * n ≤ length files
  pub few : n ≤ table_limit
  pub ranges : all data_file_in_range (data_files_in files n) ≡ true
  pub deletes : DeletesFit files n d.records.now d.positions.now d.n s
  pub found : DeleteFilesFound files n d.records.now d.n s places

pub record RowsReadable (files run positions : List ℕ) (c : Counts) (s : ℕ) : Type 0 where
  pub by_id : DataFilesById files c.data_files
  pub few : c.data_files ≤ table_limit
  pub few_deletes : c.delete_files ≤ table_limit
  pub ranges : all data_file_in_range (data_files_in files c.data_files) ≡ true
  pub held : PositionsWithin run c.delete_files (length positions)
  pub within : PositionsWithin run c.delete_files position_limit
  pub deletes : DeletesFit files c.data_files run positions c.delete_files s
