-- What the check of deletes relies on, and how it compares delete files.
use Rattle.std.specs.Prelude.{ℕ, ◌*◌, ◌≤◌, min, ◌≡◌, Bool, true, ◌&&◌, List, ltb, eqb, length}
use Rattle.lists.specs.Lists.{all, chained}
use Rattle.lists.specs.Runs.{field}
use Rattle.layout.specs.declared.outcome.Counts.{Counts}
use Rattle.layout.specs.Catalog.{Versioned, DeleteFile}
use Rattle.layout.specs.Fields.{delete_file_size, delete_file_data_file_word, delete_file_begin_word}
use Rattle.layout.specs.Words.{position_limit, delete_files_in}
use Rattle.ducklake.specs.Soundness.{delete_files_apart}
use Rattle.lookup.specs.Order.{DataFilesById}
use Rattle.lookup.specs.declared.positions.DeleteFiles.{DeleteFiles}
use Rattle.lookup.specs.DeleteFiles.{file_at}
use Rattle.lookup.specs.Positions.{PositionsWithin}

-- "begin < end"
abbrev pub begins_before_end : {A : Type 0} → Versioned A → Bool
begins_before_end v = ltb v.begin v.end

-- "positions ascend strictly"
abbrev pub positions_ascend : Versioned DeleteFile → Bool
positions_ascend d = chained ltb d.body.positions

-- the delete files at two places
abbrev pub apart_at : DeleteFiles → ℕ → ℕ → Bool
apart_at d i j = delete_files_apart (file_at d i) (file_at d j)

-- data files by id, delete files whose positions are lent and within the limit, and lives that are not empty
pub record DeletesCheckable (data_files delete_files positions : List ℕ) (counts : Counts) : Type 0 where
  pub data_files_by_id : DataFilesById data_files counts.data_files
  pub positions_within : PositionsWithin delete_files counts.delete_files (min position_limit (length positions))
  pub lives : all begins_before_end (delete_files_in delete_files positions counts.delete_files) ≡ true

-- keys of delete files: the data file, the begin
abbrev pub delete_key_size : ℕ
delete_key_size = 2

-- whether a place is one of theirs, and has the key of the delete file there
abbrev pub keyed_at : DeleteFiles → List ℕ → ℕ → Bool
keyed_at d keys p =
    ltb p d.n && eqb (field delete_key_size 0 keys p) (field delete_file_size delete_file_data_file_word d.records.now p)
    && eqb (field delete_key_size 1 keys p) (field delete_file_size delete_file_begin_word d.records.now p)

-- some of the delete files with their keys
pub record DeletesKeyed (d : DeleteFiles) (keys places : List ℕ) : Type 0 where
  pub room : delete_key_size * d.n ≤ length keys
  pub keyed : all (keyed_at d keys) places ≡ true
