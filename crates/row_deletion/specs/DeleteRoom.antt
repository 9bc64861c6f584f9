-- What a delete relies on.
use Rattle.std.specs.Prelude.{ℕ, ◌+◌, ◌*◌, ◌≤◌, ◌≡◌, true, List, ltb, length, take, drop}
use Rattle.lists.specs.Lists.{chained}
use Rattle.layout.specs.declared.outcome.Counts.{Counts}
use Rattle.layout.specs.Fields.{delete_file_size}
use Rattle.layout.specs.Words.{positions_before}
use Rattle.call_laws.specs.Latest.{HasLatest}
use Rattle.commits.specs.LentRecords.{FilesLent}
use Rattle.commits.specs.Written.{SnapshotRoom}
use Rattle.lookup.specs.Order.{DataFilesById}
use Rattle.row_deletion.specs.Deleted.{DeletesKnown, deleted_in}

-- what a delete's refusals look at
pub record DeleteChecked (ns fs ds ps xs : List ℕ) (c : Counts) : Type 0 where
  pub latest : HasLatest ns c.snapshots
  pub data_files : DataFilesById fs c.data_files
  pub deletes : DeletesKnown ds ps c.delete_files
  pub files : FilesLent fs ds xs c

-- what the place with 17 is sought in
pub record OffenceSought (ns ds ps : List ℕ) (c : Counts) (new : List ℕ) : Type 0 where
  pub latest : HasLatest ns c.snapshots
  pub deletes : DeletesKnown ds ps c.delete_files
  pub ascending : chained ltb new ≡ true

-- old positions among the used ones, new ones, both ascending, and room for all of them behind the used ones
pub record Mergeable (run : List ℕ) (start count used : ℕ) (new : List ℕ) : Type 0 where
  pub inside : start + count ≤ used
  pub room : used + (count + length new) ≤ length run
  pub old_ascend : chained ltb (take count (drop start run)) ≡ true
  pub new_ascend : chained ltb new ≡ true

-- what a delete writes in, with room for its snapshot, its delete file and the positions of that
pub record DeleteRoom (ns fs ds ps : List ℕ) (c : Counts) (file : ℕ) (new : List ℕ) : Type 0 where
  pub snapshots : SnapshotRoom ns c.snapshots 0 1
  pub data_files : DataFilesById fs c.data_files
  pub deletes : DeletesKnown ds ps c.delete_files
  pub used : positions_before ds c.delete_files ≡ c.positions
  pub delete_files : delete_file_size * c.delete_files + delete_file_size ≤ length ds
  pub positions : c.positions + (length (deleted_in ns ds ps c file) + length new) ≤ length ps
  pub ascending : chained ltb new ≡ true
