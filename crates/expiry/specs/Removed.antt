-- What an expiry looks at, and the files that it removes: scheduled by ascending id, data and delete files merged.
use Rattle.std.specs.Prelude.{ℕ, ◌+◌, ◌*◌, ◌≤◌, ◌<◌, ◌≡◌, Bool, not, List, [], ◌++◌, map, length}
use Rattle.lists.specs.Lists.{range, filter, sort_by}
use Rattle.lists.specs.Runs.{at}
use Rattle.layout.specs.declared.outcome.Counts.{Counts}
use Rattle.layout.specs.Fields.{data_file_size, data_file_begin_word, delete_file_size, delete_file_begin_word}
use Rattle.layout.specs.Records.{delete_file_layout, scheduled_layout}
use Rattle.layout.specs.Catalog.{Scheduled, Catalog, delete_file_of, scheduled_record}
use Rattle.layout.specs.Words.{table_limit, data_file_at}
use Rattle.ducklake.specs.Maintenance.{scheduled_file, removed, remaining}
use Rattle.call_laws.specs.Writes.{extend_table}
use Rattle.lookup.specs.Order.{SnapshotsById, DataFilesById, DeleteFilesById}
use Rattle.expiry.specs.Remaining.{stays, Versions}

-- snapshots to be found by id, at least one, and the files
pub record ExpiryChecked (ns fs ds : List ℕ) (c : Counts) : Type 0 where
  pub snapshots : SnapshotsById ns c.snapshots
  pub some : 0 < c.snapshots
  pub few_snapshots : c.snapshots ≤ table_limit
  pub data_files : data_file_size * c.data_files ≤ length fs
  pub few_data_files : c.data_files ≤ table_limit
  pub delete_files : delete_file_size * c.delete_files ≤ length ds
  pub few_delete_files : c.delete_files ≤ table_limit

-- how many files an expiry of these ids removes
unfoldable pub files_removed : Catalog → List ℕ → ℕ
files_removed C ids = length (removed (remaining C.snapshots ids) C.data_files) + length (removed (remaining C.snapshots ids) C.delete_files)

-- the file at a place, scheduled
abbrev pub data_file_scheduled : List ℕ → ℕ → ℕ → Scheduled
data_file_scheduled run time j = scheduled_file (λ f. f.uuid) time (data_file_at run j)

abbrev pub delete_file_scheduled : List ℕ → ℕ → ℕ → Scheduled
delete_file_scheduled run time j = scheduled_file (λ d. d.uuid) time (delete_file_of (at delete_file_layout run j) [])

-- whether it goes
abbrev pub data_file_goes : List ℕ → List ℕ → ℕ → Bool
data_file_goes run ids j = not (stays data_file_size data_file_begin_word run ids j)

abbrev pub delete_file_goes : List ℕ → List ℕ → ℕ → Bool
delete_file_goes run ids j = not (stays delete_file_size delete_file_begin_word run ids j)

-- of n data files and k delete files those that are live at none of these snapshots
unfoldable pub removed_files : List ℕ → ℕ → List ℕ → ℕ → List ℕ → ℕ → List Scheduled
removed_files data_files n delete_files k ids time = sort_by (λ x. x.file)
    (map (data_file_scheduled data_files time) (filter (data_file_goes data_files ids) (range 0 n))
    ++ map (delete_file_scheduled delete_files time) (filter (delete_file_goes delete_files ids) (range 0 k)))

-- both tables, in which files are found by id
pub record Files (data_files : List ℕ) (n : ℕ) (delete_files : List ℕ) (k : ℕ) : Type 0 where
  pub data_files_by_id : DataFilesById data_files n
  pub delete_files_by_id : DeleteFilesById delete_files k
  pub data_file_versions : Versions data_file_size data_file_begin_word data_files n
  pub delete_file_versions : Versions delete_file_size delete_file_begin_word delete_files k

-- records behind the `used` of a run, and how many are used then
pub record ScheduledMore (xs : List Scheduled) (run : List ℕ) (used r : ℕ) (run' : List ℕ) : Type 0 where
  pub count : r ≡ used + length xs
  pub words : run' ≡ extend_table scheduled_layout run used (map scheduled_record xs)
