-- What the functions of this crate rely on, named.
use Rattle.std.specs.Prelude.{ℕ, ◌*◌, ◌≤◌, ◌≡◌, true, List, length}
use Rattle.layout.specs.declared.outcome.Counts.{Counts}
use Rattle.layout.specs.Fields.{data_file_size, delete_file_size, scheduled_size}
use Rattle.layout.specs.Catalog.{number_limit, Snapshot}
use Rattle.layout.specs.Names.{name_size}
use Rattle.ducklake.specs.Soundness.{snapshot_in_range}

-- a snapshot whose numbers are in their limits, and so few ids to take that none wraps
pub record CanFollow (s : Snapshot) (catalog_ids file_ids : ℕ) : Type 0 where
  pub in_range : snapshot_in_range s ≡ true
  pub few_catalog_ids : catalog_ids ≤ number_limit
  pub few_file_ids : file_ids ≤ number_limit

-- n records of `size` words, and a name place for each
pub record WithNames (size : ℕ) (run names : List ℕ) (n : ℕ) : Type 0 where
  pub records : size * n ≤ length run
  pub places : name_size * n ≤ length names

-- the tables of files are lent as far as they are used
pub record FilesLent (fs ds xs : List ℕ) (c : Counts) : Type 0 where
  pub data_files : data_file_size * c.data_files ≤ length fs
  pub delete_files : delete_file_size * c.delete_files ≤ length ds
  pub scheduled : scheduled_size * c.scheduled ≤ length xs
