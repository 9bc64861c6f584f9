-- The runs of which only records that stay are left, and what this relies on.
use Rattle.std.specs.Prelude.{ℕ, ◌*◌, ◌≤◌, Bool, List, eqb, length}
use Rattle.lists.specs.Lists.{any, filter}
use Rattle.lists.specs.Pieces.{row_pieces, Compacted}
use Rattle.layout.specs.Fields.{data_file_size, data_file_begin_word, delete_file_size, delete_file_begin_word, statistics_size}
use Rattle.layout.specs.Names.{name_size}
use Rattle.layout.specs.Words.{table_limit, positions_before, position_pieces, data_files_in, statistics_at}
use Rattle.lookup.specs.Order.{DataFilesById}
use Rattle.lookup.specs.Versions.{live_among}
use Rattle.expiry.specs.Remaining.{stays, Versions}

-- records of `size` words: r of n are left
abbrev pub RecordsLeft : ℕ → ℕ → List ℕ → ℕ → List ℕ → ℕ → List ℕ → Type 0
RecordsLeft size life run n ids r run' = Compacted (row_pieces size) (stays size life run ids) n run (size * r) run'

-- with names beside them
pub record NamedLeft (size life : ℕ) (run names : List ℕ) (n : ℕ) (ids : List ℕ) (r : ℕ) (run' names' : List ℕ) : Type 0 where
  pub records_left : RecordsLeft size life run n ids r run'
  pub names_left : Compacted (row_pieces name_size) (stays size life run ids) n names (name_size * r) names'

pub record NamedVersions (size life : ℕ) (run names : List ℕ) (n : ℕ) : Type 0 where
  pub versions : Versions size life run n
  pub names_held : name_size * n ≤ length names

-- the positions of n delete files
pub record Located (delete_files positions : List ℕ) (n : ℕ) : Type 0 where
  pub versions : Versions delete_file_size delete_file_begin_word delete_files n
  pub positions_held : positions_before delete_files n ≤ length positions

abbrev pub PositionsLeft : List ℕ → List ℕ → ℕ → List ℕ → ℕ → List ℕ → Type 0
PositionsLeft delete_files positions n ids r positions' = Compacted (position_pieces delete_files) (stays delete_file_size delete_file_begin_word delete_files ids) n positions r positions'

-- data files that are found by id
pub record DataFiles (data_files : List ℕ) (n : ℕ) : Type 0 where
  pub by_id : DataFilesById data_files n
  pub versions : Versions data_file_size data_file_begin_word data_files n

-- whether the data file of an id is one that stays; whether statistics are of such a file
abbrev pub file_stays : List ℕ → ℕ → List ℕ → ℕ → Bool
file_stays data_files n ids k = any (λ f. eqb f.id k) (filter (live_among ids) (data_files_in data_files n))

abbrev pub statistics_stay : List ℕ → List ℕ → ℕ → List ℕ → ℕ → Bool
statistics_stay statistics data_files n ids j = file_stays data_files n ids (statistics_at statistics j).data_file

pub record StatisticsOfFiles (statistics : List ℕ) (n : ℕ) (data_files : List ℕ) (k : ℕ) : Type 0 where
  pub held : statistics_size * n ≤ length statistics
  pub few : n ≤ table_limit
  pub files : DataFiles data_files k

abbrev pub StatisticsLeft : List ℕ → ℕ → List ℕ → ℕ → List ℕ → ℕ → List ℕ → Type 0
StatisticsLeft statistics n data_files k ids r statistics' = Compacted (row_pieces statistics_size) (statistics_stay statistics data_files k ids) n statistics (statistics_size * r) statistics'
