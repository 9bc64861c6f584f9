-- What calls keep beyond soundness, as a test of the tables (R15), and what the test relies on.
use Rattle.std.specs.Prelude.{ℕ, ◌*◌, ◌≤◌, Bool, not, ◌&&◌, ◌||◌, List, eqb, length}
use Rattle.lists.specs.Lists.{all, any}
use Rattle.layout.specs.declared.outcome.Counts.{Counts}
use Rattle.layout.specs.Fields.{delete_file_size}
use Rattle.layout.specs.Catalog.{absent, Versioned, DataFile, DeleteFile, Catalog}
use Rattle.layout.specs.Words.{table_limit}
use Rattle.lookup.specs.Order.{DataFilesById}

-- a data file of that id is open
unfoldable pub is_open : List (Versioned DataFile) → ℕ → Bool
is_open fs k = any (λ f. eqb f.id k && eqb f.end absent) fs

-- an open delete file of that data file is on record
unfoldable pub has_open_deletes : List (Versioned DeleteFile) → ℕ → Bool
has_open_deletes ds k = any (λ e. eqb e.body.data_file k && eqb e.end absent) ds

-- what calls keep beyond soundness (R15): a data file that is open and has a delete file on record has an open one
unfoldable pub is_chained : Catalog → Bool
is_chained C =
    all (λ d. not (is_open C.data_files d.body.data_file) || has_open_deletes C.delete_files d.body.data_file)
    C.delete_files

-- data files can be found by id, the delete files are lent, and there is a flag for each data file
pub record ChainCheckable (fs : List ℕ) (ds : List ℕ) (c : Counts) : Type 0 where
  pub data_files : DataFilesById fs c.data_files
  pub delete_files : delete_file_size * c.delete_files ≤ length ds
  pub few : c.data_files ≤ table_limit
