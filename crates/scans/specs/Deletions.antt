-- The delete file of a data file at a snapshot, by its place.
use Rattle.std.specs.Prelude.{ℕ, zero, suc, ◌*◌, ◌≤◌, ◌<◌, ◌≡◌, Bool, ◌&&◌, List, eqb, length, get_or, set, None, Option, Some}
use Rattle.lists.specs.Lists.{place}
use Rattle.lists.specs.Runs.{at}
use Rattle.layout.specs.Fields.{delete_file_size}
use Rattle.layout.specs.Records.{delete_file_layout}
use Rattle.layout.specs.Catalog.{absent, Versioned, DeleteFile}
use Rattle.layout.specs.Words.{data_file_at, delete_files_in}
use Rattle.ducklake.specs.Liveness.{live}
use Rattle.lookup.specs.Order.{DataFilesById}

-- a number set at a place that was found
abbrev pub set_at : Option ℕ → List ℕ → ℕ → List ℕ
set_at (Some k) xs x = set xs k x
set_at None xs x = xs

-- a delete file of the data file, live at s
abbrev pub deletes_in : ℕ → ℕ → Versioned DeleteFile → Bool
deletes_in s file d = eqb d.body.data_file file && live s d

-- a place counted from 1, or 0
abbrev pub from_one : Option ℕ → ℕ
from_one (Some j) = suc j
from_one None = 0

-- n data files, m delete files, and a number for each data file, all 0
pub record DeleteFilesSought (files : List ℕ) (n : ℕ) (run : List ℕ) (m : ℕ) (places : List ℕ) : Type 0 where
  pub by_id : DataFilesById files n
  pub lent : delete_file_size * m ≤ length run
  pub room : n ≤ length places
  pub zeros : (k : ℕ) → get_or places k 0 ≡ 0

-- for each data file the place, counted from 1, of its delete file that is live at s
pub record DeleteFilesFound (files : List ℕ) (n : ℕ) (run : List ℕ) (m s : ℕ) (places : List ℕ) : Type 0 where
  pub room : n ≤ length places
  pub found : (k : ℕ) → k < n → (positions : List ℕ) → get_or places k 0 ≡ from_one (place (deletes_in s (data_file_at files k).id) 0 (delete_files_in run positions m))

-- the id of the delete file at a place counted from 1, or ABSENT
abbrev pub delete_id_at : List ℕ → ℕ → ℕ
delete_id_at run zero = absent
delete_id_at run (suc j) = (at delete_file_layout run j).id.0
