-- Where a file's record lies, told by the two runs that it may lie in, and what the lookup relies on.
use Rattle.std.specs.Prelude.{ℕ, ◌≡◌, List}
use Rattle.layout.specs.declared.outcome.Counts.{Counts}
use Rattle.layout.specs.Fields.{data_file_size, data_file_id_word, delete_file_size, delete_file_id_word}
use Rattle.layout.specs.Words.{Words}
use Rattle.ducklake.specs.Lookup.{FilePlace, in_data_files, in_delete_files, nowhere, found_or}
use Rattle.refusals.specs.declared.checked.Checked.{Checked}
use Rattle.refusals.specs.Checked.{checked_of}
use Rattle.lookup.specs.Order.{place_of, DataFilesById, DeleteFilesById}

-- n data files, m delete files
abbrev pub place_in : List ℕ → ℕ → List ℕ → ℕ → ℕ → FilePlace
place_in data_files n delete_files m k =
    found_or (place_of data_file_size data_file_id_word data_files n k) in_data_files
    (found_or (place_of delete_file_size delete_file_id_word delete_files m k) in_delete_files nowhere)

-- files that can be found by their ids
pub record FilesById (data_file_run : List ℕ) (n : ℕ) (delete_file_run : List ℕ) (m : ℕ) : Type 0 where
  pub data_files : DataFilesById data_file_run n
  pub delete_files : DeleteFilesById delete_file_run m

-- the tables that the lookup is lent runs of: their words, and what the check gave
pub record FilesLent (k : Checked) (fs ds : List ℕ) (c : Counts) : Type 0 where
  pub words : Words
  pub data_files : words.data_files ≡ fs
  pub delete_files : words.delete_files ≡ ds
  pub checked : k ≡ checked_of words c
