-- The text of a file list: "a header line, then the files at 5: path of the data file, comma, path of the delete file or nothing, lines ended by LF".
use Rattle.std.specs.Prelude.{ℕ, cond, List, [], ◌∷◌, ◌++◌, eqb, take, replicate}
use Rattle.lists.specs.Runs.{at}
use Rattle.layout.specs.declared.outcome.Counts.{Counts}
use Rattle.layout.specs.Fields.{data_file_size}
use Rattle.layout.specs.Records.{data_file_layout}
use Rattle.layout.specs.Catalog.{absent}
use Rattle.layout.specs.Words.{Words}
use Rattle.ducklake.specs.Readings.{files}
use Rattle.ducklake.specs.Calls.{Result, query_at, perform_reading}
use Rattle.ducklake.specs.Lookup.{perform_lookup}
use Rattle.ducklake.specs.Paths.{path}
use Rattle.diary_session.specs.Session.{diary}

-- "data_file,delete_file"
abbrev pub header : List ℕ
header =
    100 ∷ 97 ∷ 116 ∷ 97 ∷ 95 ∷ 102 ∷ 105 ∷ 108 ∷ 101 ∷ 44 ∷ 100 ∷ 101 ∷ 108 ∷ 101 ∷ 116 ∷ 101 ∷ 95 ∷ 102 ∷ 105 ∷ 108 ∷ 101 ∷ []

abbrev pub comma : List ℕ
comma = 44 ∷ []

abbrev pub line_feed : List ℕ
line_feed = 10 ∷ []

module _ (w : Words) (c : Counts) where
  -- "A file id names one row, of the data files or of the delete files, and looking it up gives that record itself": its words, copied over zeros
  unfoldable pub record_of : ℕ → List ℕ
  record_of id = (perform_lookup id w c (replicate data_file_size 0)).area

  -- the path of a file; a data file's record and a delete file's have the UUID in the same words
  unfoldable pub path_of : ℕ → List ℕ
  path_of id = path (at data_file_layout (record_of id) 0).uuid

  -- "path of the delete file or nothing"
  unfoldable pub delete_path_of : ℕ → List ℕ
  delete_path_of id = cond (eqb id absent) [] (path_of id)

  unfoldable pub line : ℕ → ℕ → List ℕ
  line data_file delete_file = path_of data_file ++ comma ++ delete_path_of delete_file ++ line_feed

  -- "a file list has two words a file, the second the delete file's id or ABSENT": a line for each
  unfoldable pub lines : List ℕ → List ℕ
  lines [] = []
  lines (k ∷ []) = []
  lines (data_file ∷ (delete_file ∷ rest)) = line data_file delete_file ++ lines rest

  -- "the files at 5", read into an area
  abbrev pub files_at_five : List ℕ → Result
  files_at_five area = perform_reading (query_at 5 (files diary)) w c area

  unfoldable pub listing : List ℕ → List ℕ
  listing area = header ++ line_feed ++ lines (take (files_at_five area).length (files_at_five area).area)
