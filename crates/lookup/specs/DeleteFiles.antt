-- What delete files with their positions stand for.
use Rattle.std.specs.Prelude.{ℕ, List}
use Rattle.layout.specs.Catalog.{Versioned, DeleteFile}
use Rattle.layout.specs.Words.{delete_file_at, delete_files_in}
use Rattle.lookup.specs.declared.positions.DeleteFiles.{DeleteFiles}

abbrev pub file_at : DeleteFiles → ℕ → Versioned DeleteFile
file_at d i = delete_file_at d.records.now d.positions.now i

abbrev pub files_of : DeleteFiles → List (Versioned DeleteFile)
files_of d = delete_files_in d.records.now d.positions.now d.n
