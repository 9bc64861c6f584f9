-- What the functions that look up files rely on.
use Rattle.file_lookup.specs.Runs.{FilesLent}
use Rattle.diary_listing.specs.declared.Files.{Files}

-- the runs are those of tables that were checked
abbrev pub Lent : Files → Type 0
Lent f = FilesLent f.checked f.data_files.now f.delete_files.now f.counts
