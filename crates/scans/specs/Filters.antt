-- The files that are read: of a table at a snapshot, those that a filter keeps.
use Rattle.std.specs.Prelude.{ℕ, Bool, true, ◌&&◌, List, eqb, None, Option, Some}
use Rattle.lists.specs.Lists.{filter}
use Rattle.layout.specs.Catalog.{Versioned, DataFile, Statistics}
use Rattle.ducklake.specs.Liveness.{live, data_files_at}
use Rattle.ducklake.specs.Readings.{kept}
use Rattle.scans.specs.declared.filter.Filter.{Filter}

-- "a file list has two words a file"
abbrev pub listed_size : ℕ
listed_size = 2

-- a data file of the table, live at s
abbrev pub in_table : ℕ → ℕ → Versioned DataFile → Bool
in_table table s f = eqb f.body.table table && live s f

-- "a listed file is kept when its statistics record for that column exists and" admits the scalar; without a filter every file is
abbrev pub passes : Option Filter → List Statistics → Versioned DataFile → Bool
passes None xs f = true
passes (Some q) xs f = kept xs q.column q.scalar f

-- both
abbrev pub is_read : Option Filter → List Statistics → ℕ → ℕ → Versioned DataFile → Bool
is_read q xs table s f = passes q xs f && in_table table s f

-- the files that are read
abbrev pub files_read : Option Filter → List Statistics → List (Versioned DataFile) → ℕ → ℕ → List (Versioned DataFile)
files_read q xs fs s table = filter (passes q xs) (data_files_at fs s table)
