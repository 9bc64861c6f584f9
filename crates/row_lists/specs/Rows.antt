-- Rows of one data file, its deleted positions given.
use Rattle.std.specs.Prelude.{ℕ, zero, suc, ◌+◌, ◌*◌, ◌≤◌, ◌≡◌, true, not, List, [], map, ltb, length}
use Rattle.lists.specs.Lists.{range, all, chained, filter, has}
use Rattle.layout.specs.Fields.{data_file_size}
use Rattle.layout.specs.Catalog.{number_limit, record_count_limit}
use Rattle.layout.specs.Words.{data_file_at, positions_at}
use Rattle.lookup.specs.declared.positions.DeleteFiles.{DeleteFiles}

-- "row_id_start + p for each position p not deleted, ascending"
abbrev pub rows_but : ℕ → ℕ → List ℕ → List ℕ
rows_but start count deleted = map (λ p. start + p) (filter (λ p. not (has p deleted)) (range 0 count))

-- the positions of the delete file at a place counted from 1, or none
abbrev pub deleted_by : DeleteFiles → ℕ → List ℕ
deleted_by d zero = []
deleted_by d (suc j) = positions_at d.records.now d.positions.now j

-- the rows of the data file i, with its delete file at a place counted from 1
abbrev pub rows_of_file : List ℕ → ℕ → DeleteFiles → ℕ → List ℕ
rows_of_file files i d place =
    rows_but (data_file_at files i).body.row_id_start (data_file_at files i).body.record_count (deleted_by d place)

-- numbers within the limits, and deleted positions that ascend below the count
pub record RowsFit (start count : ℕ) (deleted : List ℕ) : Type 0 where
  pub start_within : start ≤ number_limit
  pub count_within : count ≤ record_count_limit
  pub ascending : chained ltb deleted ≡ true
  pub below : all (λ p. ltb p count) deleted ≡ true

-- the data file i, and its delete file's place counted from 1
pub record FileRowsLocated (files : List ℕ) (i : ℕ) (d : DeleteFiles) (place : ℕ) : Type 0 where
  pub lent : data_file_size * i + data_file_size ≤ length files
  pub within : place ≤ d.n
  pub fit : RowsFit (data_file_at files i).body.row_id_start (data_file_at files i).body.record_count (deleted_by d place)
