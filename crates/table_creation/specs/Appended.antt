-- What it takes to write the columns of a new table, and what that leaves.
use Rattle.std.specs.Prelude.{ℕ, ◌+◌, ◌*◌, ◌≤◌, ◌≡◌, true, List, map, length}
use Rattle.layout.specs.Catalog.{column_record}
use Rattle.layout.specs.Fields.{column_size}
use Rattle.layout.specs.Names.{name_size}
use Rattle.layout.specs.Records.{column_layout}
use Rattle.ducklake.specs.Arguments.{column_argument_size, column_arguments, new_columns, columns_fit}
use Rattle.ducklake.specs.Commits.{born}
use Rattle.call_laws.specs.Writes.{extend_table, extend_names}

-- room behind the first n columns for the first k of an argument
pub record ColumnRoom (run : List ℕ) (n : ℕ) (words : List ℕ) (k : ℕ) : Type 0 where
  pub room : column_size * (n + k) ≤ length run
  pub held : column_argument_size * k ≤ length words

-- an argument that fits a table, and room behind the first n columns for its columns and their names
pub record ColumnsRoom (run places : List ℕ) (n table : ℕ) (words names : List ℕ) : Type 0 where
  pub fit : columns_fit table words names ≡ true
  pub room : column_size * (n + column_arguments words) ≤ length run
  pub named : name_size * (n + column_arguments words) ≤ length places

-- the columns of a table that begins at a snapshot, behind the first n, and their names in their places
pub record ColumnsAppended (begin table : ℕ) (words names : List ℕ) (n : ℕ) (run places run' places' : List ℕ) : Type 0 where
  pub records : run' ≡ extend_table column_layout run n (map column_record (born begin 1 (new_columns table words names)))
  pub named : places' ≡ extend_names (λ x. x.name) places n (new_columns table words names)
