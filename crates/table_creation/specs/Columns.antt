-- The columns of an argument one by one: their words, and the records that they become.
use Rattle.std.specs.Prelude.{ℕ, suc, ◌+◌, ◌*◌, ◌≤◌, List, [], length, get_or}
use Rattle.layout.specs.declared.record.ColumnRecord.{ColumnRecord}
use Rattle.layout.specs.Catalog.{column_record}
use Rattle.layout.specs.Names.{name_size}
use Rattle.ducklake.specs.Arguments.{column_argument_size, column_argument}
use Rattle.call_laws.specs.Writes.{opened}
use Rattle.table_creation.specs.declared.argument.ColumnArgument.{ColumnArgument}

-- "type and nulls_allowed, two words each": the words of the column i
abbrev pub argument_at : List ℕ → ℕ → ColumnArgument
argument_at words i = record { type_code = get_or words (column_argument_size * i) 0; nulls_allowed = get_or words (column_argument_size * i + 1) 0 }

-- the record of the column i, where the table begins at a snapshot: "columns get ids 1, 2, …". Its name stands elsewhere.
abbrev pub new_column_record : ℕ → ℕ → List ℕ → ℕ → ColumnRecord
new_column_record begin table words i = column_record (opened begin (suc i) (column_argument table words [] i))

-- an argument that holds n columns
pub record ColumnsLent (words names : List ℕ) (n : ℕ) : Type 0 where
  pub held : column_argument_size * n ≤ length words
  pub named : name_size * n ≤ length names
