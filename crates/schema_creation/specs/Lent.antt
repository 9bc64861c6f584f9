-- The tables that 'create schema' is lent runs of: their words, and what the check gave; and what it leaves of them.
use Rattle.std.specs.Prelude.{ℕ, ◌≡◌, List}
use Rattle.layout.specs.declared.outcome.Counts.{Counts}
use Rattle.layout.specs.Words.{Words, lent}
use Rattle.refusals.specs.declared.checked.Checked.{Checked}
use Rattle.refusals.specs.Checked.{checked_of}

pub record CreateSchemaLent (k : Checked) (ns ss xs : List ℕ) (c : Counts) : Type 0 where
  pub words : Words
  pub snapshots : words.snapshots ≡ ns
  pub schemas : words.schemas ≡ ss
  pub schema_names : words.schema_names ≡ xs
  pub checked : k ≡ checked_of words c

abbrev pub create_schema_leaves : Words → List ℕ → List ℕ → List ℕ → Words
create_schema_leaves w ns ss xs = lent ns ss xs w.tables w.table_names w.columns w.column_names w.data_files w.delete_files w.positions w.statistics w.scheduled
