-- The tables that a drop is lent runs of: their words, and what the check gave; and what it leaves of them.
use Rattle.std.specs.Prelude.{ℕ, ◌≡◌, List}
use Rattle.layout.specs.declared.outcome.Counts.{Counts}
use Rattle.layout.specs.Words.{Words, lent}
use Rattle.refusals.specs.declared.checked.Checked.{Checked}
use Rattle.refusals.specs.Checked.{checked_of}

pub record DropSchemaLent (k : Checked) (ns ss ts : List ℕ) (c : Counts) : Type 0 where
  pub words : Words
  pub snapshots : words.snapshots ≡ ns
  pub schemas : words.schemas ≡ ss
  pub tables : words.tables ≡ ts
  pub checked : k ≡ checked_of words c

abbrev pub drop_schema_leaves : Words → List ℕ → List ℕ → Words
drop_schema_leaves w ns ss =
    lent ns ss w.schema_names w.tables w.table_names w.columns w.column_names w.data_files w.delete_files w.positions w.statistics w.scheduled

pub record DropTableLent (k : Checked) (ns ts cs fs ds : List ℕ) (c : Counts) : Type 0 where
  pub words : Words
  pub snapshots : words.snapshots ≡ ns
  pub tables : words.tables ≡ ts
  pub columns : words.columns ≡ cs
  pub data_files : words.data_files ≡ fs
  pub delete_files : words.delete_files ≡ ds
  pub checked : k ≡ checked_of words c

abbrev pub drop_table_leaves : Words → List ℕ → List ℕ → List ℕ → List ℕ → List ℕ → Words
drop_table_leaves w ns ts cs fs ds = lent ns w.schemas w.schema_names ts w.table_names cs w.column_names fs ds w.positions w.statistics w.scheduled
