-- The tables that 'create table' is lent runs of: their words, and what the check gave; and what it leaves of them.
use Rattle.std.specs.Prelude.{ℕ, ◌≡◌, List}
use Rattle.layout.specs.declared.outcome.Counts.{Counts}
use Rattle.layout.specs.Words.{Words, lent}
use Rattle.refusals.specs.declared.checked.Checked.{Checked}
use Rattle.refusals.specs.Checked.{checked_of}

pub record CreateTableLent (k : Checked) (ns ss ts tn cs cn : List ℕ) (c : Counts) : Type 0 where
  pub words : Words
  pub snapshots : words.snapshots ≡ ns
  pub schemas : words.schemas ≡ ss
  pub tables : words.tables ≡ ts
  pub table_names : words.table_names ≡ tn
  pub columns : words.columns ≡ cs
  pub column_names : words.column_names ≡ cn
  pub checked : k ≡ checked_of words c

abbrev pub create_table_leaves : Words → List ℕ → List ℕ → List ℕ → List ℕ → List ℕ → Words
create_table_leaves w ns ts tn cs cn = lent ns w.schemas w.schema_names ts tn cs cn w.data_files w.delete_files w.positions w.statistics w.scheduled
