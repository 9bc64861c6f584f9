-- The tables that Fresh is lent runs of: their words, and what they have room for; what it writes in, and what it leaves of them.
use Rattle.std.specs.Prelude.{ℕ, ◌≤◌, ◌≡◌, List, length}
use Rattle.layout.specs.declared.outcome.Counts.{Counts}
use Rattle.layout.specs.Fields.{snapshot_size, schema_size}
use Rattle.layout.specs.Names.{name_size}
use Rattle.layout.specs.Words.{Words, lent, capacity}

pub record FreshLent (r : Counts) (ns ss xs : List ℕ) : Type 0 where
  pub words : Words
  pub snapshots : words.snapshots ≡ ns
  pub schemas : words.schemas ≡ ss
  pub schema_names : words.schema_names ≡ xs
  pub room : r ≡ capacity words

-- room for a snapshot, a schema and its name
pub record FreshRoom (ns ss xs : List ℕ) : Type 0 where
  pub snapshot : snapshot_size ≤ length ns
  pub schema : schema_size ≤ length ss
  pub name : name_size ≤ length xs

abbrev pub fresh_leaves : Words → List ℕ → List ℕ → List ℕ → Words
fresh_leaves w ns ss xs = lent ns ss xs w.tables w.table_names w.columns w.column_names w.data_files w.delete_files w.positions w.statistics w.scheduled
