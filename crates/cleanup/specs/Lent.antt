-- The tables that a cleanup is lent the scheduled records of: their words, and what the check gave; and what it leaves of them.
use Rattle.std.specs.Prelude.{ℕ, ◌≡◌, List}
use Rattle.layout.specs.declared.outcome.Counts.{Counts}
use Rattle.layout.specs.Words.{Words, lent}
use Rattle.refusals.specs.declared.checked.Checked.{Checked}
use Rattle.refusals.specs.Checked.{checked_of}

pub record CleanupLent (k : Checked) (xs : List ℕ) (c : Counts) : Type 0 where
  pub words : Words
  pub scheduled : words.scheduled ≡ xs
  pub checked : k ≡ checked_of words c

abbrev pub cleanup_leaves : Words → List ℕ → Words
cleanup_leaves w xs =
    lent w.snapshots w.schemas w.schema_names w.tables w.table_names w.columns w.column_names w.data_files w.delete_files w.positions w.statistics xs
