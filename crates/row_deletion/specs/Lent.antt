-- The tables that a delete is lent runs of: their words, and what the check gave; what it leaves of them; and what it adds to the counts.
use Rattle.std.specs.Prelude.{ℕ, ◌≡◌, List}
use Rattle.layout.specs.declared.outcome.Counts.{Counts}
use Rattle.layout.specs.Words.{Words, lent}
use Rattle.refusals.specs.declared.checked.Checked.{Checked}
use Rattle.refusals.specs.Checked.{checked_of}

pub record DeleteLent (k : Checked) (ns fs ds ps xs : List ℕ) (c : Counts) : Type 0 where
  pub words : Words
  pub snapshots : words.snapshots ≡ ns
  pub data_files : words.data_files ≡ fs
  pub delete_files : words.delete_files ≡ ds
  pub positions : words.positions ≡ ps
  pub scheduled : words.scheduled ≡ xs
  pub checked : k ≡ checked_of words c

abbrev pub delete_leaves : Words → List ℕ → List ℕ → List ℕ → Words
delete_leaves w ns ds ps = lent ns w.schemas w.schema_names w.tables w.table_names w.columns w.column_names w.data_files ds ps w.statistics w.scheduled

-- a snapshot, and a delete file of so many positions
abbrev pub delete_adds : ℕ → Counts
delete_adds positions = record {
  snapshots = 1;
  schemas = 0;
  tables = 0;
  columns = 0;
  data_files = 0;
  delete_files = 1;
  positions = positions;
  statistics = 0;
  scheduled = 0;
}
