-- The tables that a listing is lent runs of: their words, and what the check gave.
use Rattle.std.specs.Prelude.{ℕ, ◌≡◌, List}
use Rattle.layout.specs.declared.outcome.Counts.{Counts}
use Rattle.layout.specs.Words.{Words}
use Rattle.refusals.specs.declared.checked.Checked.{Checked}
use Rattle.refusals.specs.Checked.{checked_of}

pub record SnapshotsLent (k : Checked) (ns : List ℕ) (c : Counts) : Type 0 where
  pub words : Words
  pub snapshots : words.snapshots ≡ ns
  pub checked : k ≡ checked_of words c

pub record SchemasLent (k : Checked) (ns ss : List ℕ) (c : Counts) : Type 0 where
  pub words : Words
  pub snapshots : words.snapshots ≡ ns
  pub schemas : words.schemas ≡ ss
  pub checked : k ≡ checked_of words c

pub record TablesLent (k : Checked) (ns ss ts : List ℕ) (c : Counts) : Type 0 where
  pub words : Words
  pub snapshots : words.snapshots ≡ ns
  pub schemas : words.schemas ≡ ss
  pub tables : words.tables ≡ ts
  pub checked : k ≡ checked_of words c

pub record NamedLent (k : Checked) (ns ss ts xs : List ℕ) (c : Counts) : Type 0 where
  pub words : Words
  pub snapshots : words.snapshots ≡ ns
  pub schemas : words.schemas ≡ ss
  pub tables : words.tables ≡ ts
  pub table_names : words.table_names ≡ xs
  pub checked : k ≡ checked_of words c
