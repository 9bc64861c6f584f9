-- The tables that a reading is lent runs of: their words, and what the check gave.
use Rattle.std.specs.Prelude.{ℕ, ◌≡◌, List}
use Rattle.layout.specs.declared.outcome.Counts.{Counts}
use Rattle.layout.specs.Words.{Words}
use Rattle.refusals.specs.declared.checked.Checked.{Checked}
use Rattle.refusals.specs.Checked.{checked_of}

pub record TableLent (k : Checked) (ns ts : List ℕ) (c : Counts) : Type 0 where
  pub words : Words
  pub snapshots : words.snapshots ≡ ns
  pub tables : words.tables ≡ ts
  pub checked : k ≡ checked_of words c

pub record ColumnsLent (k : Checked) (ns ts cs : List ℕ) (c : Counts) : Type 0 where
  pub words : Words
  pub snapshots : words.snapshots ≡ ns
  pub tables : words.tables ≡ ts
  pub columns : words.columns ≡ cs
  pub checked : k ≡ checked_of words c
