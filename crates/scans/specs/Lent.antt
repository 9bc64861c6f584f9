-- The tables that a reading of files is lent runs of: their words, and what the check gave.
use Rattle.std.specs.Prelude.{ℕ, ◌≡◌, List}
use Rattle.layout.specs.declared.outcome.Counts.{Counts}
use Rattle.layout.specs.Words.{Words}
use Rattle.refusals.specs.declared.checked.Checked.{Checked}
use Rattle.refusals.specs.Checked.{checked_of}

pub record FilesLent (k : Checked) (ns ts fs ds qs : List ℕ) (c : Counts) : Type 0 where
  pub words : Words
  pub snapshots : words.snapshots ≡ ns
  pub tables : words.tables ≡ ts
  pub data_files : words.data_files ≡ fs
  pub delete_files : words.delete_files ≡ ds
  pub statistics : words.statistics ≡ qs
  pub checked : k ≡ checked_of words c

pub record FilteredLent (k : Checked) (ns ts cs fs ds qs : List ℕ) (c : Counts) : Type 0 where
  pub words : Words
  pub snapshots : words.snapshots ≡ ns
  pub tables : words.tables ≡ ts
  pub columns : words.columns ≡ cs
  pub data_files : words.data_files ≡ fs
  pub delete_files : words.delete_files ≡ ds
  pub statistics : words.statistics ≡ qs
  pub checked : k ≡ checked_of words c
