-- The tables that a reading of files is lent: as the check of all runs gives them, and a part of what is lent.
use Prim.Native.Nat.{ℕ}
use mathlib.Core.Path.{◌≡◌, refl}
use mathlib.Core.List.{List}
use Rattle.layout.specs.declared.outcome.Counts.{Counts}
use Rattle.layout.specs.Words.{Words}
use Rattle.refusals.specs.declared.checked.Checked.{Checked}
use Rattle.refusals.specs.Checked.{checked_of}
use Rattle.readings.specs.Lent.{TableLent, ColumnsLent}
use Rattle.scans.specs.Lent.{FilesLent, FilteredLent}

module _ (w : Words) (c : Counts) {checked : Checked} (e : checked ≡ checked_of w c) where
  abbrev pub files_lent : FilesLent checked w.snapshots w.tables w.data_files w.delete_files w.statistics c
  files_lent = record { words = w; snapshots = refl; tables = refl; data_files = refl; delete_files = refl; statistics = refl; checked = e }

  abbrev pub filtered_lent : FilteredLent checked w.snapshots w.tables w.columns w.data_files w.delete_files w.statistics c
  filtered_lent = record { words = w; snapshots = refl; tables = refl; columns = refl; data_files = refl; delete_files = refl; statistics = refl; checked = e }

module _ {k : Checked} {ns ts fs ds qs : List ℕ} {c : Counts} where
  abbrev pub only_tables : FilesLent k ns ts fs ds qs c → TableLent k ns ts c
  only_tables l = record { words = l.words; snapshots = l.snapshots; tables = l.tables; checked = l.checked }

  abbrev pub only_columns : {cs : List ℕ} → FilteredLent k ns ts cs fs ds qs c → ColumnsLent k ns ts cs c
  only_columns l = record { words = l.words; snapshots = l.snapshots; tables = l.tables; columns = l.columns; checked = l.checked }
