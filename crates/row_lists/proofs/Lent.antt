-- The tables that a reading of rows is lent: as the check of all runs gives them, and a part of what is lent.
use Prim.Native.Nat.{ℕ}
use mathlib.Core.Path.{◌≡◌, refl}
use mathlib.Core.List.{List}
use Rattle.layout.specs.declared.outcome.Counts.{Counts}
use Rattle.layout.specs.Words.{Words}
use Rattle.refusals.specs.declared.checked.Checked.{Checked}
use Rattle.refusals.specs.Checked.{checked_of}
use Rattle.readings.specs.Lent.{TableLent}
use Rattle.row_lists.specs.Lent.{RowsLent}

abbrev pub rows_lent : (w : Words) (c : Counts) {checked : Checked} → checked ≡ checked_of w c
    → RowsLent checked w.snapshots w.tables w.data_files w.delete_files w.positions c
rows_lent w c e = record { words = w; snapshots = refl; tables = refl; data_files = refl; delete_files = refl; positions = refl; checked = e }

abbrev pub only_tables : {k : Checked} {ns ts fs ds ps : List ℕ} {c : Counts} → RowsLent k ns ts fs ds ps c → TableLent k ns ts c
only_tables l = record { words = l.words; snapshots = l.snapshots; tables = l.tables; checked = l.checked }
