-- The tables that a listing is lent: as the check of all runs gives them, and a part of what is lent.
use Prim.Native.Nat.{ℕ}
use mathlib.Core.Path.{◌≡◌, refl}
use mathlib.Core.List.{List}
use Rattle.layout.specs.declared.outcome.Counts.{Counts}
use Rattle.layout.specs.Words.{Words}
use Rattle.refusals.specs.declared.checked.Checked.{Checked}
use Rattle.refusals.specs.Checked.{checked_of}
use Rattle.readings.specs.Lent.{TableLent, ColumnsLent}
use Rattle.listings.specs.Lent.{SnapshotsLent, SchemasLent, TablesLent, NamedLent}

module _ (w : Words) (c : Counts) {checked : Checked} (e : checked ≡ checked_of w c) where
  abbrev pub snapshots_lent_lem : SnapshotsLent checked w.snapshots c
  snapshots_lent_lem = record { words = w; snapshots = refl; checked = e }

  abbrev pub schemas_lent_lem : SchemasLent checked w.snapshots w.schemas c
  schemas_lent_lem = record { words = w; snapshots = refl; schemas = refl; checked = e }

  abbrev pub tables_lent_lem : TablesLent checked w.snapshots w.schemas w.tables c
  tables_lent_lem = record { words = w; snapshots = refl; schemas = refl; tables = refl; checked = e }

  abbrev pub named_lent : NamedLent checked w.snapshots w.schemas w.tables w.table_names c
  named_lent = record { words = w; snapshots = refl; schemas = refl; tables = refl; table_names = refl; checked = e }

  abbrev pub columns_lent_lem : ColumnsLent checked w.snapshots w.tables w.columns c
  columns_lent_lem = record { words = w; snapshots = refl; tables = refl; columns = refl; checked = e }

module _ {k : Checked} {c : Counts} where
  abbrev pub only_snapshots : {ns ss : List ℕ} → SchemasLent k ns ss c → SnapshotsLent k ns c
  only_snapshots l = record { words = l.words; snapshots = l.snapshots; checked = l.checked }

  abbrev pub only_schemas : {ns ss ts : List ℕ} → TablesLent k ns ss ts c → SchemasLent k ns ss c
  only_schemas l = record { words = l.words; snapshots = l.snapshots; schemas = l.schemas; checked = l.checked }

  abbrev pub only_tables : {ns ts cs : List ℕ} → ColumnsLent k ns ts cs c → TableLent k ns ts c
  only_tables l = record { words = l.words; snapshots = l.snapshots; tables = l.tables; checked = l.checked }
