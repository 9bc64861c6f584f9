-- The tables that a drop is lent: from the check of all runs to what its parts rely on.
use Prim.Native.Nat.{ℕ}
use mathlib.Core.Path.{◌≡◌, refl}
use mathlib.Core.Bool.{true}
use mathlib.Core.List.{List}
use native.Mathlib.Omega.{arith}
use Rattle.layout.specs.declared.outcome.Counts.{Counts}
use Rattle.layout.specs.declared.outcome.Terms.{Terms}
use Rattle.layout.specs.Words.{Words}
use Rattle.ducklake.specs.Commits.{drop_table, drop_schema}
use Rattle.ducklake.specs.Calls.{Call, commit_at, refusal}
use Rattle.call_laws.proofs.Commits.{held_after}
use Rattle.call_laws.proofs.CommitCounts.{drop_schema_adds, drop_table_adds}
use Rattle.call_laws.proofs.Ready.{ready}
use Rattle.call_laws.proofs.Refusals.{AcceptedCall}
use Rattle.refusals.specs.declared.checked.Checked.{Checked}
use Rattle.refusals.specs.Checked.{checked_of}
use Rattle.refusals.proofs.Laws.{checked_ready}
use Rattle.lookup.proofs.Findable.{findable}
use Rattle.commits.proofs.Room.{snapshot_room}
use Rattle.drops.specs.Lent.{DropSchemaLent, drop_schema_leaves, DropTableLent, drop_table_leaves}
use Rattle.drops.specs.DropRoom.{DropSchemaChecked, DropTableChecked, DropSchemaRoom, DropTableRoom}

-- 'Drop schema'

abbrev pub drop_schema_lent : (w : Words) (c : Counts) {checked : Checked} → checked ≡ checked_of w c → DropSchemaLent checked w.snapshots w.schemas w.tables c
drop_schema_lent w c e = record { words = w; snapshots = refl; schemas = refl; tables = refl; checked = e }

module _ {checked : Checked} {ns ss ts : List ℕ} {c : Counts} (l : DropSchemaLent checked ns ss ts c) where
  pub drop_schema_checked : checked.sound ≡ true → DropSchemaChecked ns ss ts c
  drop_schema_checked h =
      let R = checked_ready l.words c l.checked h in
      record {
        latest = rw l.snapshots at R.latest;
        schemas = rw l.schemas at (findable R).schemas;
        tables = rw l.tables at R.held.tables;
      }

  -- a number that is the call's on all tables of these runs is its number on the tables lent
  pub drop_schema_judged : {n : ℕ} (k : Call) → ((w : Words) → w.snapshots ≡ ns → w.schemas ≡ ss → w.tables ≡ ts → checked ≡ checked_of w c → (m : ℕ) → n ≡ refusal w c m k)
      → (m : ℕ) → n ≡ refusal l.words c m k
  drop_schema_judged k f = f l.words l.snapshots l.schemas l.tables l.checked

  pub drop_schema_relies : (m : ℕ) (terms : Terms) (schema : ℕ) → AcceptedCall l.words c m (commit_at terms (drop_schema schema)) → DropSchemaRoom ns ss c
  drop_schema_relies m terms schema A =
      let R = ready l.words c A.sound in
      let h = held_after l.words c A.fits terms _ (drop_schema_adds _ terms.time schema) A.room in
      record { snapshots = rw l.snapshots at (snapshot_room l.words c _ 0 0 R refl h (omega arith) (omega arith)); schemas = rw l.schemas at R.held.schemas }

  pub drop_schema_leaves_lem : drop_schema_leaves l.words ns ss ≡ l.words
  drop_schema_leaves_lem = rw (← l.snapshots, ← l.schemas) refl

-- 'Drop table'

abbrev pub drop_table_lent : (w : Words) (c : Counts) {checked : Checked} → checked ≡ checked_of w c
    → DropTableLent checked w.snapshots w.tables w.columns w.data_files w.delete_files c
drop_table_lent w c e = record { words = w; snapshots = refl; tables = refl; columns = refl; data_files = refl; delete_files = refl; checked = e }

module _ {checked : Checked} {ns ts cs fs ds : List ℕ} {c : Counts} (l : DropTableLent checked ns ts cs fs ds c) where
  pub drop_table_checked : checked.sound ≡ true → DropTableChecked ns ts c
  drop_table_checked h =
      let R = checked_ready l.words c l.checked h in
      record {
        latest = rw l.snapshots at R.latest;
        tables = rw l.tables at (findable R).tables;
      }

  pub drop_table_judged : {n : ℕ} (k : Call) → ((w : Words) → w.snapshots ≡ ns → w.tables ≡ ts → checked ≡ checked_of w c → (m : ℕ) → n ≡ refusal w c m k)
      → (m : ℕ) → n ≡ refusal l.words c m k
  drop_table_judged k f = f l.words l.snapshots l.tables l.checked

  pub drop_table_relies : (m : ℕ) (terms : Terms) (table : ℕ) → AcceptedCall l.words c m (commit_at terms (drop_table table)) → DropTableRoom ns ts cs fs ds c
  drop_table_relies m terms table A =
      let R = ready l.words c A.sound in
      let h = held_after l.words c A.fits terms _ (drop_table_adds _ terms.time table) A.room in
      record {
        snapshots = rw l.snapshots at (snapshot_room l.words c _ 0 0 R refl h (omega arith) (omega arith));
        tables = rw l.tables at R.held.tables;
        columns = rw l.columns at R.held.columns;
        data_files = rw l.data_files at R.held.data_files;
        delete_files = rw l.delete_files at R.held.delete_files;
      }

  pub drop_table_leaves_lem : drop_table_leaves l.words ns ts cs fs ds ≡ l.words
  drop_table_leaves_lem = rw (← l.snapshots, ← l.tables, ← l.columns, ← l.data_files, ← l.delete_files) refl
