-- The tables that 'create table' is lent: from the check of all runs to what its parts rely on.
use Prim.Native.Nat.{ℕ}
use mathlib.Core.Path.{◌≡◌, refl}
use mathlib.Core.Bool.{true}
use mathlib.Core.List.{List}
use Rattle.layout.specs.declared.outcome.Counts.{Counts}
use Rattle.layout.specs.declared.outcome.Terms.{Terms}
use Rattle.layout.specs.Words.{Words}
use Rattle.ducklake.specs.Commits.{create_table}
use Rattle.ducklake.specs.Calls.{Call, commit_at, refusal}
use Rattle.call_laws.proofs.Refusals.{AcceptedCall}
use Rattle.refusals.specs.declared.checked.Checked.{Checked}
use Rattle.refusals.specs.Checked.{checked_of}
use Rattle.refusals.proofs.Laws.{checked_ready}
use Rattle.table_creation.specs.Lent.{CreateTableLent, create_table_leaves}
use Rattle.table_creation.specs.TableRoom.{TableChecked, TableRoom}
use Rattle.table_creation.proofs.TableRoom.{table_checked, create_table_relies}

abbrev pub create_table_lent : (w : Words) (c : Counts) {checked : Checked} → checked ≡ checked_of w c
    → CreateTableLent checked w.snapshots w.schemas w.tables w.table_names w.columns w.column_names c
create_table_lent w c e =
    record { words = w; snapshots = refl; schemas = refl; tables = refl; table_names = refl; columns = refl; column_names = refl; checked = e }

module _ {checked : Checked} {ns ss ts tn cs cn : List ℕ} {c : Counts} (l : CreateTableLent checked ns ss ts tn cs cn c) where
  pub lent_checked : checked.sound ≡ true → TableChecked ns ss ts tn c
  lent_checked h = rw (l.snapshots, l.schemas, l.tables, l.table_names) at (table_checked l.words c (checked_ready l.words c l.checked h))

  -- a number that is the call's on all tables of these runs is its number on the tables lent
  pub lent_judged : {n : ℕ} (k : Call) → ((w : Words) → w.snapshots ≡ ns → w.schemas ≡ ss → w.tables ≡ ts → w.table_names ≡ tn → checked ≡ checked_of w c → (m : ℕ) → n ≡ refusal w c m k)
      → (m : ℕ) → n ≡ refusal l.words c m k
  lent_judged k f = f l.words l.snapshots l.schemas l.tables l.table_names l.checked

  pub lent_relies : (m : ℕ) (terms : Terms) (schema : ℕ) (name words names : List ℕ) → AcceptedCall l.words c m (commit_at terms (create_table schema name words names))
      → TableRoom ns ts tn cs cn c name words names
  lent_relies m terms schema name words names A =
      rw (l.snapshots, l.tables, l.table_names, l.columns, l.column_names) at (create_table_relies l.words c m terms schema name words names A)

  pub leaves_all : create_table_leaves l.words ns ts tn cs cn ≡ l.words
  leaves_all = rw (← l.snapshots, ← l.tables, ← l.table_names, ← l.columns, ← l.column_names) refl
