-- The tables that an insert is lent: from the check of all runs to what its parts rely on.
use Prim.Native.Nat.{ℕ}
use mathlib.Core.Path.{◌≡◌, refl}
use mathlib.Core.Bool.{true}
use mathlib.Core.List.{List}
use Rattle.layout.specs.declared.outcome.Counts.{Counts}
use Rattle.layout.specs.declared.outcome.Terms.{Terms}
use Rattle.layout.specs.declared.record.Uuid.{Uuid}
use Rattle.layout.specs.Words.{Words}
use Rattle.ducklake.specs.Commits.{insert}
use Rattle.ducklake.specs.Calls.{Call, commit_at, refusal}
use Rattle.call_laws.proofs.Refusals.{AcceptedCall}
use Rattle.refusals.specs.declared.checked.Checked.{Checked}
use Rattle.refusals.specs.Checked.{checked_of}
use Rattle.refusals.proofs.Laws.{checked_ready}
use Rattle.row_insertion.specs.Lent.{InsertLent, insert_leaves}
use Rattle.row_insertion.specs.Written.{InsertChecked, InsertRoom}
use Rattle.row_insertion.proofs.InsertRoom.{insert_checked, insert_relies}

abbrev pub insert_lent : (w : Words) (c : Counts) {checked : Checked} → checked ≡ checked_of w c
    → InsertLent checked w.snapshots w.tables w.columns w.data_files w.delete_files w.statistics w.scheduled c
insert_lent w c e = record {
  words = w;
  snapshots = refl;
  tables = refl;
  columns = refl;
  data_files = refl;
  delete_files = refl;
  statistics = refl;
  scheduled = refl;
  checked = e;
}

module _ {checked : Checked} {ns ts cs fs ds qs xs : List ℕ} {c : Counts} (l : InsertLent checked ns ts cs fs ds qs xs c) where
  pub lent_checked : checked.sound ≡ true → InsertChecked ns ts cs fs ds xs c
  lent_checked h =
      rw (l.snapshots, l.tables, l.columns, l.data_files, l.delete_files, l.scheduled) at (insert_checked l.words c (checked_ready l.words c l.checked h))

  -- a number that is the call's on all tables of these runs is its number on the tables lent
  pub lent_judged : {n : ℕ} (k : Call) → ((w : Words) → w.snapshots ≡ ns → w.tables ≡ ts → w.columns ≡ cs → w.data_files ≡ fs → w.delete_files ≡ ds → w.scheduled ≡ xs
      → checked ≡ checked_of w c → (m : ℕ) → n ≡ refusal w c m k) → (m : ℕ) → n ≡ refusal l.words c m k
  lent_judged k f = f l.words l.snapshots l.tables l.columns l.data_files l.delete_files l.scheduled l.checked

  pub lent_relies : (m : ℕ) (terms : Terms) (table rows : ℕ) (uuid : Uuid) (statistics : List ℕ) → AcceptedCall l.words c m (commit_at terms (insert table rows uuid statistics))
      → InsertRoom ns ts fs qs c rows statistics
  lent_relies m terms table rows uuid statistics A =
      rw (l.snapshots, l.tables, l.data_files, l.statistics) at (insert_relies l.words c m terms table rows uuid statistics A)

  pub leaves_all : insert_leaves l.words ns ts fs qs ≡ l.words
  leaves_all = rw (← l.snapshots, ← l.tables, ← l.data_files, ← l.statistics) refl
