-- The tables that a delete is lent: from the check of all runs to what its parts rely on.
use Prim.Native.Nat.{ℕ}
use mathlib.Core.Path.{◌≡◌, refl, ◌∙◌}
use mathlib.Core.Bool.{true}
use mathlib.Core.List.{List}
use Rattle.layout.specs.declared.outcome.Counts.{Counts}
use Rattle.layout.specs.declared.outcome.Terms.{Terms}
use Rattle.layout.specs.declared.record.Uuid.{Uuid}
use Rattle.layout.specs.Catalog.{Snapshot}
use Rattle.layout.specs.Words.{Words, load, snapshots_in, delete_files_in}
use Rattle.ducklake.specs.Liveness.{latest_of, latest_id, deleted_at}
use Rattle.ducklake.specs.Commits.{delete}
use Rattle.ducklake.specs.Calls.{commit_at}
use Rattle.call_laws.proofs.Refusals.{AcceptedCall}
use Rattle.refusals.specs.declared.checked.Checked.{Checked}
use Rattle.refusals.specs.Checked.{checked_of}
use Rattle.refusals.proofs.Laws.{checked_ready}
use Rattle.row_deletion.specs.Lent.{DeleteLent, delete_leaves}
use Rattle.row_deletion.specs.DeleteRoom.{DeleteChecked, OffenceSought, DeleteRoom}
use Rattle.row_deletion.proofs.Judges.{Offence}
use Rattle.row_deletion.proofs.DeleteRoom.{delete_checked, offence_sought, delete_relies}

abbrev pub delete_lent : (w : Words) (c : Counts) {checked : Checked} → checked ≡ checked_of w c
    → DeleteLent checked w.snapshots w.data_files w.delete_files w.positions w.scheduled c
delete_lent w c e = record { words = w; snapshots = refl; data_files = refl; delete_files = refl; positions = refl; scheduled = refl; checked = e }

module _ {checked : Checked} {ns fs ds ps xs : List ℕ} {c : Counts} (l : DeleteLent checked ns fs ds ps xs c) where
  pub lent_checked : checked.sound ≡ true → DeleteChecked ns fs ds ps xs c
  lent_checked h =
      rw (l.snapshots, l.data_files, l.delete_files, l.positions, l.scheduled) at (delete_checked l.words c (checked_ready l.words c l.checked h))

  -- what is deleted, in the runs and in the tables lent
  pub lent_deleted : (file : ℕ) {s : Snapshot} {old : List ℕ} → s ≡ latest_of (snapshots_in ns c.snapshots) → old ≡ deleted_at (delete_files_in ds ps c.delete_files) s.id file
      → old ≡ deleted_at (load l.words c).delete_files (latest_id (load l.words c)) file
  unfolding load
  lent_deleted file e k = k ∙ rw (e, ← l.snapshots, ← l.delete_files, ← l.positions) refl

  pub lent_sought : (file : ℕ) (new : List ℕ) → Offence l.words c file new → OffenceSought ns ds ps c new
  lent_sought file new O = rw (l.snapshots, l.delete_files, l.positions) at (offence_sought l.words c file new O)

  pub lent_relies : (m : ℕ) (terms : Terms) (file : ℕ) (uuid : Uuid) (new : List ℕ) → AcceptedCall l.words c m (commit_at terms (delete file uuid new))
      → DeleteRoom ns fs ds ps c file new
  lent_relies m terms file uuid new A = rw (l.snapshots, l.data_files, l.delete_files, l.positions) at (delete_relies l.words c m terms file uuid new A)

  pub leaves_all : delete_leaves l.words ns ds ps ≡ l.words
  leaves_all = rw (← l.snapshots, ← l.delete_files, ← l.positions) refl
