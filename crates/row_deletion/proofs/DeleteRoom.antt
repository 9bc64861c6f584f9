-- What sound tables, a refusal with 17 and an accepted call give a delete.
use Prim.Native.Nat.{ℕ}
use mathlib.Core.Path.{◌≡◌, refl, ap, ◌∙◌}
use mathlib.Core.Bool.{true}
use mathlib.Core.List.{List, flat_map, append-nil}
use native.Mathlib.Omega.{arith}
use lib.Dec.{ltb}
use lib.ListN.{length}
use Rattle.lists.specs.Lists.{range, chained}
use Rattle.lists.proofs.Tests.{either}
use Rattle.lists.proofs.Members.{in_map_of, in_range_lem}
use Rattle.layout.specs.declared.outcome.Counts.{Counts}
use Rattle.layout.specs.declared.outcome.Terms.{Terms}
use Rattle.layout.specs.declared.record.Uuid.{Uuid}
use Rattle.layout.specs.Catalog.{Versioned, DeleteFile}
use Rattle.layout.specs.Words.{Words, load, delete_file_at, delete_files_in}
use Rattle.ducklake.specs.Liveness.{deleted_at}
use Rattle.ducklake.specs.Refusals.{bad_positions}
use Rattle.ducklake.specs.Commits.{delete}
use Rattle.ducklake.specs.Calls.{commit_at, call_refusals}
use Rattle.ducklake.proofs.facts.FirstRefusals.{first_passed}
use Rattle.ducklake.proofs.claim.Accepted.{numbered_call}
use Rattle.call_laws.specs.Writes.{add_counts}
use Rattle.call_laws.proofs.Commits.{held_after}
use Rattle.call_laws.proofs.CommitCounts.{delete_adds_lem}
use Rattle.call_laws.proofs.Ready.{Ready, ready, one_delete_file, positions_ascend_lem}
use Rattle.call_laws.proofs.Refusals.{AcceptedCall}
use Rattle.lookup.proofs.Findable.{findable}
use Rattle.commits.proofs.LentRecords.{files_lent}
use Rattle.commits.proofs.Room.{snapshot_room}
use Rattle.row_deletion.specs.Deleted.{DeletesKnown}
use Rattle.row_deletion.specs.DeleteRoom.{DeleteChecked, OffenceSought, DeleteRoom}
use Rattle.row_deletion.proofs.Judges.{positions_ascending, Offence}

module _ (w : Words) (c : Counts) (R : Ready w c) where
  abbrev ds : List (Versioned DeleteFile)
  ds = delete_files_in w.delete_files w.positions c.delete_files

  -- none is deleted, or the positions of one delete file are
  deleted_ascend : (s file : ℕ) → chained ltb (deleted_at ds s file) ≡ true
  unfolding deleted_at flat_map chained
  deleted_ascend s file =
      either (one_delete_file R s file) (λ e. rw e refl)
      (λ d. let m = in_map_of (delete_file_at w.delete_files w.positions) (range 0 c.delete_files) d.1 in
      rw (d.2.1, append-nil) (ap (λ (x : Versioned DeleteFile). chained ltb x.body.positions) m.2 ∙ positions_ascend_lem R m.0 (omega (arith, (in_range_lem 0 c.delete_files m.1).1))))

  deletes_known : DeletesKnown w.delete_files w.positions c.delete_files
  deletes_known = record {
    held = record { lent = R.held.delete_files; within = omega (arith, R.added, R.held.positions) };
    within = record { lent = R.held.delete_files; within = omega (arith, R.added, R.few.positions) };
    single = λ s file. either (one_delete_file R s file) (λ e. omega (arith, ap length e)) (λ d. omega (arith, ap length d.2.1));
    ascending = deleted_ascend;
  }

  pub delete_checked : DeleteChecked w.snapshots w.data_files w.delete_files w.positions w.scheduled c
  delete_checked = record { latest = R.latest; data_files = (findable R).data_files; deletes = deletes_known; files = files_lent w c R }

pub offence_sought : (w : Words) (c : Counts) (file : ℕ) (new : List ℕ) → Offence w c file new → OffenceSought w.snapshots w.delete_files w.positions c new
offence_sought w c file new O =
    let R = ready w c O.sound in
    record { latest = R.latest; deletes = deletes_known w c R; ascending = positions_ascending _ new O.fit }

-- what an accepted delete writes in
pub delete_relies : (w : Words) (c : Counts) (m : ℕ) (terms : Terms) (file : ℕ) (uuid : Uuid) (new : List ℕ) → AcceptedCall w c m (commit_at terms (delete file uuid new))
    → DeleteRoom w.snapshots w.data_files w.delete_files w.positions c file new
unfolding add_counts load
delete_relies w c m terms file uuid new A =
    let R = ready w c A.sound in
    let h = held_after w c A.fits terms (delete file uuid new) (delete_adds_lem (load w c) terms.time file uuid new) A.room in
    record {
      snapshots = snapshot_room w c _ 0 1 R refl h (omega arith) (omega arith);
      data_files = (findable R).data_files;
      deletes = deletes_known w c R;
      used = R.added;
      delete_files = omega (arith, h.delete_files);
      positions = omega (arith, h.positions);
      ascending = positions_ascending _ new (first_passed (call_refusals (load w c) (commit_at terms (delete file uuid new))) (numbered_call (load w c) (commit_at terms (delete file uuid new))) A.judged bad_positions);
    }
