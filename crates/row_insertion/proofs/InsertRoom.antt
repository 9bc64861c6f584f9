-- What sound tables give the checks of an insert, and an accepted insert its writes: room behind the records in use, numbers that don't wrap.
use Prim.Native.Nat.{ℕ, ◌≤◌}
use mathlib.Core.Path.{◌≡◌, refl}
use mathlib.Core.Bool.{true}
use mathlib.Core.List.{List}
use native.Mathlib.Omega.{arith}
use lib.Dec.{leb}
use borrow.Author.Tests.{leb-true}
use Rattle.lists.proofs.Tests.{both}
use Rattle.layout.specs.declared.outcome.Counts.{Counts}
use Rattle.layout.specs.declared.outcome.Terms.{Terms}
use Rattle.layout.specs.declared.record.Uuid.{Uuid}
use Rattle.layout.specs.Catalog.{record_count_limit}
use Rattle.layout.specs.Words.{Words, load}
use Rattle.ducklake.specs.Refusals.{bad_record_count}
use Rattle.ducklake.specs.Soundness.{is_record_count}
use Rattle.ducklake.specs.Commits.{insert}
use Rattle.ducklake.specs.Calls.{commit_at, call_refusals}
use Rattle.ducklake.proofs.facts.FirstRefusals.{first_passed}
use Rattle.ducklake.proofs.claim.Accepted.{numbered_call}
use Rattle.call_laws.specs.Writes.{add_counts}
use Rattle.call_laws.proofs.Commits.{held_after}
use Rattle.call_laws.proofs.CommitCounts.{insert_adds_lem}
use Rattle.call_laws.proofs.Ready.{Ready, ready, table_small}
use Rattle.call_laws.proofs.Refusals.{AcceptedCall}
use Rattle.lookup.proofs.Findable.{findable}
use Rattle.commits.proofs.LentRecords.{files_lent}
use Rattle.commits.proofs.Room.{snapshot_room}
use Rattle.row_insertion.specs.Written.{InsertChecked, InsertRoom}

pub insert_checked : (w : Words) (c : Counts) → Ready w c → InsertChecked w.snapshots w.tables w.columns w.data_files w.delete_files w.scheduled c
insert_checked w c R = record { latest = R.latest; tables = (findable R).tables; columns = (findable R).columns; files = files_lent w c R }

-- a record count in its range
few_rows : (n : ℕ) → is_record_count n ≡ true → n ≤ record_count_limit
unfolding is_record_count
few_rows n h = leb-true n record_count_limit (both (leb 1 n) (leb n record_count_limit) h).1

-- what an accepted insert writes in
pub insert_relies : (w : Words) (c : Counts) (m : ℕ) (terms : Terms) (table rows : ℕ) (uuid : Uuid) (statistics : List ℕ) → AcceptedCall w c m (commit_at terms (insert table rows uuid statistics))
    → InsertRoom w.snapshots w.tables w.data_files w.statistics c rows statistics
unfolding add_counts
insert_relies w c m terms table rows uuid statistics A =
    let R = ready w c A.sound in
    let k = commit_at terms (insert table rows uuid statistics) in
    let h = held_after w c A.fits terms (insert table rows uuid statistics) (insert_adds_lem (load w c) terms.time table rows uuid statistics) A.room in
    record {
      snapshots = snapshot_room w c _ 0 1 R refl h (omega arith) (omega arith);
      tables = record { by_id = (findable R).tables; in_limit = λ i l. (table_small R i l).next_row_id; few = few_rows rows (first_passed (call_refusals (load w c) k) (numbered_call (load w c) k) A.judged bad_record_count) };
      data_files = omega (arith, h.data_files);
      statistics = h.statistics;
    }
