-- What sound tables give the tests of 'create table', and an accepted one its writes: room behind the records in use, a name and columns that are well formed.
use Prim.Native.Nat.{ℕ}
use mathlib.Core.Path.{◌≡◌, refl}
use mathlib.Core.List.{List}
use native.Mathlib.Omega.{arith}
use Rattle.layout.specs.declared.outcome.Counts.{Counts}
use Rattle.layout.specs.declared.outcome.Terms.{Terms}
use Rattle.layout.specs.Catalog.{Snapshot}
use Rattle.layout.specs.Words.{Words, load}
use Rattle.ducklake.specs.Refusals.{bad_name, bad_columns}
use Rattle.ducklake.specs.Commits.{create_table}
use Rattle.ducklake.specs.Calls.{Call, commit_at, call_refusals}
use Rattle.ducklake.proofs.claim.Accepted.{numbered_call}
use Rattle.ducklake.proofs.facts.FirstRefusals.{AllPassed, first_passed}
use Rattle.call_laws.specs.Writes.{add_counts}
use Rattle.call_laws.proofs.Commits.{held_after}
use Rattle.call_laws.proofs.CommitCounts.{create_table_adds}
use Rattle.call_laws.proofs.Ready.{Ready, ready}
use Rattle.call_laws.proofs.Refusals.{AcceptedCall}
use Rattle.lookup.proofs.Findable.{findable}
use Rattle.commits.proofs.Judged.{name_short}
use Rattle.commits.proofs.LentRecords.{tables_named_lem}
use Rattle.commits.proofs.Room.{snapshot_room}
use Rattle.table_creation.specs.Appended.{ColumnsRoom}
use Rattle.table_creation.specs.TableRoom.{TableChecked, TableRoom}

pub table_checked : (w : Words) (c : Counts) → Ready w c → TableChecked w.snapshots w.schemas w.tables w.table_names c
table_checked w c R = record { latest = R.latest; schemas = (findable R).schemas; tables = tables_named_lem w c R }

pub create_table_relies : (w : Words) (c : Counts) (m : ℕ) (terms : Terms) (schema : ℕ) (name words names : List ℕ) → AcceptedCall w c m (commit_at terms (create_table schema name words names))
    → TableRoom w.snapshots w.tables w.table_names w.columns w.column_names c name words names
unfolding add_counts load
create_table_relies w c m terms schema name words names A =
    let k : Call = commit_at terms (create_table schema name words names) in
    let h = held_after w c A.fits terms (create_table schema name words names) (create_table_adds (load w c) terms.time schema name words names) A.room in
    let p : AllPassed (call_refusals (load w c) k) = first_passed (call_refusals (load w c) k) (numbered_call (load w c) k) A.judged in
    record {
      snapshots = snapshot_room w c _ 1 0 (ready w c A.sound) refl h (omega arith) (omega arith);
      tables = record { room = omega (arith, h.tables); place = omega (arith, h.table_names); short = name_short name (p bad_name) };
      columns = record { fit = p bad_columns; room = h.columns; named = h.column_names };
    }

-- room for the columns of the new table, by the snapshot that gives its id
pub columns_room_as : {run places words names : List ℕ} {n : ℕ} {l l' : Snapshot} → l ≡ l' → ColumnsRoom run places n l'.next_catalog_id words names
    → ColumnsRoom run places n l.next_catalog_id words names
columns_room_as e R = rw e R
