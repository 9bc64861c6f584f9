-- The tests of an insert alone against the definition's: its statistics, and the numbers that it moves on to.
use Prim.Native.Nat.{ℕ, ◌+◌}
use mathlib.Core.Path.{◌≡◌, refl, ◌∙◌}
use mathlib.Core.Bool.{Bool, true, ◌&&◌}
use mathlib.Core.List.{List}
use native.Mathlib.Nat.{add-zero}
use Rattle.layout.specs.declared.outcome.Counts.{Counts}
use Rattle.layout.specs.declared.record.Uuid.{Uuid}
use Rattle.layout.specs.Catalog.{Snapshot, Catalog}
use Rattle.layout.specs.Words.{Words, load, snapshots_in, tables_in, columns_in}
use Rattle.ducklake.specs.Kinds.{inserted_into_table}
use Rattle.ducklake.specs.Liveness.{latest_of, latest, latest_id, columns_at, is_live, table_of_id}
use Rattle.ducklake.specs.Soundness.{in_limit, snapshot_in_range, sound}
use Rattle.ducklake.specs.Arguments.{statistics_argument_fits}
use Rattle.ducklake.specs.Commits.{insert, new_data_file_id, change_of, numbers_fit, following}
use Rattle.call_laws.proofs.Commits.{next-is, numbers_insert}
use Rattle.call_laws.proofs.Ready.{ready}

-- what an insert looked at, in the tables of these words
module _ (w : Words) (c : Counts) {ns : List ℕ} (p : w.snapshots ≡ ns) {l : Snapshot} (e : l ≡ latest_of (snapshots_in ns c.snapshots)) where
  pub statistics_as : {cs : List ℕ} (table rows : ℕ) (statistics : List ℕ) {b : Bool} → w.columns ≡ cs
      → b ≡ statistics_argument_fits (columns_at (columns_in cs w.column_names c.columns) l.id table) rows l.next_file_id statistics
      → b ≡ statistics_argument_fits (columns_at (load w c).columns (latest_id (load w c)) table) rows (new_data_file_id (load w c) 0) statistics
  unfolding load
  statistics_as table rows statistics q h = h ∙ rw (e, ← p, ← q, add-zero) refl

  pub numbers_as : {ts : List ℕ} (time table rows : ℕ) (uuid : Uuid) (statistics : List ℕ) {b : Bool} → sound w c ≡ true → w.tables ≡ ts
      → is_live (load w c).tables (latest_id (load w c)) table ≡ true
      → b ≡ (snapshot_in_range (following l time inserted_into_table table 0 1) && in_limit ((table_of_id (tables_in ts w.table_names c.tables) table).body.next_row_id + rows))
      → b ≡ numbers_fit (load w c) (change_of (load w c) time (insert table rows uuid statistics))
  unfolding load change_of
  numbers_as time table rows uuid statistics s q live h =
      let C : Catalog = load w c in
      let k = change_of C time (insert table rows uuid statistics) in
      h ∙ rw (e, ← p, ← q) (numbers_insert C (ready w c s).facts time table rows uuid statistics (next-is C k (latest C) 0 1 refl refl refl) refl live)
