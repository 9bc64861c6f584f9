-- The tests of commits against the definition's: what was looked at in the runs, in the tables of these words.
use Prim.Native.Nat.{ℕ, ◌+◌, ◌≤◌}
use mathlib.Core.Path.{◌≡◌, refl, ◌∙◌}
use mathlib.Core.Bool.{Bool, true, not, ◌&&◌}
use mathlib.Core.List.{List}
use lib.Dec.{leb}
use lib.ListN.{length}
use borrow.Author.Tests.{leb-true}
use Rattle.lists.specs.Lists.{all, any}
use Rattle.lists.proofs.Tests.{both}
use Rattle.layout.specs.declared.outcome.Counts.{Counts}
use Rattle.layout.specs.Catalog.{Versioned, Snapshot, Table}
use Rattle.layout.specs.Names.{name_size, is_name_byte, is_name_argument, padded}
use Rattle.layout.specs.Words.{Words, load, snapshots_in, schemas_in, tables_in, data_files_in}
use Rattle.ducklake.specs.Liveness.{latest_of, latest_id, schemas_at, tables_at, is_live}
use Rattle.ducklake.specs.Soundness.{snapshot_in_range, sound}
use Rattle.ducklake.specs.Arguments.{clashes}
use Rattle.ducklake.specs.Commits.{Change, numbers_fit, following}
use Rattle.ducklake.specs.Calls.{in_time}
use Rattle.call_laws.proofs.Commits.{next-is, numbers_still}
use Rattle.call_laws.proofs.Ready.{ready}

-- a name that is well formed fits its place
pub name_short : (name : List ℕ) → is_name_argument name ≡ true → length name ≤ name_size
unfolding is_name_argument
name_short name h =
    leb-true (length name) name_size (both (leb 1 (length name)) (leb (length name) name_size) (both (leb 1 (length name) && leb (length name) name_size) (all is_name_byte name) h).0).1

module _ (w : Words) (c : Counts) {ns : List ℕ} (p : w.snapshots ≡ ns) {l : Snapshot} (e : l ≡ latest_of (snapshots_in ns c.snapshots)) where
  -- 8
  pub time_as : (time : ℕ) {b : Bool} → b ≡ leb l.time time → b ≡ in_time (load w c) time
  unfolding load
  time_as time h = h ∙ rw (e, ← p) refl

  -- 6, of a schema, a table, a data file

  pub schema_live_as : {ss : List ℕ} (schema : ℕ) {b : Bool} → w.schemas ≡ ss → b ≡ is_live (schemas_in ss w.schema_names c.schemas) l.id schema
      → b ≡ is_live (load w c).schemas (latest_id (load w c)) schema
  unfolding load
  schema_live_as schema q h = h ∙ rw (e, ← p, ← q) refl

  pub table_live_as : {ts : List ℕ} (table : ℕ) {b : Bool} → w.tables ≡ ts → b ≡ is_live (tables_in ts w.table_names c.tables) l.id table
      → b ≡ is_live (load w c).tables (latest_id (load w c)) table
  unfolding load
  table_live_as table q h = h ∙ rw (e, ← p, ← q) refl

  pub data_file_live_as : {fs : List ℕ} (file : ℕ) {b : Bool} → w.data_files ≡ fs → b ≡ is_live (data_files_in fs c.data_files) l.id file
      → b ≡ is_live (load w c).data_files (latest_id (load w c)) file
  unfolding load
  data_file_live_as file q h = h ∙ rw (e, ← p, ← q) refl

  -- 10, of a schema and of a table

  pub schema_name_as : {ss xs : List ℕ} (name : List ℕ) {b : Bool} → w.schemas ≡ ss → w.schema_names ≡ xs
      → b ≡ not (any (λ v. clashes v.body.name (padded name)) (schemas_at (schemas_in ss xs c.schemas) l.id))
      → b ≡ not (any (λ v. clashes v.body.name (padded name)) (schemas_at (load w c).schemas (latest_id (load w c))))
  unfolding load
  schema_name_as name q r h = h ∙ rw (e, ← p, ← q, ← r) refl

  pub table_name_as : {ts xs : List ℕ} (schema : ℕ) (name : List ℕ) {b : Bool} → w.tables ≡ ts → w.table_names ≡ xs
      → b ≡ not (any (λ v. clashes v.body.name (padded name)) (tables_at (tables_in ts xs c.tables) l.id schema))
      → b ≡ not (any (λ v. clashes v.body.name (padded name)) (tables_at (load w c).tables (latest_id (load w c)) schema))
  unfolding load
  table_name_as schema name q r h = h ∙ rw (e, ← p, ← q, ← r) refl

  -- 4, of a commit without rows: the numbers are those of the snapshot after the latest, which takes so many ids
  pub numbers_as : (d : Change) (catalog_ids file_ids : ℕ) {b : Bool} → sound w c ≡ true → ((t : Versioned Table) → d.rows t ≡ 0)
      → catalog_ids ≡ length d.added.schemas + length d.added.tables → file_ids ≡ length d.added.delete_files + length d.added.data_files
      → b ≡ snapshot_in_range (following l d.time d.kind d.object catalog_ids file_ids) → b ≡ numbers_fit (load w c) d
  unfolding load
  numbers_as d catalog_ids file_ids s z x y h =
      h ∙ numbers_still (load w c) d (next-is (load w c) d l catalog_ids file_ids (e ∙ rw (← p) refl) x y) z (ready w c s).next_row_ids
