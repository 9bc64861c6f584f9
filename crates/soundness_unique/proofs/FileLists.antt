-- The ids and the UUIDs of data files, delete files and scheduled files, table by table and together.
use Prim.Native.Nat.{ℕ}
use mathlib.Core.Path.{◌≡◌, refl, ap₂, ◌∙◌}
use mathlib.Core.Bool.{Bool, ◌&&◌}
use mathlib.Core.List.{List, ◌++◌}
use lib.Dec.{ltb}
use Rattle.lists.specs.Lists.{range, all}
use Rattle.lists.specs.Runs.{field, fields}
use Rattle.lists.proofs.Selections.{map-map, all_append, all_maps}
use Rattle.layout.specs.declared.outcome.Counts.{Counts}
use Rattle.layout.specs.declared.record.SnapshotRecord.{SnapshotRecord}
use Rattle.layout.specs.Catalog.{snapshot_of}
use Rattle.layout.specs.Fields.{schema_size, schema_id_word, table_size, table_id_word}
use Rattle.layout.specs.Words.{Words, load, snapshots_in, schemas_in, tables_in, data_file_at, data_files_in, delete_file_at, delete_files_in, scheduled_at, scheduled_in}
use Rattle.ducklake.specs.Liveness.{latest_of}
use Rattle.ducklake.specs.Soundness.{ids_of_files, uuids_of_files, ids_below_next, files_distinct}
use Rattle.soundness_unique.specs.Files.{data_file_ids, delete_file_ids, scheduled_ids, data_file_uuids, delete_file_uuids, scheduled_uuids, files_differ}

-- ids of schemas and tables below a number
pub catalog_ids_below : (s t names table_names : List ℕ) (i j next : ℕ) {a b : Bool} → a ≡ all (λ x. ltb x next) (fields schema_size schema_id_word s i) → b ≡ all (λ x. ltb x next) (fields table_size table_id_word t j)
    → (a && b) ≡ (all (λ v. ltb v.id next) (schemas_in s names i) && all (λ v. ltb v.id next) (tables_in t table_names j))
unfolding field
catalog_ids_below s t names table_names i j next u v = ap₂ ◌&&◌ (u ∙ all_maps _ _ _ _ (range 0 i) (λ _. refl)) (v ∙ all_maps _ _ _ _ (range 0 j) (λ _. refl))

module _ (d e x positions : List ℕ) (n m k : ℕ) where
  pub file_ids_lem : ids_of_files (data_files_in d n) (delete_files_in e positions m) (scheduled_in x k) ≡ data_file_ids d n ++ (delete_file_ids e m ++ scheduled_ids x k)
  unfolding field ids_of_files
  file_ids_lem =
      ap₂ ◌++◌ (map-map (λ f. f.id) (data_file_at d) (range 0 n))
      (ap₂ ◌++◌ (map-map (λ f. f.id) (delete_file_at e positions) (range 0 m)) (map-map (λ f. f.file) (scheduled_at x) (range 0 k)))

  pub file_uuids_lem : uuids_of_files (data_files_in d n) (delete_files_in e positions m) (scheduled_in x k) ≡ data_file_uuids d n ++ (delete_file_uuids e m ++ scheduled_uuids x k)
  unfolding field uuids_of_files
  file_uuids_lem =
      ap₂ ◌++◌ (map-map (λ f. f.body.uuid) (data_file_at d) (range 0 n))
      (ap₂ ◌++◌ (map-map (λ f. f.body.uuid) (delete_file_at e positions) (range 0 m)) (map-map (λ f. f.uuid) (scheduled_at x) (range 0 k)))

  -- ids of files below a number
  pub file_ids_below : (next : ℕ) {a b c : Bool} → a ≡ all (λ x. ltb x next) (data_file_ids d n) → b ≡ all (λ x. ltb x next) (delete_file_ids e m) → c ≡ all (λ x. ltb x next) (scheduled_ids x k)
      → (a && (b && c)) ≡ all (λ i. ltb i next) (ids_of_files (data_files_in d n) (delete_files_in e positions m) (scheduled_in x k))
  file_ids_below next p q r = ap₂ ◌&&◌ p (ap₂ ◌&&◌ q r) ∙ rw (file_ids_lem, all_append, all_append) refl

-- the definitions, of any words that have these runs
module _ (w : Words) (c : Counts) {d e x : List ℕ} (p : w.data_files ≡ d) (q : w.delete_files ≡ e) (r : w.scheduled ≡ x) where
  pub ids_below : {a b : Bool} {sn s t : List ℕ} {l : SnapshotRecord} → w.snapshots ≡ sn → w.schemas ≡ s → w.tables ≡ t → snapshot_of l ≡ latest_of (snapshots_in sn c.snapshots)
      → ((names table_names : List ℕ) → a ≡ (all (λ v. ltb v.id l.next_catalog_id.0) (schemas_in s names c.schemas) && all (λ v. ltb v.id l.next_catalog_id.0) (tables_in t table_names c.tables)))
      → ((positions : List ℕ) → b ≡ all (λ i. ltb i l.next_file_id.0) (ids_of_files (data_files_in d c.data_files) (delete_files_in e positions c.delete_files) (scheduled_in x c.scheduled)))
      → (a && b) ≡ ids_below_next (load w c)
  unfolding ids_below_next load
  ids_below o u v y f g = rw (o, u, v, p, q, r, ← y) (ap₂ ◌&&◌ (f w.schema_names w.table_names) (g w.positions))

  pub files_apart : {a : Bool} → ((positions : List ℕ) → a ≡ files_differ d e x positions c) → a ≡ files_distinct (load w c)
  unfolding files_distinct load
  files_apart f = rw (p, q, r) (f w.positions)
