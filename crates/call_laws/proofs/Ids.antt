-- What the typed lists say of their words: ids in order. A record's field is its word, so each is the same test of two readings of a place.
use Prim.Native.Nat.{ℕ}
use mathlib.Core.Path.{◌≡◌, refl, ◌∙◌}
use mathlib.Core.Bool.{true}
use mathlib.Core.List.{List}
use lib.Dec.{leb, ltb}
use Rattle.lists.specs.Lists.{range, chained, before}
use Rattle.lists.specs.Runs.{field, fields, pair_at, pairs}
use Rattle.lists.proofs.Tests.{both}
use Rattle.lists.proofs.Orders.{chained_as, chained_maps}
use Rattle.layout.specs.Fields.{snapshot_size, snapshot_id_word, snapshot_time_word, schema_size, schema_id_word, table_size, table_id_word, column_size, column_id_word, column_table_word, data_file_size, data_file_id_word, delete_file_size, delete_file_id_word, statistics_size, statistics_data_file_word, statistics_column_word}
use Rattle.layout.specs.Catalog.{Snapshot}
use Rattle.layout.specs.Words.{snapshot_at, snapshots_in, schema_at, schemas_in, table_at, tables_in, column_at, columns_in, data_file_at, data_files_in, delete_file_at, delete_files_in, statistics_at, statistics_in}
use Rattle.ducklake.specs.Soundness.{follows, by_id, by_table_and_id, by_file_and_column}

pub schema_ids_lem : (run names : List ℕ) (n : ℕ) → chained by_id (schemas_in run names n) ≡ chained ltb (fields schema_size schema_id_word run n)
unfolding field
schema_ids_lem run names n = chained_maps by_id ltb (schema_at run names) (field schema_size schema_id_word run) (range 0 n) (λ i j. refl)

pub table_ids_lem : (run names : List ℕ) (n : ℕ) → chained by_id (tables_in run names n) ≡ chained ltb (fields table_size table_id_word run n)
unfolding field
table_ids_lem run names n = chained_maps by_id ltb (table_at run names) (field table_size table_id_word run) (range 0 n) (λ i j. refl)

pub data_file_ids_lem : (run : List ℕ) (n : ℕ) → chained by_id (data_files_in run n) ≡ chained ltb (fields data_file_size data_file_id_word run n)
unfolding field
data_file_ids_lem run n = chained_maps by_id ltb (data_file_at run) (field data_file_size data_file_id_word run) (range 0 n) (λ i j. refl)

pub delete_file_ids_lem : (run positions : List ℕ) (n : ℕ) → chained by_id (delete_files_in run positions n) ≡ chained ltb (fields delete_file_size delete_file_id_word run n)
unfolding field
delete_file_ids_lem run positions n = chained_maps by_id ltb (delete_file_at run positions) (field delete_file_size delete_file_id_word run) (range 0 n) (λ i j. refl)

pub column_order : (run names : List ℕ) (n : ℕ) → chained by_table_and_id (columns_in run names n) ≡ chained before (pairs column_size column_table_word column_id_word run n)
unfolding field by_table_and_id
column_order run names n = chained_maps by_table_and_id before (column_at run names) (pair_at column_size column_table_word column_id_word run) (range 0 n) (λ i j. refl)

pub statistics_order : (run : List ℕ) (n : ℕ) → chained by_file_and_column (statistics_in run n) ≡ chained before (pairs statistics_size statistics_data_file_word statistics_column_word run n)
unfolding field by_file_and_column
statistics_order run n = chained_maps by_file_and_column before (statistics_at run) (pair_at statistics_size statistics_data_file_word statistics_column_word run) (range 0 n) (λ i j. refl)

-- snapshots that follow each other ascend by id, and never fall by time

follows_first : (a b : Snapshot) → follows a b ≡ true → (ltb a.id b.id ≡ true) × (leb a.time b.time ≡ true)
unfolding follows
follows_first a b h = both _ _ (both _ _ (both _ _ (both _ _ h).0).0).0

pub snapshot_ids_lem : (run : List ℕ) (n : ℕ) → chained follows (snapshots_in run n) ≡ true → chained ltb (fields snapshot_size snapshot_id_word run n) ≡ true
unfolding field
snapshot_ids_lem run n h =
    chained_maps ltb (λ a b. ltb a.id b.id) (field snapshot_size snapshot_id_word run) (snapshot_at run) (range 0 n) (λ i j. refl)
    ∙ chained_as follows (λ a b. ltb a.id b.id) (λ a b h. (follows_first a b h).0) (snapshots_in run n) h

pub snapshot_times_lem : (run : List ℕ) (n : ℕ) → chained follows (snapshots_in run n) ≡ true → chained leb (fields snapshot_size snapshot_time_word run n) ≡ true
unfolding field
snapshot_times_lem run n h =
    chained_maps leb (λ a b. leb a.time b.time) (field snapshot_size snapshot_time_word run) (snapshot_at run) (range 0 n) (λ i j. refl)
    ∙ chained_as follows (λ a b. leb a.time b.time) (λ a b h. (follows_first a b h).1) (snapshots_in run n) h
