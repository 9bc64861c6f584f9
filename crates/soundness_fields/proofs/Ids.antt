-- What lookups rely on, from the check of ids: the ids of the records ascend just where their words do.
use Prim.Native.Nat.{ℕ, ◌*◌, ◌≤◌, ◌<◌}
use mathlib.Core.Path.{◌≡◌, refl, sym, ◌∙◌}
use mathlib.Core.Bool.{true, ◌&&◌}
use mathlib.Core.List.{List}
use native.Mathlib.Omega.{arith}
use borrow.Author.Tests.{ltb-true}
use lib.Dec.{ltb}
use lib.ListN.{length}
use Rattle.lists.specs.Lists.{range, any, chained, before}
use Rattle.lists.specs.Runs.{field, fields, pair_at, pairs}
use Rattle.lists.proofs.Tests.{both}
use Rattle.lists.proofs.Orders.{chained_as, chained_maps}
use Rattle.lists.proofs.Search.{pairs_first}
use Rattle.lists.proofs.Selections.{any_true}
use Rattle.layout.specs.declared.outcome.Counts.{Counts}
use Rattle.layout.specs.Catalog.{Snapshot}
use Rattle.layout.specs.Fields.{snapshot_size, snapshot_id_word, schema_size, schema_id_word, table_size, table_id_word, column_size, column_id_word, column_table_word, data_file_size, data_file_id_word, delete_file_size, delete_file_id_word, statistics_size, statistics_data_file_word, statistics_column_word}
use Rattle.layout.specs.Words.{Words, load, snapshot_at, snapshots_in, schema_at, schemas_in, table_at, tables_in, column_at, columns_in, data_file_at, data_files_in, delete_file_at, delete_files_in, statistics_at, statistics_in}
use Rattle.ducklake.specs.Soundness.{follows, snapshots_rise, by_id, by_table_and_id, by_file_and_column, ids_ascend}
use Rattle.lookup.specs.Order.{SnapshotsById, SchemasById, TablesById, DataFilesById, DeleteFilesById, ColumnsByTable, StatisticsByFile}
use Rattle.soundness_fields.specs.Lent.{IdsLent}

pub schema_ids_lem : (run names : List ℕ) (n : ℕ) → chained ltb (fields schema_size schema_id_word run n) ≡ chained by_id (schemas_in run names n)
unfolding field
schema_ids_lem run names n = chained_maps ltb by_id (field schema_size schema_id_word run) (schema_at run names) (range 0 n) (λ i j. refl)

pub table_ids_lem : (run names : List ℕ) (n : ℕ) → chained ltb (fields table_size table_id_word run n) ≡ chained by_id (tables_in run names n)
unfolding field
table_ids_lem run names n = chained_maps ltb by_id (field table_size table_id_word run) (table_at run names) (range 0 n) (λ i j. refl)

pub data_file_ids_lem : (run : List ℕ) (n : ℕ) → chained ltb (fields data_file_size data_file_id_word run n) ≡ chained by_id (data_files_in run n)
unfolding field
data_file_ids_lem run n = chained_maps ltb by_id (field data_file_size data_file_id_word run) (data_file_at run) (range 0 n) (λ i j. refl)

pub delete_file_ids_lem : (run positions : List ℕ) (n : ℕ) → chained ltb (fields delete_file_size delete_file_id_word run n) ≡ chained by_id (delete_files_in run positions n)
unfolding field
delete_file_ids_lem run positions n = chained_maps ltb by_id (field delete_file_size delete_file_id_word run) (delete_file_at run positions) (range 0 n) (λ i j. refl)

pub column_ids : (run names : List ℕ) (n : ℕ) → chained before (pairs column_size column_table_word column_id_word run n) ≡ chained by_table_and_id (columns_in run names n)
unfolding field by_table_and_id
column_ids run names n = chained_maps before by_table_and_id (pair_at column_size column_table_word column_id_word run) (column_at run names) (range 0 n) (λ i j. refl)

pub statistics_ids : (run : List ℕ) (n : ℕ) → chained before (pairs statistics_size statistics_data_file_word statistics_column_word run n) ≡ chained by_file_and_column (statistics_in run n)
unfolding field by_file_and_column
statistics_ids run n = chained_maps before by_file_and_column (pair_at statistics_size statistics_data_file_word statistics_column_word run) (statistics_at run) (range 0 n) (λ i j. refl)

-- what lookups rely on
pub record IdsFound (w : Words) (counts : Counts) : Type 0 where
  pub schemas : SchemasById w.schemas counts.schemas
  pub tables : TablesById w.tables counts.tables
  pub columns : ColumnsByTable w.columns counts.columns
  pub data_files : DataFilesById w.data_files counts.data_files
  pub delete_files : DeleteFilesById w.delete_files counts.delete_files
  pub statistics : StatisticsByFile w.statistics counts.statistics

pub ids_found : (w : Words) (counts : Counts) → IdsLent w.schemas w.tables w.columns w.data_files w.delete_files w.statistics counts
    → ids_ascend (load w counts) ≡ true → IdsFound w counts
unfolding ids_ascend load
ids_found w n l h =
    let ss = chained by_id (schemas_in w.schemas w.schema_names n.schemas) in
    let ts = chained by_id (tables_in w.tables w.table_names n.tables) in
    let fs = chained by_id (data_files_in w.data_files n.data_files) in
    let ds = chained by_id (delete_files_in w.delete_files w.positions n.delete_files) in
    let cs = chained by_table_and_id (columns_in w.columns w.column_names n.columns) in
    let q = both (ss && ts && fs && ds && cs) (chained by_file_and_column (statistics_in w.statistics n.statistics)) h in
    let c = both (ss && ts && fs && ds) cs q.0 in
    let d = both (ss && ts && fs) ds c.0 in
    let f = both (ss && ts) fs d.0 in
    let s = both ss ts f.0 in
    record {
      schemas = record { lent = l.schemas; inside = omega arith; ascending = schema_ids_lem _ w.schema_names _ ∙ s.0 };
      tables = record { lent = l.tables; inside = omega arith; ascending = table_ids_lem _ w.table_names _ ∙ s.1 };
      columns = record { lent = l.columns; inside = omega arith; never_falling = pairs_first _ _ _ _ _ (column_ids _ w.column_names _ ∙ c.1) };
      data_files = record { lent = l.data_files; inside = omega arith; ascending = data_file_ids_lem _ _ ∙ f.1 };
      delete_files = record { lent = l.delete_files; inside = omega arith; ascending = delete_file_ids_lem _ w.positions _ ∙ d.1 };
      statistics = record { lent = l.statistics; inside = omega arith; never_falling = pairs_first _ _ _ _ _ (statistics_ids _ _ ∙ q.1) };
    }

-- snapshots that follow each other ascend by id
follows_id : (a b : Snapshot) → follows a b ≡ true → ltb a.id b.id ≡ true
unfolding follows
follows_id a b h = (both _ _ (both _ _ (both _ _ (both _ _ h).0).0).0).0

snapshot_ids_lem : (run : List ℕ) (n : ℕ) → chained follows (snapshots_in run n) ≡ true → chained ltb (fields snapshot_size snapshot_id_word run n) ≡ true
unfolding field
snapshot_ids_lem run n h =
    chained_maps ltb (λ a b. ltb a.id b.id) (field snapshot_size snapshot_id_word run) (snapshot_at run) (range 0 n) (λ i j. refl)
    ∙ chained_as follows (λ a b. ltb a.id b.id) follows_id (snapshots_in run n) h

-- snapshots that rise are some, and each can be found by its id
pub snapshots_found : (run : List ℕ) (n : ℕ) → snapshot_size * n ≤ length run → snapshots_rise (snapshots_in run n) ≡ true → (0 < n) × SnapshotsById run n
unfolding snapshots_rise
snapshots_found run n l h =
    let k = both (any (λ s. true) (snapshots_in run n)) (chained follows (snapshots_in run n)) (both _ _ h).0 in
    (ltb-true 0 n (sym (any_true (snapshot_at run) n) ∙ k.0), record { lent = l; inside = omega arith; ascending = snapshot_ids_lem run n k.1 })
