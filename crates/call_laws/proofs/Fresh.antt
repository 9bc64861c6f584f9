-- What Fresh leaves: on tables of which nothing is in use, its two records and the name stand at the front of their runs.
use Prim.Native.Nat.{ℕ}
use mathlib.Core.Path.{◌≡◌, refl, sym, ap, ◌∙◌}
use mathlib.Core.Bool.{true}
use mathlib.Core.List.{List, [], ◌∷◌, flat_map, append-nil}
use native.Mathlib.Omega.{arith}
use Rattle.lists.specs.Lists.{range, sum}
use Rattle.lists.specs.Runs.{overwrite}
use Rattle.layout.specs.Records.{snapshot_words, schema_words}
use Rattle.layout.specs.Catalog.{snapshot_record, schema_record}
use Rattle.layout.specs.Words.{Words, lent, load, store, counts_of, capacity, positions_before, fits}
use Rattle.layout.proofs.Room.{reflects_within}
use Rattle.call_laws.proofs.Stores.{table_same, table_more, records_same, records_more, snapshot_table, schema_table, table_table, column_table, data_file_table, delete_file_table, statistics_table, scheduled_table, schema_name_run, table_name_run, column_name_run, position_run}
use Rattle.ducklake.specs.Commits.{fresh_snapshot, fresh_name, fresh_schema, fresh_catalog}
use Rattle.ducklake.specs.Calls.{no_counts}
use Rattle.call_laws.proofs.CommitWords.{words_same}

-- no records fit any runs
pub fits_none : (w : Words) → fits w no_counts ≡ true
unfolding fits positions_before
fits_none w = rw ((reflects_within no_counts (capacity w)).from (record {
  snapshots = omega arith;
  schemas = omega arith;
  tables = omega arith;
  columns = omega arith;
  data_files = omega arith;
  delete_files = omega arith;
  positions = omega arith;
  statistics = omega arith;
  scheduled = omega arith;
}))

pub fresh_counts_lem : (time : ℕ) → counts_of (fresh_catalog time)
    ≡ record { snapshots = 1; schemas = 1; tables = 0; columns = 0; data_files = 0; delete_files = 0; positions = 0; statistics = 0; scheduled = 0 }
unfolding fresh_catalog counts_of sum
fresh_counts_lem time = refl

pub fresh_words : (w : Words) (time : ℕ) {ns ss xs : List ℕ}
    → ns ≡ overwrite w.snapshots 0 (snapshot_words (snapshot_record (fresh_snapshot time)))
    → ss ≡ overwrite w.schemas 0 (schema_words (schema_record fresh_schema))
    → xs ≡ overwrite w.schema_names 0 fresh_name
    → lent ns ss xs w.tables w.table_names w.columns w.column_names w.data_files w.delete_files w.positions w.statistics w.scheduled ≡ store w no_counts (fresh_catalog time)
unfolding fresh_catalog load range flat_map
fresh_words w time p q r =
    let D = fresh_catalog time in
    let f = fits_none w in
    words_same
    (p ∙ (ap (overwrite w.snapshots 0) (sym (append-nil (snapshot_words (snapshot_record (fresh_snapshot time))))) ∙ table_more snapshot_table w no_counts f D (fresh_snapshot time ∷ []) refl))
    (q ∙ (ap (overwrite w.schemas 0) (sym (append-nil (schema_words (schema_record fresh_schema)))) ∙ table_more schema_table w no_counts f D (fresh_schema ∷ []) refl))
    (r ∙ (ap (overwrite w.schema_names 0) (sym (append-nil fresh_name)) ∙ records_more schema_name_run w no_counts f D (fresh_schema ∷ []) refl))
    (table_same table_table w no_counts f D refl)
    (records_same table_name_run w no_counts f D refl)
    (table_same column_table w no_counts f D refl)
    (records_same column_name_run w no_counts f D refl)
    (table_same data_file_table w no_counts f D refl)
    (table_same delete_file_table w no_counts f D refl)
    (records_same position_run w no_counts f D refl)
    (table_same statistics_table w no_counts f D refl)
    (table_same scheduled_table w no_counts f D refl)
