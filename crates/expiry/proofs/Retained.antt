-- Live at a snapshot that remains: live at one of the ids that were written down. So the records that stay and the files that are scheduled are those of
-- the definition.
use Prim.Native.Nat.{ℕ}
use mathlib.Core.Path.{◌≡◌, refl, sym, ap, ap₂, ◌∙◌}
use mathlib.Core.Bool.{not}
use mathlib.Core.List.{List, ◌++◌, map}
use lib.Dec.{eqb}
use lib.ListN.{length, length-map}
use Rattle.lists.specs.Lists.{range, any, filter, sort_by}
use Rattle.lists.specs.Runs.{field}
use Rattle.lists.proofs.Selections.{map_map_ext, filter_ext, filter_map_ext, any_map}
use Rattle.layout.specs.declared.outcome.Counts.{Counts}
use Rattle.layout.specs.Fields.{schema_size, schema_begin_word, table_size, table_begin_word, column_size, column_begin_word, data_file_size, data_file_begin_word, delete_file_size, delete_file_begin_word}
use Rattle.layout.specs.Catalog.{Versioned, Snapshot, Scheduled}
use Rattle.layout.specs.Words.{Words, schema_at, table_at, column_at, data_file_at, delete_file_at, statistics_at, snapshots_in, data_files_in, delete_files_in}
use Rattle.ducklake.specs.Liveness.{live, live_at_some}
use Rattle.ducklake.specs.Maintenance.{scheduled_file, removed, remaining}
use Rattle.call_laws.proofs.Expiry.{on_file, scheduled_files, Stays}
use Rattle.lookup.specs.Versions.{live_among}
use Rattle.expiry.specs.Remaining.{ids_left, snapshot_stays, stays}
use Rattle.expiry.specs.Removed.{data_file_scheduled, delete_file_scheduled, data_file_goes, delete_file_goes, removed_files}
use Rattle.expiry.specs.Stayed.{statistics_stay}

module _ (w : Words) (c : Counts) (ids : List ℕ) where
  abbrev ns : List Snapshot
  ns = remaining (snapshots_in w.snapshots c.snapshots) ids

  module _ (time : ℕ) {left : List ℕ} (L : left ≡ ids_left w.snapshots c.snapshots ids) where
    live_left : {A : Type 0} (v : Versioned A) → live_at_some ns v ≡ live_among left v
    unfolding live_at_some
    live_left v = sym (any_map (λ s. live s v) (λ s. s.id) ns) ∙ ap (any (λ s. live s v)) (sym L)

    pub schema_stays : (j : ℕ) → live_at_some ns (schema_at w.schemas w.schema_names j) ≡ stays schema_size schema_begin_word w.schemas left j
    unfolding live field
    schema_stays j = live_left (schema_at w.schemas w.schema_names j)

    pub table_stays : (j : ℕ) → live_at_some ns (table_at w.tables w.table_names j) ≡ stays table_size table_begin_word w.tables left j
    unfolding live field
    table_stays j = live_left (table_at w.tables w.table_names j)

    pub column_stays : (j : ℕ) → live_at_some ns (column_at w.columns w.column_names j) ≡ stays column_size column_begin_word w.columns left j
    unfolding live field
    column_stays j = live_left (column_at w.columns w.column_names j)

    pub data_file_stays : (j : ℕ) → live_at_some ns (data_file_at w.data_files j) ≡ stays data_file_size data_file_begin_word w.data_files left j
    unfolding live field
    data_file_stays j = live_left (data_file_at w.data_files j)

    pub delete_file_stays : (j : ℕ) → live_at_some ns (delete_file_at w.delete_files w.positions j) ≡ stays delete_file_size delete_file_begin_word w.delete_files left j
    unfolding live field
    delete_file_stays j = live_left (delete_file_at w.delete_files w.positions j)

    pub statistics_stay_lem : (j : ℕ) → on_file w c ids time (statistics_at w.statistics j) ≡ statistics_stay w.statistics w.data_files c.data_files left j
    statistics_stay_lem j =
        ap (any (λ f. eqb f.id (statistics_at w.statistics j).data_file))
        (filter_ext (live_at_some ns) (live_among left) (data_files_in w.data_files c.data_files) (λ v _. live_left v))

    unfoldable pub kept : Stays w c ids time
    kept = record {
      snapshot = snapshot_stays w.snapshots ids;
      schema = stays schema_size schema_begin_word w.schemas left;
      table = stays table_size table_begin_word w.tables left;
      column = stays column_size column_begin_word w.columns left;
      data_file = stays data_file_size data_file_begin_word w.data_files left;
      delete_file = stays delete_file_size delete_file_begin_word w.delete_files left;
      statistics = statistics_stay w.statistics w.data_files c.data_files left;
      snapshot_is = λ j _. refl;
      schema_is = λ j _. schema_stays j;
      table_is = λ j _. table_stays j;
      column-is = λ j _. column_stays j;
      data_file_is = λ j _. data_file_stays j;
      delete_file_is = λ j _. delete_file_stays j;
      statistics_is = λ j _. statistics_stay_lem j;
    }

    -- the files that go
    data_files_go : removed ns (data_files_in w.data_files c.data_files) ≡ map (data_file_at w.data_files) (filter (data_file_goes w.data_files left) (range 0 c.data_files))
    data_files_go = filter_map_ext (data_file_goes w.data_files left) (λ v. not (live_at_some ns v)) (data_file_at w.data_files) (range 0 c.data_files) (λ j _. ap not (data_file_stays j))

    delete_files_go : removed ns (delete_files_in w.delete_files w.positions c.delete_files)
        ≡ map (delete_file_at w.delete_files w.positions) (filter (delete_file_goes w.delete_files left) (range 0 c.delete_files))
    delete_files_go =
        filter_map_ext (delete_file_goes w.delete_files left) (λ v. not (live_at_some ns v)) (delete_file_at w.delete_files w.positions) (range 0 c.delete_files) (λ j _. ap not (delete_file_stays j))

    pub data_files_removed : {r : ℕ} → r ≡ length (filter (data_file_goes w.data_files left) (range 0 c.data_files)) → r ≡ length (removed ns (data_files_in w.data_files c.data_files))
    data_files_removed p = p ∙ sym (ap length data_files_go ∙ rw length-map refl)

    pub delete_files_removed : {r : ℕ} → r ≡ length (filter (delete_file_goes w.delete_files left) (range 0 c.delete_files))
        → r ≡ length (removed ns (delete_files_in w.delete_files w.positions c.delete_files))
    delete_files_removed p = p ∙ sym (ap length delete_files_go ∙ rw length-map refl)

    -- by ascending id
    pub files_scheduled : removed_files w.data_files c.data_files w.delete_files c.delete_files left time ≡ scheduled_files w c ids time
    unfolding removed_files
    files_scheduled = ap₂ (λ xs ys. sort_by (λ (x : Scheduled). x.file) (xs ++ ys))
        (sym (ap (map (scheduled_file (λ f. f.uuid) time)) data_files_go ∙ map_map_ext (data_file_scheduled w.data_files time) (scheduled_file (λ f. f.uuid) time) (data_file_at w.data_files)
        (filter (data_file_goes w.data_files left) (range 0 c.data_files)) (λ j _. refl)))
        (sym (ap (map (scheduled_file (λ d. d.uuid) time)) delete_files_go
        ∙ map_map_ext (delete_file_scheduled w.delete_files time) (scheduled_file (λ d. d.uuid) time) (delete_file_at w.delete_files w.positions)
        (filter (delete_file_goes w.delete_files left) (range 0 c.delete_files)) (λ j _. refl)))
