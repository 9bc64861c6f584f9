-- The twelve runs, each as consecutive pieces: what is loaded stands at its front, and `store` replaces those words. So a run is as it was where the
-- words of its records are, and the laws of records added, changed and removed are said once for all runs.
use Prim.Native.Nat.{ℕ, ◌*◌, ◌-◌, ◌≤◌, max}
use mathlib.Core.Path.{◌≡◌, refl, sym, ap, ap₂, ◌∙◌}
use mathlib.Core.Bool.{Bool, true, false, cond, ◌&&◌}
use mathlib.Core.List.{List, map, flat_map, ◌++◌}
use native.Mathlib.Omega.{arith}
use native.Mathlib.Nat.{zero-add}
use lib.Dec.{eqb}
use lib.ListN.{length, take, get_or, set, length-append, length-map}
use Rattle.lists.specs.Lists.{range, filter}
use Rattle.lists.specs.Runs.{Layout, at, overwrite, replace, replace_by, set_where, each_record}
use Rattle.lists.proofs.Tests.{both}
use Rattle.lists.proofs.Members.{In, in_range_lem}
use Rattle.lists.proofs.Selections.{flat_map_append, flat_map_map, map-append}
use Rattle.lists.proofs.Runs.{overwrite_over, replace_more, replace_kept, replace_same, record_fits}
use Rattle.lists.proofs.Layouts.{Lawful, words_of_length, words_at_lem}
use Rattle.lists.proofs.Loops.{length-range}
use Rattle.lists.specs.Pieces.{Pieces, piece, row_pieces, Compacted}
use Rattle.lists.proofs.Pieces.{words_of_pieces, pieces_length}
use Rattle.lists.proofs.Compaction.{pieces_compacted}
use Rattle.layout.specs.declared.outcome.Counts.{Counts}
use Rattle.layout.specs.declared.record.SnapshotRecord.{SnapshotRecord}
use Rattle.layout.specs.declared.record.SchemaRecord.{SchemaRecord}
use Rattle.layout.specs.declared.record.TableRecord.{TableRecord}
use Rattle.layout.specs.declared.record.ColumnRecord.{ColumnRecord}
use Rattle.layout.specs.declared.record.DataFileRecord.{DataFileRecord}
use Rattle.layout.specs.declared.record.DeleteFileRecord.{DeleteFileRecord}
use Rattle.layout.specs.declared.record.StatisticsRecord.{StatisticsRecord}
use Rattle.layout.specs.declared.record.ScheduledRecord.{ScheduledRecord}
use Rattle.layout.specs.Names.{name_size}
use Rattle.layout.specs.Records.{snapshot_layout, schema_layout, table_layout, column_layout, data_file_layout, delete_file_layout, statistics_layout, scheduled_layout}
use Rattle.layout.specs.Catalog.{absent, Versioned, Snapshot, Schema, Table, Column, DataFile, DeleteFile, Statistics, Scheduled, Catalog, snapshot_record, schema_record, table_record, column_record, data_file_record, delete_file_record, statistics_record, scheduled_record}
use Rattle.layout.specs.Words.{Words, load, store_table, store, snapshot_at, schema_at, table_at, column_at, data_file_at, delete_file_at, statistics_at, scheduled_at, position_pieces, table_limit, position_limit, counts_of, capacity, within, fits}
use Rattle.ducklake.specs.Commits.{close}
use Rattle.call_laws.specs.Writes.{extend_table}
use Rattle.layout.proofs.Records.{snapshot_lawful, schema_lawful, table_lawful, column_lawful, data_file_lawful, delete_file_lawful, statistics_lawful, scheduled_lawful}
use Rattle.layout.proofs.Room.{Within, reflects_within, fitting}
use Rattle.layout.proofs.RoundTrip.{counts_load}

-- Runs

-- as many words or more than were in use: nothing is freed
pub replace_over : (old : List ℕ) (used : ℕ) (new : List ℕ) → used ≤ length new → replace old used new ≡ overwrite old 0 new
unfolding replace_by overwrite
replace_over old used new h = rw (none, end, zero-add) refl
  where
    none : used - length new ≡ 0
    none = omega arith

    end : max used (length new) ≡ length new
    end = omega arith

-- the words in use anew, then words more
pub replace_then : (old : List ℕ) (used : ℕ) (a b : List ℕ) → length a ≡ used → replace old used (a ++ b) ≡ overwrite (replace old used a) used b
replace_then old used a b h =
    replace_over old used (a ++ b) (rw length-append (omega arith))
    ∙ (overwrite_over old 0 a b (omega arith)
    ∙ ap₂ (λ (v : List ℕ) (k : ℕ). overwrite v k b) (sym (replace_over old used a (omega arith))) (zero-add (length a) ∙ h))

-- a run of pieces: those of the records in use stand at its front
pub record StoredRun (X : Type 0) : Type 0 where
  pub run : Words → List ℕ
  pub pieces : Words → Pieces
  pub count : Counts → ℕ
  pub used : Counts → ℕ
  pub records : Catalog → List X
  pub place : Words → ℕ → X
  pub words : X → List ℕ
  pub loaded : (w : Words) (c : Counts) → records (load w c) ≡ map (place w) (range 0 (count c))
  pub piece_is : (w : Words) (c : Counts) → fits w c ≡ true → (j : ℕ) → In j (range 0 (count c)) → words (place w j) ≡ piece (pieces w) (run w) j
  pub held : (w : Words) (c : Counts) → fits w c ≡ true → used c ≤ length (run w)
  pub ends : (w : Words) (c : Counts) → fits w c ≡ true → (pieces w).start (count c) ≡ used c
  pub stored : (w : Words) (c : Counts) (C : Catalog) → run (store w c C) ≡ replace (run w) (used c) (flat_map words (records C))

module _ {X : Type 0} (R : StoredRun X) (w : Words) (c : Counts) (h : fits w c ≡ true) where
  -- the words in use are those of the loaded records
  pub run_front : flat_map R.words (R.records (load w c)) ≡ take (R.used c) (R.run w)
  run_front =
      ap (flat_map R.words) (R.loaded w c)
      ∙ (flat_map_map (piece (R.pieces w) (R.run w)) R.words (R.place w) (range 0 (R.count c)) (R.piece_is w c h)
      ∙ (words_of_pieces (R.pieces w) (R.run w) (R.count c) ∙ ap (λ k. take k (R.run w)) (R.ends w c h)))

  module _ (C : Catalog) where
    -- a run whose words did not change
    pub run_same : flat_map R.words (R.records C) ≡ flat_map R.words (R.records (load w c)) → R.run w ≡ R.run (store w c C)
    run_same e = sym (R.stored w c C ∙ (ap (replace (R.run w) (R.used c)) (e ∙ run_front) ∙ replace_kept (R.run w) (R.used c) (R.held w c h)))

    -- words more
    pub run_more : (new : List ℕ) → flat_map R.words (R.records C) ≡ flat_map R.words (R.records (load w c)) ++ new
        → overwrite (R.run w) (R.used c) new ≡ R.run (store w c C)
    run_more new e =
        sym (R.stored w c C ∙ (ap (replace (R.run w) (R.used c)) (e ∙ ap (λ ws. ws ++ new) run_front) ∙ replace_more (R.run w) (R.used c) new (R.held w c h)))

    -- the records of places that pass q stay
    pub run_compacted : (p : X → Bool) (q : ℕ → Bool) {r : ℕ} {v : List ℕ} → R.records C ≡ filter p (R.records (load w c))
        → ((j : ℕ) → In j (range 0 (R.count c)) → p (R.place w j) ≡ q j) → Compacted (R.pieces w) q (R.count c) (R.run w) r v → v ≡ R.run (store w c C)
    run_compacted p q e d s =
        pieces_compacted (R.pieces w) p q R.words (R.place w) (R.run w) (R.count c) d (R.piece_is w c h) s
        ∙ sym (R.stored w c C ∙ ap₂ (λ k xs. replace (R.run w) k (flat_map R.words xs)) (sym (R.ends w c h)) (e ∙ ap (filter p) (R.loaded w c)))

  -- records behind those in use
  pub records_same : (C : Catalog) → R.records C ≡ R.records (load w c) → R.run w ≡ R.run (store w c C)
  records_same C e = run_same C (ap (flat_map R.words) e)

  pub records_more : (C : Catalog) (ys : List X) → R.records C ≡ R.records (load w c) ++ ys → overwrite (R.run w) (R.used c) (flat_map R.words ys) ≡ R.run (store w c C)
  records_more C ys e = run_more C (flat_map R.words ys) (ap (flat_map R.words) e ∙ flat_map_append R.words (R.records (load w c)) ys)

-- a table: a run of records
pub record StoredTable (A X : Type 0) : Type 0 where
  pub layout : Layout A
  pub lawful : Lawful layout
  pub row : X → A
  pub run : Words → List ℕ
  pub count : Counts → ℕ
  pub records : Catalog → List X
  pub place : Words → ℕ → X
  pub loaded : (w : Words) (c : Counts) → records (load w c) ≡ map (place w) (range 0 (count c))
  pub row_is : (w : Words) (c : Counts) → fits w c ≡ true → (j : ℕ) → In j (range 0 (count c)) → row (place w j) ≡ at layout (run w) j
  pub held : (w : Words) (c : Counts) → fits w c ≡ true → layout.size * count c ≤ length (run w)
  pub stored : (w : Words) (c : Counts) (C : Catalog) → run (store w c C) ≡ store_table layout (run w) (count c) (map row (records C))

module _ {A X : Type 0} (T : StoredTable A X) where
  pub piece_row : (w : Words) (c : Counts) → fits w c ≡ true → (j : ℕ) → In j (range 0 (T.count c))
      → T.layout.words (T.row (T.place w j)) ≡ piece (row_pieces T.layout.size) (T.run w) j
  piece_row w c h j m =
      ap T.layout.words (T.row_is w c h j m)
      ∙ words_at_lem T.layout T.lawful (T.run w) j (record_fits T.layout.size (rw zero-add at (in_range_lem 0 (T.count c) m).1) (T.held w c h))

  pub row_words : (xs : List X) → flat_map T.layout.words (map T.row xs) ≡ flat_map (λ x. T.layout.words (T.row x)) xs
  row_words xs = flat_map_map (λ x. T.layout.words (T.row x)) T.layout.words T.row xs (λ x m. refl)

  abbrev pub table_run : StoredRun X
  table_run = record {
    run = T.run;
    pieces = λ w. row_pieces T.layout.size;
    count = T.count;
    used = λ c. T.layout.size * T.count c;
    records = T.records;
    place = T.place;
    words = λ x. T.layout.words (T.row x);
    loaded = T.loaded;
    piece_is = piece_row;
    held = T.held;
    ends = λ w c h. refl;
    stored = λ w c C. T.stored w c C ∙ ap (replace (T.run w) (T.layout.size * T.count c)) (row_words (T.records C));
  }

  module _ (w : Words) (c : Counts) (h : fits w c ≡ true) where
    pub table_same : (C : Catalog) → T.records C ≡ T.records (load w c) → T.run w ≡ T.run (store w c C)
    table_same = records_same table_run w c h

    -- records behind those in use
    pub table_more : (C : Catalog) (ys : List X) → T.records C ≡ T.records (load w c) ++ ys
        → extend_table T.layout (T.run w) (T.count c) (map T.row ys) ≡ T.run (store w c C)
    table_more C ys e = ap (overwrite (T.run w) (T.layout.size * T.count c)) (row_words ys) ∙ records_more table_run w c h C ys e

    -- records changed in their places, then records behind them: k changes what a record means, g its words
    module _ (C : Catalog) (k : X → X) (g : List ℕ → List ℕ) (s : (x : X) → T.layout.words (T.row (k x)) ≡ g (T.layout.words (T.row x))) where
      changed : List ℕ
      changed = flat_map T.layout.words (map T.row (map k (T.records (load w c))))

      changed_length : length changed ≡ T.layout.size * T.count c
      unfolding changed
      changed_length = rw (words_of_length T.layout T.lawful, length-map, length-map, T.loaded w c, length-map, length-range) refl

      changed_words : changed ≡ flat_map (λ j. g (piece (row_pieces T.layout.size) (T.run w) j)) (range 0 (T.count c))
      unfolding changed
      changed_words =
          row_words (map k (T.records (load w c)))
          ∙ (flat_map_map (λ x. g (T.layout.words (T.row x))) (λ x. T.layout.words (T.row x)) k (T.records (load w c)) (λ x m. s x)
          ∙ (ap (flat_map (λ x. g (T.layout.words (T.row x)))) (T.loaded w c)
          ∙ flat_map_map (λ j. g (piece (row_pieces T.layout.size) (T.run w) j)) (λ x. g (T.layout.words (T.row x))) (T.place w) (range 0 (T.count c)) (λ j m. ap g (piece_row w c h j m))))

      changed_run : each_record T.layout.size g (T.run w) (T.count c) ≡ replace (T.run w) (T.layout.size * T.count c) changed
      unfolding each_record
      changed_run = ap (overwrite (T.run w) 0) (sym changed_words) ∙ sym (replace_same (T.run w) (T.layout.size * T.count c) changed changed_length)

      pub table_changed : T.records C ≡ map k (T.records (load w c)) → each_record T.layout.size g (T.run w) (T.count c) ≡ T.run (store w c C)
      unfolding changed
      table_changed e = changed_run ∙ sym (T.stored w c C ∙ ap (λ xs. store_table T.layout (T.run w) (T.count c) (map T.row xs)) e)

      pub table_changed_more : (ys : List X) → T.records C ≡ map k (T.records (load w c)) ++ ys
          → extend_table T.layout (each_record T.layout.size g (T.run w) (T.count c)) (T.count c) (map T.row ys) ≡ T.run (store w c C)
      unfolding changed
      table_changed_more ys e =
          ap (λ v. extend_table T.layout v (T.count c) (map T.row ys)) changed_run
          ∙ sym (T.stored w c C
          ∙ (ap (λ xs. store_table T.layout (T.run w) (T.count c) xs) (ap (map T.row) e ∙ map-append T.row (map k (T.records (load w c))) ys)
          ∙ (ap (replace (T.run w) (T.layout.size * T.count c)) (flat_map_append T.layout.words (map T.row (map k (T.records (load w c)))) (map T.row ys))
          ∙ replace_then (T.run w) (T.layout.size * T.count c) changed (flat_map T.layout.words (map T.row ys)) changed_length)))

-- a record with one word changed: the end of an open record, or a number that grows

-- a choice of words, made at one of them
chosen : {A : Type 0} (f : ℕ → A) (b : Bool) (x y : ℕ) → f (cond b x y) ≡ cond b (f x) (f y)
chosen f true x y = refl
chosen f false x y = refl

abbrev ends_at : {A : Type 0} → Versioned A → ℕ → Versioned A
ends_at v e = record { id = v.id; begin = v.begin; end = e; body = v.body }

-- where the word `key` is what names a record, and setting the word `end` is setting its end
pub record Ended {A X : Type 0} (T : StoredTable A (Versioned X)) (key end : ℕ) (name : Versioned X → ℕ) : Type 0 where
  pub key-is : (v : Versioned X) → get_or (T.layout.words (T.row v)) key 0 ≡ name v
  pub end_is : (v : Versioned X) → get_or (T.layout.words (T.row v)) end 0 ≡ v.end
  pub set_is : (v : Versioned X) (e : ℕ) → set (T.layout.words (T.row v)) end e ≡ T.layout.words (T.row (ends_at v e))

pub closed_words : {A X : Type 0} (T : StoredTable A (Versioned X)) {key end : ℕ} {name : Versioned X → ℕ} → Ended T key end name → (k n : ℕ) (v : Versioned X)
    → T.layout.words (T.row (close n (λ x. eqb (name x) k) v)) ≡ set_where key end k absent n (T.layout.words (T.row v))
unfolding close set_where
closed_words T {key} {end} {name} E k n v =
    chosen (λ e. T.layout.words (T.row (ends_at v e))) (eqb (name v) k && eqb v.end absent) n v.end
    ∙ sym (rw (E.key-is v, E.end_is v, E.set_is v n) refl)

-- what lies beside a record that changes stays
pub beside_same : {X : Type 0} (words : X → List ℕ) (k : X → X) (xs : List X) → ((x : X) → words (k x) ≡ words x) → flat_map words (map k xs) ≡ flat_map words xs
beside_same words k xs e = flat_map_map words words k xs (λ x m. e x)

-- The twelve runs: what `load` reads from each, and what `store` writes into it

module _ (w : Words) (c : Counts) where
  pub snapshot_loaded : (load w c).snapshots ≡ map (snapshot_at w.snapshots) (range 0 c.snapshots)
  unfolding load
  snapshot_loaded = refl

  pub schema_loaded : (load w c).schemas ≡ map (schema_at w.schemas w.schema_names) (range 0 c.schemas)
  unfolding load
  schema_loaded = refl

  pub table_loaded : (load w c).tables ≡ map (table_at w.tables w.table_names) (range 0 c.tables)
  unfolding load
  table_loaded = refl

  pub column_loaded : (load w c).columns ≡ map (column_at w.columns w.column_names) (range 0 c.columns)
  unfolding load
  column_loaded = refl

  pub data_file_loaded : (load w c).data_files ≡ map (data_file_at w.data_files) (range 0 c.data_files)
  unfolding load
  data_file_loaded = refl

  pub delete_file_loaded : (load w c).delete_files ≡ map (delete_file_at w.delete_files w.positions) (range 0 c.delete_files)
  unfolding load
  delete_file_loaded = refl

  pub statistics_loaded : (load w c).statistics ≡ map (statistics_at w.statistics) (range 0 c.statistics)
  unfolding load
  statistics_loaded = refl

  pub scheduled_loaded : (load w c).scheduled ≡ map (scheduled_at w.scheduled) (range 0 c.scheduled)
  unfolding load
  scheduled_loaded = refl

module _ (w : Words) (c : Counts) (C : Catalog) where
  pub snapshot_stored : (store w c C).snapshots ≡ store_table snapshot_layout w.snapshots c.snapshots (map snapshot_record C.snapshots)
  unfolding store
  snapshot_stored = refl

  pub schema_stored : (store w c C).schemas ≡ store_table schema_layout w.schemas c.schemas (map schema_record C.schemas)
  unfolding store
  schema_stored = refl

  pub table_stored : (store w c C).tables ≡ store_table table_layout w.tables c.tables (map table_record C.tables)
  unfolding store
  table_stored = refl

  pub column_stored : (store w c C).columns ≡ store_table column_layout w.columns c.columns (map column_record C.columns)
  unfolding store
  column_stored = refl

  pub data_file_stored : (store w c C).data_files ≡ store_table data_file_layout w.data_files c.data_files (map data_file_record C.data_files)
  unfolding store
  data_file_stored = refl

  pub delete_file_stored : (store w c C).delete_files ≡ store_table delete_file_layout w.delete_files c.delete_files (map delete_file_record C.delete_files)
  unfolding store
  delete_file_stored = refl

  pub statistics_stored : (store w c C).statistics ≡ store_table statistics_layout w.statistics c.statistics (map statistics_record C.statistics)
  unfolding store
  statistics_stored = refl

  pub scheduled_stored : (store w c C).scheduled ≡ store_table scheduled_layout w.scheduled c.scheduled (map scheduled_record C.scheduled)
  unfolding store
  scheduled_stored = refl

  pub schema_names_stored : (store w c C).schema_names ≡ replace w.schema_names (name_size * c.schemas) (flat_map (λ v. v.body.name) C.schemas)
  unfolding store
  schema_names_stored = refl

  pub table_names_stored : (store w c C).table_names ≡ replace w.table_names (name_size * c.tables) (flat_map (λ v. v.body.name) C.tables)
  unfolding store
  table_names_stored = refl

  pub column_names_stored : (store w c C).column_names ≡ replace w.column_names (name_size * c.columns) (flat_map (λ v. v.body.name) C.columns)
  unfolding store
  column_names_stored = refl

  pub positions_stored : (store w c C).positions ≡ replace w.positions c.positions (flat_map (λ v. v.body.positions) C.delete_files)
  unfolding store
  positions_stored = refl

abbrev pub snapshot_table : StoredTable SnapshotRecord Snapshot
snapshot_table = record {
  layout = snapshot_layout;
  lawful = snapshot_lawful;
  row = snapshot_record;
  run = λ w. w.snapshots;
  count = λ c. c.snapshots;
  records = λ C. C.snapshots;
  place = λ w. snapshot_at w.snapshots;
  loaded = snapshot_loaded;
  row_is = λ w c h j m. refl;
  held = λ w c h. (fitting w c h).0.snapshots;
  stored = snapshot_stored;
}

abbrev pub schema_table : StoredTable SchemaRecord (Versioned Schema)
schema_table = record {
  layout = schema_layout;
  lawful = schema_lawful;
  row = schema_record;
  run = λ w. w.schemas;
  count = λ c. c.schemas;
  records = λ C. C.schemas;
  place = λ w. schema_at w.schemas w.schema_names;
  loaded = schema_loaded;
  row_is = λ w c h j m. refl;
  held = λ w c h. (fitting w c h).0.schemas;
  stored = schema_stored;
}

abbrev pub table_table : StoredTable TableRecord (Versioned Table)
table_table = record {
  layout = table_layout;
  lawful = table_lawful;
  row = table_record;
  run = λ w. w.tables;
  count = λ c. c.tables;
  records = λ C. C.tables;
  place = λ w. table_at w.tables w.table_names;
  loaded = table_loaded;
  row_is = λ w c h j m. refl;
  held = λ w c h. (fitting w c h).0.tables;
  stored = table_stored;
}

abbrev pub column_table : StoredTable ColumnRecord (Versioned Column)
column_table = record {
  layout = column_layout;
  lawful = column_lawful;
  row = column_record;
  run = λ w. w.columns;
  count = λ c. c.columns;
  records = λ C. C.columns;
  place = λ w. column_at w.columns w.column_names;
  loaded = column_loaded;
  row_is = λ w c h j m. refl;
  held = λ w c h. (fitting w c h).0.columns;
  stored = column_stored;
}

abbrev pub data_file_table : StoredTable DataFileRecord (Versioned DataFile)
data_file_table = record {
  layout = data_file_layout;
  lawful = data_file_lawful;
  row = data_file_record;
  run = λ w. w.data_files;
  count = λ c. c.data_files;
  records = λ C. C.data_files;
  place = λ w. data_file_at w.data_files;
  loaded = data_file_loaded;
  row_is = λ w c h j m. refl;
  held = λ w c h. (fitting w c h).0.data_files;
  stored = data_file_stored;
}

-- a delete file's count is that of its positions
pub delete_file_row : (w : Words) (c : Counts) → fits w c ≡ true → (j : ℕ) → In j (range 0 c.delete_files)
    → delete_file_record (delete_file_at w.delete_files w.positions j) ≡ at delete_file_layout w.delete_files j
delete_file_row w c h j m = rw (pieces_length (position_pieces w.delete_files) w.positions c.delete_files (omega (arith, fitting w c h)) j m)

abbrev pub delete_file_table : StoredTable DeleteFileRecord (Versioned DeleteFile)
delete_file_table = record {
  layout = delete_file_layout;
  lawful = delete_file_lawful;
  row = delete_file_record;
  run = λ w. w.delete_files;
  count = λ c. c.delete_files;
  records = λ C. C.delete_files;
  place = λ w. delete_file_at w.delete_files w.positions;
  loaded = delete_file_loaded;
  row_is = delete_file_row;
  held = λ w c h. (fitting w c h).0.delete_files;
  stored = delete_file_stored;
}

abbrev pub statistics_table : StoredTable StatisticsRecord Statistics
statistics_table = record {
  layout = statistics_layout;
  lawful = statistics_lawful;
  row = statistics_record;
  run = λ w. w.statistics;
  count = λ c. c.statistics;
  records = λ C. C.statistics;
  place = λ w. statistics_at w.statistics;
  loaded = statistics_loaded;
  row_is = λ w c h j m. refl;
  held = λ w c h. (fitting w c h).0.statistics;
  stored = statistics_stored;
}

abbrev pub scheduled_table : StoredTable ScheduledRecord Scheduled
scheduled_table = record {
  layout = scheduled_layout;
  lawful = scheduled_lawful;
  row = scheduled_record;
  run = λ w. w.scheduled;
  count = λ c. c.scheduled;
  records = λ C. C.scheduled;
  place = λ w. scheduled_at w.scheduled;
  loaded = scheduled_loaded;
  row_is = λ w c h j m. refl;
  held = λ w c h. (fitting w c h).0.scheduled;
  stored = scheduled_stored;
}

abbrev pub schema_name_run : StoredRun (Versioned Schema)
schema_name_run = record {
  run = λ w. w.schema_names;
  pieces = λ w. row_pieces name_size;
  count = λ c. c.schemas;
  used = λ c. name_size * c.schemas;
  records = λ C. C.schemas;
  place = λ w. schema_at w.schemas w.schema_names;
  words = λ v. v.body.name;
  loaded = schema_loaded;
  piece_is = λ w c h j m. refl;
  held = λ w c h. (fitting w c h).0.schema_names;
  ends = λ w c h. refl;
  stored = schema_names_stored;
}

abbrev pub table_name_run : StoredRun (Versioned Table)
table_name_run = record {
  run = λ w. w.table_names;
  pieces = λ w. row_pieces name_size;
  count = λ c. c.tables;
  used = λ c. name_size * c.tables;
  records = λ C. C.tables;
  place = λ w. table_at w.tables w.table_names;
  words = λ v. v.body.name;
  loaded = table_loaded;
  piece_is = λ w c h j m. refl;
  held = λ w c h. (fitting w c h).0.table_names;
  ends = λ w c h. refl;
  stored = table_names_stored;
}

abbrev pub column_name_run : StoredRun (Versioned Column)
column_name_run = record {
  run = λ w. w.column_names;
  pieces = λ w. row_pieces name_size;
  count = λ c. c.columns;
  used = λ c. name_size * c.columns;
  records = λ C. C.columns;
  place = λ w. column_at w.columns w.column_names;
  words = λ v. v.body.name;
  loaded = column_loaded;
  piece_is = λ w c h j m. refl;
  held = λ w c h. (fitting w c h).0.column_names;
  ends = λ w c h. refl;
  stored = column_names_stored;
}

abbrev pub position_run : StoredRun (Versioned DeleteFile)
position_run = record {
  run = λ w. w.positions;
  pieces = λ w. position_pieces w.delete_files;
  count = λ c. c.delete_files;
  used = λ c. c.positions;
  records = λ C. C.delete_files;
  place = λ w. delete_file_at w.delete_files w.positions;
  words = λ v. v.body.positions;
  loaded = delete_file_loaded;
  piece_is = λ w c h j m. refl;
  held = λ w c h. (fitting w c h).0.positions;
  ends = λ w c h. (fitting w c h).1;
  stored = positions_stored;
}

-- What fits

-- fewer records fit where more do
pub within_less : (a b d : Counts) → Within a b → within b d ≡ true → within a d ≡ true
within_less a b d l h = (reflects_within a d).from (let k = (reflects_within b d).to h in omega arith)

-- a catalog of no more records than were loaded fits the runs
pub room_less : (w : Words) (c : Counts) (C : Catalog) → fits w c ≡ true → Within (counts_of C) (counts_of (load w c)) → within (counts_of C) (capacity w) ≡ true
unfolding fits
room_less w c C h l = within_less (counts_of C) c (capacity w) (rw (counts_load w c h) at l) (both (within c (capacity w)) _ h).0

-- the limits of the counts
abbrev pub limits : Counts
limits = record {
  snapshots = table_limit;
  schemas = table_limit;
  tables = table_limit;
  columns = table_limit;
  data_files = table_limit;
  delete_files = table_limit;
  positions = position_limit;
  statistics = table_limit;
  scheduled = table_limit;
}

pub within_limits : (w : Words) (c : Counts) → fits w c ≡ true → Within c limits
unfolding fits capacity
within_limits w c h = let k = (reflects_within c (capacity w)).to (both (within c (capacity w)) _ h).0 in omega arith
