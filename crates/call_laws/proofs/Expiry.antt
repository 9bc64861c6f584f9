-- What an expiry leaves: each run keeps the pieces of the records that stay, which is one law for all runs, and the removed files stand behind the
-- scheduled ones. It needs room for these alone.
use Prim.Native.Nat.{ℕ, ◌+◌, ◌*◌, ◌≤◌}
use mathlib.Core.Path.{◌≡◌, refl, sym, ap, ◌∙◌}
use mathlib.Core.Bool.{Bool, true}
use mathlib.Core.List.{List, [], ◌∷◌, ◌++◌, map}
use native.Mathlib.Omega.{arith}
use lib.Dec.{leb, eqb}
use lib.ListN.{length, length-append, length-map}
use borrow.Author.Tests.{le-leb, leb-true}
use Rattle.lists.specs.Lists.{range, any, filter, sum, sort_by}
use Rattle.lists.proofs.Tests.{if, both, same_test}
use Rattle.lists.proofs.Members.{In, in_filter_of}
use Rattle.lists.proofs.Counts.{count_most, filter_length}
use Rattle.lists.proofs.Selections.{filter_map_ext, map_map_ext}
use Rattle.lists.proofs.Orders.{length_sort}
use Rattle.lists.proofs.Pieces.{pieces_length}
use Rattle.lists.specs.Pieces.{row_pieces, Compacted}
use Rattle.lists.proofs.Compaction.{rows_count}
use Rattle.layout.specs.declared.outcome.Counts.{Counts}
use Rattle.layout.specs.Fields.{snapshot_size, schema_size, table_size, column_size, data_file_size, delete_file_size, statistics_size}
use Rattle.layout.specs.Records.{scheduled_layout}
use Rattle.layout.specs.Catalog.{Snapshot, Statistics, Scheduled, Catalog, scheduled_record}
use Rattle.layout.specs.Names.{name_size}
use Rattle.layout.specs.Words.{Words, load, store, counts_of, capacity, within, fits, delete_count, position_pieces, snapshot_at, schema_at, table_at, column_at, data_file_at, delete_file_at, statistics_at, snapshots_in, data_files_in, delete_files_in}
use Rattle.call_laws.specs.Writes.{extend_table}
use Rattle.layout.proofs.Room.{reflects_within, fitting}
use Rattle.layout.proofs.RoundTrip.{counts_load}
use Rattle.call_laws.proofs.Stores.{table_run, run_compacted, table_more, snapshot_table, schema_table, table_table, column_table, data_file_table, delete_file_table, statistics_table, scheduled_table, schema_name_run, table_name_run, column_name_run, position_run}
use Rattle.ducklake.specs.Liveness.{live_at_some}
use Rattle.ducklake.specs.Maintenance.{scheduled_file, removed, leaves, remaining, expire}
use Rattle.ducklake.specs.Calls.{has_room}
use Rattle.call_laws.proofs.CommitWords.{words_same}

loaded_scheduled : (w : Words) (c : Counts) → fits w c ≡ true → length (load w c).scheduled ≡ c.scheduled
unfolding counts_of
loaded_scheduled w c h = ap (λ d. d.scheduled) (counts_load w c h)

fewer : {A : Type 0} (p : A → Bool) (xs : List A) → length (filter p xs) ≤ length xs
fewer p xs = omega (arith, filter_length p xs, count_most p xs)

sum_fewer : {A : Type 0} (f : A → ℕ) (p : A → Bool) (xs : List A) → sum (map f (filter p xs)) ≤ sum (map f xs)
unfolding filter sum
sum_fewer f p [] = omega arith
sum_fewer f p (x ∷ xs) = if (p x) (λ e. rw e (omega (arith, sum_fewer f p xs))) (λ e. rw e (omega (arith, sum_fewer f p xs)))

-- an expiry removes records and adds scheduled ones
record Fewer (a b : Counts) : Type 0 where
  snapshots : a.snapshots ≤ b.snapshots
  schemas : a.schemas ≤ b.schemas
  tables : a.tables ≤ b.tables
  columns : a.columns ≤ b.columns
  data_files : a.data_files ≤ b.data_files
  delete_files : a.delete_files ≤ b.delete_files
  positions : a.positions ≤ b.positions
  statistics : a.statistics ≤ b.statistics

expired_fewer : (C : Catalog) (ids : List ℕ) (time : ℕ) → Fewer (counts_of (expire C ids time)) (counts_of C)
unfolding expire counts_of
expired_fewer C ids time = record {
  snapshots = fewer _ C.snapshots;
  schemas = fewer _ C.schemas;
  tables = fewer _ C.tables;
  columns = fewer _ C.columns;
  data_files = fewer _ C.data_files;
  delete_files = fewer _ C.delete_files;
  positions = sum_fewer _ _ C.delete_files;
  statistics = fewer _ C.statistics;
}

module _ (w : Words) (c : Counts) (ids : List ℕ) (time : ℕ) where
  abbrev ns : List Snapshot
  ns = remaining (snapshots_in w.snapshots c.snapshots) ids

  -- statistics of a data file that stays
  abbrev pub on_file : Statistics → Bool
  on_file x = any (λ f. eqb f.id x.data_file) (filter (live_at_some ns) (data_files_in w.data_files c.data_files))

  -- the removed files, by ascending id
  abbrev pub scheduled_files : List Scheduled
  scheduled_files = sort_by (λ x. x.file)
      (map (scheduled_file (λ f. f.uuid) time) (removed ns (data_files_in w.data_files c.data_files))
      ++ map (scheduled_file (λ d. d.uuid) time) (removed ns (delete_files_in w.delete_files w.positions c.delete_files)))

  pub scheduled_length : length scheduled_files
      ≡ length (removed ns (data_files_in w.data_files c.data_files)) + length (removed ns (delete_files_in w.delete_files w.positions c.delete_files))
  scheduled_length =
      length_sort (λ x. x.file) (map (scheduled_file (λ f. f.uuid) time) (removed ns (data_files_in w.data_files c.data_files))
      ++ map (scheduled_file (λ d. d.uuid) time) (removed ns (delete_files_in w.delete_files w.positions c.delete_files)))
      ∙ rw (length-append, length-map, length-map) refl

  -- which places of each table stay
  pub record Stays : Type 0 where
    pub snapshot : ℕ → Bool
    pub schema : ℕ → Bool
    pub table : ℕ → Bool
    pub column : ℕ → Bool
    pub data_file : ℕ → Bool
    pub delete_file : ℕ → Bool
    pub statistics : ℕ → Bool
    pub snapshot_is : (j : ℕ) → In j (range 0 c.snapshots) → leaves ids (snapshot_at w.snapshots j) ≡ snapshot j
    pub schema_is : (j : ℕ) → In j (range 0 c.schemas) → live_at_some ns (schema_at w.schemas w.schema_names j) ≡ schema j
    pub table_is : (j : ℕ) → In j (range 0 c.tables) → live_at_some ns (table_at w.tables w.table_names j) ≡ table j
    pub column-is : (j : ℕ) → In j (range 0 c.columns) → live_at_some ns (column_at w.columns w.column_names j) ≡ column j
    pub data_file_is : (j : ℕ) → In j (range 0 c.data_files) → live_at_some ns (data_file_at w.data_files j) ≡ data_file j
    pub delete_file_is : (j : ℕ) → In j (range 0 c.delete_files) → live_at_some ns (delete_file_at w.delete_files w.positions j) ≡ delete_file j
    pub statistics_is : (j : ℕ) → In j (range 0 c.statistics) → on_file (statistics_at w.statistics j) ≡ statistics j

  -- the runs after an expiry, and the counts: eleven compacted, one extended
  pub record Expired (K : Stays) (w' : Words) (c' : Counts) : Type 0 where
    pub snapshots : Compacted (row_pieces snapshot_size) K.snapshot c.snapshots w.snapshots (snapshot_size * c'.snapshots) w'.snapshots
    pub schemas : Compacted (row_pieces schema_size) K.schema c.schemas w.schemas (schema_size * c'.schemas) w'.schemas
    pub schema_names : Compacted (row_pieces name_size) K.schema c.schemas w.schema_names (name_size * c'.schemas) w'.schema_names
    pub tables : Compacted (row_pieces table_size) K.table c.tables w.tables (table_size * c'.tables) w'.tables
    pub table_names : Compacted (row_pieces name_size) K.table c.tables w.table_names (name_size * c'.tables) w'.table_names
    pub columns : Compacted (row_pieces column_size) K.column c.columns w.columns (column_size * c'.columns) w'.columns
    pub column_names : Compacted (row_pieces name_size) K.column c.columns w.column_names (name_size * c'.columns) w'.column_names
    pub data_files : Compacted (row_pieces data_file_size) K.data_file c.data_files w.data_files (data_file_size * c'.data_files) w'.data_files
    pub delete_files : Compacted (row_pieces delete_file_size) K.delete_file c.delete_files w.delete_files (delete_file_size * c'.delete_files) w'.delete_files
    pub positions : Compacted (position_pieces w.delete_files) K.delete_file c.delete_files w.positions c'.positions w'.positions
    pub statistics : Compacted (row_pieces statistics_size) K.statistics c.statistics w.statistics (statistics_size * c'.statistics) w'.statistics
    pub scheduled : w'.scheduled ≡ extend_table scheduled_layout w.scheduled c.scheduled (map scheduled_record scheduled_files)
    pub more : c'.scheduled ≡ c.scheduled + length scheduled_files

  module _ (h : fits w c ≡ true) (K : Stays) {w' : Words} {c' : Counts} (E : Expired K w' c') where
    abbrev D : Catalog
    D = expire (load w c) ids time

    pub expire_words : w' ≡ store w c (expire (load w c) ids time)
    unfolding expire load
    expire_words =
        words_same
        (run_compacted (table_run snapshot_table) w c h D (leaves ids) K.snapshot refl K.snapshot_is E.snapshots)
        (run_compacted (table_run schema_table) w c h D (live_at_some ns) K.schema refl K.schema_is E.schemas)
        (run_compacted schema_name_run w c h D (live_at_some ns) K.schema refl K.schema_is E.schema_names)
        (run_compacted (table_run table_table) w c h D (live_at_some ns) K.table refl K.table_is E.tables)
        (run_compacted table_name_run w c h D (live_at_some ns) K.table refl K.table_is E.table_names)
        (run_compacted (table_run column_table) w c h D (live_at_some ns) K.column refl K.column-is E.columns)
        (run_compacted column_name_run w c h D (live_at_some ns) K.column refl K.column-is E.column_names)
        (run_compacted (table_run data_file_table) w c h D (live_at_some ns) K.data_file refl K.data_file_is E.data_files)
        (run_compacted (table_run delete_file_table) w c h D (live_at_some ns) K.delete_file refl K.delete_file_is E.delete_files)
        (run_compacted position_run w c h D (live_at_some ns) K.delete_file refl K.delete_file_is E.positions)
        (run_compacted (table_run statistics_table) w c h D on_file K.statistics refl K.statistics_is E.statistics)
        (E.scheduled ∙ table_more scheduled_table w c h D scheduled_files refl)

    -- the positions of the delete files that stay
    positions_count : sum (map (λ v. length v.body.positions) (filter (live_at_some ns) (delete_files_in w.delete_files w.positions c.delete_files))) ≡ c'.positions
    positions_count =
        ap (λ vs. sum (map (λ v. length v.body.positions) vs)) (filter_map_ext K.delete_file (live_at_some ns) (delete_file_at w.delete_files w.positions) (range 0 c.delete_files) K.delete_file_is)
        ∙ (ap sum (map_map_ext (delete_count w.delete_files) (λ v. length v.body.positions) (delete_file_at w.delete_files w.positions) (filter K.delete_file (range 0 c.delete_files))
        (λ j m. pieces_length (position_pieces w.delete_files) w.positions c.delete_files (omega (arith, fitting w c h)) j (in_filter_of K.delete_file (range 0 c.delete_files) m).0))
        ∙ sym E.positions.count)

    pub expire_counts : c' ≡ counts_of (expire (load w c) ids time)
    unfolding expire load counts_of
    expire_counts = λ i. record {
      snapshots = rows_count snapshot_size c'.snapshots (leaves ids) K.snapshot (snapshot_at w.snapshots) c.snapshots (omega arith) K.snapshot_is E.snapshots i;
      schemas = rows_count schema_size c'.schemas (live_at_some ns) K.schema (schema_at w.schemas w.schema_names) c.schemas (omega arith) K.schema_is E.schemas i;
      tables = rows_count table_size c'.tables (live_at_some ns) K.table (table_at w.tables w.table_names) c.tables (omega arith) K.table_is E.tables i;
      columns = rows_count column_size c'.columns (live_at_some ns) K.column (column_at w.columns w.column_names) c.columns (omega arith) K.column-is E.columns i;
      data_files = rows_count data_file_size c'.data_files (live_at_some ns) K.data_file (data_file_at w.data_files) c.data_files (omega arith) K.data_file_is E.data_files i;
      delete_files = rows_count delete_file_size c'.delete_files (live_at_some ns) K.delete_file (delete_file_at w.delete_files w.positions) c.delete_files (omega arith) K.delete_file_is E.delete_files i;
      positions = sym positions_count i;
      statistics = rows_count statistics_size c'.statistics on_file K.statistics (statistics_at w.statistics) c.statistics (omega arith) K.statistics_is E.statistics i;
      scheduled = scheduled i;
    }
      where
        scheduled : c'.scheduled ≡ length ((load w c).scheduled ++ scheduled_files)
        scheduled = E.more ∙ sym (length-append (load w c).scheduled scheduled_files ∙ ap (λ n. n + length scheduled_files) (loaded_scheduled w c h))

  scheduled_total : fits w c ≡ true → (counts_of (expire (load w c) ids time)).scheduled ≡ c.scheduled + length scheduled_files
  unfolding expire load counts_of
  scheduled_total h = length-append (load w c).scheduled scheduled_files ∙ ap (λ n. n + length scheduled_files) (loaded_scheduled w c h)

  -- 2: all other counts fall or stay
  pub expire_room : fits w c ≡ true → {k : ℕ} → k ≡ length scheduled_files → leb (c.scheduled + k) (capacity w).scheduled ≡ has_room w (expire (load w c) ids time)
  unfolding has_room fits
  expire_room h {k} e = same_test _ _ to from
    where
      total : (counts_of (expire (load w c) ids time)).scheduled ≡ c.scheduled + k
      total = scheduled_total h ∙ ap (λ n. c.scheduled + n) (sym e)

      others : Fewer (counts_of (expire (load w c) ids time)) c
      others = rw (counts_load w c h) at (expired_fewer (load w c) ids time)

      to : leb (c.scheduled + k) (capacity w).scheduled ≡ true → within (counts_of (expire (load w c) ids time)) (capacity w) ≡ true
      to l = (reflects_within _ _).from (let a = others in let b = (reflects_within c (capacity w)).to (both (within c (capacity w)) _ h).0 in let d : c.scheduled + k ≤ (capacity w).scheduled = leb-true _ _ l in let t = total in omega arith)

      from : within (counts_of (expire (load w c) ids time)) (capacity w) ≡ true → leb (c.scheduled + k) (capacity w).scheduled ≡ true
      from l = le-leb (c.scheduled + k) (capacity w).scheduled (omega (arith, ((reflects_within _ _).to l).scheduled, total))
