-- What sound tables give the functions behind the check: lengths and limits, orders by words, ranges, lives, and the facts of soundness.
use Prim.Native.Nat.{ℕ, ◌≤◌, ◌<◌}
use mathlib.Core.Path.{◌≡◌, sym, ap, ◌∙◌}
use mathlib.Core.Logic.{◌⊎◌}
use mathlib.Core.Bool.{Bool, true, ◌&&◌}
use mathlib.Core.List.{List, [], ◌∷◌}
use native.Mathlib.Omega.{arith}
use lib.Dec.{leb, ltb, eqb}
use lib.ListN.{length}
use borrow.Author.Tests.{eqb-true, ltb-true, le-leb}
use Rattle.lists.specs.Lists.{all, any, pairwise, chained}
use Rattle.lists.specs.Runs.{field, fields}
use Rattle.lists.proofs.Tests.{Reflects, either, both, reflects_as, reflects_and, reflects_or, reflects_leb, reflects_ltb, reflects_eqb, reflects_it}
use Rattle.lists.proofs.Members.{In, each, Any, in_all, in_map, range_in, any_in}
use Rattle.lists.proofs.Selections.{any_true, filter_one}
use Rattle.lists.proofs.Places.{all-at}
use Rattle.lists.proofs.Search.{pairs_first, keyed_one}
use Rattle.layout.specs.declared.outcome.Counts.{Counts}
use Rattle.layout.specs.Fields.{snapshot_size, snapshot_id_word, snapshot_time_word, schema_size, schema_id_word, table_size, table_id_word, column_size, column_id_word, column_table_word, data_file_size, data_file_id_word, delete_file_size, delete_file_id_word, statistics_size, statistics_data_file_word, statistics_column_word}
use Rattle.layout.specs.Catalog.{absent, number_limit, record_count_limit, Versioned, Snapshot, Schema, Table, Column, DataFile, DeleteFile, Statistics, Scheduled}
use Rattle.layout.specs.Names.{name_size, is_name}
use Rattle.layout.specs.Types.{is_type}
use Rattle.layout.specs.Words.{Words, load, capacity, within, fits, positions_before, positions_at, snapshot_at, table_at, column_at, data_file_at, delete_file_at, snapshots_in, schemas_in, tables_in, columns_in, data_files_in, delete_files_in, statistics_in, scheduled_in}
use Rattle.layout.proofs.Room.{Within, Held, fitting}
use Rattle.layout.proofs.RoundTrip.{Named}
use Rattle.call_laws.proofs.Stores.{limits, within_limits}
use Rattle.ducklake.specs.Kinds.{is_kind}
use Rattle.ducklake.specs.Liveness.{live, latest_of, delete_files_at}
use Rattle.ducklake.specs.Soundness.{in_limit, is_record_count, snapshot_in_range, schema_in_range, table_in_range, column_in_range, data_file_in_range, delete_file_in_range, statistics_in_range, scheduled_in_range, fields_in_range, follows, snapshots_rise, by_id, by_table_and_id, by_file_and_column, ids_ascend, delete_files_apart, positions_sound, deletes_sound, sound_lines, positions_add_up, sound}
use Rattle.call_laws.specs.Latest.{HasLatest}
use Rattle.ducklake.proofs.facts.Facts.{Sound, sound_lines_lem, reflects_sound, DeleteFilesApart}
use Rattle.ducklake.proofs.facts.FirstRefusals.{AllPassed}
use Rattle.ducklake.proofs.commits.Moves.{SmallSnapshot, reflects_small, latest_small_lem}
use Rattle.call_laws.proofs.Ids.{schema_ids_lem, table_ids_lem, data_file_ids_lem, delete_file_ids_lem, column_order, statistics_order, snapshot_ids_lem, snapshot_times_lem}

-- Fields of records in range

pub record SmallTable (v : Versioned Table) : Type 0 where
  pub id : v.id ≤ number_limit
  pub schema : v.body.schema ≤ number_limit
  pub next_row_id : v.body.next_row_id ≤ number_limit
  pub name : is_name v.body.name ≡ true

pub reflects_table : (v : Versioned Table) → Reflects (table_in_range v) (SmallTable v)
unfolding table_in_range
reflects_table v =
    reflects_as
    (reflects_and (reflects_and (reflects_and (reflects_leb v.id number_limit) (reflects_leb v.body.schema number_limit)) (reflects_leb v.body.next_row_id number_limit)) (reflects_it (is_name v.body.name)))
    (λ h. record { id = h.0.0.0; schema = h.0.0.1; next_row_id = h.0.1; name = h.1 })
    (λ h. (((h.id, h.schema), h.next_row_id), h.name))

pub record SmallColumn (v : Versioned Column) : Type 0 where
  pub id : v.id ≤ number_limit
  pub table : v.body.table ≤ number_limit
  pub order : v.body.order ≤ number_limit
  pub type_code : is_type v.body.type_code ≡ true
  pub nulls_allowed : v.body.nulls_allowed ≤ 1
  pub name : is_name v.body.name ≡ true

pub reflects_column : (v : Versioned Column) → Reflects (column_in_range v) (SmallColumn v)
unfolding column_in_range
reflects_column v =
    reflects_as
    (reflects_and (reflects_and (reflects_and (reflects_and (reflects_and (reflects_leb v.id number_limit) (reflects_leb v.body.table number_limit)) (reflects_leb v.body.order number_limit))
    (reflects_it (is_type v.body.type_code))) (reflects_leb v.body.nulls_allowed 1)) (reflects_it (is_name v.body.name)))
    (λ h. record { id = h.0.0.0.0.0; table = h.0.0.0.0.1; order = h.0.0.0.1; type_code = h.0.0.1; nulls_allowed = h.0.1; name = h.1 })
    (λ h. (((((h.id, h.table), h.order), h.type_code), h.nulls_allowed), h.name))

pub record SmallDataFile (v : Versioned DataFile) : Type 0 where
  pub id : v.id ≤ number_limit
  pub table : v.body.table ≤ number_limit
  pub row_id_start : v.body.row_id_start ≤ number_limit
  pub some : 1 ≤ v.body.record_count
  pub record_count : v.body.record_count ≤ record_count_limit

pub reflects_data_file : (v : Versioned DataFile) → Reflects (data_file_in_range v) (SmallDataFile v)
unfolding data_file_in_range is_record_count
reflects_data_file v =
    reflects_as
    (reflects_and (reflects_and (reflects_and (reflects_leb v.id number_limit) (reflects_leb v.body.table number_limit)) (reflects_leb v.body.row_id_start number_limit))
    (reflects_and (reflects_leb 1 v.body.record_count) (reflects_leb v.body.record_count record_count_limit)))
    (λ h. record { id = h.0.0.0; table = h.0.0.1; row_id_start = h.0.1; some = h.1.0; record_count = h.1.1 })
    (λ h. (((h.id, h.table), h.row_id_start), (h.some, h.record_count)))

pub record SmallDeleteFile (v : Versioned DeleteFile) : Type 0 where
  pub id : v.id ≤ number_limit
  pub table : v.body.table ≤ number_limit
  pub data_file : v.body.data_file ≤ number_limit

pub reflects_delete_file : (v : Versioned DeleteFile) → Reflects (delete_file_in_range v) (SmallDeleteFile v)
unfolding delete_file_in_range
reflects_delete_file v =
    reflects_as (reflects_and (reflects_and (reflects_leb v.id number_limit) (reflects_leb v.body.table number_limit)) (reflects_leb v.body.data_file number_limit))
    (λ h. record { id = h.0.0; table = h.0.1; data_file = h.1 })
    (λ h. ((h.id, h.table), h.data_file))

-- Sound tables

module _ (w : Words) (c : Counts) where
  abbrev ns : List Snapshot
  ns = snapshots_in w.snapshots c.snapshots

  abbrev ss : List (Versioned Schema)
  ss = schemas_in w.schemas w.schema_names c.schemas

  abbrev ts : List (Versioned Table)
  ts = tables_in w.tables w.table_names c.tables

  abbrev cs : List (Versioned Column)
  cs = columns_in w.columns w.column_names c.columns

  abbrev fs : List (Versioned DataFile)
  fs = data_files_in w.data_files c.data_files

  abbrev ds : List (Versioned DeleteFile)
  ds = delete_files_in w.delete_files w.positions c.delete_files

  abbrev qs : List Statistics
  qs = statistics_in w.statistics c.statistics

  abbrev xs : List Scheduled
  xs = scheduled_in w.scheduled c.scheduled

  pub record Ready : Type 0 where
    -- the runs hold the counts, the counts are within the limits, the delete counts add up, every name fills its place
    pub fits : fits w c ≡ true
    pub held : Held w c
    pub few : Within c limits
    pub added : positions_before w.delete_files c.delete_files ≡ c.positions
    pub named : Named (load w c)
    -- the facts of soundness
    pub facts : Sound (load w c)
    -- there is a latest snapshot
    pub latest : HasLatest w.snapshots c.snapshots
    pub latest_small : SmallSnapshot (latest_of ns)
    -- orders, by words
    pub snapshot_ids : chained ltb (fields snapshot_size snapshot_id_word w.snapshots c.snapshots) ≡ true
    pub snapshot_times : chained leb (fields snapshot_size snapshot_time_word w.snapshots c.snapshots) ≡ true
    pub schema_ids : chained ltb (fields schema_size schema_id_word w.schemas c.schemas) ≡ true
    pub table_ids : chained ltb (fields table_size table_id_word w.tables c.tables) ≡ true
    pub column_tables : chained leb (fields column_size column_table_word w.columns c.columns) ≡ true
    pub data_file_ids : chained ltb (fields data_file_size data_file_id_word w.data_files c.data_files) ≡ true
    pub delete_file_ids : chained ltb (fields delete_file_size delete_file_id_word w.delete_files c.delete_files) ≡ true
    pub statistics_files : chained leb (fields statistics_size statistics_data_file_word w.statistics c.statistics) ≡ true
    -- every field in its range
    pub table_ranges : all table_in_range ts ≡ true
    pub column_ranges : all column_in_range cs ≡ true
    pub next_row_ids : all (λ t. in_limit t.body.next_row_id) ts ≡ true
    -- delete files and their positions
    pub positions_sound : all (positions_sound fs) ds ≡ true

-- the tests of soundness one by one
module _ (w : Words) (c : Counts) (f : fits w c ≡ true) (S : Sound (load w c)) where
  name_length : (place : List ℕ) → is_name place ≡ true → length place ≡ name_size
  unfolding is_name
  name_length place h = eqb-true (length place) name_size (both _ _ (both _ _ h).0).0

  schema_name : (v : Versioned Schema) → schema_in_range v ≡ true → is_name v.body.name ≡ true
  unfolding schema_in_range
  schema_name v h = (both (in_limit v.id) (is_name v.body.name) h).1

  names : Named (load w c)
  names = record {
    schemas = each (λ v m. name_length v.body.name (schema_name v (S.ranges.schemas.at v m)));
    tables = each (λ v m. name_length v.body.name ((reflects_table v).to (S.ranges.tables.at v m)).name);
    columns = each (λ v m. name_length v.body.name ((reflects_column v).to (S.ranges.columns.at v m)).name);
  }

  some_snapshot : 0 < c.snapshots
  unfolding load
  some_snapshot = ltb-true 0 c.snapshots (sym (any_true (snapshot_at w.snapshots) c.snapshots) ∙ S.rise.some)

  small : SmallSnapshot (latest_of (snapshots_in w.snapshots c.snapshots))
  unfolding load
  small = latest_small_lem S

  next_row_ids_lem : all (λ t. in_limit t.body.next_row_id) (load w c).tables ≡ true
  next_row_ids_lem = in_all _ _ (λ v m. le-leb v.body.next_row_id number_limit ((reflects_table v).to (S.ranges.tables.at v m)).next_row_id)

infixl 35 ◌&◌
◌&◌ : {p q : Bool} {P Q : Type 0} → Reflects p P → Reflects q Q → Reflects (p && q) (P × Q)
s & t = reflects_and s t

abbrev it : (b : Bool) → Reflects b (b ≡ true)
it = reflects_it

pub ready : (w : Words) (c : Counts) → sound w c ≡ true → Ready w c
unfolding load fields_in_range snapshots_rise ids_ascend deletes_sound
ready w c h =
    let t = (reflects_sound w c).to h in
    let S : Sound (load w c) = t.1 in
    let p : AllPassed (sound_lines w c) = sound_lines_lem w c h in
    let ranges =
    (it (all snapshot_in_range (ns w c)) & it (all schema_in_range (ss w c)) & it (all table_in_range (ts w c)) & it (all column_in_range (cs w c)) & it (all data_file_in_range (fs w c))
    & it (all delete_file_in_range (ds w c)) & it (all statistics_in_range (qs w c)) & it (all scheduled_in_range (xs w c))).to (both (within c (capacity w)) (fields_in_range (load w c)) (p 1)).1 in
    let rise =
    (it (any (λ n. true) (ns w c)) & it (chained follows (ns w c)) & it (all (λ n. is_kind n.kind && ltb n.object (latest_of (ns w c)).next_catalog_id) (ns w c))).to (p 2) in
    let ids =
    (it (chained by_id (ss w c)) & it (chained by_id (ts w c)) & it (chained by_id (fs w c)) & it (chained by_id (ds w c)) & it (chained by_table_and_id (cs w c)) & it (chained by_file_and_column (qs w c))).to (p 4) in
    let deletes =
    (it (pairwise delete_files_apart (ds w c)) & it (all (positions_sound (fs w c)) (ds w c))).to (both (positions_add_up w c) (deletes_sound (load w c)) (p 8)).1 in
    let columns = sym (column_order w.columns w.column_names c.columns) ∙ ids.0.1 in
    let statistics = sym (statistics_order w.statistics c.statistics) ∙ ids.1 in
    record {
      fits = t.0;
      held = (fitting w c t.0).0;
      few = within_limits w c t.0;
      added = (fitting w c t.0).1;
      named = names w c t.0 S;
      facts = S;
      latest = record { held = (fitting w c t.0).0.snapshots; some = some_snapshot w c t.0 S; in_range = (reflects_small (latest_of (ns w c))).from (small w c t.0 S) };
      latest_small = small w c t.0 S;
      snapshot_ids = snapshot_ids_lem w.snapshots c.snapshots rise.0.1;
      snapshot_times = snapshot_times_lem w.snapshots c.snapshots rise.0.1;
      schema_ids = sym (schema_ids_lem w.schemas w.schema_names c.schemas) ∙ ids.0.0.0.0.0;
      table_ids = sym (table_ids_lem w.tables w.table_names c.tables) ∙ ids.0.0.0.0.1;
      column_tables = pairs_first column_size column_table_word column_id_word w.columns c.columns columns;
      data_file_ids = sym (data_file_ids_lem w.data_files c.data_files) ∙ ids.0.0.0.1;
      delete_file_ids = sym (delete_file_ids_lem w.delete_files w.positions c.delete_files) ∙ ids.0.0.1;
      statistics_files = pairs_first statistics_size statistics_data_file_word statistics_column_word w.statistics c.statistics statistics;
      table_ranges = ranges.0.0.0.0.0.1;
      column_ranges = ranges.0.0.0.0.1;
      next_row_ids = next_row_ids_lem w c t.0 S;
      positions_sound = deletes.1;
    }

-- At a place, or of a file

reflects_life_at : {A : Type 0} (s : ℕ) (v : Versioned A) → Reflects (live s v) ((v.begin ≤ s) × ((v.end ≡ absent) ⊎ (s < v.end)))
unfolding live
reflects_life_at s v = reflects_and (reflects_leb v.begin s) (reflects_or (reflects_eqb v.end absent) (reflects_ltb s v.end))

positions_parts : (gs : List (Versioned DataFile)) (d : Versioned DeleteFile) → positions_sound gs d ≡ true
    → ((any (λ p. true) d.body.positions ≡ true) × (chained ltb d.body.positions ≡ true))
    × (any (λ f. eqb f.id d.body.data_file && all (λ p. ltb p f.body.record_count) d.body.positions) gs ≡ true)
unfolding positions_sound
positions_parts gs d h =
    (it (any (λ p. true) d.body.positions) & it (chained ltb d.body.positions)
    & it (any (λ f. eqb f.id d.body.data_file && all (λ p. ltb p f.body.record_count) d.body.positions) gs)).to h

module _ {w : Words} {c : Counts} (R : Ready w c) where
  pub table_small : (i : ℕ) → i < c.tables → SmallTable (table_at w.tables w.table_names i)
  table_small i h = (reflects_table _).to (all-at (table_at w.tables w.table_names) table_in_range c.tables i R.table_ranges h)

  pub column_small : (i : ℕ) → i < c.columns → SmallColumn (column_at w.columns w.column_names i)
  column_small i h = (reflects_column _).to (all-at (column_at w.columns w.column_names) column_in_range c.columns i R.column_ranges h)

  -- "two delete files of one data file have no common live number": none or one is live at a number
  pub one_delete_file : (s k : ℕ) → (delete_files_at (ds w c) s k ≡ [])
      ⊎ Any (λ d. ((eqb d.body.data_file k && live s d) ≡ true) × (delete_files_at (ds w c) s k ≡ d ∷ [])) (ds w c)
  unfolding delete_files_at load
  one_delete_file s k = filter_one (λ d. eqb d.body.data_file k && live s d) R.facts.deletes.apart not_both
    where
      passes : (d e : Versioned DeleteFile) → In e (ds w c) → (eqb d.body.data_file k && live s d) ≡ true → (eqb e.body.data_file k && live s e) ≡ true → d.end ≤ e.begin → ⊥
      passes d e m p q l =
          let a = (reflects_life_at s d).to (both (eqb d.body.data_file k) (live s d) p).1 in
          let b = (reflects_life_at s e).to (both (eqb e.body.data_file k) (live s e) q).1 in
          either a.1
          (λ z. omega (arith, z, l, (R.facts.lives.delete_files.at e m).begun, R.latest_small.id))
          (λ z. omega (arith, z, l, b.0))

      not_both : (d e : Versioned DeleteFile) → In d (ds w c) → In e (ds w c) → DeleteFilesApart d e
          → (eqb d.body.data_file k && live s d) ≡ true → (eqb e.body.data_file k && live s e) ≡ true → ⊥
      not_both d e i j o p q =
          let x = eqb-true d.body.data_file k (both (eqb d.body.data_file k) (live s d) p).0 in
          let y = eqb-true e.body.data_file k (both (eqb e.body.data_file k) (live s e) q).0 in
          either (o (x ∙ sym y)) (λ t. passes d e j p q t.ended) (λ t. passes e d i q p t.ended)

  -- "positions ascend strictly below record_count; delete_count is 1 or more"
  module _ (j : ℕ) (h : j < c.delete_files) where
    parts : ((any (λ p. true) (positions_at w.delete_files w.positions j) ≡ true) × (chained ltb (positions_at w.delete_files w.positions j) ≡ true))
        × (any (λ f. eqb f.id (delete_file_at w.delete_files w.positions j).body.data_file && all (λ p. ltb p f.body.record_count) (positions_at w.delete_files w.positions j)) (fs w c) ≡ true)
    parts = positions_parts (fs w c) (delete_file_at w.delete_files w.positions j)
        (all-at (delete_file_at w.delete_files w.positions) (positions_sound (fs w c)) c.delete_files j R.positions_sound h)

    pub positions_ascend_lem : chained ltb (positions_at w.delete_files w.positions j) ≡ true
    positions_ascend_lem = parts.0.1

    pub positions_below : (i : ℕ) → i < c.data_files → (data_file_at w.data_files i).id ≡ (delete_file_at w.delete_files w.positions j).body.data_file
        → all (λ p. ltb p (data_file_at w.data_files i).body.record_count) (positions_at w.delete_files w.positions j) ≡ true
    unfolding field
    positions_below i l e =
        let r = any_in (λ f. eqb f.id (delete_file_at w.delete_files w.positions j).body.data_file && all (λ p. ltb p f.body.record_count) (positions_at w.delete_files w.positions j)) (fs w c) parts.1 in
        let b = both (eqb r.0.id (delete_file_at w.delete_files w.positions j).body.data_file) (all (λ p. ltb p r.0.body.record_count) (positions_at w.delete_files w.positions j)) r.2 in
        let same = keyed_one (data_file_at w.data_files) (λ f. f.id) c.data_files R.data_file_ids r.1 (in_map (data_file_at w.data_files) (range_in 0 c.data_files i (omega arith) (omega arith)))
        (eqb-true r.0.id _ b.0 ∙ sym e) in
        ap (λ (f : Versioned DataFile). all (λ p. ltb p f.body.record_count) (positions_at w.delete_files w.positions j)) (sym same) ∙ b.1
