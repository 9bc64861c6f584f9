-- An insert is a good change.
use Prim.Native.Nat.{ℕ, ◌*◌, ◌≤◌, ◌<◌}
use mathlib.Core.Path.{◌≡◌, refl, sym, ap, ◌∙◌}
use mathlib.Core.Logic.{inr}
use mathlib.Core.List.{List, map, map-id, append-nil}
use mathlib.Core.Bool.{Bool, true, false, ◌&&◌}
use native.Mathlib.Omega.{arith}
use lib.Dec.{leb, eqb}
use lib.ListN.{length}
use borrow.Author.Tests.{leb-true, le-leb, eqb-true, eq-eqb, ne_eqb}
use Rattle.lists.specs.Lists.{range, any, agree, filter, count}
use Rattle.lists.proofs.Tests.{if, either, clash, both, and}
use Rattle.lists.proofs.Members.{In, here, All, each, Pairwise, in_map_of, in_filter_of, all_one, pair_one, pair_filter}
use Rattle.lists.proofs.Selections.{filter-append, filter_none, filter_all, filter_ext}
use Rattle.lists.proofs.Orders.{agree_in, agree_pairs}
use Rattle.layout.specs.declared.record.Uuid.{Uuid}
use Rattle.layout.specs.Catalog.{number_limit, Versioned, Table, Column, Statistics, Catalog}
use Rattle.layout.specs.Names.{is_name}
use Rattle.ducklake.specs.Kinds.{is_kind}
use Rattle.ducklake.specs.Liveness.{live, latest, latest_id, columns_at, is_live, table_of_id}
use Rattle.ducklake.specs.Soundness.{is_record_count, table_in_range, column_in_range, statistics_in_range, statistics_fit, file_statistics, statistics_wanted, file_statistics_sound}
use Rattle.ducklake.specs.Arguments.{new_statistics, statistics_arguments, statistics_argument_fits}
use Rattle.ducklake.specs.Commits.{Change, close, grow, next_snapshot, new_data_file_id, commit, numbers_fit, insert, change_of}
use Rattle.ducklake.specs.Calls.{in_time, uuid_free}
use Rattle.ducklake.proofs.facts.Facts.{Sound, ByTableAndId}
use Rattle.ducklake.proofs.facts.Below.{data_file_below}
use Rattle.ducklake.proofs.commits.Moves.{latest_small_lem, live_on}
use Rattle.ducklake.proofs.commits.Good.{next_id, table_next, column_next, Good}
use Rattle.ducklake.proofs.commits.Deletes.{same_id, Found, table_found}
use Rattle.ducklake.proofs.commits.Parts.{SnapshotGood, ends_none, schemas_none, tables_none, columns_none, DataFilesGood, delete_files_none, StatisticsGood, UuidsGood, free_uuid, good_parts, table_moves, data_file_born}

-- statistics are of their column
fit_column : (rows : ℕ) (c : Versioned Column) (x : Statistics) → statistics_fit rows c x ≡ true → x.column ≡ c.id
unfolding statistics_fit
fit_column rows c x h = if (eqb x.column c.id) (λ b. eqb-true x.column c.id b) (λ b. clash h (rw b))

-- fields of records in range
column_small : (c : Versioned Column) → column_in_range c ≡ true → c.id ≤ number_limit
unfolding column_in_range
column_small c h = if (leb c.id number_limit) (λ b. leb-true c.id number_limit b) (λ b. clash h (rw b))

row_small : (t : Versioned Table) → table_in_range t ≡ true → t.body.next_row_id ≤ number_limit
unfolding table_in_range
row_small t h =
    let a = both (leb t.id number_limit && leb t.body.schema number_limit && leb t.body.next_row_id number_limit) (is_name t.body.name) h in
    leb-true t.body.next_row_id number_limit (both (leb t.id number_limit && leb t.body.schema number_limit) (leb t.body.next_row_id number_limit) a.0).1

-- new statistics are of the new file
statistics_own : (k : ℕ) (words : List ℕ) → All (λ x. x.data_file ≡ k) (new_statistics k words)
unfolding new_statistics
statistics_own k words = each (λ x m. let r = in_map_of _ (range 0 (statistics_arguments words)) m in ap (λ y. y.data_file) r.2)

module _ (C : Catalog) (S : Sound C) (time : ℕ) (in_time_lem : in_time C time ≡ true) (table rows : ℕ) (uuid : Uuid) (statistics : List ℕ)
    (at : is_live C.tables (latest_id C) table ≡ true) (counted : is_record_count rows ≡ true) (free : uuid_free C uuid ≡ true)
    (fits : statistics_argument_fits (columns_at C.columns (latest_id C) table) rows (new_data_file_id C 0) statistics ≡ true)
    (numbers : numbers_fit C (change_of C time (insert table rows uuid statistics)) ≡ true) where
  abbrev change : Change
  change = change_of C time (insert table rows uuid statistics)

  abbrev found : Found C.tables table (table_of_id C.tables table)
  found = table_found S table at

  abbrev added : List Statistics
  added = new_statistics (new_data_file_id C 0) statistics

  agrees : agree (statistics_fit rows) (columns_at C.columns (latest_id C) table) added ≡ true
  unfolding statistics_argument_fits
  agrees = (both (eqb (length statistics) (6 * statistics_arguments statistics)) (agree (statistics_fit rows) (columns_at C.columns (latest_id C) table) added) fits).1

  table_below : table < (latest C).next_catalog_id
  table_below = omega (arith, found.id, S.files.tables_below.at (table_of_id C.tables table) found.mem)

  snapshot : SnapshotGood C change
  unfolding change_of next_snapshot is_kind any
  snapshot = record { time = leb-true (latest C).time time in_time_lem; numbers = numbers; kind = refl; object = omega (arith, table_below) }

  -- the columns at the new file's begin are those at the latest snapshot
  wanted : columns_at (commit C change).columns (next_id C change) table ≡ columns_at C.columns (latest_id C) table
  unfolding columns_at commit change_of close
  wanted =
      let q : Versioned Column → Bool = λ c. eqb c.body.table table && live (next_id C change) c in
      let p : Versioned Column → Bool = λ c. eqb c.body.table table && live (latest_id C) c in
      ap (filter q) (append-nil (map (column_next C change) C.columns) ∙ map-id C.columns)
      ∙ filter_ext q p C.columns (λ c m. rw (live_on c (omega (arith, (latest_small_lem S).id)) (S.lives.columns.at c m)))

  own : All (λ x. x.data_file ≡ new_data_file_id C 0) added
  own = statistics_own (new_data_file_id C 0) statistics

  -- no old statistics are of the new file
  statistics_old : (x : Statistics) → In x C.statistics → x.data_file < (latest C).next_file_id
  statistics_old x m = let h = S.statistics.on_file.at x m in omega (arith, h.2, data_file_below S h.0 h.1)

  -- the new file's statistics are the new ones
  had : file_statistics (commit C change).statistics (new_data_file_id C 0) ≡ added
  unfolding file_statistics commit change_of
  had =
      let k : ℕ = new_data_file_id C 0 in
      let q : Statistics → Bool = λ x. eqb x.data_file k in
      let old : All (λ x. q x ≡ false) C.statistics = each (λ x m. ne_eqb x.data_file k (λ e. omega (arith, statistics_old x m))) in
      let new : All (λ x. q x ≡ true) added = each (λ x m. eq-eqb x.data_file k (omega (arith, own.at x m))) in
      filter-append q C.statistics added ∙ rw (filter_none q C.statistics old.at, filter_all q added new.at)

  files_new : DataFilesGood C change
  unfolding change_of
  files_new =
      let t = table_of_id C.tables table in
      record {
        fit = all_one (record { table = omega (arith, table_below, (latest_small_lem S).next_catalog_id); row_id_start = row_small t (S.ranges.tables.at t found.mem); record_count = counted });
        within = all_one (
          table_next C change t,
          table_moves C change found.mem,
          unfold close grow in record {
            same = found.id;
            holds = record {
              after = omega (arith, (S.lives.tables.at t found.mem).begun);
              until = omega (arith, found.open');
            };
          },
        );
        ascend = pair_one _;
        after = λ f m. all_one (λ e.
            let h = S.rows.within.at f m in
            let q : h.0 ≡ t = same_id S.ascend.tables h.0 t h.1 found.mem (h.2.same ∙ (e ∙ sym found.id)) in
            rw q at h.2.room);
        room = all_one (
          table_next C change t,
          table_moves C change found.mem,
          unfold close grow in record {
            same = found.id;
            room = rw (eq-eqb t.id table found.id) (omega arith);
          },
        );
        statistics = all_one (unfold file_statistics_sound statistics_wanted in rw (wanted, had) agrees);
      }

  -- the table's own columns
  column_of_lem : (c : Versioned Column) → In c (columns_at C.columns (latest_id C) table) → In c C.columns × (c.body.table ≡ table)
  unfolding columns_at
  column_of_lem c m =
      let r = in_filter_of (λ c. eqb c.body.table table && live (latest_id C) c) C.columns m in
      (r.0, eqb-true c.body.table table (both (eqb c.body.table table) (live (latest_id C) c) r.1).0)

  columns_ascend_lem : Pairwise ByTableAndId (columns_at C.columns (latest_id C) table)
  unfolding columns_at
  columns_ascend_lem = pair_filter (λ c. eqb c.body.table table && live (latest_id C) c) S.ascend.columns

  statistics_new_lem : StatisticsGood C change
  unfolding change_of statistics_in_range
  statistics_new_lem =
      record {
        fit = each (λ x m.
            let c = agree_in (statistics_fit rows) (columns_at C.columns (latest_id C) table) added agrees m in
            let s = column_small c.0 (S.ranges.columns.at c.0 (column_of_lem c.0 c.1).0) in
            and (le-leb x.data_file number_limit (omega (arith, own.at x m, (latest_small_lem S).next_file_id)))
            (le-leb x.column number_limit (omega (arith, fit_column rows c.0 x c.2))));
        new = each (λ x m. omega (arith, own.at x m));
        ascend = agree_pairs (statistics_fit rows) (columns_at C.columns (latest_id C) table) added agrees columns_ascend_lem (λ c c' x x' i i' m m' h h' o.
            inr (
              own.at x m ∙ sym (own.at x' m'),
              either o (λ l. absurd (omega (arith, (column_of_lem c i).1, (column_of_lem c' i').1)))
                  (λ l. omega (arith, l.1, fit_column rows c x h, fit_column rows c' x' h')),
            ));
        on_file = each (λ x m. (_, data_file_born C change (here refl), omega (arith, own.at x m)));
      }

  uuids_new : UuidsGood C change
  unfolding change_of count
  uuids_new u = omega (arith, free_uuid C S uuid free u)

  pub insert_good : Good C change
  unfolding change_of
  insert_good =
      good_parts snapshot (ends_none C change (λ s. refl) (λ t. refl) (λ c. refl) (λ f. refl)) (schemas_none C change refl) (tables_none C change refl)
      (columns_none C change refl) files_new (delete_files_none C change refl) statistics_new_lem uuids_new
