-- Creating a schema and creating a table are good changes.
use Prim.Native.Nat.{ℕ, ◌+◌, ◌*◌, ◌≤◌, ◌<◌}
use mathlib.Core.Path.{◌≡◌, refl, sym, ap, ◌∙◌}
use mathlib.Core.Logic.{inr}
use mathlib.Core.List.{List, map}
use mathlib.Core.Bool.{Bool, true, false, not, ◌&&◌}
use native.Mathlib.Omega.{arith}
use lib.Dec.{eqb}
use lib.ListN.{length, length-map}
use borrow.Author.Tests.{leb-true, eq-eqb, ne_eqb}
use Rattle.lists.specs.Lists.{range, any}
use Rattle.lists.proofs.Tests.{and, reflects_it, reflects_and, reflects_leb, reflects_eqb}
use Rattle.lists.proofs.Members.{In, here, All, each, Any, Pairwise, in_map_of, in_range_lem, in_filter, not_any, all_one, all_map, pair_one, pair_map, pair_as, pair_and, reflects_all, reflects_pairwise}
use Rattle.lists.proofs.Selections.{filter-append, filter_none, filter_all}
use Rattle.lists.proofs.Orders.{range_ascend}
use Rattle.lists.proofs.Loops.{length-range}
use Rattle.layout.specs.Catalog.{absent, Versioned, Column, Catalog}
use Rattle.layout.specs.Names.{name_size, is_name, is_name_argument, padded, same_name}
use Rattle.layout.specs.Types.{is_type}
use Rattle.layout.proofs.Padding.{padded_is_name}
use Rattle.ducklake.specs.Kinds.{is_kind}
use Rattle.ducklake.specs.Liveness.{live, latest, latest_id, schemas_at, tables_at, columns_at, is_live}
use Rattle.ducklake.specs.Soundness.{is_flag}
use Rattle.ducklake.specs.Arguments.{clashes, column_arguments, new_columns, column_argument, columns_whole, columns_fit}
use Rattle.ducklake.specs.Commits.{Change, close, born, next_snapshot, commit, numbers_fit, create_schema, create_table, change_of}
use Rattle.ducklake.specs.Calls.{in_time}
use Rattle.ducklake.proofs.facts.Facts.{Sound}
use Rattle.ducklake.proofs.facts.Below.{column_below}
use Rattle.ducklake.proofs.facts.Clashes.{same_clashes, unlike}
use Rattle.ducklake.proofs.commits.Moves.{Born, in_born, born_ascend, pair_born, length_born, live_at_birth, latest_small_lem, open_live}
use Rattle.ducklake.proofs.commits.Good.{next_id, schema_next, column_next, Good}
use Rattle.ducklake.proofs.commits.Deletes.{latest_open, Found, live_found}
use Rattle.ducklake.proofs.commits.Parts.{SnapshotGood, ends_none, SchemasGood, schemas_none, TablesGood, tables_none, ColumnsGood, columns_none, data_files_none, delete_files_none, statistics_none, uuids_none, good_parts, schema_moves, table_born}

-- what the test of a column list tells
record NewColumns (table : ℕ) (xs : List Column) : Type 0 where
  some : 1 ≤ length xs
  few : length xs ≤ 16
  own : All (λ x. (x.table ≡ table) × (x.order < 16)) xs
  typed : All (λ x. ((is_type x.type_code ≡ true) × (is_flag x.nulls_allowed ≡ true)) × (is_name x.name ≡ true)) xs
  apart : Pairwise (λ x y. (same_name x.name y.name ≡ true → ⊥) × (x.order < y.order)) xs

new_columns_lem : (table : ℕ) (words names : List ℕ) → columns_fit table words names ≡ true → NewColumns table (new_columns table words names)
unfolding columns_whole columns_fit new_columns
new_columns_lem table words names h =
    let n : ℕ = column_arguments words in
    let column : ℕ → Column = column_argument table words names in
    let xs : List Column = map column (range 0 n) in
    let e : length xs ≡ n = length-map (range 0 n) column ∙ length-range 0 n in
    let t = (reflects_and (reflects_and (reflects_and (reflects_and (reflects_and (reflects_eqb (length words) (2 * n)) (reflects_eqb (length names) (name_size * n)))
    (reflects_leb 1 n)) (reflects_leb n 16))
    (reflects_all (λ (c : Column). reflects_and (reflects_and (reflects_it (is_type c.type_code)) (reflects_it (is_flag c.nulls_allowed))) (reflects_it (is_name c.name))) xs))
    (reflects_pairwise (λ (a b : Column). reflects_it (not (clashes a.name b.name))) xs)).to h in
    record {
      some = rw e t.0.0.0.1;
      few = rw e t.0.0.1;
      own = each (λ x m. let r = in_map_of column (range 0 n) m in (ap (λ c. c.table) r.2, omega (arith, ap {B = ℕ} (λ c. c.order) r.2, (in_range_lem 0 n r.1).1, t.0.0.1)));
      typed = t.0.1;
      apart = pair_and (pair_as t.1 (λ a b m k. unlike a.name b.name)) (pair_map column (range_ascend 0 n) (λ i j m k l. l));
    }

module _ (C : Catalog) (S : Sound C) (time : ℕ) (name : List ℕ) (in_time_lem : in_time C time ≡ true) (named : is_name_argument name ≡ true) where
  module _ (free : not (any (λ s. clashes s.body.name (padded name)) (schemas_at C.schemas (latest_id C))) ≡ true)
      (numbers : numbers_fit C (change_of C time (create_schema name)) ≡ true) where
    abbrev schema_change : Change
    schema_change = change_of C time (create_schema name)

    schema_snapshot : SnapshotGood C schema_change
    unfolding change_of next_snapshot is_kind any
    schema_snapshot = record { time = leb-true (latest C).time time in_time_lem; numbers = numbers; kind = refl; object = omega arith }

    schema_new : SchemasGood C schema_change
    unfolding change_of schemas_at
    schema_new = record {
      fit = all_one (padded_is_name name named);
      apart = pair_one _;
      free = λ v m o. all_one (λ h.
          not_any (λ s. clashes s.body.name (padded name)) free
          (in_filter (live (latest_id C)) C.schemas m (open_live v (latest_open S) (S.lives.schemas.at v m) o)) (same_clashes v.body.name (padded name) h));
    }

    pub create_schema_good : Good C schema_change
    unfolding change_of
    create_schema_good =
        good_parts schema_snapshot (ends_none C schema_change (λ s. refl) (λ t. refl) (λ c. refl) (λ f. refl)) schema_new
        (tables_none C schema_change refl) (columns_none C schema_change refl) (data_files_none C schema_change refl)
        (delete_files_none C schema_change refl) (statistics_none C schema_change refl) (uuids_none C schema_change S refl refl)

  module _ (schema : ℕ) (columns names : List ℕ) (at : is_live C.schemas (latest_id C) schema ≡ true)
      (free : not (any (λ t. clashes t.body.name (padded name)) (tables_at C.tables (latest_id C) schema)) ≡ true)
      (fits : columns_fit (latest C).next_catalog_id columns names ≡ true)
      (numbers : numbers_fit C (change_of C time (create_table schema name columns names)) ≡ true) where
    abbrev table_change : Change
    table_change = change_of C time (create_table schema name columns names)

    abbrev added : List Column
    added = new_columns (latest C).next_catalog_id columns names

    told : NewColumns (latest C).next_catalog_id added
    told = new_columns_lem (latest C).next_catalog_id columns names fits

    schema_found : Any (Found C.schemas schema) C.schemas
    unfolding is_live
    schema_found = live_found S schema C.schemas S.lives.schemas at

    table_snapshot : SnapshotGood C table_change
    unfolding change_of next_snapshot is_kind any
    table_snapshot = record { time = leb-true (latest C).time time in_time_lem; numbers = numbers; kind = refl; object = omega arith }

    next_open : next_id C table_change < absent
    next_open = omega (arith, (latest_small_lem S).id)

    -- the columns of the new table are the new ones
    columns_of_new : columns_at (commit C table_change).columns (next_id C table_change) ((latest C).next_catalog_id + 0) ≡ born (next_id C table_change) 1 added
    unfolding columns_at commit change_of close
    columns_of_new =
        let k : ℕ = (latest C).next_catalog_id + 0 in
        let q : Versioned Column → Bool = λ c. eqb c.body.table k && live (next_id C table_change) c in
        let xs : List (Versioned Column) = map (column_next C table_change) C.columns in
        let ys : List (Versioned Column) = born (next_id C table_change) 1 added in
        let old : All (λ c. q c ≡ false) xs = all_map (column_next C table_change) C.columns (λ c m. rw (ne_eqb c.body.table k (λ e. omega (arith, column_below S c m)))) in
        let b : (c : Versioned Column) → In c ys → Born (next_id C table_change) 1 (length added) added c = λ c m. in_born (next_id C table_change) 1 added m in
        let new : All (λ c. q c ≡ true) ys = each (λ c m. and (eq-eqb c.body.table k (omega (arith, (told.own.at c.body (b c m).body).0))) (live_at_birth (b c m) next_open)) in
        filter-append q xs ys ∙ rw (filter_none q xs old.at, filter_all q ys new.at)

    table_new : TablesGood C table_change
    unfolding change_of
    table_new =
        let s = schema_found in
        record {
          fit = all_one (record { schema = omega (arith, s.2.id, S.files.schemas_below.at s.0 s.1, (latest_small_lem S).next_catalog_id); next_row_id = omega arith; name = padded_is_name name named });
          within = all_one (
            schema_next C table_change s.0,
            schema_moves C table_change s.1,
            unfold close in record {
              same = s.2.id;
              holds = record {
                after = omega (arith, (S.lives.schemas.at s.0 s.1).begun);
                until = omega (arith, s.2.open');
              };
            },
          );
          apart = pair_one _;
          free = λ v m o. all_one (λ e h. unfold tables_at in
              not_any (λ t. clashes t.body.name (padded name)) free
              (in_filter (λ t. eqb t.body.schema schema && live (latest_id C) t) C.tables m
              (and (eq-eqb v.body.schema schema e) (open_live v (latest_open S) (S.lives.tables.at v m) o))) (same_clashes v.body.name (padded name) h));
          counts = all_one (rw (columns_of_new, length_born (next_id C table_change) 1 added) (told.some, told.few));
        }

    column_new : ColumnsGood C table_change
    unfolding change_of
    column_new =
        let n : ℕ = next_id C table_change in
        let is : (c : Versioned Column) → In c (born n 1 added) → c.body.table ≡ (latest C).next_catalog_id = λ c m. (told.own.at c.body (in_born n 1 added m).body).0 in
        record {
          fit = each (λ x m. let o = told.own.at x m in let y = told.typed.at x m in
              record { table = omega (arith, o.0, (latest_small_lem S).next_catalog_id); order = omega (arith, o.1); type_code = y.0.0; nulls_allowed = y.0.1; name = y.1 });
          few = told.few;
          within = each (λ c m. let b = in_born n 1 added m in (
            _,
            table_born C table_change (here refl),
            record { same = omega (arith, is c m); life = record { begin = sym b.begin; end = sym b.end } },
          ));
          new = each (λ x m. omega (arith, (told.own.at x m).0));
          ascend = pair_as (born_ascend n 1 added) (λ v w m k l. inr (is v m ∙ sym (is w k), l));
          apart = pair_as (pair_born n 1 told.apart) (λ v w m k h e o. (h.0, λ e. omega (arith, h.1)));
        }

    pub create_table_good : Good C table_change
    unfolding change_of
    create_table_good =
        good_parts table_snapshot (ends_none C table_change (λ s. refl) (λ t. refl) (λ c. refl) (λ f. refl)) (schemas_none C table_change refl)
        table_new column_new (data_files_none C table_change refl)
        (delete_files_none C table_change refl) (statistics_none C table_change refl) (uuids_none C table_change S refl refl)
