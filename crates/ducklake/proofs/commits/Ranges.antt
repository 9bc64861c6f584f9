-- After a good change fields are in range, snapshots rise, ids ascend below the next ones, and no file occurs twice.
use Prim.Native.Nat.{ℕ, suc, ◌+◌, ◌≤◌, ◌<◌}
use mathlib.Core.Path.{◌≡◌, refl, ap}
use mathlib.Core.Logic.{inl}
use mathlib.Core.List.{List, [], ◌∷◌, ◌++◌, map}
use mathlib.Core.Bool.{Bool, true, ◌&&◌}
use native.Mathlib.Omega.{arith}
use lib.ListN.{length}
use borrow.Author.Tests.{le-leb}
use Rattle.lists.specs.Lists.{count}
use Rattle.lists.proofs.Tests.{either, both, and}
use Rattle.lists.proofs.Members.{In, here, All, each, Pairwise, in_any, in_right, all_append, all_one, pair_append, pair_one, all_step, pair_step}
use Rattle.lists.proofs.Selections.{pair_last}
use Rattle.lists.proofs.Counts.{count-append, count_map}
use Rattle.layout.specs.Catalog.{number_limit, Versioned, Snapshot, Schema, Table, Column, DataFile, DeleteFile, Catalog}
use Rattle.layout.specs.Names.{is_name}
use Rattle.ducklake.specs.Liveness.{no_snapshot, latest}
use Rattle.ducklake.specs.Soundness.{uuids_of_files, in_limit, schema_in_range, table_in_range, column_in_range, data_file_in_range, delete_file_in_range, same_uuid}
use Rattle.ducklake.specs.Commits.{Change, close, grow, born, commit, next_snapshot}
use Rattle.ducklake.proofs.facts.Facts.{Passed, Ranges, Follows, Rise, ById, ByTableAndId, Ascend, Files, Sound}
use Rattle.ducklake.proofs.facts.Below.{data_file_below, delete_file_below, column_below, statistics_below}
use Rattle.ducklake.proofs.commits.Moves.{latest_in_lem, Step, close_step, table_step, reflects_small, in_born, born_ascend}
use Rattle.ducklake.proofs.commits.Good.{next_id, schema_next, table_next, column_next, data_file_next, delete_file_next, born_schemas, born_tables, born_columns, born_data_files, born_delete_files, Good}
use Rattle.ducklake.proofs.commits.Numbers.{commit_latest, Numbers, reflects_numbers, commit_count}

-- a count over the bodies of new records
count_body : {A : Type 0} (p : A → Bool) (n k : ℕ) (xs : List A) → count (λ v. p v.body) (born n k xs) ≡ count p xs
unfolding count
count_body p n k [] = refl
count_body p n k (x ∷ xs) = rw (count_body p n (suc k) xs)

module _ (C : Catalog) (d : Change) (S : Sound C) (G : Good C d) where
  numbers : Numbers C d
  numbers = (reflects_numbers C d).to G.numbers

  -- a table gains no more rows than numbers go
  table_range : (v : Versioned Table) → In v C.tables → Passed table_in_range (table_next C d v)
  unfolding close table_in_range
  table_range v m =
      let h = both (in_limit v.id && in_limit v.body.schema && in_limit v.body.next_row_id) (is_name v.body.name) (S.ranges.tables.at v m) in
      let k = both (in_limit v.id && in_limit v.body.schema) (in_limit v.body.next_row_id) h.0 in
      unfold grow in and (and k.0 (le-leb _ _ (numbers.tables.at v m))) h.1

  -- new records are in range

  schema_fits : (v : Versioned Schema) → In v (born_schemas C d) → Passed schema_in_range v
  unfolding schema_in_range next_snapshot
  schema_fits v m =
      let b = in_born (next_id C d) (latest C).next_catalog_id d.added.schemas m in
      and (le-leb v.id number_limit (omega (arith, b.high, numbers.next.next_catalog_id))) (G.schemas_fit.at v.body b.body)

  table_fits : (v : Versioned Table) → In v (born_tables C d) → Passed table_in_range v
  unfolding table_in_range next_snapshot
  table_fits v m =
      let b = in_born (next_id C d) ((latest C).next_catalog_id + length d.added.schemas) d.added.tables m in
      let f = G.tables_fit.at v.body b.body in
      and (and (and (le-leb v.id number_limit (omega (arith, b.high, numbers.next.next_catalog_id))) (le-leb _ _ f.schema)) (le-leb _ _ f.next_row_id)) f.name

  column_fits_lem : (v : Versioned Column) → In v (born_columns C d) → Passed column_in_range v
  unfolding column_in_range
  column_fits_lem v m =
      let b = in_born (next_id C d) 1 d.added.columns m in
      let f = G.columns_fit.at v.body b.body in
      and (and (and (and (and (le-leb v.id number_limit (omega (arith, b.high, G.columns_few))) (le-leb _ _ f.table)) (le-leb _ _ f.order)) f.type_code) f.nulls_allowed) f.name

  data_file_fits : (v : Versioned DataFile) → In v (born_data_files C d) → Passed data_file_in_range v
  unfolding data_file_in_range next_snapshot
  data_file_fits v m =
      let b = in_born (next_id C d) ((latest C).next_file_id + length d.added.delete_files) d.added.data_files m in
      let f = G.data_files_fit.at v.body b.body in
      and (and (and (le-leb v.id number_limit (omega (arith, b.high, numbers.next.next_file_id))) (le-leb _ _ f.table)) (le-leb _ _ f.row_id_start)) f.record_count

  delete_file_fits : (v : Versioned DeleteFile) → In v (born_delete_files C d) → Passed delete_file_in_range v
  unfolding delete_file_in_range next_snapshot
  delete_file_fits v m =
      let b = in_born (next_id C d) (latest C).next_file_id d.added.delete_files m in
      let f = G.delete_files_fit.at v.body b.body in
      and (and (le-leb v.id number_limit (omega (arith, b.high, numbers.next.next_file_id))) (le-leb _ _ f.table)) (le-leb _ _ f.data_file)

  pub commit_ranges : Ranges (commit C d)
  unfolding commit close schema_in_range column_in_range data_file_in_range delete_file_in_range
  commit_ranges =
      let r = S.ranges in
      record {
        snapshots = all_append r.snapshots (all_one ((reflects_small (next_snapshot C d)).from numbers.next));
        schemas = all_step (schema_next C d) C.schemas r.schemas.at (each schema_fits);
        tables = all_step (table_next C d) C.tables table_range (each table_fits);
        columns = all_step (column_next C d) C.columns r.columns.at (each column_fits_lem);
        data_files = all_step (data_file_next C d) C.data_files r.data_files.at (each data_file_fits);
        delete_files = all_step (delete_file_next C d) C.delete_files r.delete_files.at (each delete_file_fits);
        statistics = all_append r.statistics G.statistics_fit;
        scheduled = r.scheduled;
      }

  -- the new snapshot comes after every other
  follows_next : (n : Snapshot) → In n C.snapshots → Follows n (next_snapshot C d)
  unfolding next_snapshot
  follows_next n m = either (pair_last no_snapshot S.rise.ascend n m) (λ e. rw e (omega (arith, G.time))) (λ f. omega (arith, G.time))

  pub commit_rise : Rise (commit C d)
  unfolding commit next_snapshot
  commit_rise =
      let t = ap (λ n. n.next_catalog_id) (commit_latest C d) in
      record {
        some = in_any (λ n. true) (in_right C.snapshots (here {x = next_snapshot C d} refl)) refl;
        ascend = pair_append S.rise.ascend (pair_one (next_snapshot C d)) (each (λ n m. all_one (follows_next n m)));
        kinds = all_append
            (each (λ n m. let h = S.rise.kinds.at n m in (h.0, omega (arith, h.1, (follows_next (latest C) (latest_in_lem S)).next_catalog_id))))
            (all_one (G.kind, omega (arith, G.object)));
      }

  -- ids ascend, and are below the next ones

  ids_step : {A : Type 0} (f : Versioned A → Versioned A) (k : ℕ) (vs : List (Versioned A)) (xs : List A)
      → ((v : Versioned A) → Step (next_id C d) v (f v)) → Pairwise ById vs → ((v : Versioned A) → In v vs → v.id < k)
      → Pairwise ById (map f vs ++ born (next_id C d) k xs)
  ids_step f k vs xs s o below = pair_step f o
      (λ v w m n h. omega (arith, (s v).id, (s w).id)) (born_ascend (next_id C d) k xs)
      (λ v w m n. omega (arith, (s v).id, below v m, (in_born (next_id C d) k xs n).low))

  below_step : {A : Type 0} (f : Versioned A → Versioned A) (j k : ℕ) (vs : List (Versioned A)) (xs : List A)
      → ((v : Versioned A) → Step (next_id C d) v (f v)) → All (λ v. v.id < (latest C).next_catalog_id) vs
      → (latest C).next_catalog_id ≤ k → j + length xs ≤ k → All (λ v. v.id < k) (map f vs ++ born (next_id C d) j xs)
  below_step f j k vs xs s o h i = all_step f vs (λ v m. omega (arith, (s v).id, o.at v m)) (each (λ v m. omega (arith, (in_born (next_id C d) j xs m).high)))

  pub commit_ascend : Ascend (commit C d)
  unfolding commit
  commit_ascend =
      let n = next_id C d in
      let c = (latest C).next_catalog_id in
      let f = (latest C).next_file_id in
      let e = d.ends in
      let x = d.added in
      let o = S.ascend in
      record {
        schemas = ids_step (schema_next C d) c C.schemas x.schemas (close_step n e.schema) o.schemas S.files.schemas_below.at;
        tables = ids_step (table_next C d) (c + length x.schemas) C.tables x.tables (table_step n e.table d.rows) o.tables
            (λ t m. omega (arith, S.files.tables_below.at t m));
        data_files = ids_step (data_file_next C d) (f + length x.delete_files) C.data_files x.data_files (close_step n e.data_file) o.data_files
            (λ v m. omega (arith, data_file_below S v m));
        delete_files = ids_step (delete_file_next C d) f C.delete_files x.delete_files (close_step n e.delete_file) o.delete_files (delete_file_below S);
        columns = pair_step {R = ByTableAndId} (column_next C d) o.columns (λ v w m i h. unfold close in h) G.columns_ascend
            (λ v w m i. unfold close in inl (omega (arith, column_below S v m, G.columns_new.at w.body (in_born n 1 x.columns i).body)));
        statistics = pair_append o.statistics G.statistics_ascend
            (each (λ v m. each (λ w i. inl (omega (arith, statistics_below S v m, G.statistics_new.at w i)))));
      }

  pub commit_files : Files (commit C d)
  commit_files =
      let n = next_id C d in
      let c = (latest C).next_catalog_id in
      let x = d.added in
      record {
        schemas_below = rw (commit_latest C d) (unfold commit next_snapshot in
            below_step (schema_next C d) c _ C.schemas x.schemas (close_step n d.ends.schema) S.files.schemas_below (omega arith) (omega arith));
        tables_below = rw (commit_latest C d) (unfold commit next_snapshot in
            below_step (table_next C d) (c + length x.schemas) _ C.tables x.tables (table_step n d.ends.table d.rows) S.files.tables_below (omega arith) (omega arith));
        ids = λ k. rw (commit_latest C d) (omega (arith, S.files.ids k, commit_count C d k));
        uuids = λ u. unfold commit uuids_of_files close in simp (count-append, count_map)
            (omega (
              arith,
              simp (count-append, count_map) at (G.uuids u),
              count_body (λ y. same_uuid y.uuid u) n (latest C).next_file_id x.delete_files,
              count_body (λ y. same_uuid y.uuid u) n ((latest C).next_file_id + length x.delete_files) x.data_files,
            ));
      }
