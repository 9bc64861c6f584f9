-- Deleting rows, dropping a table and dropping a schema are good changes.
use Prim.Native.Nat.{ℕ, suc, ◌≤◌, ◌<◌}
use mathlib.Core.Path.{◌≡◌, refl, sym, ap, ◌∙◌}
use mathlib.Core.List.{List, ◌++◌}
use mathlib.Core.Bool.{Bool, true, not, ◌&&◌}
use native.Mathlib.Omega.{arith}
use lib.Dec.{eqb}
use borrow.Author.Tests.{leb-true, eqb-true, eq-eqb, not-true}
use Rattle.lists.specs.Lists.{all, any, non_empty, has, count}
use Rattle.lists.proofs.Tests.{either, clash, and, or_left, or_right, reflects_it, reflects_and, reflects_ltb}
use Rattle.lists.proofs.Members.{All, each, Pairwise, in_any, all_in, in_filter, not_any, all_one, all_append, pair_one, pair_as, pair_append, reflects_all}
use Rattle.lists.proofs.Selections.{any_append}
use Rattle.lists.proofs.Orders.{reflects_chained, all_sort, any_sort, pair_sort}
use Rattle.layout.specs.declared.record.Uuid.{Uuid}
use Rattle.layout.specs.Catalog.{Versioned, DataFile, Catalog}
use Rattle.ducklake.specs.Kinds.{is_kind}
use Rattle.ducklake.specs.Liveness.{live, latest, latest_id, tables_at, deleted_at, is_live, table_of_id, data_file_of_id}
use Rattle.ducklake.specs.Arguments.{positions_fit}
use Rattle.ducklake.specs.Commits.{Change, close, grow, next_snapshot, numbers_fit, delete, drop_table, drop_schema, change_of}
use Rattle.ducklake.specs.Calls.{in_time, uuid_free}
use Rattle.ducklake.proofs.facts.Facts.{Sound, Life}
use Rattle.ducklake.proofs.facts.Below.{data_file_below}
use Rattle.ducklake.proofs.commits.Moves.{close_step, close_named, latest_small_lem, open_live}
use Rattle.ducklake.proofs.commits.Good.{data_file_next, Good, Chain}
use Rattle.ducklake.proofs.commits.Deletes.{latest_open, Found, live_found, table_found, data_file_found, old_ascend_lem, old_fit, old_holds}
use Rattle.ducklake.proofs.commits.Parts.{SnapshotGood, EndsGood, ends_none, schemas_none, tables_none, columns_none, data_files_none, DeleteFilesGood, statistics_none, UuidsGood, free_uuid, good_parts, good_ends, data_file_moves}

-- a record that is named is over at the new snapshot
over : {A : Type 0} {C : Catalog} (p : Versioned A → Bool) (v : Versioned A) → Life C v → p v ≡ true → (close (suc (latest_id C)) p v).end ≤ suc (latest_id C)
over {C = C} p v o h =
    either o.ended (λ e. omega (arith, close_named (suc (latest_id C)) p v h e))
    (λ l. either (close_step (suc (latest_id C)) p v).end (λ e. omega (arith, e)) (λ e. omega (arith, e.1)))

module _ (C : Catalog) (S : Sound C) (time : ℕ) (in_time_lem : in_time C time ≡ true) where
  module _ (H : Chain C) (k : ℕ) (uuid : Uuid) (positions : List ℕ) (at : is_live C.data_files (latest_id C) k ≡ true) (free : uuid_free C uuid ≡ true)
      (fits : positions_fit (data_file_of_id C.data_files k).body.record_count positions ≡ true) (new : all (λ p. not (has p (deleted_at C.delete_files (latest_id C) k))) positions ≡ true)
      (numbers : numbers_fit C (change_of C time (delete k uuid positions)) ≡ true) where
    abbrev delete_change : Change
    delete_change = change_of C time (delete k uuid positions)

    abbrev file : Versioned DataFile
    file = data_file_of_id C.data_files k

    abbrev found : Found C.data_files k file
    found = data_file_found S k at

    abbrev old : List ℕ
    old = deleted_at C.delete_files (latest_id C) k

    file_table : file.body.table < (latest C).next_catalog_id
    file_table = let h = S.nest.data_files.at file found.mem in omega (arith, h.2.same, S.files.tables_below.at h.0 h.1)

    told : ((non_empty positions ≡ true) × Pairwise ◌<◌ positions) × All (λ p. p < file.body.record_count) positions
    unfolding positions_fit
    told =
        (reflects_and (reflects_and (reflects_it (non_empty positions)) (reflects_chained reflects_ltb (λ a b c p q. omega (arith, p, q)) positions))
        (reflects_all (λ p. reflects_ltb p file.body.record_count) positions)).to fits

    -- no position twice
    apart : Pairwise (λ p q. p ≡ q → ⊥) (old ++ positions)
    apart =
        pair_append (pair_as (old_ascend_lem C S k at) (λ p q m n l e. omega (arith, l))) (pair_as told.0.1 (λ p q m n l e. omega (arith, l)))
        (each (λ p m. each (λ q n e. clash (in_any (eqb q) m (eq-eqb q p (sym e))) (not-true (has q old) (all_in (λ p. not (has p old)) positions new n)))))

    delete_snapshot : SnapshotGood C delete_change
    unfolding change_of next_snapshot is_kind any
    delete_snapshot = record { time = leb-true (latest C).time time in_time_lem; numbers = numbers; kind = refl; object = omega (arith, file_table) }

    delete_new : DeleteFilesGood C delete_change
    unfolding change_of
    delete_new = record {
      fit = all_one (record {
        table = omega (arith, file_table, (latest_small_lem S).next_catalog_id);
        data_file = omega (arith, found.id, data_file_below S file found.mem, (latest_small_lem S).next_file_id);
      });
      within = all_one (
        data_file_next C delete_change file,
        data_file_moves C delete_change found.mem,
        unfold close in record {
          same = found.id;
          table = refl;
          holds = record {
            after = omega (arith, (S.lives.data_files.at file found.mem).begun);
            until = omega (arith, found.open');
          };
        },
      );
      apart = pair_one _;
      succeed = λ e m. all_one (λ q. record {
        ended = over (λ d. eqb d.body.data_file k) e (S.lives.delete_files.at e m) (eq-eqb e.body.data_file k q);
        held = unfold close in each (λ p i. rw (any_sort (eqb p) (λ p. p) (old ++ positions), any_append (eqb p) old positions)
            (or_left (has p old) (has p positions) ((old_holds C S k at H e m q).at p i)));
      });
      positions = all_one (record {
        some = rw (any_sort (λ p. true) (λ p. p) (old ++ positions), any_append (λ p. true) old positions)
            (or_right (non_empty old) (non_empty positions) told.0.0);
        ascend = pair_sort (old ++ positions) apart;
        home = (
          data_file_next C delete_change file,
          data_file_moves C delete_change found.mem,
          unfold close in record {
            same = found.id;
            fit = all_sort (λ p. p) (all_append (old_fit C S k at) told.1);
          },
        );
      });
    }

    uuids_new : UuidsGood C delete_change
    unfolding change_of count
    uuids_new u = omega (arith, free_uuid C S uuid free u)

    pub delete_good : Good C delete_change
    unfolding change_of
    delete_good =
        good_parts delete_snapshot (ends_none C delete_change (λ s. refl) (λ t. refl) (λ c. refl) (λ f. refl)) (schemas_none C delete_change refl)
        (tables_none C delete_change refl) (columns_none C delete_change refl) (data_files_none C delete_change refl) delete_new
        (statistics_none C delete_change refl) uuids_new

  module _ (table : ℕ) (at : is_live C.tables (latest_id C) table ≡ true) (numbers : numbers_fit C (change_of C time (drop_table table)) ≡ true) where
    abbrev table_change : Change
    table_change = change_of C time (drop_table table)

    table_snapshot : SnapshotGood C table_change
    unfolding change_of next_snapshot is_kind any
    table_snapshot =
        let f = table_found S table at in
        record {
          time = leb-true (latest C).time time in_time_lem;
          numbers = numbers;
          kind = refl;
          object = omega (arith, f.id, S.files.tables_below.at (table_of_id C.tables table) f.mem);
        }

    table_ends : EndsGood C table_change
    unfolding change_of grow
    table_ends = record {
      tables = λ t m s n i h. clash h refl;
      columns = λ c m t n i. ap (λ x. eqb x table) (sym i.same);
      data_files = λ f m t n i h o. ap (λ x. eqb x table) (sym i.same) ∙ h;
      delete_files = λ e m f n i h o. ap (λ x. eqb x table) (sym i.table) ∙ h;
    }

    pub drop_table_good : Good C table_change
    unfolding change_of
    drop_table_good = good_ends S table_snapshot table_ends refl

  module _ (schema : ℕ) (at : is_live C.schemas (latest_id C) schema ≡ true) (empty : not (non_empty (tables_at C.tables (latest_id C) schema)) ≡ true)
      (numbers : numbers_fit C (change_of C time (drop_schema schema)) ≡ true) where
    abbrev schema_change : Change
    schema_change = change_of C time (drop_schema schema)

    schema_snapshot : SnapshotGood C schema_change
    unfolding change_of next_snapshot is_kind any is_live
    schema_snapshot =
        let f = live_found S schema C.schemas S.lives.schemas at in
        record {
          time = leb-true (latest C).time time in_time_lem;
          numbers = numbers;
          kind = refl;
          object = omega (arith, f.2.id, S.files.schemas_below.at f.0 f.1);
        }

    schema_ends : EndsGood C schema_change
    unfolding change_of tables_at
    schema_ends = record {
      tables = λ t m s n i h o.
          not_any (λ t. true) empty (in_filter (λ t. eqb t.body.schema schema && live (latest_id C) t) C.tables m
          (and (eq-eqb t.body.schema schema (sym i.same ∙ eqb-true s.id schema h)) (open_live t (latest_open S) (S.lives.tables.at t m) o))) refl;
      columns = λ c m t n i. refl;
      data_files = λ f m t n i h. clash h refl;
      delete_files = λ e m f n i h. clash h refl;
    }

    pub drop_schema_good : Good C schema_change
    unfolding change_of
    drop_schema_good = good_ends S schema_snapshot schema_ends refl
