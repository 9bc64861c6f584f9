-- The row journal agrees with the tables at every retained snapshot.
use Prim.Native.Nat.{ℕ, ◌+◌, ◌<◌}
use mathlib.Core.Path.{◌≡◌, refl, sym, ap, subst, ◌∙◌}
use mathlib.Core.List.{List, [], ◌++◌, map, flat_map, append-nil}
use mathlib.Core.Bool.{Bool, true, not, ◌&&◌}
use native.Mathlib.Omega.{arith}
use lib.Dec.{ltb, eqb}
use borrow.Author.Tests.{eqb-true, eqb-false, eq-eqb, ne_eqb}
use Rattle.lists.specs.Lists.{range, all, non_empty, chained, filter, has, sort_by}
use Rattle.lists.proofs.Tests.{reflects_ltb, if, both}
use Rattle.lists.proofs.Selections.{flat_map_filter}
use Rattle.lists.proofs.Members.{In, here, All, each, all_nil, all_one, all_filter, reflects_all}
use Rattle.layout.specs.declared.outcome.Terms.{Terms}
use Rattle.layout.specs.declared.record.Uuid.{Uuid}
use Rattle.layout.specs.Catalog.{Versioned, Snapshot, DataFile, Catalog}
use Rattle.ducklake.specs.Liveness.{live_at_some, retained, latest, data_files_at, deleted_at, latest_id, is_live, table_of_id, data_file_of_id}
use Rattle.ducklake.specs.Refusals.{not_live, bad_positions}
use Rattle.ducklake.specs.Arguments.{positions_fit}
use Rattle.ducklake.specs.Commits.{Change, Commit, create_schema, create_table, insert, delete, drop_table, drop_schema, next_snapshot, change_of, commit, numbers_fit}
use Rattle.ducklake.specs.Readings.{rows, file_rows, query_answer}
use Rattle.ducklake.specs.Maintenance.{expire, cleanup}
use Rattle.ducklake.specs.Calls.{refusals}
use Rattle.ducklake.specs.Journal.{TableRows, no_table_rows, Journal, updated, last_page, journaled}
use Rattle.ducklake.proofs.facts.Facts.{Sound}
use Rattle.ducklake.proofs.facts.FirstRefusals.{AllPassed}
use Rattle.ducklake.proofs.facts.Below.{data_file_below}
use Rattle.ducklake.proofs.commits.Good.{next_id, Good, Chain}
use Rattle.ducklake.proofs.readings.Frames.{expire_table_live, expire_answer, cleanup_answer}
use Rattle.ducklake.proofs.claim.Retained.{retained_expire}
use Rattle.ducklake.proofs.expiry.Expire.{expire_latest}
use Rattle.ducklake.proofs.commits.Deletes.{same_id, Found, table_found, data_file_found}
use Rattle.ducklake.proofs.commits.Changes.{change_good}
use Rattle.ducklake.proofs.journal.Pages.{deleted_anew, rows_stay, rows_more, rows_struck, rows_spared}
pub use Rattle.ducklake.proofs.journal.Entries.{Shows, JournalOk}
use Rattle.ducklake.proofs.journal.Entries.{shows_as, delete_table, Entry, untouched, file_rows_lem, new-rows, created, dropped, latest_row, stayed, same_page, page_with}

module _ (C : Catalog) (S : Sound C) (time : ℕ) (J : Journal) (O : JournalOk C J) where
  -- no table is touched
  create_schema_lem : (name : List ℕ) → Good C (change_of C time (create_schema name)) → JournalOk (commit C (change_of C time (create_schema name))) (journaled J (create_schema name))
  unfolding change_of journaled next_snapshot
  create_schema_lem name G =
      same_page C S (change_of C time (create_schema name)) G J O (omega (arith, O.next_catalog_id)) (omega (arith, O.next_file_id)) (λ k. untouched (λ t e. (refl, refl)) (λ f. refl) (λ e. refl) all_nil all_nil all_nil)

  drop_schema_lem : (k : ℕ) → Good C (change_of C time (drop_schema k)) → JournalOk (commit C (change_of C time (drop_schema k))) (journaled J (drop_schema k))
  unfolding change_of journaled next_snapshot
  drop_schema_lem k G =
      same_page C S (change_of C time (drop_schema k)) G J O (omega (arith, O.next_catalog_id)) (omega (arith, O.next_file_id)) (λ k. untouched (λ t e. (refl, refl)) (λ f. refl) (λ e. refl) all_nil all_nil all_nil)

  -- the new table has no rows
  create_table_lem : (schema : ℕ) (name columns names : List ℕ) → Good C (change_of C time (create_table schema name columns names))
      → JournalOk (commit C (change_of C time (create_table schema name columns names))) (journaled J (create_table schema name columns names))
  unfolding change_of journaled next_snapshot
  create_table_lem schema name columns names G =
      let d : Change = change_of C time (create_table schema name columns names) in
      let y : TableRows = record { present = true; next_row = 0; rows = [] } in
      page_with C S d G J O (omega (arith, O.next_catalog_id)) (omega (arith, O.next_file_id)) J.next_catalog_id y O.table_of_file all_nil O.first_row all_nil
      (subst (λ k. Entry (commit C d) (next_id C d) k y) (omega (arith, O.next_catalog_id)) (created C S d G _ (here refl) (all_one refl) all_nil))
      (λ k g. untouched (λ t e. (refl, refl)) (λ f. refl) (λ e. refl) (all_one (λ e. g (omega (arith, e, O.next_catalog_id)))) all_nil all_nil)

  -- the table is not present
  drop_table_lem : (k : ℕ) → Good C (change_of C time (drop_table k)) → JournalOk (commit C (change_of C time (drop_table k))) (journaled J (drop_table k))
  unfolding change_of journaled next_snapshot
  drop_table_lem k G =
      let d : Change = change_of C time (drop_table k) in
      page_with C S d G J O (omega (arith, O.next_catalog_id)) (omega (arith, O.next_file_id)) k no_table_rows O.table_of_file all_nil O.first_row all_nil
      (dropped C S d G k all_nil (λ t e. eq-eqb t.id k e))
      (λ j g. record {
        tables = λ t e. (ne_eqb t.id k (λ q. g (sym e ∙ q)), refl);
        data_files = λ f e. ne_eqb f.body.table k (λ q. g (sym e ∙ q));
        delete_files = λ e m q. ne_eqb e.body.table k (λ r. g (sym q ∙ r));
        new_tables = all_nil;
        new_data_files = all_nil;
        new_delete_files = all_nil;
      })

  -- what is noted of the files registered before, and of a new one
  noted : (x : ℕ) (g : ℕ → ℕ) (h : Versioned DataFile → ℕ) → All (λ f. g f.id ≡ h f) C.data_files → All (λ f. updated J.next_file_id x g f.id ≡ h f) C.data_files
  noted x g h a = each (λ f m. rw (ne_eqb f.id J.next_file_id (λ q. omega (arith, q, O.next_file_id, data_file_below S f m))) (a.at f m))

  noted_new : (x : ℕ) (g : ℕ → ℕ) → updated J.next_file_id x g ((latest C).next_file_id + 0) ≡ x
  noted_new x g = rw (eq-eqb ((latest C).next_file_id + 0) J.next_file_id (omega (arith, O.next_file_id)))

  -- the rows of the new file come after those of the table
  insert_rows : (k n : ℕ) (uuid : Uuid) (statistics : List ℕ) → is_live C.tables (latest_id C) k ≡ true → Good C (change_of C time (insert k n uuid statistics))
      → JournalOk (commit C (change_of C time (insert k n uuid statistics))) (journaled J (insert k n uuid statistics))
  unfolding change_of journaled next_snapshot query_answer flat_map
  insert_rows k n uuid statistics l G =
      let d : Change = change_of C time (insert k n uuid statistics) in
      let t : TableRows = last_page J k in
      let y : TableRows = record { present = t.present; next_row = t.next_row + n; rows = t.rows ++ range t.next_row n } in
      let w = table_found S k l in
      let row : t.next_row ≡ (table_of_id C.tables k).body.next_row_id = latest_row C S d G J O k (table_of_id C.tables k) w.mem w.id w.open' in
      page_with C S d G J O (omega (arith, O.next_catalog_id)) (omega (arith, O.next_file_id)) k y
      (noted k J.table_of_file (λ f. f.body.table) O.table_of_file) (all_one (noted_new k J.table_of_file))
      (noted t.next_row J.first_row (λ f. f.body.row_id_start) O.first_row) (all_one (noted_new t.next_row J.first_row ∙ row))
      (stayed C S d G J O k y all_nil (λ t e. (refl, rw (eq-eqb t.id k e))) refl
      (λ r. sym (rows_more C S d G k (file_rows C.delete_files (latest_id C)) (λ f m e. (refl, file_rows_lem C S d G f (λ e i q. refl) all_nil)) (all_one (eq-eqb k k refl))
      ∙ rw (new-rows C S d G (λ e. refl) all_nil, append-nil (range (table_of_id C.tables k).body.next_row_id n), ← row, ← r))))
      (λ j g. untouched (λ t e. (refl, rw (ne_eqb t.id k (λ q. g (sym e ∙ q))))) (λ f. refl) (λ e. refl) all_nil (all_one (λ e. g (sym e))) all_nil)

  module _ (k : ℕ) (uuid : Uuid) (ps : List ℕ) (l : is_live C.data_files (latest_id C) k ≡ true) (fit : All (λ p. p < (data_file_of_id C.data_files k).body.record_count) ps)
      (G : Good C (change_of C time (delete k uuid ps))) where
    found : Found C.data_files k (data_file_of_id C.data_files k)
    found = data_file_found S k l

    -- the file that the id names
    named_file : (f : Versioned DataFile) → In f C.data_files → f.id ≡ k → f ≡ data_file_of_id C.data_files k
    named_file f m e = same_id S.ascend.data_files f (data_file_of_id C.data_files k) m found.mem (e ∙ sym found.id)

    -- what is noted of it
    noted_of : (g : ℕ → ℕ) (h : Versioned DataFile → ℕ) → All (λ f. g f.id ≡ h f) C.data_files → g k ≡ h (data_file_of_id C.data_files k)
    noted_of g h a = ap g (sym found.id) ∙ a.at (data_file_of_id C.data_files k) found.mem

    -- both sets of positions are deleted in it
    deleted : deleted_at (commit C (change_of C time (delete k uuid ps))).delete_files (next_id C (change_of C time (delete k uuid ps))) k ≡ sort_by (λ p. p) (deleted_at C.delete_files (latest_id C) k ++ ps)
    unfolding change_of flat_map
    deleted =
        deleted_anew C S (change_of C time (delete k uuid ps)) G k (λ e q. eq-eqb e.body.data_file k q) (all_one (eq-eqb k k refl))
        ∙ append-nil (sort_by (λ p. p) (deleted_at C.delete_files (latest_id C) k ++ ps))

    -- the named file loses the positions; the others of its table lose nothing
    strikes : (f : Versioned DataFile) → In f C.data_files → f.body.table ≡ (data_file_of_id C.data_files k).body.table
        → file_rows (commit C (change_of C time (delete k uuid ps))).delete_files (next_id C (change_of C time (delete k uuid ps))) f
        ≡ filter (λ r. not (has r (map (λ p. J.first_row k + p) ps))) (file_rows C.delete_files (latest_id C) f)
    unfolding change_of
    strikes f m e =
        let d : Change = change_of C time (delete k uuid ps) in
        let first = noted_of J.first_row (λ f. f.body.row_id_start) O.first_row in
        if (eqb f.id k)
        (λ b. let i : f.id ≡ k = eqb-true f.id k b in
        let own : J.first_row k ≡ f.body.row_id_start = first ∙ sym (ap (λ v. v.body.row_id_start) (named_file f m i)) in
        rw own (rows_struck C (commit C d) (latest_id C) (next_id C d) f ps (rw i deleted)))
        (λ b. let h = eqb-false f.id k b in
        file_rows_lem C S d G f (λ x i q. ne_eqb x.body.data_file k (λ r. h (sym q ∙ r))) (all_one (λ q. h (sym q)))
        ∙ sym (rw first (rows_spared S (latest_id C) f (data_file_of_id C.data_files k) m found.mem e (λ q. h (q ∙ found.id)) ps fit)))

    -- the rows of its table without those of the positions
    delete_rows : JournalOk (commit C (change_of C time (delete k uuid ps))) (journaled J (delete k uuid ps))
    unfolding change_of journaled next_snapshot query_answer
    delete_rows =
        let d : Change = change_of C time (delete k uuid ps) in
        let table : ℕ = J.table_of_file k in
        let table_of = noted_of J.table_of_file (λ f. f.body.table) O.table_of_file in
        let t : TableRows = last_page J table in
        let struck : ℕ → Bool = λ r. not (has r (map (λ p. J.first_row k + p) ps)) in
        let y : TableRows = record { present = t.present; next_row = t.next_row; rows = filter struck t.rows } in
        page_with C S d G J O (omega (arith, O.next_catalog_id)) (omega (arith, O.next_file_id)) table y O.table_of_file all_nil O.first_row all_nil
        (stayed C S d G J O table y all_nil (λ t e. (refl, omega arith)) refl
        (λ r. sym (rows_stay C S d G table (λ f. filter struck (file_rows C.delete_files (latest_id C) f)) (λ f m e. (refl, strikes f m (e ∙ table_of))) all_nil
        ∙ (flat_map_filter struck (file_rows C.delete_files (latest_id C)) (data_files_at C.data_files (latest_id C) table) ∙ ap (filter struck) (sym r)))))
        (λ j g. record {
          tables = λ t e. (refl, refl);
          data_files = λ f e. refl;
          delete_files = λ e m q. ne_eqb e.body.data_file k (λ r. g (sym q ∙ (sym (delete_table S e m (data_file_of_id C.data_files k) found.mem (r ∙ sym found.id)) ∙ sym table_of)));
          new_tables = all_nil;
          new_data_files = all_nil;
          new_delete_files = all_one (λ f m q e. g (sym e ∙ (ap (λ v. v.body.table) (named_file f m (sym q)) ∙ sym table_of)));
        })

pub commit_journal : (C : Catalog) → Sound C → Chain C → (terms : Terms) (k : Commit) → AllPassed (refusals C terms k) → numbers_fit C (change_of C terms.time k) ≡ true
    → (J : Journal) → JournalOk C J → JournalOk (commit C (change_of C terms.time k)) (journaled J k)
unfolding positions_fit
commit_journal C S H terms k h n J O = written k h (change_good C S H terms k h n)
  where
    written : (k : Commit) → AllPassed (refusals C terms k) → Good C (change_of C terms.time k) → JournalOk (commit C (change_of C terms.time k)) (journaled J k)
    written (create_schema name) h g = create_schema_lem C S terms.time J O name g
    written (create_table schema name columns names) h g = create_table_lem C S terms.time J O schema name columns names g
    written (insert k m uuid statistics) h g = insert_rows C S terms.time J O k m uuid statistics (h not_live) g
    written (delete k uuid ps) h g =
        let r : ℕ = (data_file_of_id C.data_files k).body.record_count in
        let f = both (non_empty ps && chained ltb ps) (all (λ p. ltb p r) ps) (h bad_positions) in
        delete_rows C S terms.time J O k uuid ps (h not_live) ((reflects_all (λ p. reflects_ltb p r) ps).to f.1) g
    written (drop_table k) h g = drop_table_lem C S terms.time J O k g
    written (drop_schema k) h g = drop_schema_lem C S terms.time J O k g

pub expire_journal : (C : Catalog) → Sound C → (ids : List ℕ) (time : ℕ) → not (has (latest_id C) ids) ≡ true → (J : Journal) → JournalOk C J → JournalOk (expire C ids time) J
unfolding expire
expire_journal C S ids time h J O =
    let e = expire_latest C S ids time h in
    let ns : List Snapshot = filter (λ n. not (has n.id ids)) C.snapshots in
    record {
      now = O.now ∙ sym (ap (λ n. n.id) e);
      next_catalog_id = O.next_catalog_id ∙ sym (ap (λ n. n.next_catalog_id) e);
      next_file_id = O.next_file_id ∙ sym (ap (λ n. n.next_file_id) e);
      table_of_file = all_filter (live_at_some ns) C.data_files (λ f m l. O.table_of_file.at f m);
      first_row = all_filter (live_at_some ns) C.data_files (λ f m l. O.first_row.at f m);
      pages = λ s r k. shows_as (expire_table_live C ids time s r k) (expire_answer C ids time s r (rows k)) (O.pages s (both (retained C.snapshots s) (not (has s ids)) (sym (retained_expire C ids time s) ∙ r)).0 k);
      next_row = all_filter (live_at_some ns) C.tables (λ t m l o. ap (λ n. (J.page n.id t.id).next_row) e ∙ O.next_row.at t m o);
    }

pub cleanup_journal : (C : Catalog) (t : ℕ) (J : Journal) → JournalOk C J → JournalOk (cleanup C t) J
unfolding cleanup retained is_live
cleanup_journal C t J O = record {
  now = O.now;
  next_catalog_id = O.next_catalog_id;
  next_file_id = O.next_file_id;
  table_of_file = O.table_of_file;
  first_row = O.first_row;
  pages = λ s r k. shows_as refl (cleanup_answer C t s (rows k)) (O.pages s r k);
  next_row = O.next_row;
}
