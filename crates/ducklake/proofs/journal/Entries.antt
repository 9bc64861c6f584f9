-- A page more in the row journal: what each table on it has to meet.
use Prim.Native.Nat.{ℕ, suc, ◌+◌, ◌≤◌, ◌<◌}
use mathlib.Core.Path.{◌≡◌, refl, sym, ap, subst, ◌∙◌}
use mathlib.Core.Logic.{◌⊎◌, inl, inr}
use mathlib.Core.List.{[], flat_map}
use mathlib.Core.Bool.{true, false, ◌&&◌}
use native.Mathlib.Omega.{arith}
use lib.Dec.{eqb}
use lib.ListN.{length}
use borrow.Author.Tests.{eqb-true, eqb-false, eq-eqb, ne_eqb}
use Rattle.lists.specs.Lists.{range}
use Rattle.lists.proofs.Tests.{if, either, or_cases, clash}
use Rattle.lists.proofs.Selections.{flat_map_nil, flat_map_ext, filter_none}
use Rattle.lists.proofs.Members.{In, All, each, in_any, all_append, all_map}
use Rattle.layout.specs.Catalog.{absent, Versioned, Table, DataFile, DeleteFile, Catalog}
use Rattle.ducklake.specs.Liveness.{live, retained, latest, latest_id, data_files_at, delete_files_at, deleted_at, is_live}
use Rattle.ducklake.specs.Commits.{Change, close, grow, next_snapshot, commit}
use Rattle.ducklake.specs.Readings.{rows, file_rows, query_answer}
use Rattle.ducklake.specs.Journal.{TableRows, no_table_rows, Journal, updated, last_page, turned}
use Rattle.ducklake.proofs.facts.Facts.{Sound}
use Rattle.ducklake.proofs.facts.Below.{data_file_below}
use Rattle.ducklake.proofs.commits.Moves.{in_born, table_step, latest_in_lem}
use Rattle.ducklake.proofs.commits.Good.{next_id, table_next, data_file_next, born_tables, born_delete_files, born_data_files, Good}
use Rattle.ducklake.proofs.readings.Frames.{commit_table_live, commit_answer}
use Rattle.ducklake.proofs.claim.Retained.{retained_below, retained_commit}
use Rattle.ducklake.proofs.commits.Soundness.{commit_latest, next_small}
use Rattle.ducklake.proofs.commits.Deletes.{same_id}
use Rattle.ducklake.proofs.journal.Pages.{table_born, table_stays, table_ends, ends_end, deleted_stays, rows_stay, rows_same, rows_whole}

-- a table on a page is what the tables show of it
pub record Shows (y : TableRows) (C : Catalog) (s k : ℕ) : Type 0 where
  pub present : y.present ≡ is_live C.tables s k
  pub listed : is_live C.tables s k ≡ true → y.rows ≡ query_answer C s (rows k)

pub record JournalOk (C : Catalog) (J : Journal) : Type 0 where
  pub now : J.latest ≡ latest_id C
  pub next_catalog_id : J.next_catalog_id ≡ (latest C).next_catalog_id
  pub next_file_id : J.next_file_id ≡ (latest C).next_file_id
  pub table_of_file : All (λ f. J.table_of_file f.id ≡ f.body.table) C.data_files
  pub first_row : All (λ f. J.first_row f.id ≡ f.body.row_id_start) C.data_files
  pub pages : (s : ℕ) → retained C.snapshots s ≡ true → (k : ℕ) → Shows (J.page s k) C s k
  pub next_row : All (λ t. t.end ≡ absent → (J.page (latest_id C) t.id).next_row ≡ t.body.next_row_id) C.tables

-- readings that stay show what the page shows
pub shows_as : {y : TableRows} {C D : Catalog} {s n k : ℕ} → is_live D.tables n k ≡ is_live C.tables s k → query_answer D n (rows k) ≡ query_answer C s (rows k) → Shows y C s k → Shows y D n k
shows_as t q o = record { present = o.present ∙ sym t; listed = λ l. o.listed (sym t ∙ l) ∙ sym q }

-- what holds of y at k and of f elsewhere holds of f with y at k
pub updated_at : {A : Type 0} (P : ℕ → A → Type 0) (k : ℕ) (y : A) (f : ℕ → A) → P k y → ((j : ℕ) → (j ≡ k → ⊥) → P j (f j)) → (j : ℕ) → P j (updated k y f j)
updated_at P k y f p o j =
    if (eqb j k) (λ b. rw b (subst (λ i. P i y) (sym (eqb-true j k b)) p)) (λ b. rw b (o j (eqb-false j k b)))

-- the latest snapshot is retained; a commit adds its own
retained_latest : {C : Catalog} → Sound C → retained C.snapshots (latest_id C) ≡ true
unfolding retained
retained_latest {C} S = in_any (λ n. eqb n.id (latest_id C)) (latest_in_lem S) (eq-eqb (latest_id C) (latest_id C) refl)

retained_next : (C : Catalog) (d : Change) (s : ℕ) → retained (commit C d).snapshots s ≡ true → (retained C.snapshots s ≡ true) ⊎ (s ≡ next_id C d)
retained_next C d s h =
    either (or_cases (retained C.snapshots s) (eqb (next_id C d) s) (sym (retained_commit C d s) ∙ h)) (λ r. inl r) (λ e. inr (sym (eqb-true (next_id C d) s e)))

-- a delete file is of its data file's table
pub delete_table : {C : Catalog} → Sound C → (e : Versioned DeleteFile) → In e C.delete_files → (f : Versioned DataFile) → In f C.data_files → e.body.data_file ≡ f.id → f.body.table ≡ e.body.table
delete_table S e i f m q =
    let h = S.nest.delete_files.at e i in
    subst (λ z. z.body.table ≡ e.body.table) (same_id S.ascend.data_files h.0 f h.1 m (h.2.same ∙ q)) h.2.table

-- a data file's table was made before
pub table_below : {C : Catalog} → Sound C → (f : Versioned DataFile) → In f C.data_files → f.body.table < (latest C).next_catalog_id
table_below S f m = let h = S.nest.data_files.at f m in omega (arith, h.2.same, S.files.tables_below.at h.0 h.1)

-- nothing is deleted in a file to come
deleted_none : {C : Catalog} → Sound C → (s k : ℕ) → (latest C).next_file_id ≤ k → deleted_at C.delete_files s k ≡ []
unfolding deleted_at delete_files_at flat_map
deleted_none {C} S s k h =
    ap (flat_map (λ e. e.body.positions)) (filter_none (λ e. eqb e.body.data_file k && live s e) C.delete_files (λ e m. let f = S.nest.delete_files.at e m in
    rw (ne_eqb e.body.data_file k (λ q. omega (arith, f.2.same, data_file_below S f.0 f.1)))))

-- a table on the page of snapshot s that is the last
pub record Entry (C : Catalog) (s k : ℕ) (y : TableRows) : Type 0 where
  pub shows : Shows y C s k
  pub next_row : All (λ t. t.id ≡ k → t.end ≡ absent → y.next_row ≡ t.body.next_row_id) C.tables

-- a table that a change leaves as it is
pub record Untouched (C : Catalog) (d : Change) (k : ℕ) : Type 0 where
  pub tables : (t : Versioned Table) → t.id ≡ k → (d.ends.table t ≡ false) × (d.rows t ≡ 0)
  pub data_files : (f : Versioned DataFile) → f.body.table ≡ k → d.ends.data_file f ≡ false
  pub delete_files : (e : Versioned DeleteFile) → In e C.delete_files → e.body.table ≡ k → d.ends.delete_file e ≡ false
  pub new_tables : All (λ t. t.id ≡ k → ⊥) (born_tables C d)
  pub new_data_files : All (λ f. f.body.table ≡ k → ⊥) (born_data_files C d)
  pub new_delete_files : All (λ e. (f : Versioned DataFile) → In f C.data_files → e.body.data_file ≡ f.id → f.body.table ≡ k → ⊥) (born_delete_files C d)

-- by a change that ends no file and adds no delete file
pub untouched : {C : Catalog} {d : Change} {k : ℕ} → ((t : Versioned Table) → t.id ≡ k → (d.ends.table t ≡ false) × (d.rows t ≡ 0))
    → ((f : Versioned DataFile) → d.ends.data_file f ≡ false) → ((e : Versioned DeleteFile) → d.ends.delete_file e ≡ false)
    → All (λ t. t.id ≡ k → ⊥) (born_tables C d) → All (λ f. f.body.table ≡ k → ⊥) (born_data_files C d) → All (λ e. ⊥) (born_delete_files C d) → Untouched C d k
untouched t f e nt nf ne = record {
  tables = t;
  data_files = λ x q. f x;
  delete_files = λ x m q. e x;
  new_tables = nt;
  new_data_files = nf;
  new_delete_files = each (λ x m g i q r. ne.at x m);
}

module _ (C : Catalog) (S : Sound C) (d : Change) (G : Good C d) where
  -- the rows of a file whose delete file stays
  pub file_rows_lem : (f : Versioned DataFile) → ((e : Versioned DeleteFile) → In e C.delete_files → e.body.data_file ≡ f.id → d.ends.delete_file e ≡ false)
      → All (λ e. e.body.data_file ≡ f.id → ⊥) (born_delete_files C d) → file_rows (commit C d).delete_files (next_id C d) f ≡ file_rows C.delete_files (latest_id C) f
  file_rows_lem f h new = rows_same C (commit C d) (latest_id C) (next_id C d) f (deleted_stays C S d G f.id h new)

  -- new files show all their rows, where no delete file ends or is new
  pub new-rows : ((e : Versioned DeleteFile) → d.ends.delete_file e ≡ false) → All (λ e. ⊥) (born_delete_files C d)
      → flat_map (file_rows (commit C d).delete_files (next_id C d)) (born_data_files C d) ≡ flat_map (λ f. range f.body.row_id_start f.body.record_count) (born_data_files C d)
  new-rows h new =
      flat_map_ext (file_rows (commit C d).delete_files (next_id C d)) (λ f. range f.body.row_id_start f.body.record_count) (born_data_files C d)
      (λ f m. rows_whole (commit C d) (next_id C d) f (deleted_stays C S d G f.id (λ e i q. h e) (each (λ e i q. new.at e i))
      ∙ deleted_none S (latest_id C) f.id (omega (arith, (in_born (next_id C d) ((latest C).next_file_id + length d.added.delete_files) d.added.data_files m).low))))

  -- a table that is made
  pub created : (t : Versioned Table) → In t (born_tables C d) → All (λ v. 0 ≡ v.body.next_row_id) (born_tables C d) → All (λ f. f.body.table ≡ t.id → ⊥) (born_data_files C d)
      → Entry (commit C d) (next_id C d) t.id (record { present = true; next_row = 0; rows = [] })
  unfolding commit close grow
  created t m zero new = record {
    shows = record {
      present = sym (table_born C S d G t m);
      listed = λ l. sym (rows_stay C S d G t.id (λ f. []) (λ f i e. absurd (omega (arith, low, table_below S f i))) new
          ∙ flat_map_nil (λ f. []) (data_files_at C.data_files (latest_id C) t.id) (λ f i. refl));
    };
    next_row = all_append
        (all_map (table_next C d) C.tables (λ v i e o. absurd (omega (arith, low, S.files.tables_below.at v i)))) (each (λ v i e o. zero.at v i));
  }
    where
      low : (latest C).next_catalog_id ≤ t.id
      low = omega (arith, (in_born (next_id C d) ((latest C).next_catalog_id + length d.added.schemas) d.added.tables m).low)

  -- a table that is dropped
  pub dropped : (k : ℕ) → All (λ t. t.id ≡ k → ⊥) (born_tables C d) → ((t : Versioned Table) → t.id ≡ k → d.ends.table t ≡ true) → Entry (commit C d) (next_id C d) k no_table_rows
  unfolding commit close grow
  dropped k new h =
      let gone = table_ends C S d G k new h in
      record {
        shows = record { present = sym gone; listed = λ l. clash l gone };
        next_row = all_append
            (all_map (table_next C d) C.tables (λ t m e o. absurd (ends_end C S d G d.ends.table (grow d.rows t) (h (grow d.rows t) e) o)))
            (each (λ t m e. absurd (new.at t m e)));
      }

  module _ (J : Journal) (O : JournalOk C J) where
    -- the last page is that of the latest snapshot
    pub latest_page : (k : ℕ) → Shows (last_page J k) C (latest_id C) k
    latest_page k = rw O.now (O.pages (latest_id C) (retained_latest S) k)

    pub latest_row : (k : ℕ) (t : Versioned Table) → In t C.tables → t.id ≡ k → t.end ≡ absent → (last_page J k).next_row ≡ t.body.next_row_id
    latest_row k t m e o = rw (O.now, ← e) (O.next_row.at t m o)

    -- a table that stays: it is present as before, and has gained the rows that the change gives it
    pub stayed : (k : ℕ) (y : TableRows) → All (λ t. t.id ≡ k → ⊥) (born_tables C d)
        → ((t : Versioned Table) → t.id ≡ k → (d.ends.table t ≡ false) × (y.next_row ≡ (last_page J k).next_row + d.rows t)) → y.present ≡ (last_page J k).present
        → ((last_page J k).rows ≡ query_answer C (latest_id C) (rows k) → y.rows ≡ query_answer (commit C d) (next_id C d) (rows k)) → Entry (commit C d) (next_id C d) k y
    unfolding commit close grow
    stayed k y new h p q =
        let o = latest_page k in
        let stays = table_stays C S d G k new (λ t e. (h t e).0) in
        record {
          shows = record { present = p ∙ (o.present ∙ sym stays); listed = λ l. q (o.listed (sym stays ∙ l)) };
          next_row = all_append
              (all_map (table_next C d) C.tables (λ t m e o.
              (h t e).1 ∙ ap (λ r. r + d.rows t) (latest_row k t m e (either (table_step (next_id C d) d.ends.table d.rows t).end (λ q. sym q ∙ o) (λ q. q.0)))))
              (each (λ t m e. absurd (new.at t m e)));
        }

    -- a table that is left as it is
    kept : (k : ℕ) → Untouched C d k → Entry (commit C d) (next_id C d) k (last_page J k)
    unfolding query_answer
    kept k u =
        stayed k (last_page J k) u.new_tables (λ t e. ((u.tables t e).0, omega (arith, (u.tables t e).1))) refl
        (λ r. r ∙ sym (rows_stay C S d G k (file_rows C.delete_files (latest_id C)) (λ f m e. (
          u.data_files f e,
          file_rows_lem f
              (λ x i q. u.delete_files x i (sym (delete_table S x i f m q) ∙ e)) (each (λ x i q. u.new_delete_files.at x i f m q e)),
        )) u.new_data_files))

    -- the pages: the new one, and those before, whose readings stay
    pages_next : (y : ℕ → TableRows) → ((k : ℕ) → Entry (commit C d) (next_id C d) k (y k)) → (s : ℕ) → retained (commit C d).snapshots s ≡ true → (k : ℕ) → Shows (turned J y s k) (commit C d) s k
    pages_next y h =
        updated_at (λ s p. retained (commit C d).snapshots s ≡ true → (k : ℕ) → Shows (p k) (commit C d) s k) (suc J.latest) y J.page
        (λ r k. rw O.now (h k).shows)
        (λ s g r k. either (retained_next C d s r)
        (λ o. let l = retained_below S s o in shows_as (commit_table_live C d s l (next_small C d G) k) (commit_answer C d s l (next_small C d G) S G.statistics_new (rows k)) (O.pages s o k))
        (λ e. absurd (g (e ∙ ap suc (sym O.now)))))

    module _ {a b : ℕ} (next_catalog : a ≡ (next_snapshot C d).next_catalog_id) (next_file : b ≡ (next_snapshot C d).next_file_id) where
      -- the journal with one page more
      page_next : {table_of first : ℕ → ℕ} (y : ℕ → TableRows)
          → All (λ f. table_of f.id ≡ f.body.table) C.data_files → All (λ f. table_of f.id ≡ f.body.table) (born_data_files C d)
          → All (λ f. first f.id ≡ f.body.row_id_start) C.data_files → All (λ f. first f.id ≡ f.body.row_id_start) (born_data_files C d)
          → ((k : ℕ) → Entry (commit C d) (next_id C d) k (y k))
          → JournalOk (commit C d) (record { latest = suc J.latest; next_catalog_id = a; next_file_id = b; table_of_file = table_of; first_row = first; page = turned J y })
      unfolding commit next_snapshot close
      page_next y t t' r r' h =
          let e = commit_latest C d in
          let now : suc J.latest ≡ latest_id (commit C d) = ap suc O.now ∙ sym (ap (λ n. n.id) e) in
          record {
            now = now;
            next_catalog_id = next_catalog ∙ sym (ap (λ n. n.next_catalog_id) e);
            next_file_id = next_file ∙ sym (ap (λ n. n.next_file_id) e);
            table_of_file = all_append (all_map (data_file_next C d) C.data_files (λ f m. t.at f m)) t';
            first_row = all_append (all_map (data_file_next C d) C.data_files (λ f m. r.at f m)) r';
            pages = pages_next y h;
            next_row = each (λ v m o. rw (eq-eqb (latest_id (commit C d)) (suc J.latest) (sym now)) ((h v.id).next_row.at v m refl o));
          }

      -- the journal after a commit that touches no table
      pub same_page : ((k : ℕ) → Untouched C d k)
          → JournalOk (commit C d) (record { latest = suc J.latest; next_catalog_id = a; next_file_id = b; table_of_file = J.table_of_file; first_row = J.first_row; page = turned J (last_page J) })
      same_page u =
          page_next (last_page J) O.table_of_file (each (λ f m. absurd ((u f.body.table).new_data_files.at f m refl)))
          O.first_row (each (λ f m. absurd ((u f.body.table).new_data_files.at f m refl))) (λ k. kept k (u k))

      -- and after one that touches table k
      pub page_with : {table_of first : ℕ → ℕ} (k : ℕ) (y : TableRows)
          → All (λ f. table_of f.id ≡ f.body.table) C.data_files → All (λ f. table_of f.id ≡ f.body.table) (born_data_files C d)
          → All (λ f. first f.id ≡ f.body.row_id_start) C.data_files → All (λ f. first f.id ≡ f.body.row_id_start) (born_data_files C d)
          → Entry (commit C d) (next_id C d) k y → ((j : ℕ) → (j ≡ k → ⊥) → Untouched C d j)
          → JournalOk (commit C d) (record { latest = suc J.latest; next_catalog_id = a; next_file_id = b; table_of_file = table_of; first_row = first; page = turned J (updated k y (last_page J)) })
      page_with k y t t' r r' h u =
          page_next (updated k y (last_page J)) t t' r r' (updated_at (Entry (commit C d) (next_id C d)) k y (last_page J) h (λ j g. kept j (u j g)))
