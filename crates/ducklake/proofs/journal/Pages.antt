-- What a commit shows at its own snapshot, against what the one before showed.
use Prim.Native.Nat.{ℕ, ◌+◌, ◌≤◌, ◌<◌}
use mathlib.Core.Path.{◌≡◌, refl, sym, ap, ◌∙◌}
use mathlib.Core.Logic.{◌⊎◌}
use mathlib.Core.List.{List, [], ◌++◌, map, flat_map, append-nil}
use mathlib.Core.Bool.{Bool, true, false, not, ◌&&◌, and-false}
use native.Mathlib.Omega.{arith}
use lib.Dec.{eqb}
use lib.ListN.{length}
use borrow.Author.Tests.{eqb-true, eq-eqb, ne_eqb}
use Rattle.lists.specs.Lists.{range, any, filter, has, sort_by}
use Rattle.lists.proofs.Tests.{if, either, both, and, same_test, and_same, not-or}
use Rattle.lists.proofs.Members.{In, All, pair_two, in_any, in_right, in_map_of, in_filter_of, in_range_lem}
use Rattle.lists.proofs.Orders.{any_sort}
use Rattle.lists.proofs.Selections.{flat_map_map, flat_map_step, map_range, filter_map, filter-filter, filter_all, filter_none, filter_step, any_append, any_none, any_step, has_map}
use Rattle.layout.specs.Catalog.{absent, Versioned, Table, DataFile, DeleteFile, Catalog}
use Rattle.ducklake.specs.Liveness.{live, latest, latest_id, data_files_at, delete_files_at, deleted_at, is_live}
use Rattle.ducklake.specs.Commits.{Change, close, grow, born, commit}
use Rattle.ducklake.specs.Readings.{rows, file_rows, query_answer}
use Rattle.ducklake.proofs.facts.Facts.{reflects_live, Sound}
use Rattle.ducklake.proofs.commits.Moves.{close_step, close_named, close_other, step_end, in_born, live_at_birth}
use Rattle.ducklake.proofs.commits.Soundness.{next_small}
use Rattle.ducklake.proofs.commits.Good.{Good, next_id, table_next, data_file_next, delete_file_next, born_tables, born_delete_files, born_data_files}

abbrev positions_of : Versioned DeleteFile → List ℕ
positions_of e = e.body.positions

abbrev deletes_of : ℕ → ℕ → Versioned DeleteFile → Bool
deletes_of s j e = eqb e.body.data_file j && live s e

abbrev files_of : ℕ → ℕ → Versioned DataFile → Bool
files_of s k f = eqb f.body.table k && live s f

module _ (C : Catalog) (S : Sound C) (d : Change) (G : Good C d) where
  -- the new number is below ABSENT
  small : next_id C d < absent
  small = next_small C d G

  -- a record that the commit does not end is live at the new snapshot just if it was at the one before
  live_stays : {A : Type 0} (p : Versioned A → Bool) (v : Versioned A) → v.begin ≤ latest_id C → (v.end ≡ absent) ⊎ (v.end ≤ latest_id C)
      → p v ≡ false → live (next_id C d) (close (next_id C d) p v) ≡ live (latest_id C) v
  live_stays p v b o h =
      let b' : (close (next_id C d) p v).begin ≡ v.begin = (close_step (next_id C d) p v).begin in
      let e : (close (next_id C d) p v).end ≡ v.end = close_other (next_id C d) p v h in
      let r = reflects_live (next_id C d) (close (next_id C d) p v) small in
      let r' = reflects_live (latest_id C) v (omega (arith, small)) in
      same_test (live (next_id C d) (close (next_id C d) p v)) (live (latest_id C) v)
      (λ l. let q = r.to l in r'.from (omega arith))
      (λ l. let q = r'.to l in either o (λ z. r.from (omega (arith, small))) (λ z. absurd (omega arith)))

  -- and one that it ends is not
  live_ends : {A : Type 0} (p : Versioned A → Bool) (v : Versioned A) → (v.end ≡ absent) ⊎ (v.end ≤ latest_id C)
      → p v ≡ true → live (next_id C d) (close (next_id C d) p v) ≡ false
  live_ends p v o h =
      if (live (next_id C d) (close (next_id C d) p v))
      (λ l. let q = (reflects_live (next_id C d) (close (next_id C d) p v) small).to l in
      absurd (either o (λ z. omega (arith, close_named (next_id C d) p v h z)) (λ z. omega (arith, step_end (close_step (next_id C d) p v) small))))
      (λ l. l)

  -- its end is set
  pub ends_end : {A : Type 0} (p : Versioned A → Bool) (v : Versioned A) → p v ≡ true → (close (next_id C d) p v).end ≡ absent → ⊥
  ends_end p v h e =
      let o : v.end ≡ absent = either (close_step (next_id C d) p v).end (λ q. sym q ∙ e) (λ q. q.0) in
      omega (arith, small, close_named (next_id C d) p v h o)

  -- new records are live
  live_new : {A : Type 0} (i : ℕ) (q : Versioned A → Bool) (xs : List A) → All (λ v. q v ≡ true) (born (next_id C d) i xs)
      → filter (λ v. q v && live (next_id C d) v) (born (next_id C d) i xs) ≡ born (next_id C d) i xs
  live_new i q xs h =
      filter_all (λ v. q v && live (next_id C d) v) (born (next_id C d) i xs) (λ v m. and (h.at v m) (live_at_birth (in_born (next_id C d) i xs m) small))

  -- new tables are live; one that is not new is, just if it was and is not ended
  pub table_born : (t : Versioned Table) → In t (born_tables C d) → is_live (commit C d).tables (next_id C d) t.id ≡ true
  unfolding commit is_live
  table_born t m =
      in_any (λ v. eqb v.id t.id && live (next_id C d) v) (in_right (map (table_next C d) C.tables) m)
      (and (eq-eqb t.id t.id refl) (live_at_birth (in_born (next_id C d) ((latest C).next_catalog_id + length d.added.schemas) d.added.tables m) small))

  module _ (k : ℕ) (new : All (λ t. t.id ≡ k → ⊥) (born_tables C d)) where
    pub table_stays : ((t : Versioned Table) → t.id ≡ k → d.ends.table t ≡ false) → is_live (commit C d).tables (next_id C d) k ≡ is_live C.tables (latest_id C) k
    unfolding commit is_live close grow live
    table_stays h =
        any_step (λ t. eqb t.id k && live (latest_id C) t) (λ t. eqb t.id k && live (next_id C d) t) (table_next C d) C.tables (born_tables C d)
        (λ t m. let o = S.lives.tables.at t m in
        and_same (eqb t.id k) (λ b. live_stays d.ends.table (grow d.rows t) o.begun o.ended (h (grow d.rows t) (eqb-true t.id k b))))
        (λ t m. rw (ne_eqb t.id k (new.at t m)))

    pub table_ends : ((t : Versioned Table) → t.id ≡ k → d.ends.table t ≡ true) → is_live (commit C d).tables (next_id C d) k ≡ false
    unfolding commit is_live close grow live
    table_ends h =
        any_step (λ t. eqb t.id k && false) (λ t. eqb t.id k && live (next_id C d) t) (table_next C d) C.tables (born_tables C d)
        (λ t m. and_same (eqb t.id k) (λ b. live_ends d.ends.table (grow d.rows t) (S.lives.tables.at t m).ended (h (grow d.rows t) (eqb-true t.id k b))))
        (λ t m. rw (ne_eqb t.id k (new.at t m)))
        ∙ any_none (λ t. eqb t.id k && false) C.tables (λ t m. and-false (eqb t.id k))

  -- the deleted positions of a data file whose delete file the commit leaves, and of one whose delete file it ends
  module _ (j : ℕ) where
    pub deleted_stays : ((e : Versioned DeleteFile) → In e C.delete_files → e.body.data_file ≡ j → d.ends.delete_file e ≡ false)
        → All (λ e. e.body.data_file ≡ j → ⊥) (born_delete_files C d) → deleted_at (commit C d).delete_files (next_id C d) j ≡ deleted_at C.delete_files (latest_id C) j
    unfolding commit deleted_at delete_files_at close
    deleted_stays h new =
        ap (flat_map positions_of) (filter_step (deletes_of (latest_id C) j) (deletes_of (next_id C d) j) (delete_file_next C d) C.delete_files (born_delete_files C d)
        (λ e m. let o = S.lives.delete_files.at e m in
        and_same (eqb e.body.data_file j) (λ b. live_stays d.ends.delete_file e o.begun o.ended (h e m (eqb-true e.body.data_file j b))))
        (λ e m. rw (ne_eqb e.body.data_file j (new.at e m))))
        ∙ flat_map_map positions_of positions_of (delete_file_next C d) (filter (deletes_of (latest_id C) j) C.delete_files) (λ e m. refl)

    pub deleted_anew : ((e : Versioned DeleteFile) → e.body.data_file ≡ j → d.ends.delete_file e ≡ true)
        → All (λ e. eqb e.body.data_file j ≡ true) (born_delete_files C d) → deleted_at (commit C d).delete_files (next_id C d) j ≡ flat_map positions_of (born_delete_files C d)
    unfolding commit deleted_at delete_files_at close flat_map
    deleted_anew h new =
        flat_map_step (λ e. eqb e.body.data_file j && false) (deletes_of (next_id C d) j) positions_of positions_of (delete_file_next C d) C.delete_files (born_delete_files C d)
        (λ e m. and_same (eqb e.body.data_file j) (λ b. live_ends d.ends.delete_file e (S.lives.delete_files.at e m).ended (h e (eqb-true e.body.data_file j b))))
        (λ e m b. refl)
        ∙ rw (filter_none (λ e. eqb e.body.data_file j && false) C.delete_files (λ e m. and-false (eqb e.body.data_file j)))
        (ap (flat_map positions_of) (live_new (latest C).next_file_id (λ e. eqb e.body.data_file j) d.added.delete_files new))

  -- the rows of table k at the new snapshot, where its files stay: h of each of them that was live at the one before, then those of the new files
  module _ (k : ℕ) (h : Versioned DataFile → List ℕ)
      (stay : (f : Versioned DataFile) → In f C.data_files → f.body.table ≡ k → (d.ends.data_file f ≡ false) × (file_rows (commit C d).delete_files (next_id C d) f ≡ h f)) where
    rows_next : (fs : List (Versioned DataFile)) → filter (files_of (next_id C d) k) (born_data_files C d) ≡ fs
        → query_answer (commit C d) (next_id C d) (rows k) ≡ flat_map h (data_files_at C.data_files (latest_id C) k) ++ flat_map (file_rows (commit C d).delete_files (next_id C d)) fs
    unfolding query_answer data_files_at commit close file_rows
    rows_next fs e =
        flat_map_step (files_of (latest_id C) k) (files_of (next_id C d) k) h (file_rows (commit C d).delete_files (next_id C d)) (data_file_next C d) C.data_files (born_data_files C d)
        (λ f m. let o = S.lives.data_files.at f m in
        and_same (eqb f.body.table k) (λ b. live_stays d.ends.data_file f o.begun o.ended (stay f m (eqb-true f.body.table k b)).0))
        (λ f m b. (stay f m (eqb-true f.body.table k (both (eqb f.body.table k) (live (latest_id C) f) b).0)).1)
        ∙ ap (λ fs. flat_map h (data_files_at C.data_files (latest_id C) k) ++ flat_map (file_rows (commit C d).delete_files (next_id C d)) fs) e

    pub rows_stay : All (λ f. f.body.table ≡ k → ⊥) (born_data_files C d) → query_answer (commit C d) (next_id C d) (rows k) ≡ flat_map h (data_files_at C.data_files (latest_id C) k)
    unfolding flat_map
    rows_stay new =
        rows_next [] (filter_none (files_of (next_id C d) k) (born_data_files C d) (λ f m. rw (ne_eqb f.body.table k (new.at f m)))) ∙ append-nil (flat_map h (data_files_at C.data_files (latest_id C) k))

    pub rows_more : All (λ f. eqb f.body.table k ≡ true) (born_data_files C d)
        → query_answer (commit C d) (next_id C d) (rows k) ≡ flat_map h (data_files_at C.data_files (latest_id C) k) ++ flat_map (file_rows (commit C d).delete_files (next_id C d)) (born_data_files C d)
    rows_more new = rows_next (born_data_files C d) (live_new ((latest C).next_file_id + length d.added.delete_files) (λ f. eqb f.body.table k) d.added.data_files new)

-- the rows of a file of which these positions are deleted
abbrev rows_but : List ℕ → Versioned DataFile → List ℕ
rows_but ps f = map (λ p. f.body.row_id_start + p) (filter (λ p. not (has p ps)) (range 0 f.body.record_count))

-- the rows of a file go by the positions that are deleted in it
pub rows_same : (C D : Catalog) (s n : ℕ) (f : Versioned DataFile) → deleted_at D.delete_files n f.id ≡ deleted_at C.delete_files s f.id → file_rows D.delete_files n f ≡ file_rows C.delete_files s f
unfolding file_rows
rows_same C D s n f e = ap (λ ps. rows_but ps f) e

pub rows_whole : (C : Catalog) (s : ℕ) (f : Versioned DataFile) → deleted_at C.delete_files s f.id ≡ [] → file_rows C.delete_files s f ≡ range f.body.row_id_start f.body.record_count
unfolding file_rows any
rows_whole C s f e =
    let z : f.body.row_id_start + 0 ≡ f.body.row_id_start = omega arith in
    ap (λ ps. rows_but ps f) e ∙ (ap (map (λ p. f.body.row_id_start + p)) (filter_all (λ p. true) (range 0 f.body.record_count) (λ p m. refl))
    ∙ (map_range f.body.row_id_start 0 f.body.record_count ∙ ap (λ a. range a f.body.record_count) z))

-- rows struck from a file are positions deleted in it
pub rows_struck : (C D : Catalog) (s n : ℕ) (f : Versioned DataFile) (ps : List ℕ) → deleted_at D.delete_files n f.id ≡ sort_by (λ p. p) (deleted_at C.delete_files s f.id ++ ps)
    → file_rows D.delete_files n f ≡ filter (λ r. not (has r (map (λ p. f.body.row_id_start + p) ps))) (file_rows C.delete_files s f)
unfolding file_rows
rows_struck C D s n f ps e =
    let old : List ℕ = deleted_at C.delete_files s f.id in
    let a : ℕ = f.body.row_id_start in
    ap (λ qs. rows_but qs f) e ∙ sym (filter_map (λ r. not (has r (map (λ p. a + p) ps))) (λ p. a + p) (filter (λ p. not (has p old)) (range 0 f.body.record_count))
    ∙ ap (map (λ p. a + p)) (filter-filter (λ p. not (has (a + p) (map (λ p. a + p) ps))) (λ p. not (has p old)) (λ p. not (has p (sort_by (λ p. p) (old ++ ps)))) (range 0 f.body.record_count)
    (λ p m. rw (has_map a p ps, any_sort (eqb p) (λ p. p) (old ++ ps), any_append (eqb p) old ps) (not-or (has p old) (has p ps)))))

-- two files of one table have no row in common
pub row_apart : {C : Catalog} → Sound C → (f g : Versioned DataFile) → In f C.data_files → In g C.data_files → f.body.table ≡ g.body.table → (f.id ≡ g.id → ⊥)
    → (p q : ℕ) → p < f.body.record_count → q < g.body.record_count → f.body.row_id_start + p ≡ g.body.row_id_start + q → ⊥
row_apart S f g m n t i p q h k e =
    either (pair_two S.rows.before f g m n) (λ z. i (ap (λ v. v.id) z)) (λ o. either o (λ b. omega (arith, b t)) (λ b. omega (arith, b (sym t))))

-- striking rows of the one leaves the other
pub rows_spared : {C : Catalog} → Sound C → (s : ℕ) (f g : Versioned DataFile) → In f C.data_files → In g C.data_files → f.body.table ≡ g.body.table → (f.id ≡ g.id → ⊥)
    → (ps : List ℕ) → All (λ p. p < g.body.record_count) ps → filter (λ r. not (has r (map (λ p. g.body.row_id_start + p) ps))) (file_rows C.delete_files s f) ≡ file_rows C.delete_files s f
unfolding file_rows
rows_spared {C} S s f g m n t i ps fit =
    let left : ℕ → Bool = λ p. not (has p (deleted_at C.delete_files s f.id)) in
    filter_all (λ r. not (has r (map (λ p. g.body.row_id_start + p) ps))) (file_rows C.delete_files s f) (λ r j.
    let a = in_map_of (λ p. f.body.row_id_start + p) (filter left (range 0 f.body.record_count)) j in
    let b = in_range_lem 0 f.body.record_count (in_filter_of left (range 0 f.body.record_count) a.1).0 in
    rw (any_none (eqb r) (map (λ p. g.body.row_id_start + p) ps) (λ x y.
    let z = in_map_of (λ p. g.body.row_id_start + p) ps y in
    ne_eqb r x (λ e. row_apart S f g m n t i a.0 z.0 (omega arith) (fit.at z.0 z.1) (sym a.2 ∙ (e ∙ z.2))))))
