-- Two catalogues that show the same at a snapshot: what is live there in the one moves on to the other, so that readings agree.
use Prim.Native.Nat.{ℕ}
use mathlib.Core.Path.{◌≡◌, refl, sym, ap, ◌∙◌}
use mathlib.Core.List.{List, map, flat_map, map-id}
use mathlib.Core.Bool.{Bool, true, ◌&&◌}
use lib.Dec.{eqb}
use lib.IntN.{ℤ}
use lib.ListN.{take}
use Rattle.lists.specs.Lists.{any, filter, sort_by}
use Rattle.lists.proofs.Tests.{both}
use Rattle.lists.proofs.Members.{In, in_filter_of}
use Rattle.lists.proofs.Selections.{map_map_ext, flat_map_map, filter_map_ext, filter_both, any_map_ext, any_both}
use Rattle.lists.proofs.Orders.{map_sort}
use Rattle.layout.specs.Names.{padded, same_name}
use Rattle.layout.specs.Catalog.{Versioned, DataFile, Catalog}
use Rattle.ducklake.specs.Liveness.{live, schemas_at, tables_at, columns_at, data_files_at, delete_files_at, deleted_at, is_live, column_live}
use Rattle.ducklake.specs.Refusals.{first}
use Rattle.ducklake.specs.Readings.{Query, schemas, tables, columns, table_named, files, filtered_files, rows, tables_named, listed, kept, file_rows, query_answer, query_refusals}

-- the records live at s move on, each with its id and with what is seen of its body
pub record Carried {A B : Type 0} (seen : A → B) (s : ℕ) (xs ys : List (Versioned A)) : Type 0 where
  pub next : Versioned A → Versioned A
  pub lives : filter (live s) ys ≡ map next (filter (live s) xs)
  pub id : (v : Versioned A) → (next v).id ≡ v.id
  pub body : (v : Versioned A) → seen (next v).body ≡ seen v.body

-- where the live records are the same
pub carried_same : {A B : Type 0} {s : ℕ} (seen : A → B) {xs ys : List (Versioned A)} → filter (live s) ys ≡ filter (live s) xs → Carried seen s xs ys
carried_same {s = s} seen {xs} e = record { next = λ v. v; lives = e ∙ sym (map-id (filter (live s) xs)); id = λ v. refl; body = λ v. refl }

module _ {A B : Type 0} {seen : A → B} {s : ℕ} {xs ys : List (Versioned A)} (c : Carried seen s xs ys) where
  -- by what is seen of the body
  select : (p : B → Bool) → filter (λ v. p (seen v.body) && live s v) ys ≡ map c.next (filter (λ v. p (seen v.body) && live s v) xs)
  select p =
      sym (filter_both (λ v. p (seen v.body)) (live s) ys)
      ∙ (ap (filter (λ v. p (seen v.body))) c.lives
      ∙ (filter_map_ext (λ v. p (seen v.body)) (λ v. p (seen v.body)) c.next (filter (live s) xs) (λ v m. ap p (c.body v))
      ∙ ap (map c.next) (filter_both (λ v. p (seen v.body)) (live s) xs)))

  -- by the id
  test_moved : (k : ℕ) (vs : List (Versioned A)) → any (λ v. eqb v.id k) (map c.next vs) ≡ any (λ v. eqb v.id k) vs
  test_moved k vs = any_map_ext (λ v. eqb v.id k) (λ v. eqb v.id k) c.next vs (λ v m. ap (λ i. eqb i k) (c.id v))

  test : (k : ℕ) → any (λ v. eqb v.id k && live s v) ys ≡ any (λ v. eqb v.id k && live s v) xs
  test k =
      sym (any_both (λ v. eqb v.id k) (live s) ys)
      ∙ (ap (any (λ v. eqb v.id k)) c.lives ∙ (test_moved k (filter (live s) xs) ∙ any_both (λ v. eqb v.id k) (live s) xs))

  ids : (vs : List (Versioned A)) → map (λ v. v.id) (map c.next vs) ≡ map (λ v. v.id) vs
  ids vs = map_map_ext (λ v. v.id) (λ v. v.id) c.next vs (λ v m. c.id v)

-- two catalogues that show the same at s, but for statistics
pub record Alike (s : ℕ) (C D : Catalog) : Type 0 where
  pub schemas : Carried (λ x. x) s C.schemas D.schemas
  pub tables : Carried {B = ℕ × List ℕ} (λ x. (x.schema, x.name)) s C.tables D.tables
  pub columns : Carried (λ x. x) s C.columns D.columns
  pub data_files : Carried (λ x. x) s C.data_files D.data_files
  pub delete_files : Carried (λ x. x) s C.delete_files D.delete_files

module _ {s : ℕ} {C D : Catalog} (a : Alike s C D) where
  pub same_tables : (k : ℕ) → tables_at D.tables s k ≡ map a.tables.next (tables_at C.tables s k)
  unfolding tables_at
  same_tables k = select a.tables (λ x. eqb x.0 k)

  pub same_named : (k : ℕ) (name : List ℕ) → tables_named D.tables s k name ≡ map a.tables.next (tables_named C.tables s k name)
  unfolding tables_named
  same_named k name =
      ap (filter (λ t. same_name t.body.name (padded name))) (same_tables k)
      ∙ filter_map_ext (λ t. same_name t.body.name (padded name)) (λ t. same_name t.body.name (padded name)) a.tables.next (tables_at C.tables s k)
      (λ t m. ap (λ x. same_name x.1 (padded name)) (a.tables.body t))

  pub same_columns : (k : ℕ) → columns_at D.columns s k ≡ map a.columns.next (columns_at C.columns s k)
  unfolding columns_at
  same_columns k = select a.columns (λ x. eqb x.table k)

  pub same_data_files : (k : ℕ) → data_files_at D.data_files s k ≡ map a.data_files.next (data_files_at C.data_files s k)
  unfolding data_files_at
  same_data_files k = select a.data_files (λ x. eqb x.table k)

  pub same_delete_files : (k : ℕ) → delete_files_at D.delete_files s k ≡ map a.delete_files.next (delete_files_at C.delete_files s k)
  unfolding delete_files_at
  same_delete_files k = select a.delete_files (λ x. eqb x.data_file k)

  pub same_deleted : (k : ℕ) → deleted_at D.delete_files s k ≡ deleted_at C.delete_files s k
  unfolding deleted_at
  same_deleted k =
      ap (flat_map (λ d. d.body.positions)) (same_delete_files k)
      ∙ flat_map_map (λ d. d.body.positions) (λ d. d.body.positions) a.delete_files.next (delete_files_at C.delete_files s k) (λ d m. ap (λ x. x.positions) (a.delete_files.body d))

  pub same_schema_live : (k : ℕ) → is_live D.schemas s k ≡ is_live C.schemas s k
  unfolding is_live
  same_schema_live k = test a.schemas k

  pub same_table_live : (k : ℕ) → is_live D.tables s k ≡ is_live C.tables s k
  unfolding is_live
  same_table_live k = test a.tables k

  pub same_column_live : (k i : ℕ) → column_live D.columns s k i ≡ column_live C.columns s k i
  unfolding column_live
  same_column_live k i = ap (any (λ v. eqb v.id i)) (same_columns k) ∙ test_moved a.columns i (columns_at C.columns s k)

  pub same_judge : (q : Query) (rest : ℕ) → first (query_refusals D s q) rest ≡ first (query_refusals C s q) rest
  same_judge schemas rest = refl
  same_judge (tables k) rest = rw (same_schema_live k)
  same_judge (columns k) rest = rw (same_table_live k)
  same_judge (table_named k name) rest = rw (same_schema_live k, same_named k name, any_map_ext (λ t. true) (λ t. true) a.tables.next (tables_named C.tables s k name) (λ t m. refl))
  same_judge (files k) rest = rw (same_table_live k)
  same_judge (filtered_files k i x) rest = rw (same_table_live k, same_column_live k i)
  same_judge (rows k) rest = rw (same_table_live k)

  same_listed : (f : Versioned DataFile) → listed D.delete_files s (a.data_files.next f) ≡ listed C.delete_files s f
  unfolding listed
  same_listed f = rw (a.data_files.id f, same_delete_files f.id, ids a.delete_files (delete_files_at C.delete_files s f.id))

  same_rows : (f : Versioned DataFile) → file_rows D.delete_files s (a.data_files.next f) ≡ file_rows C.delete_files s f
  unfolding file_rows
  same_rows f = rw (a.data_files.id f, a.data_files.body f, same_deleted f.id)

  same_kept : (column : ℕ) (scalar : ℤ) (f : Versioned DataFile) → kept D.statistics column scalar f ≡ kept C.statistics column scalar f → kept D.statistics column scalar (a.data_files.next f) ≡ kept C.statistics column scalar f
  unfolding kept
  same_kept column scalar f e = rw (a.data_files.id f) e

  -- where the statistics of the files live at s are the same too
  pub same_answer_lem : ((column : ℕ) (scalar : ℤ) (f : Versioned DataFile) → In f C.data_files → live s f ≡ true → kept D.statistics column scalar f ≡ kept C.statistics column scalar f)
      → (q : Query) → query_answer D s q ≡ query_answer C s q
  unfolding query_answer schemas_at data_files_at
  same_answer_lem h schemas = ap (map (λ v. v.id)) a.schemas.lives ∙ ids a.schemas (schemas_at C.schemas s)
  same_answer_lem h (tables k) = ap (map (λ t. t.id)) (same_tables k) ∙ ids a.tables (tables_at C.tables s k)
  same_answer_lem h (columns k) =
      ap (λ cs. map (λ c. c.id) (sort_by (λ c. c.body.order) cs)) (same_columns k)
      ∙ (ap (map (λ c. c.id)) (sym (map_sort (λ c. c.body.order) (λ c. c.body.order) a.columns.next (λ c. ap (λ x. x.order) (a.columns.body c)) (columns_at C.columns s k)))
      ∙ ids a.columns (sort_by (λ c. c.body.order) (columns_at C.columns s k)))
  same_answer_lem h (table_named k name) = ap (λ ts. take 1 (map (λ t. t.id) ts)) (same_named k name) ∙ ap (take 1) (ids a.tables (tables_named C.tables s k name))
  same_answer_lem h (files k) = rw (same_data_files k) (flat_map_map (listed C.delete_files s) (listed D.delete_files s) a.data_files.next (data_files_at C.data_files s k) (λ f m. same_listed f))
  same_answer_lem h (filtered_files k i x) =
      rw (
        same_data_files k,
        filter_map_ext (kept C.statistics i x) (kept D.statistics i x) a.data_files.next (data_files_at C.data_files s k)
            (λ f m. let r = in_filter_of (λ f. eqb f.body.table k && live s f) C.data_files m in
            same_kept i x f (h i x f r.0 (both (eqb f.body.table k) (live s f) r.1).1)),
      )
      (flat_map_map (listed C.delete_files s) (listed D.delete_files s) a.data_files.next (filter (kept C.statistics i x) (data_files_at C.data_files s k)) (λ f m. same_listed f))
  same_answer_lem h (rows k) = rw (same_data_files k) (flat_map_map (file_rows C.delete_files s) (file_rows D.delete_files s) a.data_files.next (data_files_at C.data_files s k) (λ f m. same_rows f))
