-- What a record asks for, by its kind; and a promise of one thing is that of the same.
use Prim.Native.Nat.{ℕ}
use mathlib.Core.Path.{◌≡◌, refl, ap, subst}
use mathlib.Core.Bool.{true, false, ◌&&◌, ◌||◌, false≢true}
use mathlib.Core.List.{List}
use lib.Dec.{eqb}
use lib.IntN.{ℤ}
use borrow.Author.Tests.{ne_eqb, eqb-true}
use Rattle.lists.specs.Lists.{any}
use Rattle.lists.proofs.Tests.{if, both, clash}
use Rattle.layout.specs.declared.outcome.Counts.{Counts}
use Rattle.layout.specs.declared.outcome.Outcome.{Outcome}
use Rattle.layout.specs.Types.{signed}
use Rattle.layout.specs.Words.{Words}
use Rattle.ducklake.specs.Kinds.{created_schema, created_table, inserted_into_table, deleted_from_table, dropped_schema, dropped_table, is_kind}
use Rattle.ducklake.specs.Commits.{create_schema, create_table, insert, delete, drop_table, drop_schema}
use Rattle.ducklake.specs.Readings.{Query}
use Rattle.ducklake.specs.Calls.{Call, commit_at, expire_snapshots, clean_up, query_at, by_time, Promise}
use Rattle.ducklake.specs.Observed.{Request, calls, reads, looks_up, perform_request}
use Rattle.call_lists.specs.declared.record.CallRecord.{CallRecord}
use Rattle.call_lists.specs.Calls.{part, terms_of, expired_snapshots, made_fresh, listed_schemas, listed_tables, listed_columns, found_table_by_name, listed_files, listed_filtered_files, found_snapshot_by_time, copied_file, is_reading, is_request_kind, Asked, fresh, asks, perform_asked, question_of, request_of, asked_of, spans_fit, is_asked}

module _ (w : Words) (c : Counts) (a : List ℕ) where
  pub promise_of : {x x' : Asked} {o : Outcome} {w' : Words} {a' : List ℕ} → x ≡ x' → Promise (perform_asked x w c a) o w' a' → Promise (perform_asked x' w c a) o w' a'
  promise_of {o} {w'} {a'} q p = subst (λ (x : Asked). Promise (perform_asked x w c a) o w' a') q p

  pub promise_read : {q q' : Request} {o : Outcome} {w' : Words} {a' : List ℕ} → q ≡ q' → Promise (perform_request q w c a) o w' a' → Promise (perform_request q' w c a) o w' a'
  promise_read {o} {w'} {a'} e p = subst (λ (q : Request). Promise (perform_request q w c a) o w' a') e p

module _ (lists names : List ℕ) (r : CallRecord) where
  abbrev made : Call → Asked
  made k = asks (calls k)

  pub create_schema_is : {name : List ℕ} → r.kind ≡ created_schema → name ≡ part names r.name → made (commit_at (terms_of r) (create_schema name)) ≡ asked_of lists names r
  unfolding request_of asked_of
  create_schema_is q e = rw (q, e) refl

  pub create_table_is : {name columns column_names : List ℕ} → r.kind ≡ created_table → name ≡ part names r.name → columns ≡ part lists r.words
      → column_names ≡ part names r.names → made (commit_at (terms_of r) (create_table r.catalog.0 name columns column_names)) ≡ asked_of lists names r
  unfolding request_of asked_of
  create_table_is q e f g = rw (q, e, f, g) refl

  pub drop_schema_is : r.kind ≡ dropped_schema → made (commit_at (terms_of r) (drop_schema r.catalog.0)) ≡ asked_of lists names r
  unfolding request_of asked_of
  drop_schema_is q = rw q refl

  pub drop_table_is : r.kind ≡ dropped_table → made (commit_at (terms_of r) (drop_table r.catalog.0)) ≡ asked_of lists names r
  unfolding request_of asked_of
  drop_table_is q = rw q refl

  pub insert_is : {statistics : List ℕ} → r.kind ≡ inserted_into_table → statistics ≡ part lists r.words
      → made (commit_at (terms_of r) (insert r.catalog.0 r.record_count r.uuid statistics)) ≡ asked_of lists names r
  unfolding request_of asked_of
  insert_is q e = rw (q, e) refl

  pub delete_is : {positions : List ℕ} → r.kind ≡ deleted_from_table → positions ≡ part lists r.words
      → made (commit_at (terms_of r) (delete r.file.0 r.uuid positions)) ≡ asked_of lists names r
  unfolding request_of asked_of
  delete_is q e = rw (q, e) refl

  pub expire_is : {ids : List ℕ} → r.kind ≡ expired_snapshots → ids ≡ part lists r.words → made (expire_snapshots ids r.time) ≡ asked_of lists names r
  unfolding request_of asked_of
  expire_is q e = rw (q, e) refl

  pub fresh-is : r.kind ≡ made_fresh → fresh r.time ≡ asked_of lists names r
  unfolding asked_of
  fresh-is q = rw q refl

  -- a record of no other kind
  pub cleanup_is : is_reading r.kind ≡ false → (r.kind ≡ created_schema → ⊥) → (r.kind ≡ created_table → ⊥) → (r.kind ≡ dropped_schema → ⊥)
      → (r.kind ≡ dropped_table → ⊥) → (r.kind ≡ inserted_into_table → ⊥) → (r.kind ≡ deleted_from_table → ⊥) → (r.kind ≡ expired_snapshots → ⊥)
      → (r.kind ≡ made_fresh → ⊥) → made (clean_up r.time) ≡ asked_of lists names r
  unfolding request_of asked_of
  cleanup_is e n₁ n₂ n₃ n₄ n₅ n₆ n₇ n₈ =
      rw (ne_eqb _ _ n₈, e, ne_eqb _ _ n₁, ne_eqb _ _ n₂, ne_eqb _ _ n₃, ne_eqb _ _ n₄, ne_eqb _ _ n₅, ne_eqb _ _ n₆, ne_eqb _ _ n₇) refl

  -- no reading is Fresh
  pub reading_is : is_reading r.kind ≡ true → asks (question_of names r) ≡ asked_of lists names r
  unfolding request_of asked_of
  reading_is e =
      if (eqb r.kind made_fresh)
      (λ b. clash e (ap is_reading (eqb-true r.kind made_fresh b)))
      (λ b. rw (b, e) refl)

  -- what is not Fresh is a request; and past the first place a record that asks for something is not
  pub request_is : (r.kind ≡ made_fresh → ⊥) → asked_of lists names r ≡ asks (request_of lists names r)
  unfolding asked_of
  request_is n = rw (ne_eqb _ _ n) refl

module _ (lists_size names_size i : ℕ) (r : CallRecord) (h : is_asked lists_size names_size i r ≡ true) where
  apart : (is_request_kind r.kind || (eqb i 0 && eqb r.kind made_fresh) ≡ true) × (spans_fit lists_size names_size r ≡ true)
  unfolding is_asked
  apart = both (is_request_kind r.kind || (eqb i 0 && eqb r.kind made_fresh)) (spans_fit lists_size names_size r) h

  pub asked_spans : spans_fit lists_size names_size r ≡ true
  asked_spans = apart.1

  pub asked_later : (i ≡ 0 → ⊥) → r.kind ≡ made_fresh → ⊥
  unfolding is_kind any
  asked_later n e = let z : false ≡ true = rw (e, ne_eqb i 0 n) at apart.0 in false≢true z

module _ (names : List ℕ) (r : CallRecord) where
  abbrev at : Query → Request
  at q = reads (query_at r.snapshot.0 q)

  pub schemas_is : r.kind ≡ listed_schemas → at Query.schemas ≡ question_of names r
  unfolding question_of
  schemas_is e = rw e refl

  pub tables-is : r.kind ≡ listed_tables → at (Query.tables r.catalog.0) ≡ question_of names r
  unfolding question_of
  tables-is e = rw e refl

  pub columns_is : r.kind ≡ listed_columns → at (Query.columns r.catalog.0) ≡ question_of names r
  unfolding question_of
  columns_is e = rw e refl

  pub named_is : {name : List ℕ} → r.kind ≡ found_table_by_name → name ≡ part names r.name → at (Query.table_named r.catalog.0 name) ≡ question_of names r
  unfolding question_of
  named_is e q = rw (e, q) refl

  pub files_is : r.kind ≡ listed_files → at (Query.files r.catalog.0) ≡ question_of names r
  unfolding question_of
  files_is e = rw e refl

  pub filtered_is : {scalar : ℤ} → r.kind ≡ listed_filtered_files → scalar ≡ signed r.scalar → at (Query.filtered_files r.catalog.0 r.column scalar) ≡ question_of names r
  unfolding question_of
  filtered_is e q = rw (e, q) refl

  pub by_time_is : r.kind ≡ found_snapshot_by_time → reads (by_time r.time) ≡ question_of names r
  unfolding question_of
  by_time_is e = rw e refl

  pub lookup_is : r.kind ≡ copied_file → looks_up r.file.0 ≡ question_of names r
  unfolding question_of
  lookup_is e = rw e refl

  -- a reading of no other kind
  pub rows_is : (r.kind ≡ listed_schemas → ⊥) → (r.kind ≡ listed_tables → ⊥) → (r.kind ≡ listed_columns → ⊥) → (r.kind ≡ found_table_by_name → ⊥)
      → (r.kind ≡ listed_files → ⊥) → (r.kind ≡ listed_filtered_files → ⊥) → (r.kind ≡ found_snapshot_by_time → ⊥) → (r.kind ≡ copied_file → ⊥)
      → at (Query.rows r.catalog.0) ≡ question_of names r
  unfolding question_of
  rows_is n₁ n₂ n₃ n₄ n₅ n₆ n₇ n₈ =
      rw (ne_eqb _ _ n₇, ne_eqb _ _ n₈, ne_eqb _ _ n₁, ne_eqb _ _ n₂, ne_eqb _ _ n₃, ne_eqb _ _ n₄, ne_eqb _ _ n₅, ne_eqb _ _ n₆) refl
