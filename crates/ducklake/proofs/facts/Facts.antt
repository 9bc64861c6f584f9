-- What the tests of soundness tell, as a record of facts.
use Prim.Native.Nat.{ℕ, ◌≤◌, ◌<◌}
use mathlib.Core.Path.{◌≡◌, refl, ap, ◌∙◌}
use mathlib.Core.Logic.{◌⊎◌, inl, inr}
use mathlib.Core.List.{List}
use mathlib.Core.Bool.{Bool, true, not, ◌&&◌}
use native.Mathlib.Omega.{arith}
use lib.Dec.{leb, ltb, eqb}
use lib.ListN.{length}
use borrow.Author.Tests.{ltb-true, ltb-false, eqb-true, eq-eqb, ne_eqb}
use Rattle.lists.specs.Lists.{all, non_empty, pairwise, chained, has, bit, count, before}
use Rattle.lists.proofs.Tests.{Reflects, if, either, both, and, reflects_it, reflects_as, reflects_and, reflects_or, reflects_not, reflects_implies, reflects_implies_both, reflects_implies_either, reflects_leb, reflects_ltb, reflects_eqb}
use Rattle.lists.proofs.Members.{All, each, Any, Pairwise, reflects_all, reflects_any, reflects_pairwise}
use Rattle.lists.proofs.Orders.{reflects_chained}
use Rattle.lists.proofs.Counts.{count-zero, count-pos, reflects_distinct, bit_le}
use Rattle.layout.specs.declared.record.Uuid.{Uuid}
use Rattle.layout.specs.Catalog.{absent, Versioned, Snapshot, Schema, Table, Column, DataFile, DeleteFile, Statistics, Catalog}
use Rattle.layout.specs.declared.outcome.Counts.{Counts}
use Rattle.layout.specs.Names.{same_name}
use Rattle.layout.specs.Words.{Words, load, capacity, within, fits}
use Rattle.ducklake.specs.Kinds.{is_kind}
use Rattle.ducklake.specs.Liveness.{live, live_at_some, latest, latest_id, columns_at}
use Rattle.ducklake.specs.Soundness.{snapshot_in_range, schema_in_range, table_in_range, column_in_range, data_file_in_range, delete_file_in_range, statistics_in_range, scheduled_in_range, fields_in_range, follows, snapshots_rise, life_sound, lives_sound, by_id, by_table_and_id, by_file_and_column, ids_ascend, file_ids, file_uuids, same_uuid, ids_below_next, files_distinct, contains, same_life, table_nests, column_nests, data_file_nests, delete_file_nests, lives_nest, overlap, schemas_apart, tables_apart, columns_apart, names_apart, succeeded_by, delete_files_apart, positions_sound, deletes_sound, row_id_end, rows_before, rows_in_table, row_ranges_sound, file_statistics_sound, statistics_on_file, statistics_sound, column_count_sound, column_counts_sound, sound_lines, positions_add_up, first_unsound, sound}
use Rattle.ducklake.proofs.facts.FirstRefusals.{AllPassed, first_passed}

-- a test that is passed
abbrev pub Passed : {A : Type 0} → (A → Bool) → A → Type 0
Passed p x = p x ≡ true

passed : {A : Type 0} (p : A → Bool) (xs : List A) → Reflects (all p xs) (All (Passed p) xs)
passed p xs = reflects_all (λ x. reflects_it (p x)) xs

-- liveness by numbers, ABSENT greatest
pub reflects_live : {A : Type 0} (s : ℕ) (v : Versioned A) → s < absent → Reflects (live s v) ((v.begin ≤ s) × (s < v.end))
unfolding live
reflects_live s v h =
    reflects_as (reflects_and (reflects_leb v.begin s) (reflects_or (reflects_eqb v.end absent) (reflects_ltb s v.end)))
    (λ k. (k.0, either k.1 (λ e. omega arith) (λ l. l)))
    (λ k. (k.0, inr k.1))

pub record Ranges (C : Catalog) : Type 0 where
  pub snapshots : All (Passed snapshot_in_range) C.snapshots
  pub schemas : All (Passed schema_in_range) C.schemas
  pub tables : All (Passed table_in_range) C.tables
  pub columns : All (Passed column_in_range) C.columns
  pub data_files : All (Passed data_file_in_range) C.data_files
  pub delete_files : All (Passed delete_file_in_range) C.delete_files
  pub statistics : All (Passed statistics_in_range) C.statistics
  pub scheduled : All (Passed scheduled_in_range) C.scheduled

pub reflects_ranges : (C : Catalog) → Reflects (fields_in_range C) (Ranges C)
unfolding fields_in_range
reflects_ranges C =
    reflects_as
    (reflects_and (reflects_and (reflects_and (reflects_and (reflects_and (reflects_and (reflects_and
    (passed snapshot_in_range C.snapshots) (passed schema_in_range C.schemas)) (passed table_in_range C.tables))
    (passed column_in_range C.columns)) (passed data_file_in_range C.data_files)) (passed delete_file_in_range C.delete_files))
    (passed statistics_in_range C.statistics)) (passed scheduled_in_range C.scheduled))
    (λ h. record {
      snapshots = h.0.0.0.0.0.0.0;
      schemas = h.0.0.0.0.0.0.1;
      tables = h.0.0.0.0.0.1;
      columns = h.0.0.0.0.1;
      data_files = h.0.0.0.1;
      delete_files = h.0.0.1;
      statistics = h.0.1;
      scheduled = h.1;
    })
    (λ h. (((((((h.snapshots, h.schemas), h.tables), h.columns), h.data_files), h.delete_files), h.statistics), h.scheduled))

pub record Follows (a b : Snapshot) : Type 0 where
  pub id : a.id < b.id
  pub time : a.time ≤ b.time
  pub schema_version : a.schema_version ≤ b.schema_version
  pub next_catalog_id : a.next_catalog_id ≤ b.next_catalog_id
  pub next_file_id : a.next_file_id ≤ b.next_file_id

follows_trans : (a b c : Snapshot) → Follows a b → Follows b c → Follows a c
follows_trans a b c p q = record {
  id = omega (arith, p.id, q.id);
  time = omega (arith, p.time, q.time);
  schema_version = omega (arith, p.schema_version, q.schema_version);
  next_catalog_id = omega (arith, p.next_catalog_id, q.next_catalog_id);
  next_file_id = omega (arith, p.next_file_id, q.next_file_id);
}

reflects_follows : (a b : Snapshot) → Reflects (follows a b) (Follows a b)
unfolding follows
reflects_follows a b =
    reflects_as
    (reflects_and (reflects_and (reflects_and (reflects_and (reflects_ltb a.id b.id) (reflects_leb a.time b.time))
    (reflects_leb a.schema_version b.schema_version)) (reflects_leb a.next_catalog_id b.next_catalog_id)) (reflects_leb a.next_file_id b.next_file_id))
    (λ h. record { id = h.0.0.0.0; time = h.0.0.0.1; schema_version = h.0.0.1; next_catalog_id = h.0.1; next_file_id = h.1 })
    (λ h. ((((h.id, h.time), h.schema_version), h.next_catalog_id), h.next_file_id))

pub record Rise (C : Catalog) : Type 0 where
  pub some : non_empty C.snapshots ≡ true
  pub ascend : Pairwise Follows C.snapshots
  pub kinds : All (λ n. (is_kind n.kind ≡ true) × (n.object < (latest C).next_catalog_id)) C.snapshots

pub reflects_rise : (C : Catalog) → Reflects (snapshots_rise C.snapshots) (Rise C)
unfolding snapshots_rise
reflects_rise C =
    reflects_as
    (reflects_and (reflects_and (reflects_it (non_empty C.snapshots)) (reflects_chained reflects_follows follows_trans C.snapshots))
    (reflects_all (λ n. reflects_and (reflects_it (is_kind n.kind)) (reflects_ltb n.object (latest C).next_catalog_id)) C.snapshots))
    (λ h. record { some = h.0.0; ascend = h.0.1; kinds = h.1 })
    (λ h. ((h.some, h.ascend), h.kinds))

pub record Life {A : Type 0} (C : Catalog) (v : Versioned A) : Type 0 where
  pub begun : v.begin ≤ latest_id C
  pub ended : (v.end ≡ absent) ⊎ (v.end ≤ latest_id C)
  pub runs : v.begin < v.end
  pub lives : live_at_some C.snapshots v ≡ true

reflects_life : {A : Type 0} (C : Catalog) (v : Versioned A) → Reflects (life_sound C.snapshots v) (Life C v)
unfolding life_sound
reflects_life C v =
    reflects_as
    (reflects_and (reflects_and (reflects_and (reflects_leb v.begin (latest_id C))
    (reflects_or (reflects_eqb v.end absent) (reflects_leb v.end (latest_id C)))) (reflects_ltb v.begin v.end))
    (reflects_it (live_at_some C.snapshots v)))
    (λ h. record { begun = h.0.0.0; ended = h.0.0.1; runs = h.0.1; lives = h.1 })
    (λ h. (((h.begun, h.ended), h.runs), h.lives))

pub record Lives (C : Catalog) : Type 0 where
  pub schemas : All (Life C) C.schemas
  pub tables : All (Life C) C.tables
  pub columns : All (Life C) C.columns
  pub data_files : All (Life C) C.data_files
  pub delete_files : All (Life C) C.delete_files

pub reflects_lives : (C : Catalog) → Reflects (lives_sound C) (Lives C)
unfolding lives_sound
reflects_lives C =
    reflects_as
    (reflects_and (reflects_and (reflects_and (reflects_and (reflects_all (reflects_life C) C.schemas) (reflects_all (reflects_life C) C.tables))
    (reflects_all (reflects_life C) C.columns)) (reflects_all (reflects_life C) C.data_files)) (reflects_all (reflects_life C) C.delete_files))
    (λ h. record { schemas = h.0.0.0.0; tables = h.0.0.0.1; columns = h.0.0.1; data_files = h.0.1; delete_files = h.1 })
    (λ h. ((((h.schemas, h.tables), h.columns), h.data_files), h.delete_files))

-- ids

abbrev pub ById : {A : Type 0} → Versioned A → Versioned A → Type 0
ById v w = v.id < w.id

abbrev pub Before : ℕ → ℕ → ℕ → ℕ → Type 0
Before a b a' b' = (a < a') ⊎ ((a ≡ a') × (b < b'))

abbrev pub ByTableAndId : Versioned Column → Versioned Column → Type 0
ByTableAndId v w = Before v.body.table v.id w.body.table w.id

abbrev pub ByFileAndColumn : Statistics → Statistics → Type 0
ByFileAndColumn x y = Before x.data_file x.column y.data_file y.column

reflects_before : (a b a' b' : ℕ) → Reflects (before (a, b) (a', b')) (Before a b a' b')
reflects_before a b a' b' = reflects_or (reflects_ltb a a') (reflects_and (reflects_eqb a a') (reflects_ltb b b'))

before_trans : (a b a' b' a'' b'' : ℕ) → Before a b a' b' → Before a' b' a'' b'' → Before a b a'' b''
before_trans a b a' b' a'' b'' p q =
    either p
    (λ l. either q (λ m. inl (omega arith)) (λ m. inl (omega (arith, m.0))))
    (λ l. either q (λ m. inl (omega (arith, l.0))) (λ m. inr (l.0 ∙ m.0, omega (arith, l.1, m.1))))

pub record Ascend (C : Catalog) : Type 0 where
  pub schemas : Pairwise ById C.schemas
  pub tables : Pairwise ById C.tables
  pub data_files : Pairwise ById C.data_files
  pub delete_files : Pairwise ById C.delete_files
  pub columns : Pairwise ByTableAndId C.columns
  pub statistics : Pairwise ByFileAndColumn C.statistics

reflects_ids : {A : Type 0} (vs : List (Versioned A)) → Reflects (chained by_id vs) (Pairwise ById vs)
reflects_ids vs = reflects_chained (λ v w. reflects_ltb v.id w.id) (λ a b c p q. omega (arith, p, q)) vs

pub reflects_ascend : (C : Catalog) → Reflects (ids_ascend C) (Ascend C)
unfolding ids_ascend by_table_and_id by_file_and_column
reflects_ascend C =
    reflects_as
    (reflects_and (reflects_and (reflects_and (reflects_and (reflects_and (reflects_ids C.schemas) (reflects_ids C.tables))
    (reflects_ids C.data_files)) (reflects_ids C.delete_files))
    (reflects_chained {r = by_table_and_id} {R = ByTableAndId} (λ v w. reflects_before v.body.table v.id w.body.table w.id)
    (λ a b c. before_trans a.body.table a.id b.body.table b.id c.body.table c.id) C.columns))
    (reflects_chained {r = by_file_and_column} {R = ByFileAndColumn} (λ x y. reflects_before x.data_file x.column y.data_file y.column)
    (λ a b c. before_trans a.data_file a.column b.data_file b.column c.data_file c.column) C.statistics))
    (λ h. record {
      schemas = h.0.0.0.0.0;
      tables = h.0.0.0.0.1;
      data_files = h.0.0.0.1;
      delete_files = h.0.0.1;
      columns = h.0.1;
      statistics = h.1;
    })
    (λ h. (((((h.schemas, h.tables), h.data_files), h.delete_files), h.columns), h.statistics))

-- files: each number below the next one at most once, and no other; each UUID at most once
pub record Files (C : Catalog) : Type 0 where
  pub schemas_below : All (λ v. v.id < (latest C).next_catalog_id) C.schemas
  pub tables_below : All (λ v. v.id < (latest C).next_catalog_id) C.tables
  pub ids : (k : ℕ) → count (λ i. eqb i k) (file_ids C) ≤ bit (ltb k (latest C).next_file_id)
  pub uuids : (u : Uuid) → count (λ i. same_uuid i u) (file_uuids C) ≤ 1

pub reflects_uuid : (a b : Uuid) → Reflects (same_uuid a b) (a ≡ b)
unfolding same_uuid
reflects_uuid a b =
    reflects_as (reflects_and (reflects_eqb a.high b.high) (reflects_eqb a.low b.low))
    (λ h i. record { high = h.0 i; low = h.1 i }) (λ e. (ap (λ u. u.high) e, ap (λ u. u.low) e))

below_and_once : (n : ℕ) (ks : List ℕ)
    → Reflects (all (λ k. ltb k n) ks && pairwise (λ a b. not (eqb a b)) ks) ((k : ℕ) → count (λ i. eqb i k) ks ≤ bit (ltb k n))
below_and_once n ks =
    reflects_as (reflects_and (reflects_all (λ k. reflects_ltb k n) ks) (reflects_distinct eqb reflects_eqb ks))
    (λ h k. if (ltb k n) (λ b. rw b (h.1 k))
    (λ b. rw (b, count-zero (λ i. eqb i k) ks (λ i m. ne_eqb i k (λ e. let a : i < n = h.0.at i m in let c : n ≤ k = ltb-false k n b in omega arith))) (omega arith)))
    (λ h. (
      each (λ k m. if (ltb k n) (λ b. ltb-true k n b)
          (λ b. let a : 1 ≤ count (λ i. eqb i k) ks = count-pos (λ i. eqb i k) m (eq-eqb k k refl) in
          let c : count (λ i. eqb i k) ks ≤ 0 = rw b at (h k) in absurd (omega arith))),
      λ k. let c = h k in let d : bit (ltb k n) ≤ 1 = bit_le (ltb k n) in omega arith,
    ))

pub reflects_files : (C : Catalog) → Reflects (ids_below_next C && files_distinct C) (Files C)
unfolding ids_below_next files_distinct
reflects_files C =
    record {
      to = λ h.
          let x = both (all (λ v. ltb v.id (latest C).next_catalog_id) C.schemas && all (λ v. ltb v.id (latest C).next_catalog_id) C.tables && all (λ k. ltb k (latest C).next_file_id) (file_ids C))
          (pairwise (λ a b. not (eqb a b)) (file_ids C) && pairwise (λ a b. not (same_uuid a b)) (file_uuids C)) h in
          let y = parts.to x.0 in
          let z = both (pairwise (λ a b. not (eqb a b)) (file_ids C)) (pairwise (λ a b. not (same_uuid a b)) (file_uuids C)) x.1 in
          record { schemas_below = y.0.0; tables_below = y.0.1; ids = once.to (join y.1 z.0); uuids = (reflects_distinct same_uuid reflects_uuid (file_uuids C)).to z.1 };
      from = λ h.
          let o = both (all (λ k. ltb k (latest C).next_file_id) (file_ids C)) (pairwise (λ a b. not (eqb a b)) (file_ids C)) (once.from h.ids) in
          join (parts.from ((h.schemas_below, h.tables_below), o.0)) (join o.1 ((reflects_distinct same_uuid reflects_uuid (file_uuids C)).from h.uuids));
    }
  where
    join : {a b : Bool} → a ≡ true → b ≡ true → (a && b) ≡ true
    join {a} {b} p q = rw (p, q)

    once : Reflects (all (λ k. ltb k (latest C).next_file_id) (file_ids C) && pairwise (λ a b. not (eqb a b)) (file_ids C)) ((k : ℕ) → count (λ i. eqb i k) (file_ids C) ≤ bit (ltb k (latest C).next_file_id))
    once = below_and_once (latest C).next_file_id (file_ids C)

    parts : Reflects (all (λ v. ltb v.id (latest C).next_catalog_id) C.schemas && all (λ v. ltb v.id (latest C).next_catalog_id) C.tables && all (λ k. ltb k (latest C).next_file_id) (file_ids C))
        ((All (λ v. v.id < (latest C).next_catalog_id) C.schemas × All (λ v. v.id < (latest C).next_catalog_id) C.tables) × (all (λ k. ltb k (latest C).next_file_id) (file_ids C) ≡ true))
    parts = reflects_and (reflects_and (reflects_all (λ v. reflects_ltb v.id (latest C).next_catalog_id) C.schemas) (reflects_all (λ v. reflects_ltb v.id (latest C).next_catalog_id) C.tables))
        (reflects_it (all (λ k. ltb k (latest C).next_file_id) (file_ids C)))

-- lives in lives

pub record Holds {A B : Type 0} (a : Versioned A) (b : Versioned B) : Type 0 where
  pub after : a.begin ≤ b.begin
  pub until : b.end ≤ a.end

reflects_holds : {A B : Type 0} (a : Versioned A) (b : Versioned B) → Reflects (contains a b) (Holds a b)
unfolding contains
reflects_holds a b =
    reflects_as (reflects_and (reflects_leb a.begin b.begin) (reflects_leb b.end a.end))
    (λ h. record { after = h.0; until = h.1 }) (λ h. (h.after, h.until))

pub record SameLife {A B : Type 0} (a : Versioned A) (b : Versioned B) : Type 0 where
  pub begin : a.begin ≡ b.begin
  pub end : a.end ≡ b.end

reflects_same_life : {A B : Type 0} (a : Versioned A) (b : Versioned B) → Reflects (same_life a b) (SameLife a b)
unfolding same_life
reflects_same_life a b =
    reflects_as (reflects_and (reflects_eqb a.begin b.begin) (reflects_eqb a.end b.end))
    (λ h. record { begin = h.0; end = h.1 }) (λ h. (h.begin, h.end))

-- the schema of a table, the table of a column, of a data file, the data file of a delete file

pub record TableIn (t : Versioned Table) (s : Versioned Schema) : Type 0 where
  pub same : s.id ≡ t.body.schema
  pub holds : Holds s t

pub record ColumnIn (c : Versioned Column) (t : Versioned Table) : Type 0 where
  pub same : t.id ≡ c.body.table
  pub life : SameLife t c

pub record DataFileIn (f : Versioned DataFile) (t : Versioned Table) : Type 0 where
  pub same : t.id ≡ f.body.table
  pub holds : Holds t f

pub record DeleteFileIn (d : Versioned DeleteFile) (f : Versioned DataFile) : Type 0 where
  pub same : f.id ≡ d.body.data_file
  pub table : f.body.table ≡ d.body.table
  pub holds : Holds f d

pub record Nest (C : Catalog) : Type 0 where
  pub tables : All (λ t. Any (TableIn t) C.schemas) C.tables
  pub columns : All (λ c. Any (ColumnIn c) C.tables) C.columns
  pub data_files : All (λ f. Any (DataFileIn f) C.tables) C.data_files
  pub delete_files : All (λ d. Any (DeleteFileIn d) C.data_files) C.delete_files

pub reflects_nest : (C : Catalog) → Reflects (lives_nest C) (Nest C)
unfolding lives_nest table_nests column_nests data_file_nests delete_file_nests
reflects_nest C =
    reflects_as
    (reflects_and (reflects_and (reflects_and
    (reflects_all (λ t. reflects_any (table t) C.schemas) C.tables) (reflects_all (λ c. reflects_any (column c) C.tables) C.columns))
    (reflects_all (λ f. reflects_any (data_file f) C.tables) C.data_files)) (reflects_all (λ d. reflects_any (delete_file d) C.data_files) C.delete_files))
    (λ h. record { tables = h.0.0.0; columns = h.0.0.1; data_files = h.0.1; delete_files = h.1 })
    (λ h. (((h.tables, h.columns), h.data_files), h.delete_files))
  where
    table : (t : Versioned Table) (s : Versioned Schema) → Reflects (eqb s.id t.body.schema && contains s t) (TableIn t s)
    table t s = reflects_as (reflects_and (reflects_eqb s.id t.body.schema) (reflects_holds s t))
        (λ h. record { same = h.0; holds = h.1 }) (λ h. (h.same, h.holds))

    column : (c : Versioned Column) (t : Versioned Table) → Reflects (eqb t.id c.body.table && same_life t c) (ColumnIn c t)
    column c t = reflects_as (reflects_and (reflects_eqb t.id c.body.table) (reflects_same_life t c))
        (λ h. record { same = h.0; life = h.1 }) (λ h. (h.same, h.life))

    data_file : (f : Versioned DataFile) (t : Versioned Table) → Reflects (eqb t.id f.body.table && contains t f) (DataFileIn f t)
    data_file f t = reflects_as (reflects_and (reflects_eqb t.id f.body.table) (reflects_holds t f))
        (λ h. record { same = h.0; holds = h.1 }) (λ h. (h.same, h.holds))

    delete_file : (d : Versioned DeleteFile) (f : Versioned DataFile)
        → Reflects (eqb f.id d.body.data_file && eqb f.body.table d.body.table && contains f d) (DeleteFileIn d f)
    delete_file d f = reflects_as (reflects_and (reflects_and (reflects_eqb f.id d.body.data_file) (reflects_eqb f.body.table d.body.table)) (reflects_holds f d))
        (λ h. record { same = h.0.0; table = h.0.1; holds = h.1 }) (λ h. ((h.same, h.table), h.holds))

-- names

pub record Overlap {A B : Type 0} (a : Versioned A) (b : Versioned B) : Type 0 where
  pub left : a.begin < b.end
  pub right : b.begin < a.end

reflects_overlap : {A B : Type 0} (a : Versioned A) (b : Versioned B) → Reflects (overlap a b) (Overlap a b)
unfolding overlap
reflects_overlap a b =
    reflects_as (reflects_and (reflects_ltb a.begin b.end) (reflects_ltb b.begin a.end))
    (λ h. record { left = h.0; right = h.1 }) (λ h. (h.left, h.right))

abbrev pub SchemasApart : Versioned Schema → Versioned Schema → Type 0
SchemasApart a b = Overlap a b → same_name a.body.name b.body.name ≡ true → ⊥

abbrev pub TablesApart : Versioned Table → Versioned Table → Type 0
TablesApart a b = a.body.schema ≡ b.body.schema → Overlap a b → same_name a.body.name b.body.name ≡ true → ⊥

abbrev pub ColumnsApart : Versioned Column → Versioned Column → Type 0
ColumnsApart a b =
    a.body.table ≡ b.body.table → Overlap a b → (same_name a.body.name b.body.name ≡ true → ⊥) × (a.body.order ≡ b.body.order → ⊥)

pub record Apart (C : Catalog) : Type 0 where
  pub schemas : Pairwise SchemasApart C.schemas
  pub tables : Pairwise TablesApart C.tables
  pub columns : Pairwise ColumnsApart C.columns

pub reflects_apart : (C : Catalog) → Reflects (names_apart C) (Apart C)
unfolding names_apart schemas_apart tables_apart columns_apart
reflects_apart C =
    reflects_as
    (reflects_and (reflects_and (reflects_pairwise {r = schemas_apart} {R = SchemasApart} schemas C.schemas)
    (reflects_pairwise {r = tables_apart} {R = TablesApart} tables C.tables)) (reflects_pairwise {r = columns_apart} {R = ColumnsApart} columns C.columns))
    (λ h. record { schemas = h.0.0; tables = h.0.1; columns = h.1 })
    (λ h. ((h.schemas, h.tables), h.columns))
  where
    schemas : (a b : Versioned Schema) → Reflects (schemas_apart a b) (SchemasApart a b)
    schemas a b = reflects_implies (reflects_overlap a b) (reflects_not (reflects_it (same_name a.body.name b.body.name)))

    tables : (a b : Versioned Table) → Reflects (tables_apart a b) (TablesApart a b)
    tables a b = reflects_implies_both (reflects_eqb a.body.schema b.body.schema) (reflects_overlap a b) (reflects_not (reflects_it (same_name a.body.name b.body.name)))

    columns : (a b : Versioned Column) → Reflects (columns_apart a b) (ColumnsApart a b)
    columns a b = reflects_implies_both (reflects_eqb a.body.table b.body.table) (reflects_overlap a b)
        (reflects_and (reflects_not (reflects_it (same_name a.body.name b.body.name))) (reflects_not (reflects_eqb a.body.order b.body.order)))

-- delete files

pub record SucceededBy (d e : Versioned DeleteFile) : Type 0 where
  pub ended : d.end ≤ e.begin
  pub held : All (λ p. has p e.body.positions ≡ true) d.body.positions

reflects_succeeded_by : (d e : Versioned DeleteFile) → Reflects (succeeded_by d e) (SucceededBy d e)
unfolding succeeded_by
reflects_succeeded_by d e =
    reflects_as (reflects_and (reflects_leb d.end e.begin) (reflects_all (λ p. reflects_it (has p e.body.positions)) d.body.positions))
    (λ h. record { ended = h.0; held = h.1 }) (λ h. (h.ended, h.held))

abbrev pub DeleteFilesApart : Versioned DeleteFile → Versioned DeleteFile → Type 0
DeleteFilesApart d e = d.body.data_file ≡ e.body.data_file → SucceededBy d e ⊎ SucceededBy e d

-- a data file that has the positions
pub record PositionsIn (ps : List ℕ) (k : ℕ) (f : Versioned DataFile) : Type 0 where
  pub same : f.id ≡ k
  pub fit : All (λ p. p < f.body.record_count) ps

pub record Positions (C : Catalog) (d : Versioned DeleteFile) : Type 0 where
  pub some : non_empty d.body.positions ≡ true
  pub ascend : Pairwise ◌<◌ d.body.positions
  pub home : Any (PositionsIn d.body.positions d.body.data_file) C.data_files

reflects_positions : (C : Catalog) (d : Versioned DeleteFile) → Reflects (positions_sound C.data_files d) (Positions C d)
unfolding positions_sound
reflects_positions C d =
    reflects_as
    (reflects_and (reflects_and (reflects_it (non_empty d.body.positions))
    (reflects_chained reflects_ltb (λ a b c p q. omega (arith, p, q)) d.body.positions)) (reflects_any home C.data_files))
    (λ h. record { some = h.0.0; ascend = h.0.1; home = h.1 })
    (λ h. ((h.some, h.ascend), h.home))
  where
    home : (f : Versioned DataFile)
        → Reflects (eqb f.id d.body.data_file && all (λ p. ltb p f.body.record_count) d.body.positions) (PositionsIn d.body.positions d.body.data_file f)
    home f = reflects_as (reflects_and (reflects_eqb f.id d.body.data_file) (reflects_all (λ p. reflects_ltb p f.body.record_count) d.body.positions))
        (λ h. record { same = h.0; fit = h.1 }) (λ h. (h.same, h.fit))

pub record Deletes (C : Catalog) : Type 0 where
  pub apart : Pairwise DeleteFilesApart C.delete_files
  pub positions : All (Positions C) C.delete_files

pub reflects_deletes : (C : Catalog) → Reflects (deletes_sound C) (Deletes C)
unfolding deletes_sound delete_files_apart
reflects_deletes C =
    reflects_as
    (reflects_and
    (reflects_pairwise {r = delete_files_apart} {R = DeleteFilesApart} (λ d e. reflects_implies_either (reflects_eqb d.body.data_file e.body.data_file) (reflects_succeeded_by d e) (reflects_succeeded_by e d)) C.delete_files)
    (reflects_all (reflects_positions C) C.delete_files))
    (λ h. record { apart = h.0; positions = h.1 })
    (λ h. (h.apart, h.positions))

-- rows

abbrev pub RowsBefore : Versioned DataFile → Versioned DataFile → Type 0
RowsBefore f g = f.body.table ≡ g.body.table → row_id_end f ≤ g.body.row_id_start

pub record RowsIn (f : Versioned DataFile) (t : Versioned Table) : Type 0 where
  pub same : t.id ≡ f.body.table
  pub room : row_id_end f ≤ t.body.next_row_id

pub record Rows (C : Catalog) : Type 0 where
  pub before : Pairwise RowsBefore C.data_files
  pub within : All (λ f. Any (RowsIn f) C.tables) C.data_files

pub reflects_rows : (C : Catalog) → Reflects (row_ranges_sound C) (Rows C)
unfolding row_ranges_sound rows_before rows_in_table
reflects_rows C =
    reflects_as
    (reflects_and
    (reflects_pairwise {r = rows_before} {R = RowsBefore} (λ f g. reflects_implies (reflects_eqb f.body.table g.body.table) (reflects_leb (row_id_end f) g.body.row_id_start)) C.data_files)
    (reflects_all (λ f. reflects_any (in_table f) C.tables) C.data_files))
    (λ h. record { before = h.0; within = h.1 })
    (λ h. (h.before, h.within))
  where
    in_table : (f : Versioned DataFile) (t : Versioned Table) → Reflects (eqb t.id f.body.table && leb (row_id_end f) t.body.next_row_id) (RowsIn f t)
    in_table f t = reflects_as (reflects_and (reflects_eqb t.id f.body.table) (reflects_leb (row_id_end f) t.body.next_row_id))
        (λ h. record { same = h.0; room = h.1 }) (λ h. (h.same, h.room))

-- statistics and column counts

pub record FileStatistics (C : Catalog) : Type 0 where
  pub each : All (Passed (file_statistics_sound C.columns C.statistics)) C.data_files
  pub on_file : All (λ x. Any (λ f. f.id ≡ x.data_file) C.data_files) C.statistics

pub reflects_statistics : (C : Catalog) → Reflects (statistics_sound C) (FileStatistics C)
unfolding statistics_sound statistics_on_file
reflects_statistics C =
    reflects_as
    (reflects_and (passed (file_statistics_sound C.columns C.statistics) C.data_files) (reflects_all (λ x. reflects_any (λ f. reflects_eqb f.id x.data_file) C.data_files) C.statistics))
    (λ h. record { each = h.0; on_file = h.1 })
    (λ h. (h.each, h.on_file))

pub record ColumnCount (C : Catalog) (s : ℕ) (t : Versioned Table) : Type 0 where
  pub least : live s t ≡ true → 1 ≤ length (columns_at C.columns s t.id)
  pub most : live s t ≡ true → length (columns_at C.columns s t.id) ≤ 16

abbrev pub ColumnCounts : Catalog → Type 0
ColumnCounts C = All (λ n. All (ColumnCount C n.id) C.tables) C.snapshots

pub reflects_column_counts : (C : Catalog) → Reflects (column_counts_sound C) (ColumnCounts C)
unfolding column_counts_sound column_count_sound
reflects_column_counts C =
    reflects_all (λ n. reflects_all (λ t.
    reflects_as
    (reflects_implies (reflects_it (live n.id t)) (reflects_and (reflects_leb 1 (length (columns_at C.columns n.id t.id))) (reflects_leb (length (columns_at C.columns n.id t.id)) 16)))
    (λ h. record { least = λ l. (h l).0; most = λ l. (h l).1 })
    (λ h l. (h.least l, h.most l)))
    C.tables) C.snapshots

-- the whole

pub record Sound (C : Catalog) : Type 0 where
  pub ranges : Ranges C
  pub rise : Rise C
  pub lives : Lives C
  pub ascend : Ascend C
  pub files : Files C
  pub nest : Nest C
  pub apart : Apart C
  pub deletes : Deletes C
  pub rows : Rows C
  pub statistics : FileStatistics C
  pub column_counts : ColumnCounts C

-- the lines of sound tables, by their numbers
pub sound_lines_lem : (w : Words) (c : Counts) → sound w c ≡ true → AllPassed (sound_lines w c)
unfolding sound first_unsound
sound_lines_lem w c h = first_passed (sound_lines w c) (omega arith) (eqb-true _ 0 h)

-- tables are sound just where their counts fit and their catalog has all that a line says
pub reflects_sound : (w : Words) (c : Counts) → Reflects (sound w c) ((fits w c ≡ true) × Sound (load w c))
unfolding sound first_unsound fits
reflects_sound w c =
    let C : Catalog = load w c in
    record {
      to = λ h.
          let p : AllPassed (sound_lines w c) = sound_lines_lem w c h in
          let a = both (within c (capacity w)) (fields_in_range C) (p 1) in
          let b = both (positions_add_up w c) (deletes_sound C) (p 8) in (
            and a.0 b.0,
            record {
              ranges = (reflects_ranges C).to a.1;
              rise = (reflects_rise C).to (p 2);
              lives = (reflects_lives C).to (p 3);
              ascend = (reflects_ascend C).to (p 4);
              files = (reflects_files C).to (p 5);
              nest = (reflects_nest C).to (p 6);
              apart = (reflects_apart C).to (p 7);
              deletes = (reflects_deletes C).to b.1;
              rows = (reflects_rows C).to (p 9);
              statistics = (reflects_statistics C).to (p 10);
              column_counts = (reflects_column_counts C).to (p 11);
            },
          );
      from = λ h.
          let f = both (within c (capacity w)) (positions_add_up w c) h.0 in
          let S : Sound C = h.1 in
          rw (
            f.0,
            f.1,
            (reflects_ranges C).from S.ranges,
            (reflects_rise C).from S.rise,
            (reflects_lives C).from S.lives,
            (reflects_ascend C).from S.ascend,
            (reflects_files C).from S.files,
            (reflects_nest C).from S.nest,
            (reflects_apart C).from S.apart,
            (reflects_deletes C).from S.deletes,
            (reflects_rows C).from S.rows,
            (reflects_statistics C).from S.statistics,
            (reflects_column_counts C).from S.column_counts,
          ) refl;
    }
