-- What a change has to meet, part by part: a part that adds nothing, or ends nothing, meets its own.
use Prim.Native.Nat.{◌+◌, ◌≤◌, ◌<◌}
use mathlib.Core.Path.{◌≡◌, sym, ap, ◌∙◌}
use mathlib.Core.List.{[], map}
use mathlib.Core.Bool.{true, false}
use native.Mathlib.Omega.{arith}
use lib.ListN.{length}
use borrow.Author.Tests.{not-true}
use Rattle.lists.specs.Lists.{any, count, bit}
use Rattle.lists.proofs.Tests.{if, clash, same_test}
use Rattle.lists.proofs.Members.{In, All, Any, Pairwise, none, all_nil, in_map, in_left, in_right}
use Rattle.lists.proofs.Counts.{count_none}
use Rattle.lists.proofs.Selections.{any_ext}
use Rattle.layout.specs.declared.record.Uuid.{Uuid}
use Rattle.layout.specs.Catalog.{absent, Versioned, Schema, Table, Column, DataFile, DeleteFile, Catalog}
use Rattle.layout.specs.Names.{is_name, same_name}
use Rattle.ducklake.specs.Kinds.{is_kind}
use Rattle.ducklake.specs.Liveness.{latest, columns_at}
use Rattle.ducklake.specs.Soundness.{statistics_in_range, file_uuids, same_uuid, file_statistics_sound}
use Rattle.ducklake.specs.Commits.{Change, adds_nothing, grow, next_snapshot, commit, numbers_fit}
use Rattle.ducklake.specs.Calls.{uuid_free}
use Rattle.ducklake.proofs.facts.Facts.{Passed, Sound, ByTableAndId, ByFileAndColumn, TableIn, ColumnIn, DataFileIn, DeleteFileIn, SchemasApart, TablesApart, ColumnsApart, SucceededBy, DeleteFilesApart, Positions, RowsBefore, RowsIn, reflects_uuid}
use Rattle.ducklake.proofs.commits.Good.{next_id, schema_next, table_next, data_file_next, delete_file_next, born_schemas, born_tables, born_columns, born_delete_files, born_data_files, TableFits, ColumnFits, DataFileFits, DeleteFileFits, Good}

pub record SnapshotGood (C : Catalog) (d : Change) : Type 0 where
  pub time : (latest C).time ≤ d.time
  pub numbers : numbers_fit C d ≡ true
  pub kind : is_kind d.kind ≡ true
  pub object : d.object < (next_snapshot C d).next_catalog_id

pub record EndsGood (C : Catalog) (d : Change) : Type 0 where
  pub tables : (t : Versioned Table) → In t C.tables → (s : Versioned Schema) → In s C.schemas → TableIn t s → d.ends.schema s ≡ true → t.end ≡ absent → d.ends.table (grow d.rows t) ≡ true
  pub columns : (c : Versioned Column) → In c C.columns → (t : Versioned Table) → In t C.tables → ColumnIn c t → d.ends.column c ≡ d.ends.table (grow d.rows t)
  pub data_files : (f : Versioned DataFile) → In f C.data_files → (t : Versioned Table) → In t C.tables → DataFileIn f t → d.ends.table (grow d.rows t) ≡ true → f.end ≡ absent → d.ends.data_file f ≡ true
  pub delete_files : (e : Versioned DeleteFile) → In e C.delete_files → (f : Versioned DataFile) → In f C.data_files → DeleteFileIn e f → d.ends.data_file f ≡ true → e.end ≡ absent → d.ends.delete_file e ≡ true

-- no schema, table, column or data file ends
pub ends_none : (C : Catalog) (d : Change) → ((s : Versioned Schema) → d.ends.schema s ≡ false) → ((t : Versioned Table) → d.ends.table t ≡ false)
    → ((c : Versioned Column) → d.ends.column c ≡ false) → ((f : Versioned DataFile) → d.ends.data_file f ≡ false) → EndsGood C d
ends_none C d s t c f = record {
  tables = λ x m y n i h. clash h (s y);
  columns = λ x m y n i. c x ∙ sym (t (grow d.rows y));
  data_files = λ x m y n i h. clash h (t (grow d.rows y));
  delete_files = λ x m y n i h. clash h (f y);
}

pub record SchemasGood (C : Catalog) (d : Change) : Type 0 where
  pub fit : All (λ x. is_name x.name ≡ true) d.added.schemas
  pub apart : Pairwise SchemasApart (born_schemas C d)
  pub free : (v : Versioned Schema) → In v C.schemas → v.end ≡ absent → All (λ x. same_name v.body.name x.name ≡ true → ⊥) d.added.schemas

pub schemas_none : (C : Catalog) (d : Change) → d.added.schemas ≡ [] → SchemasGood C d
schemas_none C d e = record { fit = rw e all_nil; apart = rw e none; free = λ v m o. rw e all_nil }

pub record TablesGood (C : Catalog) (d : Change) : Type 0 where
  pub fit : All TableFits d.added.tables
  pub within : All (λ t. Any (TableIn t) (commit C d).schemas) (born_tables C d)
  pub apart : Pairwise TablesApart (born_tables C d)
  pub free : (v : Versioned Table) → In v C.tables → v.end ≡ absent → All (λ x. v.body.schema ≡ x.schema → same_name v.body.name x.name ≡ true → ⊥) d.added.tables
  pub counts : All (λ t. (1 ≤ length (columns_at (commit C d).columns (next_id C d) t.id)) × (length (columns_at (commit C d).columns (next_id C d) t.id) ≤ 16)) (born_tables C d)

pub tables_none : (C : Catalog) (d : Change) → d.added.tables ≡ [] → TablesGood C d
tables_none C d e = record { fit = rw e all_nil; within = rw e all_nil; apart = rw e none; free = λ v m o. rw e all_nil; counts = rw e all_nil }

pub record ColumnsGood (C : Catalog) (d : Change) : Type 0 where
  pub fit : All ColumnFits d.added.columns
  pub few : length d.added.columns ≤ 16
  pub within : All (λ c. Any (ColumnIn c) (commit C d).tables) (born_columns C d)
  pub new : All (λ x. (latest C).next_catalog_id ≤ x.table) d.added.columns
  pub ascend : Pairwise ByTableAndId (born_columns C d)
  pub apart : Pairwise ColumnsApart (born_columns C d)

pub columns_none : (C : Catalog) (d : Change) → d.added.columns ≡ [] → ColumnsGood C d
columns_none C d e =
    record { fit = rw e all_nil; few = rw e (omega arith); within = rw e all_nil; new = rw e all_nil; ascend = rw e none; apart = rw e none }

pub record DataFilesGood (C : Catalog) (d : Change) : Type 0 where
  pub fit : All DataFileFits d.added.data_files
  pub within : All (λ f. Any (DataFileIn f) (commit C d).tables) (born_data_files C d)
  pub ascend : Pairwise RowsBefore (born_data_files C d)
  pub after : (f : Versioned DataFile) → In f C.data_files → All (RowsBefore f) (born_data_files C d)
  pub room : All (λ f. Any (RowsIn f) (commit C d).tables) (born_data_files C d)
  pub statistics : All (Passed (file_statistics_sound (commit C d).columns (commit C d).statistics)) (born_data_files C d)

pub data_files_none : (C : Catalog) (d : Change) → d.added.data_files ≡ [] → DataFilesGood C d
data_files_none C d e =
    record { fit = rw e all_nil; within = rw e all_nil; ascend = rw e none; after = λ f m. rw e all_nil; room = rw e all_nil; statistics = rw e all_nil }

pub record DeleteFilesGood (C : Catalog) (d : Change) : Type 0 where
  pub fit : All DeleteFileFits d.added.delete_files
  pub within : All (λ e. Any (DeleteFileIn e) (commit C d).data_files) (born_delete_files C d)
  pub apart : Pairwise DeleteFilesApart (born_delete_files C d)
  pub succeed : (e : Versioned DeleteFile) → In e C.delete_files → All (λ x. e.body.data_file ≡ x.body.data_file → SucceededBy (delete_file_next C d e) x) (born_delete_files C d)
  pub positions : All (Positions (commit C d)) (born_delete_files C d)

pub delete_files_none : (C : Catalog) (d : Change) → d.added.delete_files ≡ [] → DeleteFilesGood C d
delete_files_none C d e = record { fit = rw e all_nil; within = rw e all_nil; apart = rw e none; succeed = λ f m. rw e all_nil; positions = rw e all_nil }

pub record StatisticsGood (C : Catalog) (d : Change) : Type 0 where
  pub fit : All (Passed statistics_in_range) d.added.statistics
  pub new : All (λ x. (latest C).next_file_id ≤ x.data_file) d.added.statistics
  pub ascend : Pairwise ByFileAndColumn d.added.statistics
  pub on_file : All (λ x. Any (λ f. f.id ≡ x.data_file) (commit C d).data_files) d.added.statistics

pub statistics_none : (C : Catalog) (d : Change) → d.added.statistics ≡ [] → StatisticsGood C d
statistics_none C d e = record { fit = rw e all_nil; new = rw e all_nil; ascend = rw e none; on_file = rw e all_nil }

-- UUIDs: no new one, or one that is free
abbrev pub UuidsGood : Catalog → Change → Type 0
UuidsGood C d =
    (u : Uuid) → count (λ i. same_uuid i u) (file_uuids C) + (count (λ x. same_uuid x.uuid u) d.added.delete_files + count (λ x. same_uuid x.uuid u) d.added.data_files) ≤ 1

pub uuids_none : (C : Catalog) (d : Change) → Sound C → d.added.delete_files ≡ [] → d.added.data_files ≡ [] → UuidsGood C d
unfolding count
uuids_none C d S e f u = rw (e, f) (omega (arith, S.files.uuids u))

pub free_uuid : (C : Catalog) → Sound C → (uuid : Uuid) → uuid_free C uuid ≡ true → (u : Uuid) → count (λ i. same_uuid i u) (file_uuids C) + bit (same_uuid uuid u) ≤ 1
unfolding uuid_free
free_uuid C S uuid h u =
    if (same_uuid uuid u)
    (λ b.
    let z : any (λ i. same_uuid i u) (file_uuids C) ≡ false =
    any_ext (λ i. same_uuid i u) (same_uuid uuid) (file_uuids C)
    (λ i m. same_test (same_uuid i u) (same_uuid uuid i)
    (λ p. (reflects_uuid uuid i).from ((reflects_uuid uuid u).to b ∙ sym ((reflects_uuid i u).to p)))
    (λ p. (reflects_uuid i u).from (sym ((reflects_uuid uuid i).to p) ∙ (reflects_uuid uuid u).to b)))
    ∙ not-true (any (same_uuid uuid) (file_uuids C)) h in
    rw (b, count_none (λ i. same_uuid i u) (file_uuids C) z) (omega arith))
    (λ b. rw b (omega (arith, S.files.uuids u)))

-- the parts together
pub good_parts : {C : Catalog} {d : Change} → SnapshotGood C d → EndsGood C d → SchemasGood C d → TablesGood C d → ColumnsGood C d → DataFilesGood C d → DeleteFilesGood C d → StatisticsGood C d → UuidsGood C d → Good C d
good_parts n e s t c f x y u = record {
  time = n.time;
  numbers = n.numbers;
  kind = n.kind;
  object = n.object;
  schemas_fit = s.fit;
  tables_fit = t.fit;
  columns_fit = c.fit;
  columns_few = c.few;
  data_files_fit = f.fit;
  delete_files_fit = x.fit;
  statistics_fit = y.fit;
  end_tables = e.tables;
  end_columns = e.columns;
  end_data_files = e.data_files;
  end_delete_files = e.delete_files;
  tables_in = t.within;
  columns_in = c.within;
  data_files_in = f.within;
  delete_files_in = x.within;
  columns_new = c.new;
  columns_ascend = c.ascend;
  statistics_new = y.new;
  statistics_ascend = y.ascend;
  schemas_apart = s.apart;
  tables_apart = t.apart;
  columns_apart = c.apart;
  schema_names_free = s.free;
  table_names_free = t.free;
  deletes_apart = x.apart;
  deletes_succeed = x.succeed;
  positions = x.positions;
  rows_ascend = f.ascend;
  rows_after = f.after;
  rows_in = f.room;
  uuids = u;
  statistics_each = f.statistics;
  statistics_on_file = y.on_file;
  column_counts = t.counts;
}

-- a change that adds nothing
pub good_ends : {C : Catalog} {d : Change} → Sound C → SnapshotGood C d → EndsGood C d → d.added ≡ adds_nothing → Good C d
good_ends {C} {d} S n e q =
    good_parts n e (schemas_none C d (ap (λ a. a.schemas) q)) (tables_none C d (ap (λ a. a.tables) q)) (columns_none C d (ap (λ a. a.columns) q))
    (data_files_none C d (ap (λ a. a.data_files) q)) (delete_files_none C d (ap (λ a. a.delete_files) q)) (statistics_none C d (ap (λ a. a.statistics) q))
    (uuids_none C d S (ap (λ a. a.delete_files) q) (ap (λ a. a.data_files) q))

-- records that were there move on

pub schema_moves : (C : Catalog) (d : Change) {v : Versioned Schema} → In v C.schemas → In (schema_next C d v) (commit C d).schemas
unfolding commit
schema_moves C d m = in_left (born_schemas C d) (in_map (schema_next C d) m)

pub table_moves : (C : Catalog) (d : Change) {v : Versioned Table} → In v C.tables → In (table_next C d v) (commit C d).tables
unfolding commit
table_moves C d m = in_left (born_tables C d) (in_map (table_next C d) m)

pub data_file_moves : (C : Catalog) (d : Change) {v : Versioned DataFile} → In v C.data_files → In (data_file_next C d v) (commit C d).data_files
unfolding commit
data_file_moves C d m = in_left (born_data_files C d) (in_map (data_file_next C d) m)

-- new records are there

pub table_born : (C : Catalog) (d : Change) {v : Versioned Table} → In v (born_tables C d) → In v (commit C d).tables
unfolding commit
table_born C d m = in_right (map (table_next C d) C.tables) m

pub data_file_born : (C : Catalog) (d : Change) {v : Versioned DataFile} → In v (born_data_files C d) → In v (commit C d).data_files
unfolding commit
data_file_born C d m = in_right (map (data_file_next C d) C.data_files) m
