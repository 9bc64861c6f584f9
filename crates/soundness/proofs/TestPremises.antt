-- What each test of the check relies on: counts that have room, and some of the tests before it.
use Prim.Native.Nat.{◌*◌, ◌≤◌, ◌<◌}
use mathlib.Core.Path.{◌≡◌}
use mathlib.Core.Bool.{Bool, true, ◌&&◌, ◌||◌}
use mathlib.Core.List.{List}
use native.Mathlib.Omega.{arith}
use borrow.Author.Tests.{eqb-true, le-leb}
use lib.Dec.{leb, ltb, eqb}
use lib.ListN.{length}
use Rattle.lists.specs.Lists.{all}
use Rattle.lists.proofs.Tests.{both, and}
use Rattle.lists.proofs.Selections.{all_weaken}
use Rattle.layout.specs.declared.outcome.Counts.{Counts}
use Rattle.layout.specs.Catalog.{absent, Versioned, Snapshot}
use Rattle.layout.specs.Fields.{snapshot_size, delete_file_size}
use Rattle.layout.specs.Words.{Words, load, table_limit, positions_before, capacity, within, data_files_in, delete_files_in}
use Rattle.layout.proofs.Room.{held, reflects_within}
use Rattle.ducklake.specs.Liveness.{latest_of}
use Rattle.ducklake.specs.Soundness.{snapshot_in_range, schema_in_range, table_in_range, column_in_range, data_file_in_range, delete_file_in_range, statistics_in_range, scheduled_in_range, fields_in_range, snapshots_rise, ids_ascend, life_sound, lives_sound, positions_add_up}
use Rattle.lookup.specs.Order.{SnapshotsById, TablesById, ColumnsByTable}
use Rattle.soundness_deletes.specs.Deletes.{begins_before_end, DeletesCheckable}
use Rattle.soundness_deletes.specs.Rows.{RowRangesCheckable}
use Rattle.soundness_fields.specs.Lent.{FieldsLent, IdsLent}
use Rattle.soundness_fields.proofs.Ids.{IdsFound, ids_found, snapshots_found}
use Rattle.soundness_lives.specs.Lent.{LivesLent, Nestable}
use Rattle.soundness_statistics.specs.Checkable.{StatisticsCheckable}
use Rattle.soundness_unique.specs.Comparable.{FilesLent, Numbered, Named}
use Rattle.soundness_unique.proofs.NamesGiven.{names_given}
use Rattle.soundness.specs.Scratch.{none_above}

fifth : (a b c d e f g h : Bool) → (a && b && c && d && e && f && g && h) ≡ true → e ≡ true
fifth a b c d e f g h k = (both (a && b && c && d) e (both (a && b && c && d && e) f (both (a && b && c && d && e && f) g (both (a && b && c && d && e && f && g) h k).0).0).0).1

begins_before_end_lem : {A : Type 0} (ns : List Snapshot) (vs : List (Versioned A)) → all (life_sound ns) vs ≡ true → all begins_before_end vs ≡ true
unfolding life_sound
begins_before_end_lem ns vs h =
    all_weaken (life_sound ns) begins_before_end vs
    (λ v e. (both (leb v.begin (latest_of ns).id && (eqb v.end absent || leb v.end (latest_of ns).id)) (ltb v.begin v.end) (both _ _ e).0).1) h

-- of the words alone

module _ (w : Words) (c : Counts) where
  data_files_in_range : fields_in_range (load w c) ≡ true → all data_file_in_range (data_files_in w.data_files c.data_files) ≡ true
  unfolding fields_in_range load
  data_files_in_range fields =
      let C = load w c in
      fifth (all snapshot_in_range C.snapshots) (all schema_in_range C.schemas) (all table_in_range C.tables) (all column_in_range C.columns) (all data_file_in_range C.data_files)
      (all delete_file_in_range C.delete_files) (all statistics_in_range C.statistics) (all scheduled_in_range C.scheduled) fields

  delete_files_live : lives_sound (load w c) ≡ true → all begins_before_end (delete_files_in w.delete_files w.positions c.delete_files) ≡ true
  unfolding lives_sound load
  delete_files_live lives =
      let C = load w c in
      let ns = C.snapshots in
      begins_before_end_lem ns (delete_files_in w.delete_files w.positions c.delete_files)
      (both (all (life_sound ns) C.schemas && all (life_sound ns) C.tables && all (life_sound ns) C.columns && all (life_sound ns) C.data_files) (all (life_sound ns) C.delete_files) lives).1

-- of counts that have room
module _ (w : Words) (c : Counts) (room : within c (capacity w) ≡ true) where
  pub none_above_limit : none_above c table_limit ≡ true
  unfolding capacity
  none_above_limit =
      let k = (reflects_within c (capacity w)).to room in
      let m = held w c room in
      let schemas : c.schemas ≤ table_limit = omega arith in
      let columns : c.columns ≤ table_limit = omega arith in
      let scheduled : c.scheduled ≤ table_limit = omega arith in
      and (and (and (and (and (le-leb _ _ schemas) (le-leb _ _ m.tables_most)) (le-leb _ _ columns)) (le-leb _ _ m.data_files_most)) (le-leb _ _ m.delete_files_most)) (le-leb _ _ scheduled)

  snapshots_by_id : snapshots_rise (load w c).snapshots ≡ true → (0 < c.snapshots) × SnapshotsById w.snapshots c.snapshots
  unfolding load
  snapshots_by_id rise = snapshots_found w.snapshots c.snapshots (held w c room).snapshots rise

  pub fields_lent : FieldsLent w c
  fields_lent =
      let k = held w c room in
      record {
        snapshots = k.snapshots;
        schemas = k.schemas;
        schema_names = k.schema_names;
        tables = k.tables;
        table_names = k.table_names;
        columns = k.columns;
        column_names = k.column_names;
        data_files = k.data_files;
        delete_files = k.delete_files;
        statistics = k.statistics;
        scheduled = k.scheduled;
      }

  pub snapshots_lent_lem : snapshot_size * c.snapshots ≤ length w.snapshots
  snapshots_lent_lem = (held w c room).snapshots

  pub lives_lent : snapshots_rise (load w c).snapshots ≡ true → LivesLent w.snapshots w.schemas w.tables w.columns w.data_files w.delete_files c
  lives_lent rise =
      let k = held w c room in
      record {
        some = (snapshots_by_id rise).0;
        snapshots = (snapshots_by_id rise).1;
        schemas = k.schemas;
        tables = k.tables;
        columns = k.columns;
        data_files = k.data_files;
        delete_files = k.delete_files;
      }

  pub ids_lent : IdsLent w.schemas w.tables w.columns w.data_files w.delete_files w.statistics c
  ids_lent =
      let k = held w c room in
      record { schemas = k.schemas; tables = k.tables; columns = k.columns; data_files = k.data_files; delete_files = k.delete_files; statistics = k.statistics }

  pub files_lent : FilesLent w.data_files w.delete_files w.scheduled c
  files_lent = let k = held w c room in record { data_files_lent = k.data_files; delete_files_lent = k.delete_files; scheduled_lent = k.scheduled }

  pub named : fields_in_range (load w c) ≡ true → lives_sound (load w c) ≡ true → Named w.schemas w.schema_names w.tables w.table_names w.columns w.column_names c
  named fields lives =
      let k = held w c room in
      names_given w c fields lives k.schemas k.schema_names k.tables k.table_names k.columns k.column_names

  pub delete_files_lent_lem : delete_file_size * c.delete_files ≤ length w.delete_files
  delete_files_lent_lem = (held w c room).delete_files

  -- and of ids that ascend, by which records are found
  module _ (ascend : ids_ascend (load w c) ≡ true) where
    found : IdsFound w c
    found = ids_found w c ids_lent ascend

    pub numbered : snapshots_rise (load w c).snapshots ≡ true → Numbered w.snapshots w.schemas w.tables w.data_files w.delete_files w.scheduled c
    numbered rise = record {
      snapshots_lent = snapshots_lent_lem;
      latest = (snapshots_by_id rise).0;
      schemas_by_id = found.schemas;
      tables_by_id = found.tables;
      data_files_by_id = found.data_files;
      delete_files_by_id = found.delete_files;
      scheduled_lent = (held w c room).scheduled;
    }

    pub nestable : Nestable w.schemas w.tables w.columns w.data_files w.delete_files c
    nestable = record {
      schemas = found.schemas;
      tables = found.tables;
      columns = (held w c room).columns;
      data_files = found.data_files;
      delete_files = (held w c room).delete_files;
    }

    pub deletes_checkable : lives_sound (load w c) ≡ true → positions_add_up w c ≡ true → DeletesCheckable w.data_files w.delete_files w.positions c
    deletes_checkable lives summed =
        let k = held w c room in
        record {
          data_files_by_id = found.data_files;
          positions_within = record { lent = k.delete_files; within = omega (arith, eqb-true (positions_before w.delete_files c.delete_files) c.positions summed, k.positions, k.positions_most) };
          lives = delete_files_live w c lives;
        }

    pub row_ranges_checkable : fields_in_range (load w c) ≡ true → RowRangesCheckable w.tables w.data_files c
    row_ranges_checkable fields = record {
      tables_by_id = found.tables;
      data_files_lent = (held w c room).data_files;
      in_range = data_files_in_range w c fields;
    }

    pub statistics_checkable : StatisticsCheckable w.columns w.data_files w.statistics c
    statistics_checkable = record { columns_by_table = found.columns; data_files_by_id = found.data_files; statistics_by_file = found.statistics }

    pub tables_and_columns : TablesById w.tables c.tables × ColumnsByTable w.columns c.columns
    tables_and_columns = (found.tables, found.columns)
