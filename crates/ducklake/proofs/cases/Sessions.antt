-- Sessions that compute: calls played from Fresh on lent tables, with every definition open.
use Prim.Native.Nat.{ℕ}
use mathlib.Core.List.{List, [], ◌∷◌, flat_map}
use mathlib.Core.Bool.{Bool, ◌&&◌}
use lib.Dec.{eqb}
use lib.ListN.{length, take}
use Rattle.layout.specs.declared.outcome.Counts.{Counts}
use Rattle.lists.specs.Lists.{range, all, any, pairwise, chained, agree, filter, find, place, last, count, sum, highest, insert_by, sort_by}
use Rattle.lists.specs.Runs.{overwrite, replace_by}
use Rattle.layout.specs.Records.{snapshot_words, schema_words, table_words, column_words, data_file_words, delete_file_words, statistics_words, scheduled_words}
use Rattle.layout.specs.Names.{named_then_zero, is_name, is_name_argument, padded, same_name}
use Rattle.layout.specs.Types.{types, is_type, in_type}
use Rattle.layout.specs.Words.{Words, positions_before, load, store, counts_of, capacity, within, fits}
use Rattle.ducklake.specs.Kinds.{is_kind, raises_schema_version}
use Rattle.ducklake.specs.Refusals.{accepted}
use Rattle.ducklake.specs.Liveness.{live, live_at_some, retained, schemas_at, tables_at, columns_at, data_files_at, delete_files_at, deleted_at, is_live, column_live, table_of_id, data_file_of_id}
use Rattle.ducklake.specs.Soundness.{uuids_of_files, ids_of_files, is_record_count, snapshot_in_range, schema_in_range, table_in_range, column_in_range, data_file_in_range, delete_file_in_range, statistics_in_range, scheduled_in_range, fields_in_range, follows, snapshots_rise, life_sound, lives_sound, by_table_and_id, by_file_and_column, ids_ascend, same_uuid, ids_below_next, files_distinct, contains, same_life, table_nests, column_nests, data_file_nests, delete_file_nests, lives_nest, overlap, schemas_apart, tables_apart, columns_apart, names_apart, succeeded_by, delete_files_apart, positions_sound, deletes_sound, rows_before, rows_in_table, row_ranges_sound, bound_fits, statistics_fit, file_statistics, statistics_wanted, file_statistics_sound, statistics_on_file, statistics_sound, column_count_sound, column_counts_sound, first_unsound, sound}
use Rattle.ducklake.specs.Arguments.{clashes, new_columns, columns_whole, columns_fit, new_statistics, statistics_argument_fits, positions_fit, expiry_list_fits}
use Rattle.ducklake.specs.Commits.{fresh_catalog, close, grow, next_snapshot, commit, numbers_fit, change_of}
use Rattle.ducklake.specs.Readings.{tables_named, listed, admits, kept, file_rows, query_answer, snapshots_by_time}
use Rattle.ducklake.specs.Lookup.{place_of_file, lookup, lookup_answer, lookup_refusal, perform_lookup}
use Rattle.ducklake.specs.Maintenance.{expire, handed_out, cleanup}
use Rattle.ducklake.specs.Calls.{Call, Result, Reading, uuid_free, offends, effect, answer, has_room, refusal, place_of, perform, perform_fresh, reading_answer, reading_refusal, perform_reading}

-- what is asked after the calls: a reading, one more call's answer, the scheduled files with their times
pub data Probe : Type 0 where
  reads : Reading → Probe
  calls : Call → Probe
  scheduled : Probe

-- a session and what it should come to: the calls after Fresh, what is asked then, its number, its words
pub record Case : Type 0 where
  pub session : List Call
  pub probe : Probe
  pub number : ℕ
  pub words : List ℕ

module _ (time : ℕ) (lent : Words) (given : Counts) (area : List ℕ) where
  abbrev pub played : Result → List Call → Result
  played r [] = r
  played r (k ∷ ks) = played (perform k r.words r.counts area) ks

  abbrev asked : Result → Probe → Result
  asked r (reads q) = perform_reading q r.words r.counts area
  asked r (calls k) = perform k r.words r.counts area
  asked r scheduled =
      let xs : List ℕ = flat_map (λ x. x.file ∷ x.start ∷ []) (load r.words r.counts).scheduled in
      record { number = accepted; place = r.place; length = length xs; counts = r.counts; words = r.words; area = xs }

  -- whether a case is true
  unfoldable pub passes : Case → Bool
  unfolding flat_map range all any pairwise chained agree filter find place last count sum highest insert_by sort_by overwrite replace_by snapshot_words schema_words table_words column_words data_file_words delete_file_words statistics_words scheduled_words named_then_zero is_name is_name_argument padded same_name types is_type in_type positions_before load store counts_of capacity within fits is_kind raises_schema_version live live_at_some retained schemas_at tables_at columns_at data_files_at delete_files_at deleted_at is_live column_live table_of_id data_file_of_id is_record_count snapshot_in_range schema_in_range table_in_range column_in_range data_file_in_range delete_file_in_range statistics_in_range scheduled_in_range fields_in_range follows snapshots_rise life_sound lives_sound by_table_and_id by_file_and_column ids_ascend ids_of_files uuids_of_files same_uuid ids_below_next files_distinct contains same_life table_nests column_nests data_file_nests delete_file_nests lives_nest overlap schemas_apart tables_apart columns_apart names_apart succeeded_by delete_files_apart positions_sound deletes_sound rows_before rows_in_table row_ranges_sound bound_fits statistics_fit file_statistics statistics_wanted file_statistics_sound statistics_on_file statistics_sound column_count_sound column_counts_sound first_unsound sound clashes new_columns columns_whole columns_fit new_statistics statistics_argument_fits positions_fit expiry_list_fits fresh_catalog close grow next_snapshot commit numbers_fit change_of tables_named listed admits kept file_rows query_answer snapshots_by_time place_of_file lookup lookup_answer lookup_refusal perform_lookup expire handed_out cleanup uuid_free offends effect answer has_room refusal place_of perform perform_fresh reading_answer reading_refusal perform_reading
  passes k =
      let r : Result = asked (played (perform_fresh time lent given area) k.session) k.probe in
      eqb r.number k.number && agree eqb (take r.length r.area) k.words

  -- whether each call of a session is accepted and leaves sound tables
  unfoldable pub sound_throughout : Result → List Call → Bool
  unfolding passes
  sound_throughout r [] = eqb r.number accepted && sound r.words r.counts
  sound_throughout r (k ∷ ks) = eqb r.number accepted && sound r.words r.counts && sound_throughout (perform k r.words r.counts area) ks
