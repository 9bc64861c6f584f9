-- The public calls: for each its refusals in document 01's order, its effect and its answer; what it leaves; and the promise that it gives.
use Rattle.std.specs.Prelude.{ℕ, ◌≡◌, Bool, true, not, cond, ◌&&◌, List, [], ◌∷◌, ◌++◌, leb, ltb, eqb, length, get_or}
use Rattle.lists.specs.Lists.{all, any, non_empty, has, highest}
use Rattle.lists.specs.Runs.{overwrite}
use Rattle.layout.specs.declared.outcome.Counts.{Counts}
use Rattle.layout.specs.declared.outcome.Outcome.{Outcome}
use Rattle.layout.specs.declared.outcome.Terms.{Terms}
use Rattle.layout.specs.declared.record.Uuid.{Uuid}
use Rattle.layout.specs.Catalog.{Catalog}
use Rattle.layout.specs.Lent.{ReadRun, LentRun, at_entry, at_exit, read_at_entry, read_at_exit}
use Rattle.layout.specs.Names.{is_name_argument, padded}
use Rattle.layout.specs.Words.{Words, load, store, counts_of, capacity, within}
use Rattle.ducklake.specs.Liveness.{retained, latest, latest_id, schemas_at, tables_at, columns_at, deleted_at, is_live, data_file_of_id}
use Rattle.ducklake.specs.Soundness.{is_record_count, file_uuids, same_uuid, sound}
use Rattle.ducklake.specs.Refusals.{accepted, not_sound, no_room, short_answer_area, number_too_large, not_retained, id_of_schema, id_of_table, id_of_file, no_such_id, no_snapshot_by_then, time_falls, bad_name, name_taken, schema_not_empty, bad_columns, bad_record_count, uuid_taken, bad_statistics, bad_positions, already_deleted, bad_expiry_list, expires_latest, first}
use Rattle.ducklake.specs.Arguments.{clashes, columns_fit, statistics_argument_fits, positions_fit, expiry_list_fits}
use Rattle.ducklake.specs.Commits.{fresh_catalog, Commit, create_schema, create_table, insert, delete, drop_table, drop_schema, new_data_file_id, change_of, commit, numbers_fit}
use Rattle.ducklake.specs.Readings.{Query, query_answer, query_refusals, snapshots_by_time}
use Rattle.ducklake.specs.Maintenance.{expire, handed_out, cleanup}

-- The calls that change tables, Fresh apart
pub data Call : Type 0 where
  commit_at : (terms : Terms) → Commit → Call
  expire_snapshots : (ids : List ℕ) (time : ℕ) → Call
  clean_up : (t : ℕ) → Call

-- the terms of a commit at a time
abbrev pub at_time : ℕ → Terms
at_time time = record { time = time }

-- "8 time below the latest snapshot's."
abbrev pub in_time : Catalog → ℕ → Bool
in_time C time = leb (latest C).time time

-- "14 UUID in any data file, delete file or scheduled record."
unfoldable pub uuid_free : Catalog → Uuid → Bool
uuid_free C uuid = not (any (same_uuid uuid) (file_uuids C))

-- whether the position at an index of the list is already deleted in the file
unfoldable pub offends : Catalog → ℕ → List ℕ → ℕ → Bool
offends C data_file positions i = ltb i (length positions) && has (get_or positions i 0) (deleted_at C.delete_files (latest_id C) data_file)

-- "Order: 1, then 5 to 19 rising, then 4, 2, 3": 5 to 19, each with what must hold
abbrev pub refusals : Catalog → Terms → Commit → List (ℕ × Bool)
refusals C terms (create_schema name) =
    (time_falls, in_time C terms.time)
    ∷ (bad_name, is_name_argument name)
    ∷ (name_taken, not (any (λ s. clashes s.body.name (padded name)) (schemas_at C.schemas (latest_id C))))
    ∷ []
refusals C terms (create_table schema name columns names) =
    (no_such_id C id_of_schema schema, is_live C.schemas (latest_id C) schema)
    ∷ (time_falls, in_time C terms.time)
    ∷ (bad_name, is_name_argument name)
    ∷ (name_taken, not (any (λ t. clashes t.body.name (padded name)) (tables_at C.tables (latest_id C) schema)))
    ∷ (bad_columns, columns_fit (latest C).next_catalog_id columns names)
    ∷ []
refusals C terms (insert table record_count uuid statistics) =
    (no_such_id C id_of_table table, is_live C.tables (latest_id C) table)
    ∷ (time_falls, in_time C terms.time)
    ∷ (bad_record_count, is_record_count record_count)
    ∷ (uuid_taken, uuid_free C uuid)
    ∷ (bad_statistics, statistics_argument_fits (columns_at C.columns (latest_id C) table) record_count (new_data_file_id C 0) statistics)
    ∷ []
refusals C terms (delete data_file uuid positions) =
    (no_such_id C id_of_file data_file, is_live C.data_files (latest_id C) data_file)
    ∷ (time_falls, in_time C terms.time)
    ∷ (uuid_taken, uuid_free C uuid)
    ∷ (bad_positions, positions_fit (data_file_of_id C.data_files data_file).body.record_count positions)
    ∷ (already_deleted, all (λ p. not (has p (deleted_at C.delete_files (latest_id C) data_file))) positions)
    ∷ []
refusals C terms (drop_table table) = (no_such_id C id_of_table table, is_live C.tables (latest_id C) table) ∷ (time_falls, in_time C terms.time) ∷ []
refusals C terms (drop_schema schema) =
    (no_such_id C id_of_schema schema, is_live C.schemas (latest_id C) schema)
    ∷ (time_falls, in_time C terms.time)
    ∷ (schema_not_empty, not (non_empty (tables_at C.tables (latest_id C) schema)))
    ∷ []

-- then 4
abbrev pub call_refusals : Catalog → Call → List (ℕ × Bool)
call_refusals C (commit_at terms k) = refusals C terms k ++ (number_too_large, numbers_fit C (change_of C terms.time k)) ∷ []
call_refusals C (expire_snapshots ids time) =
    (not_retained, all (retained C.snapshots) ids)
    ∷ (bad_expiry_list, expiry_list_fits ids)
    ∷ (expires_latest, not (has (latest_id C) ids))
    ∷ []
call_refusals C (clean_up t) = []

-- the catalog after an accepted call
unfoldable pub effect : Catalog → Call → Catalog
effect C (commit_at terms k) = commit C (change_of C terms.time k)
effect C (expire_snapshots ids time) = expire C ids time
effect C (clean_up t) = cleanup C t

-- the words of an accepted call's answer: "commits, expiry and Fresh have length 0"
unfoldable pub answer : Catalog → Call → List ℕ
answer C (commit_at terms k) = []
answer C (expire_snapshots ids time) = []
answer C (clean_up t) = handed_out C t

-- "2 the change needs more records or positions than are lent or allowed."
unfoldable pub has_room : Words → Catalog → Bool
has_room w C = within (counts_of C) (capacity w)

-- the call's number on these tables, with an answer area of so many words: 1, then 5 to 19 and 4, then 2, 3
unfoldable pub refusal : Words → Counts → ℕ → Call → ℕ
refusal w c area_length k =
    first (
    (not_sound, sound w c)
    ∷ call_refusals (load w c) k
    ++ (no_room, has_room w (effect (load w c) k))
    ∷ (short_answer_area, leb (length (answer (load w c) k)) area_length)
    ∷ []) accepted

-- What a call gives and leaves. Of its place it says which are right.
pub record Result : Type 0 where
  pub number : ℕ
  pub place : ℕ → Bool
  pub length : ℕ
  pub counts : Counts
  pub words : Words
  pub area : List ℕ

-- "Every other place is 0"
abbrev pub place_zero : ℕ → Bool
place_zero place = eqb place 0

-- "with 17, the index of an offending position in the call's list; which of several is open"
unfoldable pub place_of : Catalog → Call → ℕ → ℕ → Bool
place_of C (commit_at terms (create_schema name)) number = place_zero
place_of C (commit_at terms (create_table schema name columns names)) number = place_zero
place_of C (commit_at terms (insert table record_count uuid statistics)) number = place_zero
place_of C (commit_at terms (delete data_file uuid positions)) number = cond (eqb number already_deleted) (offends C data_file positions) place_zero
place_of C (commit_at terms (drop_table table)) number = place_zero
place_of C (commit_at terms (drop_schema schema)) number = place_zero
place_of C (expire_snapshots ids time) number = place_zero
place_of C (clean_up t) number = place_zero

-- "A refusal gives its number and (..) the length 0, the catalogue record as it came"; "a refused call changes no word or name of any table, nor the
-- answer area"
abbrev pub refused : ℕ → (ℕ → Bool) → Words → Counts → List ℕ → Result
refused number place w c area = record { number = number; place = place; length = 0; counts = c; words = w; area = area }

-- "An accepted call gives number 0 and place 0": the catalog is stored, the answer stands at the area's front
abbrev pub stored : Catalog → List ℕ → Words → Counts → List ℕ → Result
stored C words w c area =
    record { number = accepted; place = place_zero; length = length words; counts = counts_of C; words = store w c C; area = overwrite area 0 words }

-- an accepted reading: the answer stands at the area's front, and all else is as it was, "the catalogue record back as it came"
abbrev pub answered : List ℕ → Words → Counts → List ℕ → Result
answered words w c area =
    record { number = accepted; place = place_zero; length = length words; counts = c; words = w; area = overwrite area 0 words }

unfoldable pub perform : Call → Words → Counts → List ℕ → Result
perform k w c area =
    let number : ℕ = refusal w c (length area) k in
    cond (eqb number accepted) (stored (effect (load w c) k) (answer (load w c) k) w c area) (refused number (place_of (load w c) k number) w c area)

-- Fresh: "It ignores the used counts it is given, writes just these two records and the name, and frees nothing."; "Fresh can meet only 2."

abbrev pub no_counts : Counts
no_counts = record {
  snapshots = 0;
  schemas = 0;
  tables = 0;
  columns = 0;
  data_files = 0;
  delete_files = 0;
  positions = 0;
  statistics = 0;
  scheduled = 0;
}

unfoldable pub perform_fresh : ℕ → Words → Counts → List ℕ → Result
perform_fresh time w c area =
    cond (has_room w (fresh_catalog time)) (stored (fresh_catalog time) [] w no_counts area) (refused no_room place_zero w c area)

-- Readings

pub data Reading : Type 0 where
  query_at : (snapshot : ℕ) → Query → Reading
  by_time : (t : ℕ) → Reading

abbrev pub reading_refusals : Catalog → Reading → List (ℕ × Bool)
reading_refusals C (query_at s q) = (not_retained, retained C.snapshots s) ∷ query_refusals C s q
reading_refusals C (by_time t) = (no_snapshot_by_then, non_empty (snapshots_by_time C.snapshots t)) ∷ []

unfoldable pub reading_answer : Catalog → Reading → List ℕ
reading_answer C (query_at s q) = query_answer C s q
reading_answer C (by_time t) = highest (snapshots_by_time C.snapshots t) ∷ []

-- the reading's number: 1, then 5 to 7, then 3
unfoldable pub reading_refusal : Words → Counts → ℕ → Reading → ℕ
reading_refusal w c area_length r =
    first (
    (not_sound, sound w c)
    ∷ reading_refusals (load w c) r
    ++ (short_answer_area, leb (length (reading_answer (load w c) r)) area_length)
    ∷ []) accepted

unfoldable pub perform_reading : Reading → Words → Counts → List ℕ → Result
perform_reading r w c area =
    let number : ℕ = reading_refusal w c (length area) r in
    cond (eqb number accepted) (answered (reading_answer (load w c) r) w c area) (refused number place_zero w c area)

-- The promise of every public call, over what it should give and leave, its outcome, and the tables and the answer area as it leaves them
pub record Promise (result : Result) (outcome : Outcome) (words' : Words) (area' : List ℕ) : Type 0 where
  pub number : outcome.number ≡ result.number
  pub place : result.place outcome.place ≡ true
  pub length : outcome.length ≡ result.length
  pub counts : outcome.counts ≡ result.counts
  pub words : words' ≡ result.words
  pub area : area' ≡ result.area

-- The same over a public call's parameters: the twelve lent runs and the answer area, as it is lent and as it leaves them
abbrev pub Promised : (Words → Counts → List ℕ → Result)
    → LentRun → LentRun → LentRun → LentRun → LentRun → LentRun → LentRun → LentRun → LentRun → LentRun → LentRun → LentRun → Counts → LentRun → Outcome → Type 0
Promised call snapshots schemas schema_names tables table_names columns column_names data_files delete_files positions statistics scheduled counts area outcome =
    Promise (call (at_entry snapshots schemas schema_names tables table_names columns column_names data_files delete_files positions statistics scheduled) counts area.entry.now)
    outcome (at_exit snapshots schemas schema_names tables table_names columns column_names data_files delete_files positions statistics scheduled) area.exit.now

-- The same of a reading, which is lent the runs to read alone
abbrev pub PromisedReading : (Words → Counts → List ℕ → Result)
    → ReadRun → ReadRun → ReadRun → ReadRun → ReadRun → ReadRun → ReadRun → ReadRun → ReadRun → ReadRun → ReadRun → ReadRun → Counts → LentRun → Outcome → Type 0
PromisedReading call snapshots schemas schema_names tables table_names columns column_names data_files delete_files positions statistics scheduled counts area outcome =
    Promise (call (read_at_entry snapshots schemas schema_names tables table_names columns column_names data_files delete_files positions statistics scheduled) counts area.entry.now)
    outcome (read_at_exit snapshots schemas schema_names tables table_names columns column_names data_files delete_files positions statistics scheduled) area.exit.now
