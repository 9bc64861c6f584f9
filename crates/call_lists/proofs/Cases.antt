-- The definitions of lists, computed: what each kind asks for with its arguments, spans up to a run's end and past it, where a list ends, how many records are
-- played, what each is given of the area and leaves for the next, what is told of it, and where its answer stands then.
use Prim.Native.Nat.{ℕ}
use mathlib.Core.Path.{◌≡◌, refl}
use mathlib.Core.Bool.{true, false}
use mathlib.Core.List.{List, [], ◌∷◌, ◌++◌}
use lib.IntN.{negsuc}
use lib.ListN.{replicate}
use Rattle.lists.specs.Lists.{any, range, place, sum}
use Rattle.layout.specs.declared.outcome.Counts.{Counts}
use Rattle.layout.specs.Records.{uuid_of}
use Rattle.layout.specs.Words.{Words}
use Rattle.ducklake.specs.Kinds.{created_schema, created_table, inserted_into_table, deleted_from_table, dropped_schema, dropped_table, is_kind}
use Rattle.ducklake.specs.Commits.{create_schema, create_table, insert, delete, drop_table, drop_schema}
use Rattle.ducklake.specs.Readings.{Query}
use Rattle.ducklake.specs.Calls.{Call, commit_at, at_time, expire_snapshots, clean_up, Result, place_zero, query_at, by_time}
use Rattle.ducklake.specs.Observed.{calls, reads, looks_up}
use Rattle.call_lists.specs.Records.{read_call, span_of}
use Rattle.call_lists.specs.Calls.{part, expired_snapshots, cleaned_up, made_fresh, listed_schemas, listed_tables, listed_columns, found_table_by_name, listed_files, listed_filtered_files, listed_rows, found_snapshot_by_time, copied_file, Asked, fresh, asks, question_of, request_of, asked_of, spans_fit, is_asked, call_count}
use Rattle.call_lists.specs.Playing.{Played, left, next, Tells, calls_played}
use Rattle.call_lists.specs.Demand.{number_told, place_told, length_told, answer_start, answer_at}

-- a record of that kind: time 2, snapshot 3, schema or table 4, file 5, column 6, scalar −2, 8 rows, UUID 9 and 10, the words at 1 (two of them), the name at 0
-- (one byte), the names at 2 (two bytes)
abbrev record_of : ℕ → List ℕ
record_of kind = kind ∷ 2 ∷ 3 ∷ 4 ∷ 5 ∷ 6 ∷ 18446744073709551614 ∷ 8 ∷ 9 ∷ 10 ∷ 1 ∷ 2 ∷ 0 ∷ 1 ∷ 2 ∷ 2 ∷ []

-- what it asks for, its arguments in these runs
abbrev given : ℕ → Asked
given kind = asked_of (10 ∷ 11 ∷ 12 ∷ 13 ∷ []) (20 ∷ 21 ∷ 22 ∷ 23 ∷ 24 ∷ []) (read_call (record_of kind) 0)

abbrev committed : Call → Asked
committed k = asks (calls k)

abbrev queried : Query → Asked
queried q = asks (reads (query_at 3 q))

creates_schema : given created_schema ≡ committed (commit_at (at_time 2) (create_schema (20 ∷ [])))
unfolding request_of asked_of
creates_schema = refl

creates_table : given created_table ≡ committed (commit_at (at_time 2) (create_table 4 (20 ∷ []) (11 ∷ 12 ∷ []) (22 ∷ 23 ∷ [])))
unfolding request_of asked_of
creates_table = refl

inserts : given inserted_into_table ≡ committed (commit_at (at_time 2) (insert 4 8 (uuid_of 9 10) (11 ∷ 12 ∷ [])))
unfolding request_of asked_of
inserts = refl

deletes : given deleted_from_table ≡ committed (commit_at (at_time 2) (delete 5 (uuid_of 9 10) (11 ∷ 12 ∷ [])))
unfolding request_of asked_of
deletes = refl

drops_schema : given dropped_schema ≡ committed (commit_at (at_time 2) (drop_schema 4))
unfolding request_of asked_of
drops_schema = refl

drops_table : given dropped_table ≡ committed (commit_at (at_time 2) (drop_table 4))
unfolding request_of asked_of
drops_table = refl

expires : given expired_snapshots ≡ committed (expire_snapshots (11 ∷ 12 ∷ []) 2)
unfolding request_of asked_of
expires = refl

cleans_up : given cleaned_up ≡ committed (clean_up 2)
unfolding request_of asked_of
cleans_up = refl

makes_fresh : given made_fresh ≡ fresh 2
unfolding asked_of
makes_fresh = refl

lists_ids : (given listed_schemas ≡ queried Query.schemas) × (given listed_tables ≡ queried (Query.tables 4)) × (given listed_columns ≡ queried (Query.columns 4))
unfolding question_of request_of asked_of
lists_ids = (refl, refl, refl)

finds_table : given found_table_by_name ≡ queried (Query.table_named 4 (20 ∷ []))
unfolding question_of request_of asked_of
finds_table = refl

lists_files : (given listed_files ≡ queried (Query.files 4)) × (given listed_filtered_files ≡ queried (Query.filtered_files 4 6 (negsuc 1)))
unfolding question_of request_of asked_of
lists_files = (refl, refl)

lists_rows : given listed_rows ≡ queried (Query.rows 4)
unfolding question_of request_of asked_of
lists_rows = refl

finds_snapshot : given found_snapshot_by_time ≡ asks (reads (by_time 2))
unfolding question_of request_of asked_of
finds_snapshot = refl

copies_file : given copied_file ≡ asks (looks_up 5)
unfolding question_of request_of asked_of
copies_file = refl

-- every kind, by number
kinds : (expired_snapshots ∷ cleaned_up ∷ made_fresh ∷ listed_schemas ∷ listed_tables ∷ listed_columns ∷ found_table_by_name ∷ listed_files ∷ listed_filtered_files ∷ listed_rows ∷ found_snapshot_by_time ∷ copied_file ∷ [])
    ≡ (100 ∷ 101 ∷ 102 ∷ 200 ∷ 201 ∷ 202 ∷ 203 ∷ 204 ∷ 205 ∷ 206 ∷ 207 ∷ 208 ∷ [])
kinds = refl

-- a span up to the run's last word, in the middle, of no word at the run's end
parts : (part {A = ℕ} (7 ∷ 8 ∷ 9 ∷ []) (span_of 1 2) ≡ 8 ∷ 9 ∷ []) × (part {A = ℕ} (7 ∷ 8 ∷ 9 ∷ []) (span_of 1 1) ≡ 8 ∷ []) × (part {A = ℕ} (7 ∷ 8 ∷ 9 ∷ []) (span_of 3 0) ≡ [])
parts = (refl, refl, refl)

-- its words end at 3, its name at 1, its names at 4: runs just as long, and each one shorter
fits : (spans_fit 3 4 (read_call (record_of cleaned_up) 0) ≡ true) × (spans_fit 2 4 (read_call (record_of cleaned_up) 0) ≡ false)
    × (spans_fit 3 3 (read_call (record_of cleaned_up) 0) ≡ false) × (spans_fit 3 0 (read_call (replicate 12 0 ++ 0 ∷ 1 ∷ 0 ∷ 0 ∷ []) 0) ≡ false)
    × (spans_fit 0 0 (read_call (replicate 16 0) 0) ≡ true)
unfolding spans_fit
fits = (refl, refl, refl, refl, refl)

-- how many of n such records, with runs of three words and four bytes
abbrev counted : List ℕ → ℕ → ℕ
counted w n = call_count w 3 4 n

-- a list ends at a record of another kind: 0, and each number beside those of calls and readings
ends : (counted (record_of created_schema ++ record_of copied_file) 2 ≡ 2) × (counted (record_of created_schema ++ record_of 0 ++ record_of cleaned_up) 3 ≡ 1)
    × (counted (record_of 5) 1 ≡ 0) × (counted (record_of 8) 1 ≡ 0) × (counted (record_of 99) 1 ≡ 0) × (counted (record_of 103) 1 ≡ 0) × (counted (record_of 199) 1 ≡ 0)
    × (counted (record_of 209) 1 ≡ 0) × (counted [] 0 ≡ 0)
unfolding is_kind any spans_fit is_asked call_count range place
ends = (refl, refl, refl, refl, refl, refl, refl, refl, refl)

-- at Fresh, unless it is the first
fresh_first : (counted (record_of made_fresh ++ record_of listed_rows) 2 ≡ 2) × (counted (record_of listed_rows ++ record_of made_fresh) 2 ≡ 1)
unfolding is_kind any spans_fit is_asked call_count range place
fresh_first = (refl, refl)

-- and at a span that leaves its run, also one that the call does not take
leaves : (call_count (record_of deleted_from_table ++ record_of deleted_from_table) 2 4 2 ≡ 0) × (call_count (record_of cleaned_up) 3 3 1 ≡ 0)
unfolding is_kind any spans_fit is_asked call_count range place
leaves = (refl, refl)

-- whole records alone, and as many as can be told
counts : (calls_played (record_of cleaned_up ++ record_of cleaned_up) (replicate 3 0) (replicate 4 0) (replicate 6 0) ≡ 2)
    × (calls_played (record_of cleaned_up ++ record_of cleaned_up) (replicate 3 0) (replicate 4 0) (replicate 5 0) ≡ 1)
    × (calls_played (record_of cleaned_up ++ replicate 15 0) (replicate 3 0) (replicate 4 0) (replicate 6 0) ≡ 1)
    × (calls_played (record_of cleaned_up) (replicate 3 0) (replicate 4 0) (replicate 2 0) ≡ 0)
unfolding calls_played is_kind any spans_fit is_asked call_count range place
counts = (refl, refl, refl, refl)

module _ (w : Words) (c : Counts) where
  -- one word is answered, two are left
  abbrev before : Played
  before = record { words = w; counts = c; area = 1 ∷ 2 ∷ 3 ∷ []; answered = 1 }

  -- a call that answers a word
  abbrev answers : Result
  answers = record { number = 0; place = place_zero; length = 1; counts = c; words = w; area = 9 ∷ 3 ∷ [] }

  -- it is given what is left, and its answer stands behind the one before
  areas : (left before ≡ 2 ∷ 3 ∷ []) × ((next before answers).area ≡ 1 ∷ 9 ∷ 3 ∷ []) × ((next before answers).answered ≡ 2)
  areas = (refl, refl, refl)

  -- number, place and length, in this order
  tells : Tells answers (7 ∷ 0 ∷ 0 ∷ 1 ∷ 7 ∷ []) 1
  tells = record { number = refl; place = refl; length = refl }

-- of three records two words, none and one were answered: what is told of each, and where its answer stands
abbrev told_of_three : List ℕ
told_of_three = 0 ∷ 0 ∷ 2 ∷ 17 ∷ 5 ∷ 0 ∷ 0 ∷ 0 ∷ 1 ∷ []

told : (number_told told_of_three 1 ≡ 17) × (place_told told_of_three 1 ≡ 5) × (length_told told_of_three 2 ≡ 1)
told = (refl, refl, refl)

stands : (answer_at told_of_three (1 ∷ 2 ∷ 3 ∷ 4 ∷ []) 0 ≡ record { number = 0; words = 1 ∷ 2 ∷ [] })
    × (answer_at told_of_three (1 ∷ 2 ∷ 3 ∷ 4 ∷ []) 1 ≡ record { number = 17; words = [] })
    × (answer_at told_of_three (1 ∷ 2 ∷ 3 ∷ 4 ∷ []) 2 ≡ record { number = 0; words = 3 ∷ [] })
unfolding answer_start sum range
stands = (refl, refl, refl)
