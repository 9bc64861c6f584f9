-- Cases as lines of words, and what it means that they are true. Each list of this folder is both what is proved here
-- and what a program that plays the compiled calls can read. Names has the names, and what they stand for.
--
-- Fourteen runs are lent: `snapshots`, `schemas`, `tables`, `columns`, `data_files`, `delete_files`, `positions`,
-- `statistics`, `scheduled`; `counts`, the used counts of these, in that order; `schema_names`, `table_names`,
-- `column_names`; `answer_area`. What lies in a run is named by its record and its word in that, so that a line is about
-- the same field whatever a record's size is. A position, a used count (`at snapshots`, `at schemas`, ..) and a word of
-- the area are a record each, of one word, `only_word`; a name is a record of 32 bytes. A line begins with what it is:
--
--   lend ∷ RUN ∷ records N ∷ words N ∷ each WORD
--       the run has so many records and so many words more, each word of them WORD
--   finds_field ∷ RUN ∷ at RECORD ∷ FIELD ∷ WORD ..
--       before the next call, and for it alone: these words lie in the record from the field on
--   finds_only ∷ RUN ∷ records N ∷ words N
--       the same: only so many records and so many words more of the run are lent
--   leaves_field ∷ RUN ∷ at RECORD ∷ FIELD ∷ WORD ..
--       the next call leaves these words in the record from the field on
--   leaves ∷ RUN ∷ at RECORD ∷ WORD ..
--       the next call leaves these words from the record on, its fields in document 01's order; those that are missing
--       of it are 0, so all of them in a record that is `freed`
--   call ∷ area N ∷ NUMBER ∷ place N ∷ words N ∷ CALL ∷ ARGUMENT ..
--       the call, with the first so many words of the answer area, gives this number, this place and an answer of so
--       many words, and leaves every word of every run as it was but for what the lines before say; what comes after
--       it finds the runs as they were before
--   call_kept ∷ ..
--       the same, and what comes after it finds the runs as it leaves them
--
-- The calls, with their arguments:
--
--   fresh: time                                   list_schemas: snapshot
--   create_schema: time, bytes of the name        list_tables: snapshot, schema
--   create_table: time, schema, name, types and   list_columns: snapshot, table
--     flags of the columns after the number of    table_by_name: snapshot, schema, bytes of the name
--     these words, names of the columns           list_files: snapshot, table
--   insert: time, table, record count, UUID high  list_filtered_files: snapshot, table, column, scalar
--     and low, statistics ..                      list_rows: snapshot, table
--   delete: time, data file, UUID high and low,   snapshot_by_time: t
--     positions ..                                copy_file: file
--   drop_schema: time, schema                     find_file: file; the answer stands for the part, and is the run
--   drop_table: time, table                         that it lies in and the word where it begins
--   expire: time, snapshots ..                    path_of_file: UUID high and low; the answer is its bytes
--   cleanup: t
use Prim.Native.Nat.{ℕ, zero, suc, ◌+◌, ◌*◌, ◌-◌, ◌/◌, ◌%◌, ◌^◌}
use mathlib.Core.Bool.{Bool, not, cond, ◌&&◌, ◌||◌}
use mathlib.Core.List.{List, [], ◌∷◌, ◌++◌}
use lib.Dec.{ltb, eqb}
use lib.IntN.{ℤ, pos, negsuc}
use lib.ListN.{length, get_or, take, drop, replicate}
use Rattle.lists.specs.Lists.{range, all, agree}
use Rattle.layout.specs.declared.outcome.Counts.{Counts}
use Rattle.layout.specs.Fields.{snapshot_size, schema_size, table_size, column_size, data_file_size, delete_file_size, statistics_size, scheduled_size}
use Rattle.layout.specs.Names.{name_size}
use Rattle.layout.specs.Records.{uuid_of}
use Rattle.layout.specs.Words.{Words}
use Rattle.ducklake.specs.Refusals.{accepted}
use Rattle.ducklake.specs.Commits.{Commit}
use Rattle.ducklake.specs.Readings.{Query}
use Rattle.ducklake.specs.Calls.{commit_at, at_time, expire_snapshots, clean_up, Result, perform, perform_fresh, query_at, by_time, perform_reading}
use Rattle.ducklake.specs.Lookup.{FilePlace, in_data_files, in_delete_files, nowhere, lookup, perform_lookup}
use Rattle.ducklake.specs.Paths.{path, uuid_text}
use Rattle.ducklake.proofs.cases.Sessions.{passes}
use Rattle.ducklake.proofs.cases.Names.{lend, finds_field, finds_only, leaves_field, leaves, call, snapshots, schemas, tables, columns, data_files, delete_files, positions, statistics, scheduled, counts, schema_names, table_names, column_names, answer_area, fresh, create_schema, create_table, insert, delete, drop_schema, expire, cleanup, list_schemas, list_tables, list_columns, table_by_name, list_files, list_filtered_files, snapshot_by_time, copy_file, find_file, place}

abbrev pub Runs : Type 0
Runs = List (List ℕ)

run : ℕ → Runs → List ℕ
run i [] = []
run zero (r ∷ rs) = r
run (suc i) (r ∷ rs) = run i rs

on_run : ℕ → (List ℕ → List ℕ) → Runs → Runs
on_run i f [] = []
on_run zero f (r ∷ rs) = f r ∷ rs
on_run (suc i) f (r ∷ rs) = r ∷ on_run i f rs

-- words written over a run, from a place on
write : ℕ → List ℕ → List ℕ → List ℕ
write k new old = take k old ++ (new ++ drop (k + length new) old)

-- how many words a record of a run has
record_size : ℕ → ℕ
record_size i =
    get_or (snapshot_size ∷ schema_size ∷ table_size ∷ column_size ∷ data_file_size ∷ delete_file_size ∷ 1 ∷ statistics_size ∷ scheduled_size ∷ 1
    ∷ name_size ∷ name_size ∷ name_size ∷ 1 ∷ []) i 0

-- the word of a run that is a word of a record of it
word_of : ℕ → ℕ → ℕ → ℕ
word_of i r word = record_size i * r + word

-- words, and zeros up to so many
filled : ℕ → List ℕ → List ℕ
filled n xs = xs ++ replicate (n - length xs) 0

-- The runs as what the calls take, and what a call leaves as runs

words_of : Runs → Words
words_of rs = record {
  snapshots = run snapshots rs;
  schemas = run schemas rs;
  schema_names = run schema_names rs;
  tables = run tables rs;
  table_names = run table_names rs;
  columns = run columns rs;
  column_names = run column_names rs;
  data_files = run data_files rs;
  delete_files = run delete_files rs;
  positions = run positions rs;
  statistics = run statistics rs;
  scheduled = run scheduled rs;
}

counts_in : List ℕ → Counts
counts_in ns = record {
  snapshots = get_or ns snapshots 0;
  schemas = get_or ns schemas 0;
  tables = get_or ns tables 0;
  columns = get_or ns columns 0;
  data_files = get_or ns data_files 0;
  delete_files = get_or ns delete_files 0;
  positions = get_or ns positions 0;
  statistics = get_or ns statistics 0;
  scheduled = get_or ns scheduled 0;
}

runs_of : Result → Runs
runs_of r =
    r.words.snapshots ∷ r.words.schemas ∷ r.words.tables ∷ r.words.columns ∷ r.words.data_files ∷ r.words.delete_files ∷ r.words.positions
    ∷ r.words.statistics ∷ r.words.scheduled
    ∷ (r.counts.snapshots ∷ r.counts.schemas ∷ r.counts.tables ∷ r.counts.columns ∷ r.counts.data_files ∷ r.counts.delete_files
    ∷ r.counts.positions ∷ r.counts.statistics ∷ r.counts.scheduled ∷ [])
    ∷ r.words.schema_names ∷ r.words.table_names ∷ r.words.column_names ∷ r.area ∷ []

-- The calls of a line

arg : ℕ → List ℕ → ℕ
arg i xs = get_or xs i 0

-- so many names, each after its length
name_places : ℕ → List ℕ → List ℕ
name_places zero xs = []
name_places (suc k) xs = filled name_size (take (get_or xs 0 0) (drop 1 xs)) ++ name_places k (drop (1 + get_or xs 0 0) xs)

scalar_of : ℕ → ℤ
scalar_of x = cond (ltb x (2 ^ 63)) (pos x) (negsuc (2 ^ 64 - suc x))

table_of : List ℕ → Commit
table_of xs =
    let n : ℕ = arg 1 xs in
    let m : ℕ = arg (2 + n) xs in
    Commit.create_table (arg 0 xs) (take n (drop 2 xs)) (take m (drop (3 + n) xs)) (name_places (arg (3 + n + m) xs) (drop (4 + n + m) xs))

commit_of : ℕ → List ℕ → Commit
commit_of code xs =
    cond (eqb code create_schema) (Commit.create_schema xs)
    (cond (eqb code create_table) (table_of xs)
    (cond (eqb code insert) (Commit.insert (arg 0 xs) (arg 1 xs) (uuid_of (arg 2 xs) (arg 3 xs)) (drop 4 xs))
    (cond (eqb code delete) (Commit.delete (arg 0 xs) (uuid_of (arg 1 xs) (arg 2 xs)) (drop 3 xs))
    (cond (eqb code drop_schema) (Commit.drop_schema (arg 0 xs))
    (Commit.drop_table (arg 0 xs))))))

query_of : ℕ → List ℕ → Query
query_of code xs =
    cond (eqb code list_schemas) Query.schemas
    (cond (eqb code list_tables) (Query.tables (arg 0 xs))
    (cond (eqb code list_columns) (Query.columns (arg 0 xs))
    (cond (eqb code table_by_name) (Query.table_named (arg 0 xs) (drop 1 xs))
    (cond (eqb code list_files) (Query.files (arg 0 xs))
    (cond (eqb code list_filtered_files) (Query.filtered_files (arg 0 xs) (arg 1 xs) (scalar_of (arg 2 xs)))
    (Query.rows (arg 0 xs)))))))

-- an answer that is no call's, as it would stand in the area
gives : ℕ → List ℕ → Words → Counts → List ℕ → Result
gives number words w c area =
    record { number = number; place = λ i. eqb i 0; length = length words; counts = c; words = w; area = words ++ drop (length words) area }

part_of : FilePlace → List ℕ
part_of (in_data_files i) = data_files ∷ (data_file_size * i) ∷ []
part_of (in_delete_files i) = delete_files ∷ (delete_file_size * i) ∷ []
part_of nowhere = []

-- the numbers before expiry's are those of commits, Fresh aside; the numbers from there to that of the snapshot by time
-- are those of readings at a snapshot, cleanup aside
result_of : ℕ → List ℕ → Words → Counts → List ℕ → Result
result_of code xs w c area =
    cond (eqb code fresh) (perform_fresh (arg 0 xs) w c area)
    (cond (ltb code expire) (perform (commit_at (at_time (arg 0 xs)) (commit_of code (drop 1 xs))) w c area)
    (cond (eqb code expire) (perform (expire_snapshots (drop 1 xs) (arg 0 xs)) w c area)
    (cond (eqb code cleanup) (perform (clean_up (arg 0 xs)) w c area)
    (cond (ltb code snapshot_by_time) (perform_reading (query_at (arg 0 xs) (query_of code (drop 1 xs))) w c area)
    (cond (eqb code snapshot_by_time) (perform_reading (by_time (arg 0 xs)) w c area)
    (cond (eqb code copy_file) (perform_lookup (arg 0 xs) w c area)
    (cond (eqb code find_file) (gives (lookup w c (arg 0 xs)).number (part_of (lookup w c (arg 0 xs)).part) w c area)
    (gives accepted (path (uuid_of (arg 0 xs) (arg 1 xs))) w c area))))))))

-- Whether a line of a call is true

same : Bool → Bool → Bool
same a b = (a && b) || (not a && not b)

-- whether the right places, of the first eight, are those of a number's bits: `place` and `either_place` of Names
places_are : ℕ → (ℕ → Bool) → Bool
places_are bits right = all (λ i. same (right i) (eqb ((bits / place i) % 2) 1)) (range 0 8)

holds : Runs → Runs → List ℕ → Bool
holds before after xs =
    let r : Result = result_of (arg 4 xs) (drop 5 xs) (words_of before) (counts_in (run counts before)) (take (arg 0 xs) (run answer_area before)) in
    eqb r.number (arg 1 xs) && places_are (arg 2 xs) r.place && eqb r.length (arg 3 xs)
    && agree (agree eqb) (runs_of r) (on_run answer_area (take (arg 0 xs)) after)

-- Lines, one after another

-- the runs as they are kept, as the next call finds them, as it should leave them; the lines so far, and those that are wrong
pub record State : Type 0 where
  pub line : ℕ
  pub kept : Runs
  pub before : Runs
  pub after : Runs
  pub wrong : List ℕ

state_of : Runs → State
state_of rs = record { line = 0; kept = rs; before = rs; after = rs; wrong = [] }

-- no run has any word
pub start : State
start = state_of (replicate (suc answer_area) [])

on_kept : State → ℕ → (List ℕ → List ℕ) → State
on_kept S i f =
    let new : Runs = on_run i f S.kept in
    record { line = suc S.line; kept = new; before = new; after = new; wrong = S.wrong }

on_found : State → ℕ → (List ℕ → List ℕ) → State
on_found S i f = record { line = suc S.line; kept = S.kept; before = on_run i f S.before; after = on_run i f S.after; wrong = S.wrong }

on_left : State → ℕ → (List ℕ → List ℕ) → State
on_left S i f = record { line = suc S.line; kept = S.kept; before = S.before; after = on_run i f S.after; wrong = S.wrong }

judge : State → Runs → List ℕ → State
judge S new xs =
    let wrong : List ℕ = cond (holds S.before S.after xs) S.wrong (S.line ∷ S.wrong) in
    record { line = suc S.line; kept = new; before = new; after = new; wrong = wrong }

next : State → List ℕ → State
next S [] = S
next S (tag ∷ xs) =
    cond (eqb tag lend) (on_kept S (arg 0 xs) (λ r. replicate (word_of (arg 0 xs) (arg 1 xs) (arg 2 xs)) (arg 3 xs)))
    (cond (eqb tag finds_field) (on_found S (arg 0 xs) (write (word_of (arg 0 xs) (arg 1 xs) (arg 2 xs)) (drop 3 xs)))
    (cond (eqb tag finds_only) (on_found S (arg 0 xs) (take (word_of (arg 0 xs) (arg 1 xs) (arg 2 xs))))
    (cond (eqb tag leaves_field) (on_left S (arg 0 xs) (write (word_of (arg 0 xs) (arg 1 xs) (arg 2 xs)) (drop 3 xs)))
    (cond (eqb tag leaves) (on_left S (arg 0 xs) (write (word_of (arg 0 xs) (arg 1 xs) 0) (filled (record_size (arg 0 xs)) (drop 2 xs))))
    (cond (eqb tag call) (judge S S.kept xs)
    (judge S S.after xs))))))

unfoldable pub after : State → List (List ℕ) → State
unfolding passes lookup perform_lookup path uuid_text run on_run write record_size word_of words_of counts_in runs_of arg filled name_places scalar_of table_of commit_of query_of gives part_of result_of same places_are holds state_of start on_kept on_found on_left judge next
after S [] = S
after S (x ∷ xs) = after (next S x) xs

-- the lines that are wrong, of a list that begins where another ends
unfoldable pub wrong : State → List (List ℕ) → List ℕ
unfolding after
wrong S xs = (after (state_of S.kept) xs).wrong
