-- What a record of a list stands for: its kind says which call or reading, its words and spans are the arguments. Spans name parts of two lent runs, one of
-- words and one of bytes.
use Rattle.std.specs.Prelude.{ℕ, ◌+◌, Bool, not, cond, ◌&&◌, ◌||◌, List, map, leb, eqb, take, drop, None, Option, Some}
use Rattle.lists.specs.Lists.{range, place}
use Rattle.layout.specs.declared.outcome.Counts.{Counts}
use Rattle.layout.specs.declared.outcome.Terms.{Terms}
use Rattle.layout.specs.Types.{signed}
use Rattle.layout.specs.Words.{Words}
use Rattle.ducklake.specs.Kinds.{created_schema, created_table, inserted_into_table, deleted_from_table, dropped_schema, dropped_table, is_kind}
use Rattle.ducklake.specs.Commits.{create_schema, create_table, insert, delete, drop_table, drop_schema}
use Rattle.ducklake.specs.Readings.{Query}
use Rattle.ducklake.specs.Calls.{Call, commit_at, expire_snapshots, clean_up, Result, perform_fresh, query_at, by_time}
use Rattle.ducklake.specs.Observed.{Request, calls, reads, looks_up, perform_request}
use Rattle.call_lists.specs.declared.record.Span.{Span}
use Rattle.call_lists.specs.declared.record.CallRecord.{CallRecord}
use Rattle.call_lists.specs.Records.{call_at}

-- the words or bytes of a span
abbrev pub part : {A : Type 0} → List A → Span → List A
part run span = take span.length (drop span.start run)

-- the terms of a record that is a commit
abbrev pub terms_of : CallRecord → Terms
terms_of r = record { time = r.time }

-- A commit's kind is that of the change that it makes. Expiry, cleanup and Fresh have kinds of their own, and so has each reading.

abbrev pub expired_snapshots : ℕ
expired_snapshots = 100

abbrev pub cleaned_up : ℕ
cleaned_up = 101

abbrev pub made_fresh : ℕ
made_fresh = 102

abbrev pub listed_schemas : ℕ
listed_schemas = 200

abbrev pub listed_tables : ℕ
listed_tables = 201

abbrev pub listed_columns : ℕ
listed_columns = 202

abbrev pub found_table_by_name : ℕ
found_table_by_name = 203

abbrev pub listed_files : ℕ
listed_files = 204

abbrev pub listed_filtered_files : ℕ
listed_filtered_files = 205

abbrev pub listed_rows : ℕ
listed_rows = 206

abbrev pub found_snapshot_by_time : ℕ
found_snapshot_by_time = 207

abbrev pub copied_file : ℕ
copied_file = 208

abbrev between : ℕ → ℕ → ℕ → Bool
between first last kind = leb first kind && leb kind last

abbrev pub is_reading : ℕ → Bool
is_reading = between listed_schemas copied_file

-- every kind but Fresh's
abbrev pub is_request_kind : ℕ → Bool
is_request_kind kind = is_kind kind || between expired_snapshots cleaned_up kind || is_reading kind

-- a call on the tables as they are, or Fresh
pub data Asked : Type 0 where
  fresh : (time : ℕ) → Asked
  asks : Request → Asked

abbrev pub perform_asked : Asked → Words → Counts → List ℕ → Result
perform_asked (fresh time) = perform_fresh time
perform_asked (asks q) = perform_request q

module _ (lists names : List ℕ) (r : CallRecord) where
  abbrev call_of : Call
  call_of =
      cond (eqb r.kind created_schema) (commit_at (terms_of r) (create_schema (part names r.name)))
      (cond (eqb r.kind created_table) (commit_at (terms_of r) (create_table r.catalog.0 (part names r.name) (part lists r.words) (part names r.names)))
      (cond (eqb r.kind inserted_into_table) (commit_at (terms_of r) (insert r.catalog.0 r.record_count r.uuid (part lists r.words)))
      (cond (eqb r.kind deleted_from_table) (commit_at (terms_of r) (delete r.file.0 r.uuid (part lists r.words)))
      (cond (eqb r.kind dropped_schema) (commit_at (terms_of r) (drop_schema r.catalog.0))
      (cond (eqb r.kind dropped_table) (commit_at (terms_of r) (drop_table r.catalog.0))
      (cond (eqb r.kind expired_snapshots) (expire_snapshots (part lists r.words) r.time)
      (clean_up r.time)))))))

module _ (names : List ℕ) (r : CallRecord) where
  abbrev query_of : Query
  query_of =
      cond (eqb r.kind listed_schemas) Query.schemas
      (cond (eqb r.kind listed_tables) (Query.tables r.catalog.0)
      (cond (eqb r.kind listed_columns) (Query.columns r.catalog.0)
      (cond (eqb r.kind found_table_by_name) (Query.table_named r.catalog.0 (part names r.name))
      (cond (eqb r.kind listed_files) (Query.files r.catalog.0)
      (cond (eqb r.kind listed_filtered_files) (Query.filtered_files r.catalog.0 r.column (signed r.scalar))
      (Query.rows r.catalog.0))))))

  -- a reading at a snapshot, one by time, or the lookup
  unfoldable pub question_of : Request
  question_of =
      cond (eqb r.kind found_snapshot_by_time) (reads (by_time r.time))
      (cond (eqb r.kind copied_file) (looks_up r.file.0)
      (reads (query_at r.snapshot.0 query_of)))

module _ (lists names : List ℕ) (r : CallRecord) where
  -- the request that a record is, of those that are one
  unfoldable pub request_of : Request
  request_of = cond (is_reading r.kind) (question_of names r) (calls (call_of lists names r))

  unfoldable pub asked_of : Asked
  asked_of = cond (eqb r.kind made_fresh) (fresh r.time) (asks request_of)

-- a span lies within a run of so many words or bytes
abbrev pub span_fits : ℕ → Span → Bool
span_fits size span = leb (span.start + span.length) size

-- every span does, also one that the call does not take
unfoldable pub spans_fit : ℕ → ℕ → CallRecord → Bool
spans_fit lists_size names_size r = span_fits lists_size r.words && span_fits names_size r.name && span_fits names_size r.names

-- the record at place i asks for something: a call or a reading, or Fresh if it is the first; and its arguments are there
unfoldable pub is_asked : ℕ → ℕ → ℕ → CallRecord → Bool
is_asked lists_size names_size i r = (is_request_kind r.kind || (eqb i 0 && eqb r.kind made_fresh)) && spans_fit lists_size names_size r

-- how many of the first n records come before one that asks for nothing
abbrev pub before : Option ℕ → ℕ → ℕ
before (Some i) n = i
before None n = n

unfoldable pub call_count : List ℕ → ℕ → ℕ → ℕ → ℕ
call_count w lists_size names_size n = before (place not 0 (map (λ i. is_asked lists_size names_size i (call_at w i)) (range 0 n))) n
