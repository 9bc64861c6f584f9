-- The diary session through the states of demand 3, by computation: what the calls alone tell is what document 01 says of them.
use Prim.Native.Nat.{ℕ, ◌*◌}
use mathlib.Core.Path.{◌≡◌, refl}
use mathlib.Core.List.{List, [], ◌∷◌, map}
use mathlib.Core.Bool.{Bool, true, not, ◌&&◌}
use lib.Dec.{eqb}
use lib.ListN.{replicate}
use Rattle.lists.specs.Lists.{agree}
use Rattle.layout.specs.Fields.{snapshot_size, schema_size, table_size, column_size, data_file_size, delete_file_size, statistics_size, scheduled_size}
use Rattle.layout.specs.Records.{uuid_of}
use Rattle.layout.specs.Names.{name_size, padded}
use Rattle.layout.specs.Words.{Words}
use Rattle.ducklake.specs.Calls.{Call, commit_at, at_time, expire_snapshots, clean_up, no_counts}
use Rattle.ducklake.specs.Commits.{create_table, insert, drop_table}
use Rattle.ducklake.specs.Journal.{empty_journal, journaled}
use Rattle.ducklake.specs.Claim.{Step, State, is_retained, reading_of, is_listed, fallen_between, run, step, fresh_state, when_made}
use Rattle.ducklake.proofs.cases.Names.{int64, bytes, unbounded}
use Rattle.ducklake.proofs.cases.Sessions.{passes}
use Rattle.ducklake.proofs.cases.Diary.{area, to_end}

steps : List Call → List Step
steps = map (λ k. record { call = k; area = area })

lent : Words
lent = record {
  snapshots = replicate (snapshot_size * 7) 0;
  schemas = replicate schema_size 0;
  schema_names = replicate name_size 0;
  tables = replicate table_size 0;
  table_names = replicate name_size 0;
  columns = replicate (column_size * 2) 0;
  column_names = replicate (name_size * 2) 0;
  data_files = replicate (data_file_size * 2) 0;
  delete_files = replicate (delete_file_size * 2) 0;
  positions = replicate 3 0;
  statistics = replicate (statistics_size * 4) 0;
  scheduled = replicate (scheduled_size * 3) 0;
}

start : State
start = fresh_state 100 lent no_counts area

-- after the whole session
end : State
end = run start (steps to_end)

rows_on : State → ℕ → List ℕ → Bool
rows_on S s rows = (S.journal.page s 1).present && agree eqb (S.journal.page s 1).rows rows

-- the pages of the row journal are the rows of the marked cases; table 1 is on page 5 and not on page 6; the next ids
pages : (rows_on end 2 (0 ∷ 1 ∷ 2 ∷ []) && rows_on end 3 (0 ∷ 1 ∷ 2 ∷ 3 ∷ 4 ∷ []) && rows_on end 4 (0 ∷ 2 ∷ 3 ∷ 4 ∷ []) && rows_on end 5 (2 ∷ 3 ∷ 4 ∷ [])
    && not (end.journal.page 6 1).present && not (end.journal.page 0 1).present
    && eqb end.journal.latest 6 && eqb end.journal.next_catalog_id 2 && eqb end.journal.next_file_id 4) ≡ true
unfolding passes lent area to_end steps start end rows_on step fresh_state empty_journal journaled
pages = refl

-- snapshot 6 alone is retained, and file 2 alone was handed out
told : (is_retained end 6 && not (is_retained end 5) && not (is_retained end 0) && not (is_retained end 7) && agree eqb end.handed (2 ∷ [])) ≡ true
unfolding passes lent area to_end steps start end step fresh_state empty_journal journaled
told = refl

-- snapshot 3 was made by the second insert: straight after it two files are registered, and there is no page 4
made : (eqb (when_made start (steps to_end) 3).journal.latest 3 && eqb (when_made start (steps to_end) 3).journal.next_file_id 2) ≡ true
unfolding passes lent area to_end steps start step fresh_state empty_journal journaled
made = refl

-- a table with one file, dropped; then every snapshot that lists the file expires at 7, and a cleanup hands it out
short : List Call
short =
    commit_at (at_time 101) (create_table 0 (bytes "t") (int64 ∷ 0 ∷ []) (padded (bytes "t")))
    ∷ commit_at (at_time 102) (insert 1 1 (uuid_of 0 1) (unbounded 1 0))
    ∷ commit_at (at_time 103) (drop_table 1)
    ∷ []

shown : State
shown = run start (steps short)

expired : State
expired = step shown (record { call = expire_snapshots (1 ∷ 2 ∷ []) 7; area = [] })

cleaned : State
cleaned = step expired (record { call = clean_up 8; area = area })

-- it is listed while snapshot 2 is retained, dropped or not; then it has fallen, with the expiry's time; then it is handed out
fell : (is_listed shown 0 && not (is_listed expired 0) && agree eqb (map (λ x. x.file) expired.fallen) (0 ∷ []) && agree eqb (map (λ x. x.time) expired.fallen) (7 ∷ [])
    && agree eqb (map (λ x. x.file) cleaned.fallen) [] && agree eqb expired.handed [] && agree eqb cleaned.handed (0 ∷ [])) ≡ true
unfolding passes lent area steps start short shown expired cleaned step fresh_state empty_journal journaled fallen_between is_listed reading_of
fell = refl
