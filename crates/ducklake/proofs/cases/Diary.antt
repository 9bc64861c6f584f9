-- Document 01's diary session: the marked cases, by computation, on tables lent with room to spare and filled with other words before Fresh.
use Prim.Native.Nat.{ℕ, ◌+◌, ◌*◌}
use mathlib.Core.Path.{◌≡◌, refl}
use mathlib.Core.List.{List, [], ◌∷◌, ◌++◌}
use mathlib.Core.Bool.{true}
use lib.IntN.{pos}
use lib.ListN.{replicate}
use Rattle.lists.specs.Lists.{all}
use Rattle.layout.specs.declared.outcome.Counts.{Counts}
use Rattle.layout.specs.Fields.{snapshot_size, schema_size, table_size, column_size, data_file_size, delete_file_size, statistics_size, scheduled_size}
use Rattle.layout.specs.Records.{uuid_of}
use Rattle.layout.specs.Catalog.{absent}
use Rattle.layout.specs.Names.{name_size, padded}
use Rattle.layout.specs.Words.{Words}
use Rattle.ducklake.specs.Refusals.{accepted}
use Rattle.ducklake.specs.Commits.{create_table, insert, delete, drop_table}
use Rattle.ducklake.specs.Readings.{files, filtered_files, rows}
use Rattle.ducklake.specs.Calls.{Call, commit_at, at_time, expire_snapshots, clean_up, perform_fresh, query_at, by_time}
use Rattle.ducklake.proofs.cases.Names.{int64, bytes, bounded, unbounded}
use Rattle.ducklake.proofs.cases.Sessions.{Case, reads, calls, scheduled, passes, sound_throughout}

-- runs of several lengths, ragged ones among them, that hold what they hold
lent : Words
lent = record {
  snapshots = replicate (snapshot_size * 11 + 3) absent;
  schemas = replicate (schema_size * 6 + 2) 7;
  schema_names = replicate (name_size * 6 + 8) 255;
  tables = replicate (table_size * 4 + 3) 0;
  table_names = replicate (name_size * 3) 65;
  columns = replicate (column_size * 5 + 5) 1;
  column_names = replicate (name_size * 8) 0;
  data_files = replicate (data_file_size * 4) absent;
  delete_files = replicate (delete_file_size * 4 + 7) 3;
  positions = replicate 9 5;
  statistics = replicate (statistics_size * 9 + 1) 2;
  scheduled = replicate (scheduled_size * 4 + 2) absent;
}

-- Fresh ignores these
given : Counts
given = record {
  snapshots = 3;
  schemas = 99;
  tables = 0;
  columns = 5000;
  data_files = 1;
  delete_files = 0;
  positions = 70000;
  statistics = 8;
  scheduled = 1;
}

unfoldable pub area : List ℕ
area = replicate 6 9

-- "110: table `diary` in schema 0, `item` int64 without nulls, `price` int64 with."
create : Call
create =
    commit_at (at_time 110) (create_table 0 (bytes "diary") (int64 ∷ 0 ∷ int64 ∷ 1 ∷ []) (padded (bytes "item") ++ padded (bytes "price")))

-- "120: 3 rows, item 1 to 3, price 9 to 14, no nulls. 130: 2 rows, item 4 to 5, price 20 to 20, one null."
insert_three : Call
insert_three = commit_at (at_time 120) (insert 1 3 (uuid_of 0 1) (bounded 1 0 1 3 ++ bounded 2 0 9 14))

insert_two : Call
insert_two = commit_at (at_time 130) (insert 1 2 (uuid_of 0 2) (bounded 1 0 4 5 ++ bounded 2 1 20 20))

-- "140: delete position 1 of file 0. 150: delete position 0 of file 0."
delete_one : Call
delete_one = commit_at (at_time 140) (delete 0 (uuid_of 0 3) (1 ∷ []))

delete_zero : Call
delete_zero = commit_at (at_time 150) (delete 0 (uuid_of 0 4) (0 ∷ []))

to150 : List Call
to150 = create ∷ insert_three ∷ insert_two ∷ delete_one ∷ delete_zero ∷ []

to160 : List Call
to160 = to150 ++ (expire_snapshots (4 ∷ []) 160 ∷ [])

-- "Drop at 170 is snapshot 6"
unfoldable pub to_end : List Call
unfolding create insert_three insert_two delete_one delete_zero to150 to160
to_end =
    to160 ++ (clean_up 160 ∷ clean_up 161 ∷ commit_at (at_time 170) (drop_table 1) ∷ expire_snapshots (0 ∷ 1 ∷ 2 ∷ 3 ∷ 5 ∷ []) 180 ∷ [])

rows_at : ℕ → List ℕ → Case
rows_at s words = record { session = to150; probe = reads (query_at s (rows 1)); number = accepted; words = words }

price_is : ℕ → List ℕ → Case
price_is price words = record { session = to150; probe = reads (query_at 5 (filtered_files 1 2 (pos price))); number = accepted; words = words }

marked : List Case
marked =
    -- "M rows at 1: none; M 2: 0 1 2; M 3: 0 to 4; M 4: 0 2 3 4; M 5: 2 3 4."
    rows_at 1 []
    ∷ rows_at 2 (0 ∷ 1 ∷ 2 ∷ [])
    ∷ rows_at 3 (0 ∷ 1 ∷ 2 ∷ 3 ∷ 4 ∷ [])
    ∷ rows_at 4 (0 ∷ 2 ∷ 3 ∷ 4 ∷ [])
    ∷ rows_at 5 (2 ∷ 3 ∷ 4 ∷ [])
    -- "M price = 14 at 5: file 0; M 15: none; M 20: file 1."
    ∷ price_is 14 (0 ∷ 3 ∷ [])
    ∷ price_is 15 []
    ∷ price_is 20 (1 ∷ absent ∷ [])
    -- "M by time 119: 1"
    ∷ record { session = to150; probe = reads (by_time 119); number = accepted; words = 1 ∷ [] }
    -- "M expire 4 at 160: delete file 2 is scheduled; M cleanup 160: nothing; M cleanup 161: file 2."
    ∷ record { session = to160; probe = scheduled; number = accepted; words = 2 ∷ 160 ∷ [] }
    ∷ record { session = to160; probe = calls (clean_up 160); number = accepted; words = [] }
    ∷ record { session = to160; probe = calls (clean_up 161); number = accepted; words = 2 ∷ 0 ∷ 3 ∷ [] }
    -- "M expire 0 1 2 3 5 then schedules 0, 1, 3."
    ∷ record { session = to_end; probe = scheduled; number = accepted; words = 0 ∷ 180 ∷ 1 ∷ 180 ∷ 3 ∷ 180 ∷ [] }
    ∷ []

-- "Misreadings seen": cases that tell them apart, where the marked ones don't
misread : List Case
misread =
    -- "Reusing ids after expiry.": a file inserted after the cleanup of file 2 is file 4
    record {
      session = to160 ++ (clean_up 161 ∷ commit_at (at_time 165) (insert 1 1 (uuid_of 0 5) (unbounded 1 0 ++ unbounded 2 1)) ∷ []);
      probe = reads (query_at 6 (files 1));
      number = accepted;
      words = 0 ∷ 3 ∷ 1 ∷ absent ∷ 4 ∷ absent ∷ [];
    }
    -- "Scheduling by end alone, though an older snapshot is retained.": the dropped table's files are still listed at 5
    ∷ record {
      session = to160 ++ (commit_at (at_time 170) (drop_table 1) ∷ expire_snapshots (0 ∷ 1 ∷ 2 ∷ 3 ∷ []) 175 ∷ []);
      probe = scheduled;
      number = accepted;
      words = 2 ∷ 160 ∷ [];
    }
    ∷ []

misread_cases : all (passes 100 lent given area) misread ≡ true
unfolding lent given area create insert_three insert_two delete_one delete_zero to150 to160 misread passes
misread_cases = refl

marked_cases : all (passes 100 lent given area) marked ≡ true
unfolding lent given area create insert_three insert_two delete_one delete_zero to150 to160 to_end rows_at price_is marked passes
marked_cases = refl

-- every call of the session is accepted, and leaves sound tables
session_sound : sound_throughout 100 lent given area (perform_fresh 100 lent given area) to_end ≡ true
unfolding lent given area create insert_three insert_two delete_one delete_zero to150 to160 to_end sound_throughout
session_sound = refl
