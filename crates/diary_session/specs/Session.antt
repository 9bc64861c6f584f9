-- Document 01, 'The diary session', up to time 150: its calls, and what they come to on lent tables.
use Rattle.std.specs.Prelude.{ℕ, List, [], ◌∷◌, ◌++◌}
use Rattle.layout.specs.declared.outcome.Counts.{Counts}
use Rattle.layout.specs.Names.{padded}
use Rattle.layout.specs.Records.{uuid_of}
use Rattle.layout.specs.Words.{Words}
use Rattle.ducklake.specs.Commits.{create_table, insert, delete}
use Rattle.ducklake.specs.Calls.{Call, commit_at, at_time, Result, perform, perform_fresh}

-- "Fresh at time 100."
abbrev pub fresh_time : ℕ
fresh_time = 100

-- "110: table `diary` in schema 0, `item` int64 without nulls, `price` int64 with."

abbrev pub diary_name : List ℕ
diary_name = 100 ∷ 105 ∷ 97 ∷ 114 ∷ 121 ∷ []

abbrev pub item_name : List ℕ
item_name = 105 ∷ 116 ∷ 101 ∷ 109 ∷ []

abbrev pub price_name : List ℕ
price_name = 112 ∷ 114 ∷ 105 ∷ 99 ∷ 101 ∷ []

abbrev pub int64 : ℕ
int64 = 4

abbrev pub without_nulls : ℕ
without_nulls = 0

abbrev pub with_nulls : ℕ
with_nulls = 1

abbrev pub create_diary : Call
create_diary =
    commit_at (at_time 110) (create_table 0 diary_name (int64 ∷ without_nulls ∷ int64 ∷ with_nulls ∷ []) (padded item_name ++ padded price_name))

-- the table's id, and those of its columns

abbrev pub diary : ℕ
diary = 1

abbrev pub item : ℕ
item = 1

abbrev pub price : ℕ
price = 2

-- the statistics of a column with so many nulls and both bounds
abbrev pub bounded : ℕ → ℕ → ℕ → ℕ → List ℕ
bounded column nulls min max = column ∷ nulls ∷ 1 ∷ 1 ∷ min ∷ max ∷ []

-- "120: 3 rows, item 1 to 3, price 9 to 14, no nulls. 130: 2 rows, item 4 to 5, price 20 to 20, one null."; "UUIDs: high 0; low 1, 2, 3, 4."

abbrev pub insert_three : Call
insert_three = commit_at (at_time 120) (insert diary 3 (uuid_of 0 1) (bounded item 0 1 3 ++ bounded price 0 9 14))

abbrev pub insert_two : Call
insert_two = commit_at (at_time 130) (insert diary 2 (uuid_of 0 2) (bounded item 0 4 5 ++ bounded price 1 20 20))

-- "140: delete position 1 of file 0. 150: delete position 0 of file 0."

abbrev pub delete_one : Call
delete_one = commit_at (at_time 140) (delete 0 (uuid_of 0 3) (1 ∷ []))

abbrev pub delete_zero : Call
delete_zero = commit_at (at_time 150) (delete 0 (uuid_of 0 4) (0 ∷ []))

-- a call on the tables, the counts and the area that the one before left
abbrev pub after : Result → Call → Result
after r k = perform k r.words r.counts r.area

-- calls one after another
abbrev pub after_all : Result → List Call → Result
after_all r [] = r
after_all r (k ∷ ks) = after_all (after r k) ks

-- its first three calls, and the other three on what those left
unfoldable pub begun : Words → Counts → List ℕ → Result
begun w c area = after_all (perform_fresh fresh_time w c area) (create_diary ∷ insert_three ∷ [])

unfoldable pub ended : Words → Counts → List ℕ → Result
ended w c area = after_all (perform insert_two w c area) (delete_one ∷ delete_zero ∷ [])

-- "plays this up to time 150": what the last call gives and leaves
unfoldable pub played : Words → Counts → List ℕ → Result
played w c area = let r : Result = begun w c area in ended r.words r.counts r.area
