-- The names that cases are written with, each a number or a list of words: what a line is, the runs, the calls, types,
-- words that stand for something else. Fields, limits, kinds of change and refusals have theirs where they are defined.
-- Lines says what a line means. A program that plays the cases reads these definitions as they stand.
use Prim.Native.Nat.{ℕ, ◌+◌, ◌-◌, ◌^◌}
use Prim.Native.Char.{Char, code}
use Prim.Native.String.{String, [] as no_text, ◌∷◌ as ◌then◌}
use mathlib.Core.List.{List, [], ◌∷◌, ◌++◌}
use lib.ListN.{length, replicate}

-- What a line is

abbrev pub lend : ℕ
lend = 0

abbrev pub finds_field : ℕ
finds_field = 1

abbrev pub finds_only : ℕ
finds_only = 2

abbrev pub leaves_field : ℕ
leaves_field = 3

abbrev pub leaves : ℕ
leaves = 4

abbrev pub call : ℕ
call = 5

abbrev pub call_kept : ℕ
call_kept = 6

-- The runs; the used count of one of the first nine has its number among the counts

abbrev pub snapshots : ℕ
snapshots = 0

abbrev pub schemas : ℕ
schemas = 1

abbrev pub tables : ℕ
tables = 2

abbrev pub columns : ℕ
columns = 3

abbrev pub data_files : ℕ
data_files = 4

abbrev pub delete_files : ℕ
delete_files = 5

abbrev pub positions : ℕ
positions = 6

abbrev pub statistics : ℕ
statistics = 7

abbrev pub scheduled : ℕ
scheduled = 8

abbrev pub counts : ℕ
counts = 9

abbrev pub schema_names : ℕ
schema_names = 10

abbrev pub table_names : ℕ
table_names = 11

abbrev pub column_names : ℕ
column_names = 12

abbrev pub answer_area : ℕ
answer_area = 13

-- The calls: Fresh; the commits, with the numbers of the kinds of change that they make; expiry and cleanup; the
-- readings at a snapshot; the snapshot by time; the file lookup, as a copy and as a part; the path of a file

abbrev pub fresh : ℕ
fresh = 0

abbrev pub create_schema : ℕ
create_schema = 1

abbrev pub create_table : ℕ
create_table = 2

abbrev pub insert : ℕ
insert = 3

abbrev pub delete : ℕ
delete = 4

abbrev pub drop_schema : ℕ
drop_schema = 6

abbrev pub drop_table : ℕ
drop_table = 7

abbrev pub expire : ℕ
expire = 8

abbrev pub cleanup : ℕ
cleanup = 9

abbrev pub list_schemas : ℕ
list_schemas = 10

abbrev pub list_tables : ℕ
list_tables = 11

abbrev pub list_columns : ℕ
list_columns = 12

abbrev pub table_by_name : ℕ
table_by_name = 13

abbrev pub list_files : ℕ
list_files = 14

abbrev pub list_filtered_files : ℕ
list_filtered_files = 15

abbrev pub list_rows : ℕ
list_rows = 16

abbrev pub snapshot_by_time : ℕ
snapshot_by_time = 17

abbrev pub copy_file : ℕ
copy_file = 18

abbrev pub find_file : ℕ
find_file = 19

abbrev pub path_of_file : ℕ
path_of_file = 20

-- Numbers that say what they count: the record of a run; the byte of a name; so many records; so many words; the word
-- that each of them is; the words of the answer area that a call is given

abbrev pub at : ℕ → ℕ
at n = n

abbrev pub byte : ℕ → ℕ
byte n = n

abbrev pub records : ℕ → ℕ
records n = n

abbrev pub words : ℕ → ℕ
words n = n

abbrev pub each : ℕ → ℕ
each n = n

abbrev pub area : ℕ → ℕ
area n = n

-- the word of a position, of a used count, of a word of the answer area: each is a record of one word
abbrev pub only_word : ℕ
only_word = 0

-- The place that an outcome gives, or two of which either is right: a bit for each right place, as Lines reads them

abbrev pub place : ℕ → ℕ
place i = 2 ^ i

abbrev pub either_place : ℕ → ℕ → ℕ
either_place i j = place i + place j

-- "Types, each with its lowest and highest value: 1 int8, 2 int16, 3 int32, 4 int64, 5 uint8, 6 uint16, 7 uint32,
-- 8 boolean (0 to 1)."

abbrev pub int8 : ℕ
int8 = 1

abbrev pub int16 : ℕ
int16 = 2

abbrev pub int32 : ℕ
int32 = 3

abbrev pub int64 : ℕ
int64 = 4

abbrev pub uint8 : ℕ
uint8 = 5

abbrev pub uint16 : ℕ
uint16 = 6

abbrev pub uint32 : ℕ
uint32 = 7

abbrev pub boolean : ℕ
boolean = 8

-- "signed 64-bit (two's complement)": the word of −n
abbrev pub minus : ℕ → ℕ
minus n = 2 ^ 64 - n

-- the word of ABSENT where it is a plain value
abbrev pub highest_word : ℕ
highest_word = 2 ^ 64 - 1

-- Lists of words

-- "Places that a call frees become 0": what a record that is left has no words for is 0
abbrev pub freed : List ℕ
freed = []

-- the bytes of a text in ASCII
abbrev pub bytes : String → List ℕ
bytes no_text = []
bytes (c then s) = code c ∷ bytes s

-- so many times the same byte
abbrev pub repeated : ℕ → Char → List ℕ
repeated n c = replicate n (code c)

-- words after their number
abbrev pub counted : List ℕ → List ℕ
counted xs = length xs ∷ xs

-- a name after its length
abbrev pub name : String → List ℕ
name s = counted (bytes s)

-- each name after its length
abbrev pub name_each : List String → List ℕ
name_each [] = []
name_each (s ∷ ss) = name s ++ name_each ss

-- names after their number
abbrev pub names : List String → List ℕ
names ss = length ss ∷ name_each ss

-- The statistics of a column, so many of its rows null: with both bounds, with the lower or the upper alone, with none

abbrev pub bounded : ℕ → ℕ → ℕ → ℕ → List ℕ
bounded column nulls min max = column ∷ nulls ∷ 1 ∷ 1 ∷ min ∷ max ∷ []

abbrev pub bounded_below : ℕ → ℕ → ℕ → List ℕ
bounded_below column nulls min = column ∷ nulls ∷ 1 ∷ 0 ∷ min ∷ 0 ∷ []

abbrev pub bounded_above : ℕ → ℕ → ℕ → List ℕ
bounded_above column nulls max = column ∷ nulls ∷ 0 ∷ 1 ∷ 0 ∷ max ∷ []

abbrev pub unbounded : ℕ → ℕ → List ℕ
unbounded column nulls = column ∷ nulls ∷ 0 ∷ 0 ∷ 0 ∷ 0 ∷ []
