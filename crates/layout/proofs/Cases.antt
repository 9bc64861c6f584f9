-- The lent tables by computation: limits, the words of each record, names, types, what fits and what is stored, at both sides of each edge.
use Prim.Native.Nat.{ℕ, ◌-◌, ◌^◌}
use mathlib.Core.Path.{◌≡◌, refl}
use mathlib.Core.Bool.{Bool, true, not, ◌&&◌}
use mathlib.Core.List.{List, [], ◌∷◌, ◌++◌, map, flat_map}
use lib.Dec.{eqb}
use lib.IntN.{ℤ, pos, negsuc}
use lib.ListN.{length, replicate, take}
use Rattle.lists.specs.Lists.{range, all, any, agree, sum}
use Rattle.lists.specs.Runs.{replace_by}
use Rattle.layout.specs.declared.outcome.Counts.{Counts}
use Rattle.layout.specs.Catalog.{absent, number_limit, record_count_limit, column_limit, Catalog}
use Rattle.layout.specs.Records.{uuid_of, snapshot_words, schema_words, table_words, column_words, data_file_words, delete_file_words, statistics_words, scheduled_words}
use Rattle.layout.specs.Names.{name_size, name_at, is_name_byte, named_then_zero, is_name, is_name_argument, padded, same_name}
use Rattle.layout.specs.Types.{signed, types, is_type, in_type}
use Rattle.layout.specs.Words.{Words, table_limit, position_limit, snapshot_at, schema_at, table_at, column_at, data_file_at, delete_file_at, statistics_at, scheduled_at, positions_before, store, counts_of, capacity, within, fits}

limits : ◌≡◌ {A = List ℕ} (absent ∷ number_limit ∷ record_count_limit ∷ column_limit ∷ table_limit ∷ position_limit ∷ name_size ∷ [])
    (18446744073709551615 ∷ 4611686018427387904 ∷ 1048576 ∷ 16 ∷ 4096 ∷ 65536 ∷ 32 ∷ [])
limits = refl

-- a run whose words are their own places, and names whose bytes are
counted : List ℕ
counted = range 0 80

-- the fields of the second record of each table, "in this order"
fields : List (List ℕ)
fields =
    (let r = snapshot_at counted 1 in r.id ∷ r.time ∷ r.schema_version ∷ r.next_catalog_id ∷ r.next_file_id ∷ r.kind ∷ r.object ∷ [])
    ∷ (let r = schema_at counted counted 1 in r.id ∷ r.begin ∷ r.end ∷ take 2 r.body.name)
    ∷ (let r = table_at counted counted 1 in r.id ∷ r.begin ∷ r.end ∷ r.body.schema ∷ r.body.next_row_id ∷ take 2 r.body.name)
    ∷ (let r = column_at counted counted 1 in
    r.id ∷ r.body.table ∷ r.begin ∷ r.end ∷ r.body.order ∷ r.body.type_code ∷ r.body.nulls_allowed ∷ take 2 r.body.name)
    ∷ (let r = data_file_at counted 1 in
    r.id ∷ r.body.table ∷ r.begin ∷ r.end ∷ r.body.record_count ∷ r.body.row_id_start ∷ r.body.uuid.high ∷ r.body.uuid.low ∷ [])
    ∷ (let r = delete_file_at counted counted 1 in
    r.id ∷ r.body.table ∷ r.begin ∷ r.end ∷ r.body.data_file ∷ r.body.uuid.high ∷ r.body.uuid.low ∷ r.body.positions)
    ∷ (let r = statistics_at counted 1 in r.data_file ∷ r.column ∷ r.null_count ∷ r.has_min ∷ r.has_max ∷ r.min ∷ r.max ∷ [])
    ∷ (let r = scheduled_at counted 1 in r.file ∷ r.uuid.high ∷ r.uuid.low ∷ r.start ∷ [])
    ∷ []

fields_read : agree (agree eqb) fields
    ((7 ∷ 8 ∷ 9 ∷ 10 ∷ 11 ∷ 12 ∷ 13 ∷ [])
    ∷ (3 ∷ 4 ∷ 5 ∷ 32 ∷ 33 ∷ [])
    ∷ (5 ∷ 6 ∷ 7 ∷ 8 ∷ 9 ∷ 32 ∷ 33 ∷ [])
    ∷ (7 ∷ 8 ∷ 9 ∷ 10 ∷ 11 ∷ 12 ∷ 13 ∷ 32 ∷ 33 ∷ [])
    ∷ (8 ∷ 9 ∷ 10 ∷ 11 ∷ 12 ∷ 13 ∷ 14 ∷ 15 ∷ [])
    -- the delete count of the first record is 5, that of the second 13: positions 5 to 17
    ∷ (8 ∷ 9 ∷ 10 ∷ 11 ∷ 12 ∷ 14 ∷ 15 ∷ 5 ∷ 6 ∷ 7 ∷ 8 ∷ 9 ∷ 10 ∷ 11 ∷ 12 ∷ 13 ∷ 14 ∷ 15 ∷ 16 ∷ 17 ∷ [])
    ∷ (7 ∷ 8 ∷ 9 ∷ 10 ∷ 11 ∷ 12 ∷ 13 ∷ [])
    ∷ (4 ∷ 5 ∷ 6 ∷ 7 ∷ [])
    ∷ []) ≡ true
unfolding counted fields range agree positions_before
fields_read = refl

-- Names

-- "ASCII letters, digits or underscores": the bytes at either end of each kind, and those beside them
name_bytes : (all is_name_byte (48 ∷ 57 ∷ 65 ∷ 90 ∷ 95 ∷ 97 ∷ 122 ∷ []) && all (λ b. not (is_name_byte b)) (0 ∷ 47 ∷ 58 ∷ 64 ∷ 91 ∷ 94 ∷ 96 ∷ 123 ∷ 255 ∷ [])) ≡ true
unfolding all
name_bytes = refl

a : ℕ → List ℕ
a n = replicate n 97

-- "1 to 32 ASCII letters, digits or underscores", "filled with zero bytes"
names : (all is_name (padded (a 1) ∷ padded (a 31) ∷ a 32 ∷ []) && all (λ p. not (is_name p)) (replicate 32 0 ∷ a 31 ∷ a 33 ∷ (97 ∷ 0 ∷ a 30) ∷ (a 31 ++ (45 ∷ []))
    ∷ (0 ∷ a 31) ∷ [])
    && all is_name_argument (a 1 ∷ a 32 ∷ []) && all (λ p. not (is_name_argument p)) ([] ∷ a 33 ∷ (97 ∷ 0 ∷ []) ∷ (97 ∷ 45 ∷ []) ∷ [])
    && eqb (length (padded (a 3))) 32 && same_name (name_at (replicate 32 0 ++ padded (a 2)) 1) (97 ∷ 97 ∷ replicate 30 0)
    && not (same_name (a 3) (a 4)) && not (same_name (a 3) (97 ∷ 97 ∷ 98 ∷ []))) ≡ true
unfolding a all agree named_then_zero is_name is_name_argument padded same_name
names = refl

-- Types

signed_words : ◌≡◌ {A = List ℤ} (map signed (0 ∷ (2 ^ 63 - 1) ∷ (2 ^ 63) ∷ (2 ^ 64 - 1) ∷ []))
    (pos 0 ∷ pos 9223372036854775807 ∷ negsuc 9223372036854775807 ∷ negsuc 0 ∷ [])
signed_words = refl

-- each type's lowest and highest value, and one past either
type_ranges_lem : (all is_type (range 1 8) && not (is_type 0) && not (is_type 9)
    && in_type 1 (negsuc 127) && in_type 1 (pos 127) && not (in_type 1 (negsuc 128)) && not (in_type 1 (pos 128))
    && in_type 2 (negsuc 32767) && in_type 2 (pos 32767) && not (in_type 2 (negsuc 32768)) && not (in_type 2 (pos 32768))
    && in_type 3 (negsuc (2 ^ 31 - 1)) && in_type 3 (pos (2 ^ 31 - 1)) && not (in_type 3 (negsuc (2 ^ 31))) && not (in_type 3 (pos (2 ^ 31)))
    && in_type 4 (negsuc (2 ^ 63 - 1)) && in_type 4 (pos (2 ^ 63 - 1))
    && in_type 5 (pos 0) && in_type 5 (pos 255) && not (in_type 5 (negsuc 0)) && not (in_type 5 (pos 256))
    && in_type 6 (pos 0) && in_type 6 (pos 65535) && not (in_type 6 (negsuc 0)) && not (in_type 6 (pos 65536))
    && in_type 7 (pos 0) && in_type 7 (pos (2 ^ 32 - 1)) && not (in_type 7 (negsuc 0)) && not (in_type 7 (pos (2 ^ 32)))
    && in_type 8 (pos 0) && in_type 8 (pos 1) && not (in_type 8 (negsuc 0)) && not (in_type 8 (pos 2))
    && not (in_type 0 (pos 0)) && not (in_type 9 (pos 0))) ≡ true
unfolding range all any types is_type in_type
type_ranges_lem = refl

-- What fits, and what is stored

counts_as : List ℕ → Counts → Bool
counts_as ns c =
    agree eqb ns
    (c.snapshots ∷ c.schemas ∷ c.tables ∷ c.columns ∷ c.data_files ∷ c.delete_files ∷ c.positions ∷ c.statistics ∷ c.scheduled ∷ [])

counts : ℕ → ℕ → ℕ → ℕ → ℕ → ℕ → ℕ → ℕ → ℕ → Counts
counts n s t c f d p x k = record {
  snapshots = n;
  schemas = s;
  tables = t;
  columns = c;
  data_files = f;
  delete_files = d;
  positions = p;
  statistics = x;
  scheduled = k;
}

-- runs of several lengths: ragged ones, names that hold fewer than the words, words that hold fewer than the names
lent : Words
lent = record {
  snapshots = replicate 20 9;
  schemas = replicate 9 9;
  schema_names = replicate 95 9;
  tables = replicate 14 9;
  table_names = replicate 96 9;
  columns = replicate 21 9;
  column_names = replicate 64 9;
  data_files = replicate 23 9;
  delete_files = replicate 24 9;
  positions = replicate 5 9;
  statistics = replicate 14 9;
  scheduled = replicate 7 9;
}

-- the whole records lent, and no more than the limits allow
capacities : (counts_as (2 ∷ 2 ∷ 2 ∷ 2 ∷ 2 ∷ 3 ∷ 5 ∷ 2 ∷ 1 ∷ []) (capacity lent)
    && counts_as (4096 ∷ 0 ∷ 0 ∷ 0 ∷ 0 ∷ 0 ∷ 65536 ∷ 0 ∷ 0 ∷ []) (capacity (record {
      snapshots = replicate 28679 0;
      schemas = [];
      schema_names = [];
      tables = [];
      table_names = [];
      columns = [];
      column_names = [];
      data_files = [];
      delete_files = [];
      positions = replicate 65537 0;
      statistics = [];
      scheduled = [];
    }))) ≡ true
unfolding counts_as lent capacity agree
capacities = refl

one : Counts
one = counts 1 1 1 1 1 1 1 1 1

-- each count at most the other's
withins : (within one one && all (λ c. not (within c one)) (counts 2 1 1 1 1 1 1 1 1 ∷ counts 1 2 1 1 1 1 1 1 1 ∷ counts 1 1 2 1 1 1 1 1 1 ∷ counts 1 1 1 2 1 1 1 1 1
    ∷ counts 1 1 1 1 2 1 1 1 1 ∷ counts 1 1 1 1 1 2 1 1 1 ∷ counts 1 1 1 1 1 1 2 1 1 ∷ counts 1 1 1 1 1 1 1 2 1 ∷ counts 1 1 1 1 1 1 1 1 2 ∷ [])) ≡ true
unfolding counts one within all
withins = refl

-- a record of each kind, and two delete files
catalog : Catalog
catalog = record {
  snapshots = record { id = 1; time = 2; schema_version = 3; next_catalog_id = 4; next_file_id = 5; kind = 6; object = 7 } ∷ [];
  schemas = record { id = 11; begin = 12; end = 13; body = record { name = padded (115 ∷ []) } } ∷ [];
  tables = record { id = 21; begin = 22; end = 23; body = record { schema = 24; next_row_id = 25; name = padded (116 ∷ []) } } ∷ [];
  columns = record { id = 31; begin = 33; end = 34; body = record { table = 32; order = 35; type_code = 36; nulls_allowed = 37; name = padded (99 ∷ []) } } ∷ [];
  data_files = record { id = 41; begin = 43; end = 44; body = record { table = 42; record_count = 45; row_id_start = 46; uuid = uuid_of 47 48 } } ∷ [];
  delete_files = record { id = 51; begin = 53; end = 54; body = record { table = 52; data_file = 55; positions = 1 ∷ []; uuid = uuid_of 57 58 } }
      ∷ record { id = 61; begin = 63; end = 64; body = record { table = 62; data_file = 65; positions = 2 ∷ 3 ∷ []; uuid = uuid_of 67 68 } } ∷ [];
  statistics = record { data_file = 71; column = 72; null_count = 73; has_min = 74; has_max = 75; min = 76; max = 77 } ∷ [];
  scheduled = record { file = 81; uuid = uuid_of 82 83; start = 84 } ∷ [];
}

-- stored where two records of each kind were in use, three delete files and four positions: what it frees is 0, what lies past that is as it was
stored : Words
stored = store lent (counts 2 2 2 2 2 3 4 2 1) catalog

stored_words : (agree (agree eqb)
    (stored.snapshots ∷ stored.schemas ∷ stored.tables ∷ stored.columns ∷ stored.data_files ∷ stored.delete_files ∷ stored.positions ∷ stored.statistics
    ∷ stored.scheduled ∷ stored.schema_names ∷ stored.table_names ∷ stored.column_names ∷ [])
    ((range 1 7 ++ replicate 7 0 ++ replicate 6 9)
    ∷ (range 11 3 ++ replicate 3 0 ++ replicate 3 9)
    ∷ (range 21 5 ++ replicate 5 0 ++ replicate 4 9)
    ∷ (range 31 7 ++ replicate 7 0 ++ replicate 7 9)
    ∷ (range 41 8 ++ replicate 8 0 ++ replicate 7 9)
    ∷ (51 ∷ 52 ∷ 53 ∷ 54 ∷ 55 ∷ 1 ∷ 57 ∷ 58 ∷ 61 ∷ 62 ∷ 63 ∷ 64 ∷ 65 ∷ 2 ∷ 67 ∷ 68 ∷ replicate 8 0)
    ∷ (1 ∷ 2 ∷ 3 ∷ 0 ∷ 9 ∷ [])
    ∷ (range 71 7 ++ replicate 7 0)
    ∷ (range 81 4 ++ replicate 3 9)
    ∷ (115 ∷ replicate 63 0 ++ replicate 31 9)
    ∷ (116 ∷ replicate 63 0 ++ replicate 32 9)
    ∷ (99 ∷ replicate 63 0)
    ∷ [])
    && counts_as (1 ∷ 1 ∷ 1 ∷ 1 ∷ 1 ∷ 2 ∷ 3 ∷ 1 ∷ 1 ∷ []) (counts_of catalog)) ≡ true
unfolding flat_map counts counts_as lent catalog stored store counts_of padded range agree sum replace_by snapshot_words schema_words table_words column_words data_file_words delete_file_words statistics_words scheduled_words
stored_words = refl

-- "the counts add up to the used positions": one more and one fewer do not fit
stored_fits : (fits stored (counts_of catalog) && not (fits stored (counts 1 1 1 1 1 2 4 1 1)) && not (fits stored (counts 1 1 1 1 1 2 2 1 1))
    && not (fits stored (counts 3 1 1 1 1 2 3 1 1))) ≡ true
unfolding flat_map counts lent catalog stored store counts_of capacity within fits padded range sum replace_by positions_before snapshot_words schema_words table_words column_words data_file_words delete_file_words statistics_words scheduled_words
stored_fits = refl
