-- Names and orders of records that share a live number: how two are compared, and what the comparison relies on.
use Rattle.std.specs.Prelude.{ℕ, ◌+◌, ◌*◌, ◌≤◌, ◌<◌, ◌≡◌, Bool, true, false, not, ◌&&◌, ◌||◌, ltb, eqb, length, Option, None, Some}
use mathlib.Core.List.{List, [], ◌∷◌, ◌++◌, Memᴰ as In}
use Rattle.lists.specs.Runs.{field}
use Rattle.layout.specs.Fields.{column_size, column_table_word, column_order_word, column_begin_word}
use Rattle.layout.specs.Names.{name_size, name_at, is_name, same_name}
use Rattle.ducklake.specs.Soundness.{overlap}
use Rattle.lookup.specs.Versions.{life_at, with_life}
use Rattle.names.specs.NameWords.{name_words}
use Rattle.sorting.specs.Colliding.{same_prefix, digest, hashed, pair_hash}
use Rattle.sorting.specs.Keys.{key_at}
use Rattle.sorting.specs.declared.colliding.Round.TheVariants.{First}

-- keys of names: the group, the words of the name, the begin
abbrev pub name_key_size : ℕ
name_key_size = 6

abbrev pub name_key_begin : ℕ
name_key_begin = 5

-- keys of orders: the table, the order, the begin
abbrev pub order_key_size : ℕ
order_key_size = 3

abbrev pub order_key_begin : ℕ
order_key_begin = 2

-- records of a group share a number: that in the word of the group, or 0 where all are of one group
abbrev pub group_of : Option ℕ → ℕ → List ℕ → ℕ → ℕ
group_of None size run i = 0
group_of (Some word) size run i = field size word run i

abbrev pub is_inside : Option ℕ → ℕ → Bool
is_inside None size = true
is_inside (Some word) size = ltb word size

-- the words that two records may not share while both live: the group and the name. They are hashed where they stand; a key has the begin too

abbrev pub name_words_at : ℕ → Option ℕ → List ℕ → List ℕ → ℕ → List ℕ
name_words_at size group run names i = group_of group size run i ∷ name_words (name_at names i)

abbrev pub name_hash : ℕ → Option ℕ → List ℕ → List ℕ → ℕ → ℕ
name_hash size group run names i = hashed First (digest First 0 (name_words_at size group run names i))

abbrev pub name_key : ℕ → Option ℕ → ℕ → List ℕ → List ℕ → ℕ → List ℕ
name_key size group begin run names i = name_words_at size group run names i ++ (field size begin run i ∷ [])

-- of columns, the table and the order
abbrev pub order_hash : List ℕ → ℕ → ℕ
order_hash run i = pair_hash column_size column_table_word column_order_word run i

abbrev pub order_key : List ℕ → ℕ → List ℕ
order_key run i = field column_size column_table_word run i ∷ (field column_size column_order_word run i ∷ (field column_size column_begin_word run i ∷ []))

-- each of the places has as its key what f says
pub record KeysPut (f : ℕ → List ℕ) (size : ℕ) (places keys : List ℕ) : Type 0 where
  pub put : (i : ℕ) → In i places → key_at size keys i ≡ f i

-- records of `size` words with begin and end in the word `begin` and the next: whether two share a live number
abbrev pub live_together : ℕ → ℕ → List ℕ → ℕ → ℕ → Bool
live_together size begin run i j = overlap (with_life (life_at size begin run i)) (with_life (life_at size begin run j))

-- two that share one have different keys, the begins left aside; different names, if they are of one group; different orders, if of one table

abbrev pub keys_apart : ℕ → List ℕ → ℕ → ℕ → List ℕ → ℕ → ℕ → Bool
keys_apart used keys size begin run i j = not (same_prefix used (used + 1) keys i j) || not (live_together size begin run i j)

abbrev pub names_apart_at : ℕ → Option ℕ → ℕ → List ℕ → List ℕ → ℕ → ℕ → Bool
names_apart_at size group begin run names i j =
    not (eqb (group_of group size run i) (group_of group size run j)) || not (live_together size begin run i j) || not (same_name (name_at names i) (name_at names j))

abbrev pub orders_apart_at : List ℕ → ℕ → ℕ → Bool
orders_apart_at run i j =
    not (eqb (field column_size column_table_word run i) (field column_size column_table_word run j)) || not (live_together column_size column_begin_word run i j)
    || not (eqb (field column_size column_order_word run i) (field column_size column_order_word run j))

-- n records of `size` words whose lives are not empty
pub record Living (size begin : ℕ) (run : List ℕ) (n : ℕ) : Type 0 where
  pub lent : size * n ≤ length run
  pub inside : begin + 1 < size
  pub lives : (i : ℕ) → i < n → field size begin run i < field size (begin + 1) run i

-- a place of one of them, and of a key with its begin in the last word
abbrev pub keyed_at : ℕ → List ℕ → ℕ → ℕ → List ℕ → ℕ → ℕ → Bool
keyed_at used keys size begin run n i = ltb i n && eqb (field (used + 1) used keys i) (field size begin run i)

-- n records of `size` words whose lives are not empty, with names
pub record NamesLiving (size : ℕ) (group : Option ℕ) (begin : ℕ) (run names : List ℕ) (n : ℕ) : Type 0 where
  pub living : Living size begin run n
  pub grouped : is_inside group size ≡ true
  pub names_lent : name_size * n ≤ length names
  pub named : (i : ℕ) → i < n → is_name (name_at names i) ≡ true

-- scratch for n keys of `size` words and as many places, or more
pub record Scratch (size n : ℕ) (keys w v : List ℕ) : Type 0 where
  pub room : size * n ≤ length keys
  pub places : n ≤ length w
  pub spare : n ≤ length v

-- a record with a group and a name
pub record NameLent (size : ℕ) (group : Option ℕ) (run names : List ℕ) (i : ℕ) : Type 0 where
  pub lent : size * i + size ≤ length run
  pub grouped : is_inside group size ≡ true
  pub name_lent : name_size * i + name_size ≤ length names
