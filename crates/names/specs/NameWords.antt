-- A name's bytes as words, which compare as the bytes do.
use Rattle.std.specs.Prelude.{ℕ, ◌+◌, ◌*◌, ◌^◌, List, [], ◌∷◌, map, take, drop}
use Rattle.lists.specs.Lists.{range}
use Rattle.lists.specs.Runs.{word_bytes}

-- a byte is one of so many numbers
abbrev pub byte_count : ℕ
byte_count = 256

-- half a word has so many bytes, which are one of so many numbers
abbrev pub half_bytes : ℕ
half_bytes = 4

abbrev pub half_count : ℕ
half_count = byte_count ^ half_bytes

-- the half that begins at the byte a
abbrev pub half_at : List ℕ → ℕ → List ℕ
half_at run a = take half_bytes (drop a run)

-- bytes as the digits of a number, the highest first, behind those of `word`
unfoldable pub digits : ℕ → List ℕ → ℕ
digits word [] = word
digits word (b ∷ bs) = digits (byte_count * word + b) bs

-- a name has so many words
abbrev pub name_word_count : ℕ
name_word_count = 4

unfoldable pub name_word : List ℕ → ℕ → ℕ
name_word place k = digits 0 (take word_bytes (drop (word_bytes * k) place))

abbrev pub name_words : List ℕ → List ℕ
name_words place = map (name_word place) (range 0 name_word_count)
