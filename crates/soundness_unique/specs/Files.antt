-- The ids and UUIDs of each table of files, and lists in which none is twice.
use Rattle.std.specs.Prelude.{ℕ, ◌+◌, ◌-◌, ◌%◌, Bool, false, cond, not, ◌&&◌, List, [], ◌∷◌, map, ltb, eqb}
use Rattle.lists.specs.Lists.{range, pairwise}
use Rattle.lists.specs.Runs.{field, fields, from}
use Rattle.layout.specs.declared.outcome.Counts.{Counts}
use Rattle.layout.specs.declared.record.Uuid.{Uuid}
use Rattle.layout.specs.Fields.{data_file_size, data_file_id_word, data_file_uuid_high_word, delete_file_size, delete_file_id_word, delete_file_uuid_high_word, scheduled_size, scheduled_file_word, scheduled_uuid_high_word}
use Rattle.layout.specs.Records.{uuid_of}
use Rattle.layout.specs.Words.{data_files_in, delete_files_in, scheduled_in}
use Rattle.ducklake.specs.Soundness.{ids_of_files, uuids_of_files, same_uuid}
use Rattle.sorting.specs.declared.colliding.Round.TheVariants.{First}
use Rattle.sorting.specs.Colliding.{digest, hash_limit, hashed}
use Rattle.soundness_unique.specs.declared.distinct.FileWords.{FileWords}

abbrev pub data_file_ids : List ℕ → ℕ → List ℕ
data_file_ids run n = fields data_file_size data_file_id_word run n

abbrev pub delete_file_ids : List ℕ → ℕ → List ℕ
delete_file_ids run n = fields delete_file_size delete_file_id_word run n

abbrev pub scheduled_ids : List ℕ → ℕ → List ℕ
scheduled_ids run n = fields scheduled_size scheduled_file_word run n

-- records of `size` words with the UUID's high and low word in the word `word` and the next
abbrev pub uuid_at : ℕ → ℕ → List ℕ → ℕ → Uuid
uuid_at size word run i = uuid_of (field size word run i) (field size (word + 1) run i)

abbrev pub uuids_in : ℕ → ℕ → List ℕ → ℕ → List Uuid
uuids_in size word run n = map (uuid_at size word run) (range 0 n)

abbrev pub data_file_uuids : List ℕ → ℕ → List Uuid
data_file_uuids run n = uuids_in data_file_size data_file_uuid_high_word run n

abbrev pub delete_file_uuids : List ℕ → ℕ → List Uuid
delete_file_uuids run n = uuids_in delete_file_size delete_file_uuid_high_word run n

abbrev pub scheduled_uuids : List ℕ → ℕ → List Uuid
scheduled_uuids run n = uuids_in scheduled_size scheduled_uuid_high_word run n

-- "no file id or UUID occurs twice"

abbrev pub ids_distinct : List ℕ → Bool
ids_distinct ids = pairwise (λ a b. not (eqb a b)) ids

abbrev pub uuids_distinct : List Uuid → Bool
uuids_distinct us = pairwise (λ u v. not (same_uuid u v)) us

abbrev pub file_count : Counts → ℕ
file_count c = c.data_files + c.delete_files + c.scheduled

-- a word of each file: of data files, then of delete files, then of scheduled files
unfoldable pub file_word : List ℕ → List ℕ → List ℕ → Counts → FileWords → ℕ → ℕ
file_word d e x c words p =
    cond (ltb p c.data_files) (field data_file_size words.data_file d p)
    (cond (ltb p (c.data_files + c.delete_files)) (field delete_file_size words.delete_file e (p - c.data_files))
    (field scheduled_size words.scheduled x (p - c.data_files - c.delete_files)))

-- its id, and the two words of its UUID
abbrev pub id_words : FileWords
id_words = record { data_file = data_file_id_word; delete_file = delete_file_id_word; scheduled = scheduled_file_word }

abbrev pub high_words : FileWords
high_words = record { data_file = data_file_uuid_high_word; delete_file = delete_file_uuid_high_word; scheduled = scheduled_uuid_high_word }

abbrev pub low_words : FileWords
low_words = record { data_file = data_file_uuid_high_word + 1; delete_file = delete_file_uuid_high_word + 1; scheduled = scheduled_uuid_high_word + 1 }

abbrev pub uuid_words : List ℕ → List ℕ → List ℕ → Counts → ℕ → List ℕ
uuid_words d e x c p = file_word d e x c high_words p ∷ (file_word d e x c low_words p ∷ [])

-- the word so many words on, and a key of `size` words from a word on
abbrev pub shifted : FileWords → ℕ → FileWords
shifted words k = record { data_file = words.data_file + k; delete_file = words.delete_file + k; scheduled = words.scheduled + k }

abbrev pub file_key : List ℕ → List ℕ → List ℕ → Counts → FileWords → ℕ → ℕ → List ℕ
file_key d e x c words size p = from (λ k. file_word d e x c (shifted words k) p) 0 size

-- the hashes of both
abbrev pub id_hash : List ℕ → List ℕ → List ℕ → Counts → ℕ → ℕ
id_hash d e x c p = file_word d e x c id_words p % hash_limit

abbrev pub uuid_hash : List ℕ → List ℕ → List ℕ → Counts → ℕ → ℕ
uuid_hash d e x c p = hashed First (digest First 0 (uuid_words d e x c p))

-- "no file id or UUID occurs twice over data files, delete files and scheduled"
abbrev pub files_differ : List ℕ → List ℕ → List ℕ → List ℕ → Counts → Bool
files_differ d e x positions c =
    ids_distinct (ids_of_files (data_files_in d c.data_files) (delete_files_in e positions c.delete_files) (scheduled_in x c.scheduled))
    && uuids_distinct (uuids_of_files (data_files_in d c.data_files) (delete_files_in e positions c.delete_files) (scheduled_in x c.scheduled))
