-- The ids and the UUIDs of all files as keys: no two keys are equal just where no id, or no UUID, occurs twice.
use Prim.Native.Nat.{ℕ, ◌+◌, ◌-◌, ◌*◌, ◌%◌, ◌≤◌, ◌<◌}
use mathlib.Core.Path.{◌≡◌, refl, sym, ap, ap₂, ◌∙◌}
use mathlib.Core.Bool.{Bool, true, false, not, ◌&&◌, and-true}
use mathlib.Core.List.{List, [], ◌∷◌, ◌++◌, map}
use native.Mathlib.Omega.{arith}
use native.Mathlib.Nat.{add-zero, zero-add}
use lib.Dec.{ltb, eqb}
use lib.ListN.{length, get_or, length-map}
use lib.Seq.{take_all}
use borrow.Author.Tests.{ltb-true, lt-ltb, le-ltb, eqb-true, eqb-false}
use Rattle.lists.specs.Lists.{range, all, pairwise, agree}
use Rattle.lists.specs.Runs.{field, from, overwrite}
use Rattle.lists.proofs.Tests.{if, both}
use Rattle.lists.proofs.Loops.{length-range, filled_whole}
use Rattle.lists.proofs.Layouts.{words_one_by_one}
use Rattle.lists.proofs.Members.{In, all_in, in_get_d, in_range_lem}
use Rattle.lists.proofs.Places.{range_split}
use Rattle.lists.proofs.Runs.{overwrite_length, overwrite_over, record_fits}
use Rattle.lists.proofs.Selections.{map-append, map-map, map_ext, map_range, pairwise_ext, pairwise_map}
use Rattle.layout.specs.declared.outcome.Counts.{Counts}
use Rattle.layout.specs.declared.record.Uuid.{Uuid}
use Rattle.layout.specs.Fields.{data_file_size, data_file_id_word, data_file_uuid_high_word, delete_file_size, delete_file_id_word, delete_file_uuid_high_word, scheduled_size, scheduled_file_word, scheduled_uuid_high_word}
use Rattle.layout.specs.Records.{uuid_of}
use Rattle.layout.specs.Words.{data_files_in, delete_files_in, scheduled_in}
use Rattle.ducklake.specs.Soundness.{ids_of_files, uuids_of_files, same_uuid}
use Rattle.sorting.specs.declared.colliding.Round.TheVariants.{First}
use Rattle.sorting.specs.Colliding.{digest, hash_limit, hashed, field_hash, pair_hash}
use Rattle.sorting.specs.Keys.{same_words, Put}
use Rattle.soundness_unique.specs.declared.distinct.FileWords.{FileWords}
use Rattle.soundness_unique.specs.Files.{ids_distinct, uuids_distinct, file_count, file_word, file_key, id_words, high_words, low_words, id_hash, uuid_hash}
use Rattle.soundness_unique.specs.Naming.{KeysPut}
use Rattle.soundness_unique.specs.Comparable.{FilesPuttable}
use Rattle.soundness_unique.proofs.FileLists.{file_ids_lem, file_uuids_lem}

abbrev uuid_hashed : ℕ → ℕ → ℕ
uuid_hashed high low = hashed First (digest First 0 (high ∷ (low ∷ [])))

-- as many numbers as there are files, table by table
module _ {A : Type 0} (f : ℕ → A) where
  shifted : (g : ℕ → A) (j l : ℕ) → ((i : ℕ) → i < l → f (j + i) ≡ g i) → map f (range j l) ≡ map g (range 0 l)
  shifted g j l h =
      let s : range j l ≡ map (λ p. j + p) (range 0 l) = sym (rw add-zero at (map_range j 0 l)) in
      ap (map f) s ∙ (map-map f (λ p. j + p) (range 0 l) ∙ map_ext (λ p. f (j + p)) g (range 0 l) (λ i m. h i (omega (arith, in_range_lem 0 l m))))

  three_tables : (a b c : ℕ → A) (n m k : ℕ) → ((i : ℕ) → i < n → f i ≡ a i) → ((i : ℕ) → i < m → f (n + i) ≡ b i) → ((i : ℕ) → i < k → f (n + m + i) ≡ c i)
      → map f (range 0 (n + m + k)) ≡ map a (range 0 n) ++ (map b (range 0 m) ++ map c (range 0 k))
  three_tables a b c n m k p q r =
      let e : n + m + k ≡ n + (m + k) = omega arith in
      rw (e, range_split 0 n (m + k), zero-add, range_split n m k, map-append, map-append, map_ext f a (range 0 n) (λ i h. p i (omega (arith, in_range_lem 0 n h))), shifted b n m q, shifted c (n + m) k r) refl

-- what is written of each table behind the one before
pub three_written : (f a b c : ℕ → ℕ) (n m k : ℕ) (v₀ : List ℕ) {v₁ v₂ v₃ : List ℕ} → length v₀ ≡ n + m + k → length v₃ ≡ n + m + k → v₁ ≡ overwrite v₀ 0 (map a (range 0 n))
    → v₂ ≡ overwrite v₁ n (map b (range 0 m)) → v₃ ≡ overwrite v₂ (n + m) (map c (range 0 k)) → ((i : ℕ) → i < n → f i ≡ a i) → ((i : ℕ) → i < m → f (n + i) ≡ b i)
    → ((i : ℕ) → i < k → f (n + m + i) ≡ c i) → v₃ ≡ map f (range 0 (n + m + k))
three_written f a b c n m k v₀ {v₁} {v₂} {v₃} l₀ l₃ u v w p q r = filled_whole f (n + m + k) v₀ l₃ (sym (ap (overwrite v₀ 0) (three_tables f a b c n m k p q r) ∙ whole))
  where
    A : List ℕ
    A = map a (range 0 n)

    B : List ℕ
    B = map b (range 0 m)

    C : List ℕ
    C = map c (range 0 k)

    long : (g : ℕ → ℕ) (j : ℕ) → length (map g (range 0 j)) ≡ j
    long g j = length-map (range 0 j) g ∙ length-range 0 j

    whole : overwrite v₀ 0 (A ++ (B ++ C)) ≡ v₃
    whole =
        overwrite_over v₀ 0 A (B ++ C) (omega arith) ∙ (ap₂ (λ (x : List ℕ) (i : ℕ). overwrite x i (B ++ C)) (sym u) (omega (arith, long a n))
        ∙ (overwrite_over v₁ n B C room ∙ (ap₂ (λ (x : List ℕ) (i : ℕ). overwrite x i C) (sym v) (ap (λ (i : ℕ). n + i) (long b m)) ∙ sym w)))
      where
        room : n ≤ length v₁
        room = rw (u, overwrite_length v₀ 0 A (omega (arith, long a n, l₀))) (omega (arith, l₀))

-- the word of a file, by its table
module _ (d e x : List ℕ) (c : Counts) (words : FileWords) where
  pub word_of_data : (i : ℕ) → i < c.data_files → file_word d e x c words i ≡ field data_file_size words.data_file d i
  unfolding file_word
  word_of_data i h = rw (lt-ltb i c.data_files h) refl

  -- the place among delete files, and among scheduled ones
  pub word_of_delete : (p i : ℕ) → p ≡ c.data_files + i → i < c.delete_files → file_word d e x c words p ≡ field delete_file_size words.delete_file e i
  unfolding file_word
  word_of_delete p i g h =
      rw (le-ltb p c.data_files (omega arith), lt-ltb p (c.data_files + c.delete_files) (omega arith)) (ap (field delete_file_size words.delete_file e) (omega arith))

  pub word_of_scheduled : (p i : ℕ) → p ≡ c.data_files + c.delete_files + i → file_word d e x c words p ≡ field scheduled_size words.scheduled x i
  unfolding file_word
  word_of_scheduled p i g =
      rw (le-ltb p c.data_files (omega arith), le-ltb p (c.data_files + c.delete_files) (omega arith)) (ap (field scheduled_size words.scheduled x) (omega arith))

-- a place in a list of places of files
pub place_of_file_lem : (n : ℕ) (places : List ℕ) (j : ℕ) → all (λ p. ltb p n) places ≡ true → j < length places → get_or places j 0 < n
place_of_file_lem n places j h l = ltb-true _ _ (all_in (λ p. ltb p n) places h (in_get_d 0 places j l))

-- and its key
pub file_room : {counts : Counts} {words : FileWords} {size at : ℕ} {places old : List ℕ} (keys : List ℕ) (j : ℕ) → FilesPuttable counts words size at places old
    → length keys ≡ length old → j < length places → size * get_or places j 0 + size ≤ length keys
file_room keys j p l h = omega (arith, l, record_fits _ (place_of_file_lem _ _ _ p.present h) p.room)

-- ids and UUIDs of all files are hashed table by table
module _ (d e x : List ℕ) (c : Counts) (v₀ : List ℕ) {v₁ v₂ v₃ : List ℕ} (l₀ : length v₀ ≡ file_count c) (l₃ : length v₃ ≡ file_count c) where
  pub ids_hashed : v₁ ≡ overwrite v₀ 0 (map (field_hash data_file_size data_file_id_word d) (range 0 c.data_files))
      → v₂ ≡ overwrite v₁ c.data_files (map (field_hash delete_file_size delete_file_id_word e) (range 0 c.delete_files))
      → v₃ ≡ overwrite v₂ (c.data_files + c.delete_files) (map (field_hash scheduled_size scheduled_file_word x) (range 0 c.scheduled))
      → v₃ ≡ map (id_hash d e x c) (range 0 (file_count c))
  ids_hashed u v w =
      three_written (id_hash d e x c) _ _ _ c.data_files c.delete_files c.scheduled v₀ l₀ l₃ u v w (λ i h. ap short (word_of_data d e x c id_words i h))
      (λ i h. ap short (word_of_delete d e x c id_words (c.data_files + i) i refl h)) (λ i h. ap short (word_of_scheduled d e x c id_words (c.data_files + c.delete_files + i) i refl))
    where
      short : ℕ → ℕ
      short w = w % hash_limit

  pub uuids_hashed : v₁ ≡ overwrite v₀ 0 (map (pair_hash data_file_size data_file_uuid_high_word (data_file_uuid_high_word + 1) d) (range 0 c.data_files))
      → v₂ ≡ overwrite v₁ c.data_files (map (pair_hash delete_file_size delete_file_uuid_high_word (delete_file_uuid_high_word + 1) e) (range 0 c.delete_files))
      → v₃ ≡ overwrite v₂ (c.data_files + c.delete_files) (map (pair_hash scheduled_size scheduled_uuid_high_word (scheduled_uuid_high_word + 1) x) (range 0 c.scheduled))
      → v₃ ≡ map (uuid_hash d e x c) (range 0 (file_count c))
  uuids_hashed u v w =
      three_written (uuid_hash d e x c) _ _ _ c.data_files c.delete_files c.scheduled v₀ l₀ l₃ u v w
      (λ i h. ap₂ uuid_hashed (word_of_data d e x c high_words i h) (word_of_data d e x c low_words i h))
      (λ i h. ap₂ uuid_hashed (word_of_delete d e x c high_words (c.data_files + i) i refl h) (word_of_delete d e x c low_words (c.data_files + i) i refl h))
      (λ i h. ap₂ uuid_hashed (word_of_scheduled d e x c high_words (c.data_files + c.delete_files + i) i refl) (word_of_scheduled d e x c low_words (c.data_files + c.delete_files + i) i refl))

-- a word more of each key, and all of them
module _ (f : ℕ → ℕ → ℕ) {size : ℕ} {places : List ℕ} where
  pub keys_more : {at : ℕ} {old new : List ℕ} → at < size → Put (f at) size at places old new → ((i k : ℕ) → In i places → k < at → field size k old i ≡ f k i)
      → (i k : ℕ) → In i places → k < at + 1 → field size k new i ≡ f k i
  keys_more {at} {old} {new} b p g i k m h =
      if (eqb k at) (λ t. let u : k ≡ at = eqb-true k at t in rw u (p.put i m)) (λ t. let a = eqb-false k at t in p.others i k (omega arith) a ∙ g i k m (omega (arith, a)))

  pub keys_whole : {keys : List ℕ} → ((i k : ℕ) → In i places → k < size → field size k keys i ≡ f k i) → KeysPut (λ i. from (λ k. f k i) 0 size) size places keys
  keys_whole {keys} g = record { put = λ i m. map_ext _ _ (range 0 (size - 0)) (λ k j. g i k m (omega (arith, in_range_lem 0 (size - 0) j))) }

-- a list by its elements
pub as_map : (n : ℕ) (v : List ℕ) → length v ≡ n → v ≡ map (λ i. get_or v i 0) (range 0 n)
as_map n v l = sym (words_one_by_one n v (omega arith) ∙ take_all n v (omega arith))

module _ (d e x : List ℕ) (c : Counts) where
  -- files of one id, or of one UUID, have one hash
  pub ids_tell : (i j : ℕ) → same_words (file_key d e x c id_words 1 i) (file_key d e x c id_words 1 j) ≡ true → id_hash d e x c i ≡ id_hash d e x c j
  unfolding range agree
  ids_tell i j t = ap (λ (w : ℕ). w % hash_limit) (eqb-true _ _ (both _ true t).0)

  pub uuids_tell : (i j : ℕ) → same_words (file_key d e x c high_words 2 i) (file_key d e x c high_words 2 j) ≡ true → uuid_hash d e x c i ≡ uuid_hash d e x c j
  unfolding range agree
  uuids_tell i j t = let b = both _ _ t in ap₂ uuid_hashed (eqb-true _ _ b.0) (eqb-true _ _ (both _ true b.1).0)

module _ (d e x positions : List ℕ) (c : Counts) where
  one_word : (i j : ℕ) → same_words (file_key d e x c id_words 1 i) (file_key d e x c id_words 1 j) ≡ eqb (file_word d e x c id_words i) (file_word d e x c id_words j)
  unfolding range agree
  one_word i j = and-true _

  -- a key is an id
  pub ids_told : {b : Bool} → b ≡ pairwise (λ u v. not (same_words u v)) (map (file_key d e x c id_words 1) (range 0 (file_count c)))
      → b ≡ ids_distinct (ids_of_files (data_files_in d c.data_files) (delete_files_in e positions c.delete_files) (scheduled_in x c.scheduled))
  ids_told h =
      h ∙ (pairwise_map (λ u v. not (same_words u v)) (file_key d e x c id_words 1) (range 0 (file_count c))
      ∙ (pairwise_ext (λ i j. not (same_words (file_key d e x c id_words 1 i) (file_key d e x c id_words 1 j))) (λ i j. not (eqb (file_word d e x c id_words i) (file_word d e x c id_words j))) (range 0 (file_count c))
      (λ i j _ _. ap not (one_word i j))
      ∙ (sym (pairwise_map (λ a b. not (eqb a b)) (file_word d e x c id_words) (range 0 (file_count c)))
      ∙ ap ids_distinct (three_tables (file_word d e x c id_words) _ _ _ c.data_files c.delete_files c.scheduled (word_of_data d e x c id_words)
      (λ i l. word_of_delete d e x c id_words (c.data_files + i) i refl l) (λ i l. word_of_scheduled d e x c id_words (c.data_files + c.delete_files + i) i refl)
      ∙ sym (file_ids_lem d e x positions _ _ _)))))

  -- a key is a UUID, its high word and its low one
  abbrev uuid : ℕ → Uuid
  uuid p = uuid_of (file_word d e x c high_words p) (file_word d e x c low_words p)

  two_words : (i j : ℕ) → same_words (file_key d e x c high_words 2 i) (file_key d e x c high_words 2 j) ≡ same_uuid (uuid i) (uuid j)
  unfolding range agree same_uuid
  two_words i j = ap (λ b. eqb (file_word d e x c high_words i) (file_word d e x c high_words j) && b) (and-true _)

  pub uuids_told : {b : Bool} → b ≡ pairwise (λ u v. not (same_words u v)) (map (file_key d e x c high_words 2) (range 0 (file_count c)))
      → b ≡ uuids_distinct (uuids_of_files (data_files_in d c.data_files) (delete_files_in e positions c.delete_files) (scheduled_in x c.scheduled))
  uuids_told h =
      h ∙ (pairwise_map (λ u v. not (same_words u v)) (file_key d e x c high_words 2) (range 0 (file_count c))
      ∙ (pairwise_ext (λ i j. not (same_words (file_key d e x c high_words 2 i) (file_key d e x c high_words 2 j))) (λ i j. not (same_uuid (uuid i) (uuid j))) (range 0 (file_count c)) (λ i j _ _. ap not (two_words i j))
      ∙ (sym (pairwise_map (λ u v. not (same_uuid u v)) uuid (range 0 (file_count c)))
      ∙ ap uuids_distinct (three_tables uuid _ _ _ c.data_files c.delete_files c.scheduled
      (λ i l. ap₂ uuid_of (word_of_data d e x c high_words i l) (word_of_data d e x c low_words i l))
      (λ i l. ap₂ uuid_of (word_of_delete d e x c high_words (c.data_files + i) i refl l) (word_of_delete d e x c low_words (c.data_files + i) i refl l))
      (λ i l. ap₂ uuid_of (word_of_scheduled d e x c high_words (c.data_files + c.delete_files + i) i refl) (word_of_scheduled d e x c low_words (c.data_files + c.delete_files + i) i refl))
      ∙ sym (file_uuids_lem d e x positions _ _ _)))))
