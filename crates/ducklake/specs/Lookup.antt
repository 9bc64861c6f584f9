-- The file lookup: "A file id names one row, of the data files or of the delete files, and looking it up gives that record itself, as a part of its
-- table. The lookup takes no snapshot. An id in neither gives 6; every refusal gives an empty part."
use Rattle.std.specs.Prelude.{ℕ, ◌*◌, ◌≡◌, Bool, true, false, cond, List, [], ◌∷◌, ◌++◌, leb, eqb, length, take, drop, None, Option, Some}
use Rattle.std.specs.Borrow.{Bor}
use Rattle.lists.specs.Lists.{place}
use Rattle.lists.specs.Runs.{PartOf}
use Rattle.layout.specs.declared.outcome.Counts.{Counts}
use Rattle.layout.specs.Fields.{data_file_size, delete_file_size}
use Rattle.layout.specs.Catalog.{Catalog}
use Rattle.layout.specs.Words.{Words, load}
use Rattle.ducklake.specs.Soundness.{sound}
use Rattle.ducklake.specs.Refusals.{accepted, not_sound, short_answer_area, id_of_file, no_such_id, first}
use Rattle.ducklake.specs.Calls.{Result, place_zero, refused, answered}

-- where a file's record lies: the place among the data files or among the delete files, or nowhere
pub data FilePlace : Type 0 where
  in_data_files : (i : ℕ) → FilePlace
  in_delete_files : (i : ℕ) → FilePlace
  nowhere : FilePlace

-- a place that was found, or else
abbrev pub found_or : Option ℕ → (ℕ → FilePlace) → FilePlace → FilePlace
found_or (Some i) there other = there i
found_or None there other = other

-- "A file id names one row, of the data files or of the delete files"
unfoldable pub place_of_file : Catalog → ℕ → FilePlace
place_of_file C k =
    found_or (place (λ f. eqb f.id k) 0 C.data_files) in_data_files
    (found_or (place (λ d. eqb d.id k) 0 C.delete_files) in_delete_files nowhere)

abbrev pub is_somewhere : FilePlace → Bool
is_somewhere (in_data_files i) = true
is_somewhere (in_delete_files i) = true
is_somewhere nowhere = false

-- "An id in neither gives 6"
abbrev pub lookup_refusals : Catalog → ℕ → List (ℕ × Bool)
lookup_refusals C k = (no_such_id C id_of_file k, is_somewhere (place_of_file C k)) ∷ []

-- what the lookup gives: a number, and where the part lies
pub record Lookup : Type 0 where
  pub number : ℕ
  pub part : FilePlace

-- "Order: 1", then 6
unfoldable pub lookup : Words → Counts → ℕ → Lookup
lookup w c k = record {
  number = first ((not_sound, sound w c) ∷ lookup_refusals (load w c) k) accepted;
  part = cond (sound w c) (place_of_file (load w c) k) nowhere;
}

-- "that record itself, as a part of its table": the part is the record's words, and lies where they do; "every refusal gives an empty part"
abbrev pub LiesAt : Bor (List ℕ) → Bor (List ℕ) → Bor (List ℕ) → FilePlace → Type 0
LiesAt data_files delete_files part (in_data_files i) = PartOf data_files part (data_file_size * i) data_file_size
LiesAt data_files delete_files part (in_delete_files i) = PartOf delete_files part (delete_file_size * i) delete_file_size
LiesAt data_files delete_files part nowhere = part.now ≡ []

-- The promise of the lookup, over what it should give, the two runs at entry, the part that it returns, and the number that it leaves
pub record LookupPromise (result : Lookup) (data_files delete_files returned : Bor (List ℕ)) (left : ℕ) : Type 0 where
  pub number : left ≡ result.number
  pub part : LiesAt data_files delete_files returned result.part

-- The same lookup as a call whose answer is a copy: where no reference can be handed back

-- the words of the record at a place
abbrev pub words_at : Words → FilePlace → List ℕ
words_at w (in_data_files i) = take data_file_size (drop (data_file_size * i) w.data_files)
words_at w (in_delete_files i) = take delete_file_size (drop (delete_file_size * i) w.delete_files)
words_at w nowhere = []

unfoldable pub lookup_answer : Words → Counts → ℕ → List ℕ
lookup_answer w c k = words_at w (place_of_file (load w c) k)

-- 1, then 6, then 3
unfoldable pub lookup_refusal : Words → Counts → ℕ → ℕ → ℕ
lookup_refusal w c area_length k =
    first (
    (not_sound, sound w c)
    ∷ lookup_refusals (load w c) k
    ++ (short_answer_area, leb (length (lookup_answer w c k)) area_length)
    ∷ []) accepted

unfoldable pub perform_lookup : ℕ → Words → Counts → List ℕ → Result
perform_lookup k w c area =
    let number : ℕ = lookup_refusal w c (length area) k in
    cond (eqb number accepted) (answered (lookup_answer w c k) w c area) (refused number place_zero w c area)
