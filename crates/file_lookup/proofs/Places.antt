-- Where a file's record lies: told by the catalog and by the runs, it is the same place; the promises of the part that lies there and of its copy.
use Rattle.std.specs.Prelude.{None, Option, Some, Result, Ok, Err}
use Prim.Native.Nat.{ℕ}
use mathlib.Core.Path.{◌≡◌, refl, sym, ap, ap₂, ◌∙◌}
use mathlib.Core.Bool.{Bool, true, false, not}
use mathlib.Core.List.{List, ◌∷◌}
use native.Mathlib.Omega.{arith}
use lib.Dec.{eqb}
use borrow.Author.Tests.{not-true}
use denote.Ref.{Bor}
use Rattle.lists.specs.Lists.{range, place}
use Rattle.lists.specs.Runs.{field}
use Rattle.lists.proofs.Places.{place_map}
use Rattle.layout.specs.declared.outcome.Counts.{Counts}
use Rattle.layout.specs.declared.refusal.Refusal.{Refusal}
use Rattle.layout.specs.Refusals.{number_of, length_of}
use Rattle.layout.specs.Fields.{data_file_size, data_file_id_word, delete_file_size, delete_file_id_word}
use Rattle.layout.specs.Words.{Words, load, data_file_at, data_files_in, delete_file_at, delete_files_in}
use Rattle.ducklake.specs.Soundness.{sound}
use Rattle.ducklake.specs.Refusals.{accepted, not_sound}
use Rattle.ducklake.specs.Calls.{Promise}
use Rattle.ducklake.specs.Lookup.{FilePlace, in_data_files, in_delete_files, nowhere, found_or, place_of_file, lookup_refusals, LiesAt, words_at, lookup, LookupPromise, lookup_answer, lookup_refusal, perform_lookup}
use Rattle.ducklake.proofs.facts.FirstRefusals.{unless_passed}
use Rattle.call_laws.proofs.Promises.{outcome}
use Rattle.lookup.specs.Order.{place_of}
use Rattle.refusals.specs.declared.checked.Checked.{Checked}
use Rattle.refusals.specs.Checked.{checked_of}
use Rattle.readings.specs.Answers.{Answered}
use Rattle.readings.proofs.Promises.{tests_refuse, tests_pass}
use Rattle.file_lookup.specs.Parts.{FoundAt, PromisedPart}
use Rattle.file_lookup.specs.Runs.{place_in, FilesLent}

data_file_place : (run : List ℕ) (n k : ℕ) → place (λ f. eqb f.id k) 0 (data_files_in run n) ≡ place_of data_file_size data_file_id_word run n k
unfolding field
data_file_place run n k = place_map (λ f. eqb f.id k) (data_file_at run) 0 (range 0 n) ∙ sym (place_map (λ y. eqb y k) (field data_file_size data_file_id_word run) 0 (range 0 n))

delete_file_place : (run positions : List ℕ) (n k : ℕ) → place (λ f. eqb f.id k) 0 (delete_files_in run positions n) ≡ place_of delete_file_size delete_file_id_word run n k
unfolding field
delete_file_place run positions n k = place_map (λ f. eqb f.id k) (delete_file_at run positions) 0 (range 0 n) ∙ sym (place_map (λ y. eqb y k) (field delete_file_size delete_file_id_word run) 0 (range 0 n))

place_in_lem : (w : Words) (c : Counts) (k : ℕ) → place_of_file (load w c) k ≡ place_in w.data_files c.data_files w.delete_files c.delete_files k
unfolding place_of_file load
place_in_lem w c k = ap₂ (λ a b. found_or a in_data_files (found_or b in_delete_files nowhere)) (data_file_place w.data_files c.data_files k) (delete_file_place w.delete_files w.positions c.delete_files k)

module _ (fs : List ℕ) (n : ℕ) (ds : List ℕ) (m k : ℕ) {r : Option ℕ} (e : r ≡ place_of data_file_size data_file_id_word fs n k) where
  pub found_data_file : {i : ℕ} → r ≡ Some i → place_in fs n ds m k ≡ in_data_files i
  found_data_file g = rw (sym e ∙ g) refl

  module _ {q : Option ℕ} (f : q ≡ place_of delete_file_size delete_file_id_word ds m k) (h : r ≡ None) where
    pub found_delete_file : {i : ℕ} → q ≡ Some i → place_in fs n ds m k ≡ in_delete_files i
    found_delete_file g = rw (sym e ∙ h, sym f ∙ g) refl

    pub found_nowhere : q ≡ None → place_in fs n ds m k ≡ nowhere
    found_nowhere g = rw (sym e ∙ h, sym f ∙ g) refl

abbrev pub files_lent : (w : Words) (c : Counts) {checked : Checked} → checked ≡ checked_of w c → FilesLent checked w.data_files w.delete_files c
files_lent w c e = record { words = w; data_files = refl; delete_files = refl; checked = e }

-- The part that lies at a place holds the words of its record

lies_words : (w : Words) (a b part : Bor (List ℕ)) (p : FilePlace) → w.data_files ≡ a.now → w.delete_files ≡ b.now → LiesAt a b part p → words_at w p ≡ part.now
lies_words w a b part (in_data_files i) e f h = sym (h.words ∙ rw (← e) refl)
lies_words w a b part (in_delete_files i) e f h = sym (h.words ∙ rw (← f) refl)
lies_words w a b part nowhere e f h = sym h

module _ (w : Words) (c : Counts) (k : ℕ) where
  pub part_refused : {checked : Checked} → checked ≡ checked_of w c → not checked.sound ≡ true → (not_sound ≡ (lookup w c k).number) × ((lookup w c k).part ≡ nowhere)
  unfolding lookup
  part_refused {checked} e h = let u : sound w c ≡ false = sym (ap (λ k. k.sound) e) ∙ not-true checked.sound h in rw u (refl, refl)

  abbrev tests : List (ℕ × Bool)
  tests = (not_sound, sound w c) ∷ lookup_refusals (load w c) k

  -- the copy of a part that is refused
  pub copy_refused : (area : List ℕ) {n : ℕ} → n ≡ (lookup w c k).number → (n ≡ 0 → ⊥) → Promise (perform_lookup k w c area) (outcome n 0 0 c) w area
  unfolding lookup perform_lookup lookup_refusal
  copy_refused area e z = tests_refuse tests (omega arith) (lookup_answer w c k) w c area e z

  module _ (a b : Bor (List ℕ)) (e : w.data_files ≡ a.now) (f : w.delete_files ≡ b.now) where
    pub part_found : (r : Result (Bor (List ℕ)) Refusal) → sound w c ≡ true → FoundAt a b r (place_in a.now c.data_files b.now c.delete_files k) → PromisedPart (lookup w c k) a b r
    unfolding lookup
    part_found (Ok part) h l = rw (h, place_in_lem w c k, e, f, l.1) (record { number = refl; part = l.0 })
    part_found (Err refusal) h l = rw (h, place_in_lem w c k, e, f, l.0, l.1) (refl, refl)

    -- the copy of one that is found
    pub copy_answered : (area : List ℕ) {part : Bor (List ℕ)} {area' : List ℕ} {r : Result ℕ Refusal} → LookupPromise (lookup w c k) a b part accepted → Answered part.now area r area'
        → Promise (perform_lookup k w c area) (outcome (number_of r) 0 (length_of r) c) w area'
    unfolding lookup perform_lookup lookup_refusal lookup_answer
    copy_answered area {part = part} l q =
        let h = (unless_passed not_sound (sound w c) _ (omega arith) (sym l.number)).0 in
        tests_pass tests (omega arith) (lookup_answer w c k) w c area l.number refl (lies_words w a b part (place_of_file (load w c) k) e f (rw h at l.part)) q
