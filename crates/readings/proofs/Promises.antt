-- The promise of what refuses or gives an answer, a reading or the copy of a file: from its number but for 3, and what it leaves then.
use Rattle.std.specs.Prelude.{Result as Given}
use Prim.Native.Nat.{ℕ}
use mathlib.Core.Path.{◌≡◌, refl, sym, ◌∙◌}
use mathlib.Core.Bool.{Bool, true, cond}
use mathlib.Core.List.{List, [], ◌∷◌, ◌++◌}
use native.Mathlib.Omega.{arith}
use lib.Dec.{leb, eqb}
use lib.ListN.{length}
use borrow.Author.Tests.{ne_eqb}
use Rattle.lists.proofs.Tests.{if}
use Rattle.layout.specs.declared.outcome.Counts.{Counts}
use Rattle.layout.specs.declared.refusal.Refusal.{Refusal}
use Rattle.layout.specs.Refusals.{number_of, length_of}
use Rattle.layout.specs.Words.{Words, load}
use Rattle.ducklake.specs.Soundness.{sound}
use Rattle.ducklake.specs.Refusals.{accepted, not_sound, short_answer_area, refuse_unless, first}
use Rattle.ducklake.specs.Calls.{Result, place_zero, refused, answered, Reading, reading_refusals, reading_answer, reading_refusal, perform_reading, Promise}
use Rattle.ducklake.proofs.facts.FirstRefusals.{NumberedFrom, first_append, unless_passed}
use Rattle.ducklake.proofs.readings.Answers.{numbered_reading}
use Rattle.call_laws.proofs.Promises.{outcome}
use Rattle.call_laws.proofs.Refusals.{first_or_else, or_else_zero, or_else_some}
use Rattle.refusals.specs.Checked.{unanswered}
use Rattle.readings.specs.Answers.{Answered}

-- tests, then 3 if the area is shorter than the words of the answer
abbrev pub answering : List (ℕ × Bool) → List ℕ → Words → Counts → List ℕ → Result
answering ts words w c area =
    let number : ℕ = first (ts ++ ((short_answer_area, leb (length words) (length area)) ∷ [])) accepted in
    cond (eqb number accepted) (answered words w c area) (refused number place_zero w c area)

module _ (ts : List (ℕ × Bool)) (t : NumberedFrom 1 ts) (words : List ℕ) (w : Words) (c : Counts) (area : List ℕ) {n : ℕ} (e : n ≡ first ts accepted) where
  abbrev short : ℕ
  short = refuse_unless short_answer_area (leb (length words) (length area)) accepted

  number_is : first (ts ++ ((short_answer_area, leb (length words) (length area)) ∷ [])) accepted ≡ first ts short
  number_is = first_append ts ((short_answer_area, leb (length words) (length area)) ∷ []) accepted

  pub tests_refuse : (n ≡ 0 → ⊥) → Promise (answering ts words w c area) (outcome n 0 0 c) w area
  tests_refuse z =
      let q : first (ts ++ ((short_answer_area, leb (length words) (length area)) ∷ [])) accepted ≡ n = number_is ∙ (first_or_else 1 ts short (omega arith) t ∙ rw (← e) (or_else_some n short z)) in
      rw (q, ne_eqb n 0 z) (record { number = refl; place = refl; length = refl; counts = refl; words = refl; area = refl })

  pub tests_pass : {area' answer : List ℕ} {a : Given ℕ Refusal} → n ≡ 0 → words ≡ answer → Answered answer area a area'
      → Promise (answering ts words w c area) (outcome (number_of a) 0 (length_of a) c) w area'
  tests_pass z f k =
      let q : first (ts ++ ((short_answer_area, leb (length words) (length area)) ∷ [])) accepted ≡ short = number_is ∙ (first_or_else 1 ts short (omega arith) t ∙ or_else_zero short (sym e ∙ z)) in
      if (leb (length words) (length area))
      (λ l. rw (q, k.number, k.count, k.left, ← f, l) (record { number = refl; place = refl; length = refl; counts = refl; words = refl; area = refl }))
      (λ l. rw (q, k.number, k.count, k.left, ← f, l) (record { number = refl; place = refl; length = refl; counts = refl; words = refl; area = refl }))

-- Readings

module _ (w : Words) (c : Counts) (r : Reading) {n : ℕ} (e : n ≡ unanswered w c r) where
  abbrev tests : List (ℕ × Bool)
  tests = (not_sound, sound w c) ∷ reading_refusals (load w c) r

  numbered : NumberedFrom 1 tests
  numbered = (omega arith, below (reading_refusals (load w c) r) (numbered_reading (load w c) r))
    where
      below : (ts : List (ℕ × Bool)) → NumberedFrom 4 ts → NumberedFrom 1 ts
      below [] m = tt
      below (t ∷ ts) m = (omega (arith, m.0), below ts m.1)

  pub reading_refused : (area : List ℕ) → (n ≡ 0 → ⊥) → Promise (perform_reading r w c area) (outcome n 0 0 c) w area
  unfolding perform_reading reading_refusal unanswered
  reading_refused area z = tests_refuse tests numbered (reading_answer (load w c) r) w c area e z

  pub reading_answered : (area : List ℕ) {area' answer : List ℕ} {a : Given ℕ Refusal} → n ≡ 0 → reading_answer (load w c) r ≡ answer → Answered answer area a area'
      → Promise (perform_reading r w c area) (outcome (number_of a) 0 (length_of a) c) w area'
  unfolding perform_reading reading_refusal unanswered
  reading_answered area z f k = tests_pass tests numbered (reading_answer (load w c) r) w c area e z f k

  -- what is not refused is read in sound tables, and has passed its own tests
  pub reading_sound : n ≡ 0 → sound w c ≡ true
  unfolding unanswered
  reading_sound z = (unless_passed not_sound (sound w c) _ (omega arith) (sym e ∙ z)).0

  pub reading_passed : n ≡ 0 → first (reading_refusals (load w c) r) accepted ≡ 0
  unfolding unanswered
  reading_passed z = (unless_passed not_sound (sound w c) _ (omega arith) (sym e ∙ z)).1
