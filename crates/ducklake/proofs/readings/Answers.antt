-- Readings on words, in terms of the catalog that the words mean.
use Prim.Native.Nat.{ℕ, zero, suc, ◌≤◌, ◌<◌}
use mathlib.Core.Path.{◌≡◌, refl, sym, ap, ◌∙◌}
use mathlib.Core.List.{List, [], ◌∷◌}
use mathlib.Core.Bool.{Bool, true, false, cond}
use native.Mathlib.Omega.{arith}
use native.Mathlib.Nat.{zero-add}
use lib.Dec.{leb, eqb}
use lib.ListN.{length, take, replicate, length-replicate}
use borrow.Author.Tests.{le-leb, lt-leb, ne_eqb, eqb-true}
use Rattle.lists.specs.Runs.{overwrite}
use Rattle.lists.proofs.Tests.{if}
use Rattle.lists.proofs.Runs.{overwrite_front}
use Rattle.layout.specs.declared.outcome.Counts.{Counts}
use Rattle.layout.specs.Catalog.{Catalog}
use Rattle.layout.specs.Words.{Words, load}
use Rattle.ducklake.specs.Liveness.{retained}
use Rattle.ducklake.specs.Soundness.{sound}
use Rattle.ducklake.specs.Refusals.{accepted, not_sound, short_answer_area, refuse_unless, first}
use Rattle.ducklake.specs.Readings.{Query, schemas, tables, columns, table_named, files, filtered_files, rows, query_answer, query_refusals}
use Rattle.ducklake.specs.Calls.{Reading, query_at, by_time, reading_refusals, reading_answer, reading_refusal, perform_reading}
use Rattle.ducklake.specs.Claim.{Answer, answer_of, reading_of}
use Rattle.ducklake.proofs.facts.FirstRefusals.{NumberedFrom, first_append}

-- tests in a row: they give the rest, or one number whatever the rest
data Settles (f : ℕ → ℕ) : Type 0 where
  passes : ((rest : ℕ) → f rest ≡ rest) → Settles f
  stops : (k : ℕ) → (suc k ≡ short_answer_area → ⊥) → ((rest : ℕ) → f rest ≡ suc k) → Settles f

-- numbers above that of an area that is too short
settle : (ts : List (ℕ × Bool)) → NumberedFrom 4 ts → Settles (first ts)
settle [] n = passes (λ rest. refl)
settle (t ∷ ts) n = tested t.0 t.1 n.0 (settle ts n.1)
  where
    tested : (number : ℕ) (b : Bool) → 4 ≤ number → {f : ℕ → ℕ} → Settles f → Settles (λ rest. refuse_unless number b (f rest))
    tested number true l s = s
    tested zero false l s = absurd (omega arith)
    tested (suc k) false l s = stops k (λ e. omega arith) (λ rest. refl)

pub numbered_query : (C : Catalog) (s : ℕ) (q : Query) → NumberedFrom 4 (query_refusals C s q)
numbered_query C s schemas = tt
numbered_query C s (tables schema) = omega arith
numbered_query C s (columns table) = omega arith
numbered_query C s (table_named schema name) = omega arith
numbered_query C s (files table) = omega arith
numbered_query C s (filtered_files table column scalar) = omega arith
numbered_query C s (rows table) = omega arith

pub numbered_reading : (C : Catalog) (r : Reading) → NumberedFrom 4 (reading_refusals C r)
numbered_reading C (query_at s q) = (omega arith, numbered_query C s q)
numbered_reading C (by_time t) = omega arith

-- 1, then the reading's own, then 3
pub reading_parts : (w : Words) (c : Counts) (m : ℕ) (r : Reading) → reading_refusal w c m r
    ≡ refuse_unless not_sound (sound w c) (first (reading_refusals (load w c) r) (refuse_unless short_answer_area (leb (length (reading_answer (load w c) r)) m) accepted))
unfolding reading_refusal
reading_parts w c m r = ap (refuse_unless not_sound (sound w c)) (first_append (reading_refusals (load w c) r) _ accepted)

-- a reading's answer, by its number
abbrev pub numbered : ℕ → List ℕ → Answer
numbered number words = record { number = number; words = cond (eqb number accepted) words [] }

module _ (w : Words) (c : Counts) (s : ℕ) (q : Query) where
  tested : ℕ → ℕ
  tested rest = refuse_unless not_sound (sound w c) (first (reading_refusals (load w c) (query_at s q)) rest)

  settle_tested : Settles tested
  unfolding tested
  settle_tested = sound_first (sound w c) (settle (reading_refusals (load w c) (query_at s q)) (numbered_reading (load w c) (query_at s q)))
    where
      sound_first : (b : Bool) {f : ℕ → ℕ} → Settles f → Settles (λ rest. refuse_unless not_sound b (f rest))
      sound_first true s = s
      sound_first false s = stops 0 (λ e. omega arith) (λ rest. refl)

  parts : (m : ℕ) → reading_refusal w c m (query_at s q) ≡ tested (refuse_unless short_answer_area (leb (length (query_answer (load w c) s q)) m) accepted)
  unfolding tested reading_answer
  parts m = reading_parts w c m (query_at s q)

  -- on an area that is not too short
  with_room_lem : (area : List ℕ) → Settles tested → ((perform_reading (query_at s q) w c area).number ≡ short_answer_area → ⊥)
      → answer_of (perform_reading (query_at s q) w c area) ≡ numbered (tested accepted) (query_answer (load w c) s q)
  unfolding perform_reading reading_answer
  with_room_lem area (passes e) h =
      if (leb (length (query_answer (load w c) s q)) (length area))
      (λ b. rw (parts (length area), e _, b, e accepted) (λ i. record { number = 0; words = front (query_answer (load w c) s q) area i }))
      (λ b. absurd (h (rw (parts (length area), e _, b))))
    where
      front : (words area : List ℕ) → take (length words) (overwrite area 0 words) ≡ words
      front words area = ap (λ n. take n (overwrite area 0 words)) (sym (zero-add (length words))) ∙ overwrite_front area 0 words (omega arith)
  with_room_lem area (stops k n e) h = rw (parts (length area), e _, e accepted, ne_eqb (suc k) 0 (λ z. omega arith))

  -- an area as long as the answer is not too short
  long_enough : (area : List ℕ) → Settles tested → length (query_answer (load w c) s q) ≤ length area → reading_refusal w c (length area) (query_at s q) ≡ tested accepted
  long_enough area (passes e) h = rw (parts (length area), le-leb (length (query_answer (load w c) s q)) (length area) h)
  long_enough area (stops k n e) h = rw (parts (length area), e _, e accepted)

  not_short : Settles tested → tested accepted ≡ short_answer_area → ⊥
  not_short (passes e) h = omega (arith, e accepted, h)
  not_short (stops k n e) h = n (sym (e accepted) ∙ h)

  number_is : (area : List ℕ) → (perform_reading (query_at s q) w c area).number ≡ reading_refusal w c (length area) (query_at s q)
  unfolding perform_reading
  number_is area =
      if (eqb (reading_refusal w c (length area) (query_at s q)) accepted) (λ b. rw b (sym (eqb-true _ _ b))) (λ b. rw b)

  reading_tested : reading_of w c s q ≡ numbered (tested accepted) (query_answer (load w c) s q)
  unfolding reading_of
  reading_tested =
      with_room_lem area settle_tested
      (λ e. not_short settle_tested (sym (long_enough area settle_tested (rw length-replicate (omega arith))) ∙ (sym (number_is area) ∙ e)))
    where
      area : List ℕ
      area = replicate (length (query_answer (load w c) s q)) 0

  pub any_area : (area : List ℕ) → ((perform_reading (query_at s q) w c area).number ≡ short_answer_area → ⊥)
      → answer_of (perform_reading (query_at s q) w c area) ≡ reading_of w c s q
  any_area area h = with_room_lem area settle_tested h ∙ sym reading_tested

  -- the reading's words, and whether an area has room for them
  words_passed : ((rest : ℕ) → tested rest ≡ rest) → (reading_of w c s q).words ≡ query_answer (load w c) s q
  words_passed e = ap (λ a. a.words) reading_tested ∙ rw (e accepted)

  words_stopped : (k : ℕ) → ((rest : ℕ) → tested rest ≡ suc k) → (reading_of w c s q).words ≡ []
  words_stopped k e = ap (λ a. a.words) reading_tested ∙ rw (e accepted, ne_eqb (suc k) 0 (λ z. omega arith))

  stopped : (area : List ℕ) (k : ℕ) → ((rest : ℕ) → tested rest ≡ suc k) → reading_refusal w c (length area) (query_at s q) ≡ suc k
  stopped area k e = parts (length area) ∙ e _

  not_refused : (area : List ℕ) → Settles tested → length (reading_of w c s q).words ≤ length area → (perform_reading (query_at s q) w c area).number ≡ short_answer_area → ⊥
  not_refused area (passes e) h z =
      not_short (passes e) (sym (long_enough area (passes e) (omega (arith, ap {B = ℕ} length (words_passed e)))) ∙ (sym (number_is area) ∙ z))
  not_refused area (stops k n e) h z = n (sym (stopped area k e) ∙ (sym (number_is area) ∙ z))

  too_short : (area : List ℕ) → Settles tested → length area < length (reading_of w c s q).words → reading_refusal w c (length area) (query_at s q) ≡ short_answer_area
  too_short area (passes e) h =
      parts (length area) ∙ e _ ∙ rw (lt-leb (length (query_answer (load w c) s q)) (length area) (omega (arith, ap {B = ℕ} length (words_passed e))))
  too_short area (stops k n e) h = absurd (omega (arith, ap {B = ℕ} length (words_stopped k e)))

  pub enough_room : (area : List ℕ) → length (reading_of w c s q).words ≤ length area
      → ((perform_reading (query_at s q) w c area).number ≡ short_answer_area → ⊥) × (answer_of (perform_reading (query_at s q) w c area) ≡ reading_of w c s q)
  enough_room area h = let n = not_refused area settle_tested h in (n, any_area area n)

  pub no_room_lem : (area : List ℕ) → length area < length (reading_of w c s q).words → (perform_reading (query_at s q) w c area).number ≡ short_answer_area
  no_room_lem area h = number_is area ∙ too_short area settle_tested h

  pub reading_is : sound w c ≡ true → retained (load w c).snapshots s ≡ true → reading_of w c s q ≡ numbered (first (query_refusals (load w c) s q) accepted) (query_answer (load w c) s q)
  unfolding tested
  reading_is h k = reading_tested ∙ rw (h, k)
