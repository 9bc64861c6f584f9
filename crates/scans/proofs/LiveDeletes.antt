-- The pass from the last delete file to the first: what it has found is the first from the present one on. And what the place found tells of a
-- data file's delete files.
use Rattle.std.specs.Prelude.{None, Option, Some}
use Prim.Native.Nat.{ℕ, ◌+◌, ◌≤◌, ◌<◌}
use mathlib.Core.Path.{◌≡◌, refl, sym, ap, ◌∙◌}
use mathlib.Core.Bool.{Bool, true, false, ◌&&◌, and-false}
use mathlib.Core.List.{List}
use native.Mathlib.Omega.{arith}
use native.Mathlib.Numerals.{add-one}
use lib.Dec.{eqb}
use lib.ListN.{length, get_or}
use lib.Seq.{get_or-set_same, get_or-set_other}
use borrow.Author.Tests.{eq-eqb, ne_eqb as ne, eqb-true, eqb-false}
use Rattle.lists.specs.Lists.{chained, place}
use Rattle.lists.specs.Runs.{from, field, fields, at}
use Rattle.lists.proofs.Tests.{if, clash}
use Rattle.lists.proofs.Places.{Placed, placed}
use Rattle.lists.proofs.Search.{ascending_one}
use Rattle.lists.proofs.Loops.{place-start, place_hit, place_miss, place_end}
use Rattle.layout.specs.Fields.{data_file_size, data_file_id_word, delete_file_size, delete_file_begin_word}
use Rattle.layout.specs.Records.{delete_file_layout}
use Rattle.layout.specs.Words.{data_file_at, delete_file_at, delete_files_in}
use Rattle.ducklake.specs.Liveness.{live}
use Rattle.lookup.specs.declared.life.Life.{Life}
use Rattle.lookup.specs.Order.{place_of}
use Rattle.lookup.specs.Versions.{life_at, with_life}
use Rattle.scans.specs.Deletions.{set_at, deletes_in, from_one, DeleteFilesFound}
use lib.Dec.{ltb}

-- of a delete file the test looks at its data file and its life
live_is : (run positions : List ℕ) (j s : ℕ) {l : Life} {b : Bool} → l ≡ life_at delete_file_size delete_file_begin_word run j → b ≡ live s (with_life l)
    → live s (delete_file_at run positions j) ≡ b
unfolding field live
live_is run positions j s e f = rw (f, e) refl

module _ (files : List ℕ) (n : ℕ) (run : List ℕ) (m s : ℕ) where
  -- what has been found when the delete files from j on have been passed
  abbrev pub FoundFrom : List ℕ → ℕ → Type 0
  FoundFrom places j = (k : ℕ) → k < n → (positions : List ℕ) → get_or places k 0 ≡ from_one (place (deletes_in s (data_file_at files k).id) j (from (delete_file_at run positions) j m))

  pub found_start : (places : List ℕ) → ((k : ℕ) → get_or places k 0 ≡ 0) → FoundFrom places m
  found_start places z k h positions = z k ∙ ap from_one (sym (place_end (delete_file_at run positions) (deletes_in s (data_file_at files k).id) m m (omega arith)))

  pub found_end : (places : List ℕ) (j : ℕ) → j ≤ 0 → n ≤ length places → FoundFrom places j → DeleteFilesFound files n run m s places
  found_end places j z r e = record { room = r; found = λ k h positions. e k h positions ∙ ap from_one (whole k positions) }
    where
      none : j ≡ 0
      none = omega arith

      whole : (k : ℕ) (positions : List ℕ) → place (deletes_in s (data_file_at files k).id) j (from (delete_file_at run positions) j m) ≡ place (deletes_in s (data_file_at files k).id) 0 (delete_files_in run positions m)
      whole k positions = rw none (sym (place-start (delete_file_at run positions) (deletes_in s (data_file_at files k).id) m))

  -- the delete file j, whose life was read
  module _ (places : List ℕ) (i j : ℕ) {l : Life} {b : Bool} (q : i ≡ j + 1) (h : j < m) (e : l ≡ life_at delete_file_size delete_file_begin_word run j) (f : b ≡ live s (with_life l))
      (v : FoundFrom places i) where
    before : FoundFrom places (j + 1)
    before = rw q at v

    passes : (k : ℕ) (positions : List ℕ) → deletes_in s (data_file_at files k).id (delete_file_at run positions j) ≡ (eqb (at delete_file_layout run j).data_file.0 (data_file_at files k).id && b)
    passes k positions = ap (λ t. eqb (at delete_file_layout run j).data_file.0 (data_file_at files k).id && t) (live_is run positions j s e f)

    missed : (k : ℕ) → k < n → (positions : List ℕ) → deletes_in s (data_file_at files k).id (delete_file_at run positions j) ≡ false
        → get_or places k 0 ≡ from_one (place (deletes_in s (data_file_at files k).id) j (from (delete_file_at run positions) j m))
    missed k g positions t = before k g positions ∙ ap from_one (sym (place_miss (delete_file_at run positions) (deletes_in s (data_file_at files k).id) j m h t))

    pub found_ended : b ≡ false → FoundFrom places j
    found_ended t k g positions = missed k g positions (passes k positions ∙ rw t (and-false (eqb (at delete_file_layout run j).data_file.0 (data_file_at files k).id)))

    -- it is live, and stands for its data file
    module _ (asc : chained ltb (fields data_file_size data_file_id_word files n) ≡ true) (room : n ≤ length places) (t : b ≡ true) {x : ℕ} (d : x ≡ (at delete_file_layout run j).data_file.0) where
      abbrev key : ℕ → ℕ
      key = field data_file_size data_file_id_word files

      -- the data file k is the one, or another
      module _ (k : ℕ) (g : k < n) (positions : List ℕ) where
        abbrev Goal : List ℕ → Type 0
        Goal w = get_or w k 0 ≡ from_one (place (deletes_in s (data_file_at files k).id) j (from (delete_file_at run positions) j m))

        same : x ≡ key k → (r : Option ℕ) → Placed key (λ y. eqb y x) 0 (0 + n) r → Goal (set_at r places i)
        unfolding field
        same o (Some z) p =
            let there : z ≡ k = ascending_one key n asc z k (omega (arith, p.1)) g (eqb-true (key z) x p.2 ∙ o) in
            rw there
            (get_or-set_same places k i 0 (omega arith) ∙ (q ∙ (add-one j
            ∙ ap from_one (sym (place_hit (delete_file_at run positions) (deletes_in s (data_file_at files k).id) j m h (passes k positions ∙ rw (t, ← d, o, eq-eqb (key k) (key k) refl) refl))))))
        same o None p = clash (eq-eqb (key k) x (sym o)) (p k (omega arith) (omega arith))

        other : (x ≡ key k → ⊥) → (r : Option ℕ) → Placed key (λ y. eqb y x) 0 (0 + n) r → Goal (set_at r places i)
        unfolding field
        other o (Some z) p =
            get_or-set_other places z k i 0 (λ (c : k ≡ z). o (rw c (sym (eqb-true (key z) x p.2)))) ∙ not_it
          where
            not_it : Goal places
            not_it = missed k g positions (passes k positions ∙ rw (← d) (rw (ne x (key k) o) refl))
        other o None p = missed k g positions (passes k positions ∙ rw (← d) (rw (ne x (key k) o) refl))

      pub found_live : {w : List ℕ} → w ≡ set_at (place_of data_file_size data_file_id_word files n x) places i → FoundFrom w j
      found_live {w} u k g positions =
          rw u
          (if (eqb x (key k))
          (λ o. same k g positions (eqb-true x (key k) o) (place_of data_file_size data_file_id_word files n x) (placed key (λ y. eqb y x) n 0))
          (λ o. other k g positions (eqb-false x (key k) o) (place_of data_file_size data_file_id_word files n x) (placed key (λ y. eqb y x) n 0)))
