-- Compaction: of the consecutive pieces of a run those whose places pass q stay, and gaps close. Pieces of any sizes: records, names, the positions
-- of delete files. A loop's law: what the run and the words kept come to from the turn i on, with k words kept.
use Prim.Native.Nat.{ℕ, suc, ◌+◌, ◌*◌, ◌-◌, ◌≤◌, ◌<◌}
use mathlib.Core.Path.{◌≡◌, refl, sym, ap, ap₂, ◌∙◌}
use mathlib.Core.Bool.{Bool, true, false}
use mathlib.Core.List.{List, ◌++◌, map, flat_map, append_assoc, append-nil}
use native.Mathlib.Omega.{arith}
use native.Mathlib.Numerals.{add-one}
use native.Mathlib.Nat.{add-zero, add_assoc, zero-add, eq_of_mul-eq-mul_left}
use lib.ListN.{length, take, drop, replicate, length-map}
use Rattle.lists.specs.Lists.{range, filter, sum}
use Rattle.lists.specs.Runs.{from, overwrite, replace, replace_by, at}
use Rattle.lists.specs.Pieces.{Pieces, piece, row_pieces, Compacted, CompactedBy}
use Rattle.lists.proofs.Members.{In, in_filter_of, range_in}
use Rattle.lists.proofs.Selections.{map-id, map_same, flat_map_ext, flat_map_map, filter_map_ext}
use Rattle.lists.proofs.Runs.{overwrite_front, overwrite_past, replace_past, replace_less}
use Rattle.lists.proofs.Loops.{from_all, filter_pass, filter_fail, filter_end}
use Rattle.lists.proofs.Places.{in_from}
use Rattle.lists.proofs.Pieces.{start_grows, pieces_length, sizes_sum}

-- pieces by their places, as code has them
module _ (P : Pieces) where
  pub next_start : {at : ℕ} (i : ℕ) → at ≡ P.start i → at + P.size i ≡ P.start (i + 1)
  next_start i e = rw (e, add-one) (sym (P.then i))

  pub piece_fits : {at : ℕ} (i n m : ℕ) → at ≡ P.start i → i < n → P.start n ≤ m → at + P.size i ≤ m
  piece_fits i n m e h s = omega (arith, P.then i, start_grows P (suc i) n h)

  pub end_fits : {at : ℕ} (i n m : ℕ) → at ≡ P.start i → i ≤ n → P.start n ≤ m → at ≤ m
  end_fits i n m e h s = omega (arith, start_grows P i n h)

module _ {A : Type 0} (zero : A) (P : Pieces) (q : ℕ → Bool) (n : ℕ) where
  places : ℕ → List ℕ
  unfolding filter
  places i = filter q (from (λ j. j) i n)

  pub compacted : List A → ℕ → ℕ → List A × ℕ
  unfolding flat_map sum
  compacted w k i = (replace_by zero w (P.start n) (take k w ++ flat_map (piece P w) (places i)), k + sum (map P.size (places i)))

  all_places : filter q (range 0 n) ≡ places 0
  unfolding places filter
  all_places = ap (filter q) (map-id (range 0 n) ∙ from_all (λ j. j) n)

  compacted_start : (w : List A) → ◌≡◌ {A = List A × ℕ} (replace_by zero w (P.start n) (flat_map (piece P w) (filter q (range 0 n))), sum (map P.size (filter q (range 0 n)))) (compacted w 0 0)
  unfolding compacted
  compacted_start w = rw (all_places, zero-add) refl

  -- what is written below the place i leaves the pieces from i on
  pieces_past : (w : List A) (k i : ℕ) (a : List A) → k ≤ length w → k + length a ≤ P.start i
      → flat_map (piece P (overwrite w k a)) (places i) ≡ flat_map (piece P w) (places i)
  unfolding places
  pieces_past w k i a g h =
      flat_map_ext (piece P (overwrite w k a)) (piece P w) (places i)
      (λ j m. let r = in_from (λ j. j) i n (in_filter_of q (from (λ j. j) i n) m).0 in
      ap (take (P.size j)) (overwrite_past w k a (P.start j) g (omega (arith, start_grows P i r.0 r.1, ap P.start r.3))))

  keep_piece : (w v : List A) (k i : ℕ) → k ≤ P.start i → i < n → P.start n ≤ length w → q i ≡ true
      → v ≡ overwrite w k (piece P w i) → compacted w k i ≡ compacted v (k + P.size i) (i + 1)
  unfolding compacted places flat_map sum
  keep_piece w v k i g h s t e =
      let l : length (piece P w i) ≡ P.size i = pieces_length P w n s i (range_in 0 n i (omega arith) (omega arith)) in
      let next : P.start (i + 1) ≡ P.start i + P.size i = rw add-one (P.then i) in
      let ends : P.start (i + 1) ≤ P.start n = start_grows P (i + 1) n (omega arith) in
      let front : take (k + P.size i) (overwrite w k (piece P w i)) ≡ take k w ++ piece P w i = rw l at (overwrite_front w k (piece P w i) (omega arith)) in
      rw (
        filter_pass (λ j. j) q i n h t,
        e,
        pieces_past w k (i + 1) (piece P w i) (omega arith) (omega arith),
        front,
        replace_past zero w k (piece P w i) _ (P.start n) (omega arith) (omega arith),
      ) (rw (append_assoc, add_assoc) refl)

  -- a piece that stays was moved down, the m words from `at` on
  pub compacted_pass : (w v : List A) (k i : ℕ) {at m : ℕ} → at ≡ P.start i → m ≡ P.size i → k ≤ at → i < n → P.start n ≤ length w → q i ≡ true
      → v ≡ overwrite w k (take m (drop at w)) → compacted w k i ≡ compacted v (k + m) (i + 1)
  compacted_pass w v k i a s l h g t e =
      keep_piece w v k i (omega arith) h g t (e ∙ ap₂ (λ m at. overwrite w k (take m (drop at w))) s a) ∙ ap (λ m. compacted v (k + m) (i + 1)) (sym s)

  pub compacted_fail : (w : List A) (k i : ℕ) → i < n → q i ≡ false → compacted w k i ≡ compacted w k (i + 1)
  unfolding compacted places
  compacted_fail w k i h t = rw (filter_fail (λ j. j) q i n h t) refl

  compacted_end : (w : List A) (k i : ℕ) → n ≤ i → k ≤ P.start n → P.start n ≤ length w
      → compacted w k i ≡ (overwrite w k (replicate (P.start n - k) zero), k)
  unfolding compacted places flat_map sum
  compacted_end w k i h g s = rw (filter_end (λ j. j) q i n h, append-nil, replace_less zero w (P.start n) k g s, add-zero) refl

  -- the loop is over, and what is left up to `at` was cleared
  pub compacted_done : (w₀ w v : List A) (k at i : ℕ) → n ≤ i → i ≤ n → at ≡ P.start i → k ≤ at → P.start n ≤ length w
      → compacted w₀ 0 0 ≡ compacted w k i → v ≡ overwrite w k (replicate (at - k) zero) → CompactedBy zero P q n w₀ k v
  compacted_done w₀ w v k at i h g a l s e d =
      let done : at ≡ P.start n = a ∙ ap P.start (omega arith) in
      let r = compacted_start w₀ ∙ (e ∙ compacted_end w k i h (omega arith) s) in
      record { count = sym (ap (λ x. x.1) r); words = d ∙ (ap (λ z. overwrite w k (replicate (z - k) zero)) done ∙ sym (ap (λ x. x.0) r)) }

-- What is left, said of what the pieces mean: f is what a place means, p its test, `words` its piece

pub pieces_compacted : {X : Type 0} (P : Pieces) (p : X → Bool) (q : ℕ → Bool) (words : X → List ℕ) (f : ℕ → X) (w : List ℕ) (n : ℕ) {r : ℕ} {v : List ℕ}
    → ((j : ℕ) → In j (range 0 n) → p (f j) ≡ q j) → ((j : ℕ) → In j (range 0 n) → words (f j) ≡ piece P w j) → Compacted P q n w r v
    → v ≡ replace w (P.start n) (flat_map words (filter p (map f (range 0 n))))
pieces_compacted P p q words f w n e d s =
    s.words ∙ ap (replace w (P.start n)) (sym (ap (flat_map words) (filter_map_ext q p f (range 0 n) e)
    ∙ flat_map_map (piece P w) words f (filter q (range 0 n)) (λ j m. d j (in_filter_of q (range 0 n) m).0)))

-- records of one size: of k records' words so many records stay
pub rows_count : {X : Type 0} (size k : ℕ) (p : X → Bool) (q : ℕ → Bool) (f : ℕ → X) (n : ℕ) {w v : List ℕ} → 0 < size → ((j : ℕ) → In j (range 0 n) → p (f j) ≡ q j)
    → Compacted (row_pieces size) q n w (size * k) v → k ≡ length (filter p (map f (range 0 n)))
rows_count size k p q f n h e s =
    eq_of_mul-eq-mul_left size h k (length (filter q (range 0 n))) (s.count ∙ (ap sum (sym (map_same (λ _. size) size (filter q (range 0 n)) 0 (λ x m. refl))) ∙ sizes_sum (row_pieces size) (length (filter q (range 0 n)))))
    ∙ sym (ap length (filter_map_ext q p f (range 0 n) e) ∙ length-map (filter q (range 0 n)) f)
