-- Layouts that read what they write: tables of records in runs.
use Prim.Native.Nat.{ℕ, zero, suc, ◌+◌, ◌*◌, ◌-◌, ◌≤◌, max}
use mathlib.Core.Path.{◌≡◌, refl, ap, ap₂, ◌∙◌}
use mathlib.Core.List.{List, [], ◌∷◌, ◌++◌, map, flat_map, append_assoc}
use native.Mathlib.Omega.{arith}
use native.Mathlib.Nat.{add_comm, mul-zero, mul-suc, zero-add}
use lib.ListN.{length, get_or, take, drop, replicate, length-append, length-drop}
use lib.Seq.{drop-cons, drop_at, drop-drop, take-add, take_all}
use Rattle.lists.specs.Lists.{range}
use Rattle.lists.specs.Runs.{replace, Layout, at, table, field, fields, replace_by}
use Rattle.lists.proofs.Selections.{map_ext}
use Rattle.lists.proofs.Runs.{replace_kept}

-- a record has `size` words, and reading and writing undo each other
pub record Lawful {A : Type 0} (L : Layout A) : Type 0 where
  pub words_length : (r : A) → length (L.words r) ≡ L.size
  pub words_read : (v : List ℕ) → L.size ≤ length v → L.words (L.read v 0) ≡ take L.size v
  pub read_words : (r : A) (t : List ℕ) → L.read (L.words r ++ t) 0 ≡ r
  pub read_drop : (w : List ℕ) (k : ℕ) → L.read w k ≡ L.read (drop k w) 0

-- the first n words one by one: `words_read` at a numeral n
words_from : (n i : ℕ) (v : List ℕ) → i + n ≤ length v → map (λ j. get_or v j 0) (range i n) ≡ take n (drop i v)
unfolding range
words_from zero i v h = refl
words_from (suc n) i v h =
    rw (drop-cons v i 0 (omega arith)) (ap (λ (t : List ℕ). get_or v i 0 ∷ t) (words_from n (suc i) v (omega arith)))

pub words_one_by_one : (n : ℕ) (v : List ℕ) → n ≤ length v → map (λ j. get_or v j 0) (range 0 n) ≡ take n v
unfolding range
words_one_by_one n v h = words_from n 0 v (omega arith)

-- records of one word each
pub fields_words : (v : List ℕ) (n : ℕ) → length v ≡ n → fields 1 0 v n ≡ v
unfolding field
fields_words v n h =
    map_ext (field 1 0 v) (λ j. get_or v j 0) (range 0 n) (λ j m. ap (λ k. get_or v k 0) (omega arith))
    ∙ (words_one_by_one n v (omega arith) ∙ take_all n v (omega arith))

module _ {A : Type 0} (L : Layout A) (F : Lawful L) where
  pub words_of_length : (rs : List A) → length (flat_map L.words rs) ≡ L.size * length rs
  unfolding flat_map
  words_of_length [] = omega arith
  words_of_length (r ∷ rs) = rw (length-append, F.words_length, words_of_length rs) (omega arith)

  pub words_at_lem : (w : List ℕ) (i : ℕ) → L.size * i + L.size ≤ length w → L.words (at L w i) ≡ take L.size (drop (L.size * i) w)
  words_at_lem w i h = ap L.words (F.read_drop w (L.size * i)) ∙ F.words_read (drop (L.size * i) w) (rw length-drop (omega arith))

  words_of_range : (w : List ℕ) (k i : ℕ) → L.size * (i + k) ≤ length w
      → flat_map L.words (map (at L w) (range i k)) ≡ take (L.size * k) (drop (L.size * i) w)
  unfolding flat_map range
  words_of_range w zero i h = rw (mul-zero) refl
  words_of_range w (suc k) i h =
      rw (words_at_lem w i (omega arith), words_of_range w k (suc i) (omega arith), mul-suc L.size k, mul-suc L.size i) (rw (add_comm (L.size * k) L.size, take-add, drop-drop) refl)

  -- the words of the first n records
  pub words_of_table : (w : List ℕ) (n : ℕ) → L.size * n ≤ length w → flat_map L.words (table L w n) ≡ take (L.size * n) w
  words_of_table w n h = words_of_range w n 0 (rw zero-add h) ∙ rw mul-zero refl

  -- the first n records, written again
  pub table_kept : (w : List ℕ) (n : ℕ) → L.size * n ≤ length w → replace w (L.size * n) (flat_map L.words (table L w n)) ≡ w
  table_kept w n h = ap (replace w (L.size * n)) (words_of_table w n h) ∙ replace_kept w (L.size * n) h

  -- records that were written are read
  read_of_words : (rs : List A) (w t : List ℕ) (i : ℕ) → drop (L.size * i) w ≡ flat_map L.words rs ++ t → map (at L w) (range i (length rs)) ≡ rs
  unfolding flat_map range
  read_of_words [] w t i e = refl
  read_of_words (r ∷ rs) w t i e = ap₂ {C = List A} ◌∷◌ (F.read_drop w (L.size * i) ∙ (ap (λ (v : List ℕ). L.read v 0) here ∙ F.read_words r _)) (read_of_words rs w t (suc i) next)
    where
      here : drop (L.size * i) w ≡ L.words r ++ (flat_map L.words rs ++ t)
      here = e ∙ append_assoc (L.words r) (flat_map L.words rs) t

      next : drop (L.size * suc i) w ≡ flat_map L.words rs ++ t
      next = rw (mul-suc, ← drop-drop L.size (L.size * i) w, here) (drop_at (L.words r) (flat_map L.words rs ++ t) L.size (F.words_length r))

  pub table_replace : (old : List ℕ) (used : ℕ) (rs : List A) → table L (replace old used (flat_map L.words rs)) (length rs) ≡ rs
  unfolding replace_by
  table_replace old used rs = read_of_words rs (replace old used (flat_map L.words rs)) (replicate (used - length (flat_map L.words rs)) 0 ++ drop (max used (length (flat_map L.words rs))) old) 0 (rw mul-zero refl)
