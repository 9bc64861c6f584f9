-- Rows with something beside them, and runs cut into consecutive pieces.
use Prim.Native.Nat.{ℕ, zero, suc, ◌+◌, ◌-◌, ◌≤◌}
use mathlib.Core.Path.{◌≡◌, refl, sym, ap, ap₂, ◌∙◌}
use mathlib.Core.List.{List, [], ◌∷◌, ◌++◌, map, flat_map, append_assoc}
use native.Mathlib.Omega.{arith}
use native.Mathlib.Nat.{add-zero, add-suc, suc-add, zero-add, add_assoc}
use lib.ListN.{length, take, drop, length-drop}
use lib.Seq.{drop-drop, drop_at, take_at, take-add, length-take-le}
use Rattle.lists.specs.Lists.{range, sum}
use Rattle.lists.specs.Runs.{replace, replace_by}
use Rattle.lists.specs.Pieces.{Pieces, piece}
use Rattle.lists.proofs.Members.{In, in_range_lem}
use Rattle.lists.proofs.Selections.{flat_map_map, flat_map_length}
use Rattle.lists.proofs.Runs.{replace_kept}

-- rows and what lies beside them make up the elements
pub joined : {A B X : Type 0} (join : A → B → X) (f : ℕ → A) (g : ℕ → B) (row : X → A) (side : X → B) → ((x : X) → join (row x) (side x) ≡ x)
    → (js : List ℕ) (xs : List X) → map f js ≡ map row xs → map g js ≡ map side xs → map (λ j. join (f j) (g j)) js ≡ xs
joined join f g row side e [] [] p q = refl
joined join f g row side e [] (x ∷ xs) p q = cc
joined join f g row side e (j ∷ js) [] p q = cc
joined join f g row side e (j ∷ js) (x ∷ xs) p q = cc (e x, joined join f g row side e js xs (cc) (cc))

-- the words of xs have the sizes of the first pieces
abbrev pub Sized : {A : Type 0} → Pieces → (A → List ℕ) → List A → Type 0
Sized P words xs = map P.size (range 0 (length xs)) ≡ map (λ x. length (words x)) xs

module _ (P : Pieces) where
  sizes_from : (n i : ℕ) → P.start i + sum (map P.size (range i n)) ≡ P.start (i + n)
  unfolding range sum
  sizes_from zero i = rw (add-zero i, add-zero)
  sizes_from (suc n) i = rw (add-suc, ← suc-add i n, ← sizes_from n (suc i), P.then i, add_assoc)

  pub sizes_sum : (n : ℕ) → sum (map P.size (range 0 n)) ≡ P.start n
  sizes_sum n = omega (arith, P.first, rw zero-add at (sizes_from n 0))

  -- a later piece does not start before an earlier one
  pub start_grows : (i n : ℕ) → i ≤ n → P.start i ≤ P.start n
  start_grows i n h = omega (arith, sizes_from (n - i) i, ap P.start end)
    where
      end : i + (n - i) ≡ n
      end = omega arith

  -- in a run that holds the first n pieces they have their sizes
  pub pieces_length : {A : Type 0} (w : List A) (n : ℕ) → P.start n ≤ length w → (j : ℕ) → In j (range 0 n) → length (piece P w j) ≡ P.size j
  pieces_length w n h j m =
      length-take-le (P.size j) (drop (P.start j) w) (rw length-drop (omega (arith, P.then j, sizes_from (n - suc j) (suc j), ap P.start end)))
    where
      end : suc j + (n - suc j) ≡ n
      end = omega (arith, in_range_lem 0 n m)

  words_from : (w : List ℕ) (n i : ℕ) → flat_map (piece P w) (range i n) ≡ take (sum (map P.size (range i n))) (drop (P.start i) w)
  unfolding flat_map range sum
  words_from w zero i = refl
  words_from w (suc n) i = rw (words_from w n (suc i), P.then i, take-add, drop-drop)

  -- the first n pieces are the run's first words
  pub words_of_pieces : (w : List ℕ) (n : ℕ) → flat_map (piece P w) (range 0 n) ≡ take (P.start n) w
  words_of_pieces w n = rw (words_from w n 0, sizes_sum n, P.first)

  module _ {A : Type 0} (words : A → List ℕ) where
    pub words_of_sized : (xs : List A) → Sized P words xs → length (flat_map words xs) ≡ P.start (length xs)
    words_of_sized xs s = flat_map_length words xs ∙ (ap sum (sym s) ∙ sizes_sum (length xs))

    -- the first n pieces, written again
    pub pieces_kept : (w : List ℕ) (n : ℕ) (f : ℕ → A) → ((j : ℕ) → words (f j) ≡ piece P w j) → P.start n ≤ length w
        → replace w (P.start n) (flat_map words (map f (range 0 n))) ≡ w
    pieces_kept w n f e h =
        ap (replace w (P.start n)) (flat_map_map (piece P w) words f (range 0 n) (λ j _. e j) ∙ words_of_pieces w n) ∙ replace_kept w (P.start n) h

    read_of_words : (xs : List A) (w t : List ℕ) (i : ℕ) → map P.size (range i (length xs)) ≡ map (λ x. length (words x)) xs
        → drop (P.start i) w ≡ flat_map words xs ++ t → map (piece P w) (range i (length xs)) ≡ map words xs
    unfolding flat_map range
    read_of_words [] w t i s e = refl
    read_of_words (x ∷ xs) w t i s e =
        ap₂ {C = List (List ℕ)} ◌∷◌ (rw (here, size_is) (take_at (words x) _ _ refl))
        (read_of_words xs w t (suc i) (cc) (rw (P.then i, ← drop-drop, here, size_is) (drop_at (words x) _ _ refl)))
      where
        size_is : P.size i ≡ length (words x)
        size_is = cc

        here : drop (P.start i) w ≡ words x ++ (flat_map words xs ++ t)
        here = e ∙ append_assoc (words x) (flat_map words xs) t

    -- pieces that were written are read
    pub pieces_replace : (old : List ℕ) (used : ℕ) (xs : List A) → Sized P words xs
        → map (piece P (replace old used (flat_map words xs))) (range 0 (length xs)) ≡ map words xs
    unfolding replace_by
    pieces_replace old used xs s = read_of_words xs (replace old used (flat_map words xs)) _ 0 s (ap (λ (k : ℕ). drop k (replace old used (flat_map words xs))) P.first)
