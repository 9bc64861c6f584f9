-- What is left of a list, or of a part of it, from the place k on; tests and writes by its first element.
use Prim.Native.Nat.{ℕ, zero, suc, ◌+◌, ◌≤◌, ◌<◌}
use mathlib.Core.Path.{◌≡◌, refl, ◌∙◌}
use mathlib.Core.Bool.{Bool, true, false, and-false}
use mathlib.Core.List.{List, [], ◌∷◌, ◌++◌}
use native.Mathlib.Omega.{arith}
use native.Mathlib.Nat.{add_assoc}
use native.Mathlib.Numerals.{add-one}
use lib.ListN.{length, get_or, take, drop, set, replicate, length-take, length-drop, drop_of_length-le}
use lib.Seq.{drop-cons, get_or-take, get_or-drop}
use Rattle.lists.specs.Lists.{all, agree}
use Rattle.lists.specs.Runs.{overwrite}
use Rattle.lists.proofs.Runs.{overwrite_set}

-- a part: the n elements from a on
pub part_end : {A : Type 0} (xs : List A) (a n k : ℕ) → n ≤ k → drop k (take n (drop a xs)) ≡ []
part_end xs a n k h = drop_of_length-le (take n (drop a xs)) {i = k} (simp length-take (omega arith))

module _ {A : Type 0} (d : A) where
  pub rest_step : (xs : List A) (k : ℕ) → k < length xs → drop k xs ≡ get_or xs k d ∷ drop (k + 1) xs
  rest_step xs k h = rw add-one (drop-cons xs k d h)

  pub part_step : (xs : List A) (a n k : ℕ) → a + n ≤ length xs → k < n
      → drop k (take n (drop a xs)) ≡ get_or xs (a + k) d ∷ drop (k + 1) (take n (drop a xs))
  part_step xs a n k f h =
      rest_step (take n (drop a xs)) k (simp (length-take, length-drop) (omega arith)) ∙ rw (get_or-take n (drop a xs) k d h, get_or-drop) refl

  -- past its end a list is as if it went on with the default
  pub get_d_padded : (xs : List A) (n k : ℕ) → get_or (xs ++ replicate n d) k d ≡ get_or xs k d
  get_d_padded [] zero k = refl
  get_d_padded [] (suc n) zero = refl
  get_d_padded [] (suc n) (suc k) = get_d_padded [] n k
  get_d_padded (x ∷ xs) n zero = refl
  get_d_padded (x ∷ xs) n (suc k) = get_d_padded xs n k

module _ {A : Type 0} (p : A → Bool) {xs : List A} where
  pub all_first_pass : {x : A} {ys : List A} → xs ≡ x ∷ ys → p x ≡ true → all p xs ≡ all p ys
  unfolding all
  all_first_pass s e = rw (s, e) refl

  pub all_first_fail : {x : A} {ys : List A} → xs ≡ x ∷ ys → p x ≡ false → all p xs ≡ false
  unfolding all
  all_first_fail s e = rw (s, e) refl

  pub all_none : xs ≡ [] → all p xs ≡ true
  unfolding all
  all_none s = rw s refl

module _ {A B : Type 0} (r : A → B → Bool) {xs : List A} {ys : List B} where
  pub agree_first_pass : {x : A} {y : B} {xs' : List A} {ys' : List B} → xs ≡ x ∷ xs' → ys ≡ y ∷ ys' → r x y ≡ true → agree r xs ys ≡ agree r xs' ys'
  unfolding agree
  agree_first_pass s t e = rw (s, t, e) refl

  pub agree_first_fail : {x : A} {y : B} {xs' : List A} {ys' : List B} → xs ≡ x ∷ xs' → ys ≡ y ∷ ys' → r x y ≡ false → agree r xs ys ≡ false
  unfolding agree
  agree_first_fail s t e = rw (s, t, e) refl

  pub agree_none : xs ≡ [] → ys ≡ [] → agree r xs ys ≡ true
  unfolding agree
  agree_none s t = rw (s, t) refl

-- a list agrees with no longer one
pub agree_shorter : {A B : Type 0} (r : A → B → Bool) (xs : List A) (ys : List B) → length xs < length ys → agree r xs ys ≡ false
unfolding agree
agree_shorter r [] [] h = absurd (omega arith)
agree_shorter r [] (y ∷ ys) h = refl
agree_shorter r (x ∷ xs) [] h = absurd (omega arith)
agree_shorter r (x ∷ xs) (y ∷ ys) h = rw (agree_shorter r xs ys (omega arith)) (and-false (r x y))

-- a loop that writes a list over a run, word by word from a on
pub overwrite_next : (w : List ℕ) (a k v : ℕ) {xs ys : List ℕ} → a + k < length w → xs ≡ v ∷ ys → overwrite w (a + k) xs ≡ overwrite (set w (a + k) v) (a + (k + 1)) ys
overwrite_next w a k v {xs} {ys} h s = rw (s, overwrite_set w (a + k) v ys h, add_assoc) refl
