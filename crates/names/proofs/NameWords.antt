-- The words of names: bytes are digits, so that equal words have equal bytes.
use Prim.Native.Nat.{ℕ, zero, suc, ◌+◌, ◌*◌, ◌^◌, ◌≤◌, ◌<◌}
use mathlib.Core.Path.{◌≡◌, refl, sym, ap, ap₂, ◌∙◌}
use mathlib.Core.Bool.{Bool, true, not, ◌&&◌, and-false}
use mathlib.Core.List.{List, [], ◌∷◌, ◌++◌}
use native.Mathlib.Omega.{arith}
use native.Mathlib.Nat.{add-zero}
use lib.Dec.{ltb, eqb}
use lib.ListN.{length, get_or, take, drop, length-take, length-drop, take-append-drop}
use lib.Seq.{take-take, drop-drop, take-add, take_all}
use borrow.Author.Tests.{eqb-true, eq-eqb, ne_eqb, ltb-true, lt-ltb, ltb-false, lt-leb}
use Rattle.lists.specs.Lists.{range, all, agree}
use Rattle.lists.specs.Runs.{word_bytes}
use Rattle.lists.proofs.Tests.{if, both, and, clash, same_test}
use Rattle.lists.proofs.Windows.{part_step, part_end}
use Rattle.lists.proofs.Selections.{all_append, all_weaken}
use Rattle.layout.specs.Names.{name_size, name_at, is_name_byte, is_zero, named_then_zero, is_name, same_name}
use Rattle.names.specs.NameWords.{byte_count, half_bytes, half_count, half_at, digits, name_word_count, name_word, name_words}

-- bytes behind others
digits_append : (word : ℕ) (xs ys : List ℕ) → digits word (xs ++ ys) ≡ digits (digits word xs) ys
unfolding digits
digits_append word [] ys = refl
digits_append word (x ∷ xs) ys = digits_append (byte_count * word + x) xs ys

-- half a word: its bytes one after another, and their sum as digits
module _ (run : List ℕ) (a : ℕ) (fits : a + half_bytes ≤ length run) where
  half_step : (k : ℕ) → k < half_bytes → drop k (half_at run a) ≡ get_or run (a + k) 0 ∷ drop (k + 1) (half_at run a)
  half_step k h = part_step 0 run a half_bytes k fits h

  half_bytes_lem : half_at run a ≡ get_or run a 0 ∷ get_or run (a + 1) 0 ∷ get_or run (a + 2) 0 ∷ get_or run (a + 3) 0 ∷ []
  half_bytes_lem =
      half_step 0 (omega arith) ∙ ap₂ ◌∷◌ (ap (λ k. get_or run k 0) (add-zero a))
      (half_step 1 (omega arith) ∙ ap₂ ◌∷◌ refl
      (half_step 2 (omega arith) ∙ ap₂ ◌∷◌ refl
      (half_step 3 (omega arith) ∙ ap₂ ◌∷◌ refl (part_end run a half_bytes half_bytes (omega arith)))))

  pub half_sum : (word : ℕ) {p q r s : ℕ} → p ≡ get_or run a 0 → q ≡ get_or run (a + 1) 0 → r ≡ get_or run (a + 2) 0 → s ≡ get_or run (a + 3) 0
      → digits word (half_at run a) ≡ half_count * word + (byte_count ^ 3 * p + byte_count ^ 2 * q + byte_count * r + s)
  unfolding digits
  half_sum word d e f g = rw (half_bytes_lem, ← d, ← e, ← f, ← g) (omega arith)

  half_behind : (word : ℕ) → digits word (half_at run a) ≡ half_count * word + digits 0 (half_at run a)
  half_behind word = omega (arith, half_sum word refl refl refl refl, half_sum 0 refl refl refl refl)

-- a part of a list's beginning is a part of the list
part_inside : (a n m : ℕ) (xs : List ℕ) → a + n ≤ m → take n (drop a (take m xs)) ≡ take n (drop a xs)
part_inside zero n m xs h = take-take n m xs (omega arith)
part_inside (suc a) n zero xs h = absurd (omega arith)
part_inside (suc a) n (suc m) [] h = refl
part_inside (suc a) n (suc m) (x ∷ xs) h = part_inside a n m xs (omega arith)

-- a word of a name is two halves, the first of which counts in the numbers of the second
module _ (run : List ℕ) (i k : ℕ) (fits : name_size * i + name_size ≤ length run) (h : k < name_word_count) where
  abbrev start : ℕ
  start = name_size * i + word_bytes * k

  word_halves : take word_bytes (drop (word_bytes * k) (name_at run i)) ≡ half_at run start ++ half_at run (start + half_bytes)
  word_halves =
      part_inside (word_bytes * k) word_bytes name_size (drop (name_size * i) run) (omega arith)
      ∙ (ap (take word_bytes) (drop-drop (word_bytes * k) (name_size * i) run) ∙ (take-add half_bytes half_bytes (drop start run) ∙ rw (drop-drop half_bytes start run) refl))

  pub word_sum : name_word (name_at run i) k ≡ half_count * digits 0 (half_at run start) + digits 0 (half_at run (start + half_bytes))
  unfolding name_word
  word_sum =
      ap (digits 0) word_halves
      ∙ (digits_append 0 (half_at run start) (half_at run (start + half_bytes)) ∙ half_behind run (start + half_bytes) (omega arith) (digits 0 (half_at run start)))

-- lists that agree
same_bytes : (a b : List ℕ) → agree eqb a b ≡ true → a ≡ b
unfolding agree
same_bytes [] [] h = refl
same_bytes [] (y ∷ ys) h = clash refl (sym h)
same_bytes (x ∷ xs) [] h = clash refl (sym h)
same_bytes (x ∷ xs) (y ∷ ys) h = let k = both (eqb x y) (agree eqb xs ys) h in ap₂ ◌∷◌ (eqb-true x y k.0) (same_bytes xs ys k.1)

agree_self : (a : List ℕ) → agree eqb a a ≡ true
unfolding agree
agree_self [] = refl
agree_self (x ∷ xs) = and (eq-eqb x x refl) (agree_self xs)

-- the bytes of a name are bytes
abbrev bytes : List ℕ → Bool
bytes bs = all (λ b. ltb b byte_count) bs

name_byte : (b : ℕ) → is_name_byte b ≡ true → ltb b byte_count ≡ true
name_byte b h =
    if (ltb b byte_count) (λ e. e)
    (λ e. let g = ltb-false b byte_count e in
    clash h (simp (lt-leb b 57 (omega arith), lt-leb b 90 (omega arith), lt-leb b 122 (omega arith), ne_eqb b 95 (λ (q : b ≡ 95). omega arith), and-false)))

named_bytes : (bs : List ℕ) → named_then_zero bs ≡ true → bytes bs ≡ true
unfolding named_then_zero all
named_bytes [] h = refl
named_bytes (b ∷ bs) h =
    if (is_name_byte b) (λ n. and (name_byte b n) (named_bytes bs (rw n at h)))
    (λ n. all_weaken is_zero (λ b. ltb b byte_count) (b ∷ bs) (λ x z. lt-ltb x byte_count (omega (arith, eqb-true x 0 z))) (rw n at h))

name_told : (a : List ℕ) → is_name a ≡ true → (length a ≡ name_size) × (bytes a ≡ true)
unfolding is_name
name_told a h =
    let k = both (eqb (length a) name_size && not (eqb (get_or a 0 0) 0)) (named_then_zero a) h in
    (eqb-true _ _ (both (eqb (length a) name_size) (not (eqb (get_or a 0 0) 0)) k.0).0, named_bytes a k.1)

-- equal numbers of as many digits have equal digits
same_digits : (xs ys : List ℕ) (a b : ℕ) → length xs ≡ length ys → bytes xs ≡ true → bytes ys ≡ true → digits a xs ≡ digits b ys → (a ≡ b) × (xs ≡ ys)
unfolding digits all
same_digits [] [] a b l g h e = (e, refl)
same_digits [] (y ∷ ys) a b l g h e = absurd (omega arith)
same_digits (x ∷ xs) [] a b l g h e = absurd (omega arith)
same_digits (x ∷ xs) (y ∷ ys) a b l g h e =
    let p = both (ltb x byte_count) (bytes xs) g in
    let q = both (ltb y byte_count) (bytes ys) h in
    let r = same_digits xs ys (byte_count * a + x) (byte_count * b + y) (omega arith) p.1 q.1 e in
    let s = ltb-true x byte_count p.0 in
    let t = ltb-true y byte_count q.0 in
    let u : x ≡ y = omega (arith, r.0) in
    (omega (arith, r.0), ap₂ ◌∷◌ u r.1)

-- the bytes of a word
abbrev part : List ℕ → ℕ → List ℕ
part a k = take word_bytes (drop (word_bytes * k) a)

part_bytes : (a : List ℕ) (n m : ℕ) → bytes a ≡ true → bytes (take n (drop m a)) ≡ true
part_bytes a n m h =
    let d : bytes (drop m a) ≡ true = (both (bytes (take m a)) (bytes (drop m a)) (sym (all_append _ (take m a) (drop m a)) ∙ (ap bytes (take-append-drop m a) ∙ h))).1 in
    (both (bytes (take n (drop m a))) (bytes (drop n (drop m a))) (sym (all_append _ (take n (drop m a)) (drop n (drop m a))) ∙ (ap bytes (take-append-drop n (drop m a)) ∙ d))).0

in_parts : (a : List ℕ) → length a ≡ name_size → a ≡ ((part a 0 ++ part a 1) ++ part a 2) ++ part a 3
in_parts a h =
    sym (take_all name_size a (omega arith)) ∙ (take-add 24 8 a ∙ ap (λ x. x ++ part a 3) (take-add 16 8 a ∙ ap (λ x. x ++ part a 2) (take-add 8 8 a)))

module _ (a b : List ℕ) (g : is_name a ≡ true) (h : is_name b ≡ true) where
  same_part : (k : ℕ) → k < name_word_count → name_word a k ≡ name_word b k → part a k ≡ part b k
  unfolding name_word
  same_part k l e =
      let p = name_told a g in
      let q = name_told b h in
      (same_digits (part a k) (part b k) 0 0 (simp (length-take, length-drop) (omega (arith, p.0, q.0))) (part_bytes a word_bytes (word_bytes * k) p.1) (part_bytes b word_bytes (word_bytes * k) q.1) e).1

  same_words_lem : name_words a ≡ name_words b → a ≡ b
  unfolding range
  same_words_lem e =
      let r = in_parts a (name_told a g).0 in
      let s = in_parts b (name_told b h).0 in
      let p = same_part 0 (omega arith) (ap (λ ws. get_or ws 0 0) e) in
      let q = same_part 1 (omega arith) (ap (λ ws. get_or ws 1 0) e) in
      let t = same_part 2 (omega arith) (ap (λ ws. get_or ws 2 0) e) in
      let u = same_part 3 (omega arith) (ap (λ ws. get_or ws 3 0) e) in
      r ∙ (ap₂ ◌++◌ (ap₂ ◌++◌ (ap₂ ◌++◌ p q) t) u ∙ sym s)

  -- names are equal just where their words are
  pub words_agree : same_name a b ≡ agree eqb (name_words a) (name_words b)
  unfolding same_name
  words_agree =
      same_test _ _ (λ e. rw (same_bytes a b e) (agree_self (name_words b))) (λ e. rw (same_words_lem (same_bytes (name_words a) (name_words b) e)) (agree_self b))
