-- A pass that remembers for each key one number, that of the last element with the key: what it comes to from the turn i on. Every element is
-- tested against what its key's memory holds, and that stands for all the earlier elements with the key.
use Prim.Native.Nat.{ℕ, zero, suc, ◌+◌, ◌≤◌, ◌<◌}
use mathlib.Core.Path.{◌≡◌, refl, sym, ap, ◌∙◌}
use mathlib.Core.Bool.{Bool, true, false, not, ◌&&◌, ◌||◌, and-true, and-false}
use mathlib.Core.List.{List, [], ◌∷◌, map}
use native.Mathlib.Omega.{arith}
use lib.Dec.{eqb}
use lib.ListN.{length, get_or, set}
use lib.Seq.{get_or-set_same, get_or-set_other}
use borrow.Author.Tests.{eqb-true, eqb-false}
use Rattle.lists.specs.Lists.{range, all, pairwise}
use Rattle.lists.specs.Runs.{from}
use Rattle.lists.proofs.Tests.{if, both, and, same_test}
use Rattle.lists.proofs.Members.{in_all, in_range_lem}
use Rattle.lists.proofs.Loops.{from_step, from_end, from_all}
use Rattle.lists.proofs.Places.{in_from}
use Rattle.lists.proofs.Selections.{map-id, all_both, all_ext, pairwise_map, pairwise_ext}

-- numbers up to u, one of which becomes v
pub set_most : (a : List ℕ) (k : ℕ) {u v : ℕ} → ((j : ℕ) → get_or a j 0 ≤ u) → u ≤ v → (j : ℕ) → get_or (set a k v) j 0 ≤ v
set_most [] k h l j = omega (arith, h j)
set_most (x ∷ xs) zero h l zero = omega arith
set_most (x ∷ xs) zero h l (suc j) = omega (arith, h (suc j))
set_most (x ∷ xs) (suc k) h l zero = omega (arith, h zero)
set_most (x ∷ xs) (suc k) h l (suc j) = set_most xs k (λ i. h (suc i)) l j

module _ (n : ℕ) (key mark : ℕ → ℕ) (P : ℕ → ℕ → Bool)
    (later : (m i j : ℕ) → i < n → j < n → P m i ≡ true → P (mark i) j ≡ true → P m j ≡ true) where
  -- a pair in order, and an element against what is remembered
  abbrev pub apart : ℕ → ℕ → Bool
  apart i j = not (eqb (key i) (key j)) || P (mark i) j

  abbrev pub passes : List ℕ → ℕ → Bool
  passes a i = P (get_or a (key i) 0) i

  abbrev rest : ℕ → List ℕ
  rest i = from (λ j. j) i n

  pub remembered : List ℕ → ℕ → Bool
  unfolding pairwise all
  remembered a i = pairwise apart (rest i) && all (passes a) (rest i)

  pub remembered_start : {A : Type 0} (r : A → A → Bool) (f : ℕ → A) (a : List ℕ)
      → ((i j : ℕ) → i < n → j < n → r (f i) (f j) ≡ apart i j) → ((k : ℕ) → get_or a k 0 ≡ 0) → ((j : ℕ) → P 0 j ≡ true)
      → pairwise r (map f (range 0 n)) ≡ remembered a 0
  unfolding remembered
  remembered_start r f a e z o =
      pairwise_map r f (range 0 n)
      ∙ (pairwise_ext _ _ (range 0 n) (λ i j k l. let b = in_range_lem 0 n k in let d = in_range_lem 0 n l in e i j (omega arith) (omega arith))
      ∙ (ap (pairwise apart) (map-id (range 0 n) ∙ from_all (λ j. j) n) ∙ sym (rw (in_all (passes a) (rest 0) (λ k m. rw (z (key k)) (o k)), and-true) refl)))

  pub remembered_pass : (a : List ℕ) (i : ℕ) → i < n → key i < length a → passes a i ≡ true → remembered a i ≡ remembered (set a (key i) (mark i)) (i + 1)
  unfolding remembered pairwise all
  remembered_pass a i h l e = first ∙ turn (all (apart i) (rest (i + 1))) (pairwise apart (rest (i + 1))) (all (passes a) (rest (i + 1))) (all (passes (set a (key i) (mark i))) (rest (i + 1))) both_one
    where
      first : (pairwise apart (rest i) && all (passes a) (rest i)) ≡ ((all (apart i) (rest (i + 1)) && pairwise apart (rest (i + 1))) && all (passes a) (rest (i + 1)))
      first = rw (from_step (λ j. j) i n h, e) refl

      turn : (x y z w : Bool) → (x && z) ≡ w → ((x && y) && z) ≡ (y && w)
      turn true y z w q = ap (λ b. y && b) q
      turn false true z w q = q
      turn false false z w q = refl

      one : (k : ℕ) → k < n → (apart i k && passes a k) ≡ passes (set a (key i) (mark i)) k
      one k t =
          if (eqb (key i) (key k))
          (λ s. let q = eqb-true (key i) (key k) s in
          rw (s, ← q, get_or-set_same a (key i) (mark i) 0 l) (same_test _ _ (λ b. (both (P (mark i) k) (P (get_or a (key i) 0) k) b).0) (λ b. and b (later (get_or a (key i) 0) i k h t e b))))
          (λ s. rw (s, get_or-set_other a (key i) (key k) (mark i) 0 (λ q. eqb-false (key i) (key k) s (sym q))) refl)

      both_one : (all (apart i) (rest (i + 1)) && all (passes a) (rest (i + 1))) ≡ all (passes (set a (key i) (mark i))) (rest (i + 1))
      both_one = all_both (apart i) (passes a) (rest (i + 1)) ∙ all_ext _ _ (rest (i + 1)) (λ k m. let b = in_from (λ j. j) (i + 1) n m in one k (omega arith))

  pub remembered_fail : (a : List ℕ) (i : ℕ) → i < n → passes a i ≡ false → remembered a i ≡ false
  unfolding remembered all
  remembered_fail a i h e = rw (from_step (λ j. j) i n h, e, and-false) refl

  pub remembered_end : (a : List ℕ) (i : ℕ) → n ≤ i → remembered a i ≡ true
  unfolding remembered pairwise all
  remembered_end a i h = rw (from_end (λ j. j) i n h) refl
