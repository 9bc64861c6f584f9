-- Two ascending lists, passed through together: whether the second holds every element of the first.
use Prim.Native.Nat.{ℕ, zero, suc, ◌+◌, ◌≤◌, ◌<◌}
use mathlib.Core.Path.{◌≡◌, refl, sym, subst, ap, ◌∙◌}
use mathlib.Core.Bool.{Bool, true, false}
use mathlib.Core.List.{List, [], ◌∷◌}
use native.Mathlib.Omega.{arith}
use borrow.Author.Tests.{eq-eqb, ne_eqb, eqb-true, eqb-false}
use lib.Dec.{eqb, ltb}
use lib.ListN.{length, get_or, drop, drop_of_length-le}
use Rattle.lists.specs.Lists.{all, any, chained, has}
use Rattle.lists.proofs.Members.{In, here, next, Pairwise, none, more}
use Rattle.lists.proofs.Tests.{if, reflects_ltb}
use Rattle.lists.proofs.Orders.{reflects_chained}
use Rattle.lists.proofs.Selections.{any_none, all_ext}
use Rattle.lists.proofs.Windows.{rest_step}

pair_drop : {A : Type 0} {R : A → A → Type 0} {xs : List A} (k : ℕ) → Pairwise R xs → Pairwise R (drop k xs)
pair_drop zero p = p
pair_drop {xs = []} (suc k) p = none
pair_drop {xs = x ∷ xs} (suc k) (more a p) = pair_drop k p

-- the first of what is left is below the others
first_least : (xs : List ℕ) (k : ℕ) → chained ltb xs ≡ true → k < length xs → (y : ℕ) → In y (drop (k + 1) xs) → get_or xs k 0 < y
first_least xs k e h y m = least (subst (Pairwise ◌<◌) (rest_step 0 xs k h) (pair_drop k ((reflects_chained {R = ◌<◌} reflects_ltb (λ a b c p q. omega arith) xs).to e))) m
  where
    least : {x : ℕ} {ys : List ℕ} → Pairwise ◌<◌ (x ∷ ys) → In y ys → x < y
    least (more a p) i = a.at y i

skip : (x y : ℕ) (ys : List ℕ) → y < x → has x (y ∷ ys) ≡ has x ys
unfolding any
skip x y ys h = rw (ne_eqb x y (λ (e : x ≡ y). omega arith)) refl

module _ (a b : List ℕ) where
  -- what is left of the first lies in what is left of the second
  pub inside : ℕ → ℕ → Bool
  unfolding all any
  inside i j = all (λ x. has x (drop j b)) (drop i a)

  pub inside_start : all (λ x. has x b) a ≡ inside 0 0
  unfolding inside
  inside_start = refl

  pub inside_end : (i j : ℕ) → length a ≤ i → inside i j ≡ true
  unfolding inside all
  inside_end i j h = rw (drop_of_length-le a {i = i} h) refl

  module _ (i j : ℕ) (l : i < length a) where
    pub inside_past : length b ≤ j → inside i j ≡ false
    unfolding inside all any
    inside_past h = rw (rest_step 0 a i l, drop_of_length-le b {i = j} h) refl

    module _ (ea : chained ltb a ≡ true) (eb : chained ltb b ≡ true) (m : j < length b) where
      pub inside_less : get_or a i 0 < get_or b j 0 → inside i j ≡ false
      unfolding inside all any
      inside_less h = rw (rest_step 0 a i l, rest_step 0 b j m, ne_eqb (get_or a i 0) (get_or b j 0) (λ (e : get_or a i 0 ≡ get_or b j 0). omega arith), absent) refl
        where
          absent : has (get_or a i 0) (drop (j + 1) b) ≡ false
          absent = any_none _ (drop (j + 1) b) (λ y n. ne_eqb (get_or a i 0) y (λ (e : get_or a i 0 ≡ y). omega (arith, first_least b j eb m y n)))

      pub inside_same : get_or a i 0 ≡ get_or b j 0 → inside i j ≡ inside (i + 1) (j + 1)
      unfolding inside all any
      inside_same h = rw (rest_step 0 a i l, rest_step 0 b j m, eq-eqb (get_or a i 0) (get_or b j 0) h) (all_ext _ _ (drop (i + 1) a) (λ x n. ap (has x) (rest_step 0 b j m) ∙ skip x (get_or b j 0) (drop (j + 1) b) (larger x n)))
        where
          larger : (x : ℕ) → In x (drop (i + 1) a) → get_or b j 0 < x
          larger x n = omega (arith, first_least a i ea l x n)

      pub inside_more : get_or b j 0 < get_or a i 0 → inside i j ≡ inside i (j + 1)
      unfolding inside all any
      inside_more h = rw (rest_step 0 b j m) (all_ext _ _ _ (λ x n. skip x (get_or b j 0) (drop (j + 1) b) (larger x n)))
        where
          larger : (x : ℕ) → In x (drop i a) → get_or b j 0 < x
          larger x n = large x (subst (In x) (rest_step 0 a i l) n)
            where
              large : (x : ℕ) → In x (get_or a i 0 ∷ drop (i + 1) a) → get_or b j 0 < x
              large x (here e) = omega arith
              large x (next n) = omega (arith, first_least a i ea l x n)

  -- nothing is left of the second: all of the first was found just where nothing is left of it
  pub inside_over : (i j : ℕ) → i ≤ length a → length b ≤ j → eqb i (length a) ≡ inside i j
  inside_over i j l h =
      if (eqb i (length a))
      (λ t. t ∙ sym (inside_end i j (omega (arith, eqb-true i (length a) t))))
      (λ t. t ∙ sym (inside_past i j (let n : i ≡ length a → ⊥ = eqb-false i (length a) t in omega arith) h))
