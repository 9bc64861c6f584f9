-- Counts.
use Prim.Native.Nat.{ℕ, zero, suc, ◌+◌, ◌≤◌}
use mathlib.Core.Path.{◌≡◌, refl, sym, ap, ◌∙◌}
use mathlib.Core.Logic.{◌⊎◌, inl, inr}
use mathlib.Core.List.{List, [], ◌∷◌, ◌++◌, map}
use mathlib.Core.Bool.{Bool, true, false, cond, not, ◌&&◌, and-true, and-false}
use native.Mathlib.Omega.{arith}
use lib.Dec.{leb, ltb, eqb}
use lib.ListN.{length}
use borrow.Author.Tests.{ltb-true, ltb-false, eqb-true, eqb-false, lt-ltb, le-ltb, le-leb, lt-leb, ne_eqb}
use Rattle.lists.specs.Lists.{range, all, any, pairwise, filter, bit, count, insert_by, sort_by}
use Rattle.lists.proofs.Tests.{Reflects, if, either, clash, both, and}
use Rattle.lists.proofs.Members.{In, here, next, in_cons, in_any, all_in, in_all}

pub count-append : {A : Type 0} (p : A → Bool) (xs ys : List A) → count p (xs ++ ys) ≡ count p xs + count p ys
unfolding count
count-append p [] ys = omega arith
count-append p (x ∷ xs) ys = let ih = count-append p xs ys in omega arith

pub count_map : {A B : Type 0} (p : B → Bool) (f : A → B) (xs : List A) → count p (map f xs) ≡ count (λ x. p (f x)) xs
unfolding count
count_map p f [] = refl
count_map p f (x ∷ xs) = rw (count_map p f xs)

pub count_split : {A : Type 0} (p q : A → Bool) (xs : List A) → count p (filter q xs) + count p (filter (λ x. not (q x)) xs) ≡ count p xs
unfolding filter count
count_split p q [] = refl
count_split p q (x ∷ xs) =
    let ih = count_split p q xs in
    if (q x) (λ b. rw b (omega arith)) (λ b. rw b (omega arith))

pub count-zero : {A : Type 0} (p : A → Bool) (xs : List A) → ((x : A) → In x xs → p x ≡ false) → count p xs ≡ 0
unfolding count
count-zero p [] z = refl
count-zero p (x ∷ xs) z = rw (z x (here refl), count-zero p xs (λ y m. z y (next m)))

pub count-pos : {A : Type 0} (p : A → Bool) {x : A} {xs : List A} → In x xs → p x ≡ true → 1 ≤ count p xs
unfolding count
count-pos p {x} (here {x = y} {xs = ys} e) h = rw (ap p (sym e) ∙ h) (omega arith)
count-pos p {x} (next m) h = let ih = count-pos p m h in omega arith

pub count_insert : {A : Type 0} (p : A → Bool) (key : A → ℕ) (x : A) (ys : List A) → count p (insert_by key x ys) ≡ bit (p x) + count p ys
unfolding count insert_by
count_insert p key x [] = refl
count_insert p key x (y ∷ ys) =
    let ih = count_insert p key x ys in
    if (leb (key x) (key y)) (λ b. rw b) (λ b. rw b (omega arith))

pub count_sort : {A : Type 0} (p : A → Bool) (key : A → ℕ) (xs : List A) → count p (sort_by key xs) ≡ count p xs
unfolding count sort_by
count_sort p key [] = refl
count_sort p key (x ∷ xs) = rw (count_insert p key x (sort_by key xs), count_sort p key xs)

pub count_ext : {A : Type 0} (p q : A → Bool) (xs : List A) → ((x : A) → In x xs → p x ≡ q x) → count p xs ≡ count q xs
unfolding count
count_ext p q [] h = refl
count_ext p q (x ∷ xs) h = rw (h x (here refl), count_ext p q xs (λ y m. h y (next m))) refl

pub count_most : {A : Type 0} (p : A → Bool) (xs : List A) → count p xs ≤ length xs
unfolding count
count_most p [] = omega arith
count_most p (x ∷ xs) = if (p x) (λ e. rw e (omega (arith, count_most p xs))) (λ e. rw e (omega (arith, count_most p xs)))

pub count_whole : {A : Type 0} (p : A → Bool) (xs : List A) → ((x : A) → In x xs → p x ≡ true) → count p xs ≡ length xs
unfolding count
count_whole p [] h = refl
count_whole p (x ∷ xs) h = rw (h x (here refl), count_whole p xs (λ y m. h y (next m))) (omega arith)

-- no element twice, by a test that tells equality
module _ {A : Type 0} (same : A → A → Bool) (tells : (a b : A) → Reflects (same a b) (a ≡ b)) where
  apart : (x : A) (xs : List A) → all (λ y. not (same x y)) xs ≡ true → count (λ y. same y x) xs ≡ 0
  apart x xs h =
      count-zero (λ y. same y x) xs (λ y m. if (same y x)
      (λ b. let g : not (same x y) ≡ true = all_in (λ y. not (same x y)) xs h m in
      clash (rw ((tells x y).from (sym ((tells y x).to b))) at g) refl)
      (λ b. b))

  to_distinct : (xs : List A) → pairwise (λ a b. not (same a b)) xs ≡ true → (k : A) → count (λ y. same y k) xs ≤ 1
  unfolding pairwise count
  to_distinct [] h k = omega arith
  to_distinct (x ∷ xs) h k =
      let r = both (all (λ b. not (same x b)) xs) (pairwise (λ a b. not (same a b)) xs) h in
      if (same x k)
      (λ b. let z : count (λ y. same y k) xs ≡ 0 = rw ((tells x k).to b) at (apart x xs r.0) in rw b (omega arith))
      (λ b. rw b (omega (arith, to_distinct xs r.1 k)))

  from_distinct : (xs : List A) → ((k : A) → count (λ y. same y k) xs ≤ 1) → pairwise (λ a b. not (same a b)) xs ≡ true
  unfolding pairwise count
  from_distinct [] h = refl
  from_distinct (x ∷ xs) h =
      and
      (in_all (λ b. not (same x b)) xs (λ y m. if (same x y)
      (λ t. let c : 1 ≤ count (λ i. same i x) xs = count-pos (λ i. same i x) m ((tells y x).from (sym ((tells x y).to t))) in
      let d : bit (same x x) + count (λ i. same i x) xs ≤ 1 = h x in
      let e : bit true + count (λ i. same i x) xs ≤ 1 = rw ((tells x x).from refl) at d in
      absurd (omega arith))
      (λ t. rw t)))
      (from_distinct xs (λ k. let d : bit (same x k) + count (λ i. same i k) xs ≤ 1 = h k in omega arith))

  pub reflects_distinct : (xs : List A) → Reflects (pairwise (λ a b. not (same a b)) xs) ((k : A) → count (λ y. same y k) xs ≤ 1)
  reflects_distinct xs = record { to = to_distinct xs; from = from_distinct xs }

pub count_none : {A : Type 0} (p : A → Bool) (xs : List A) → any p xs ≡ false → count p xs ≡ 0
unfolding any count
count_none p xs h = count-zero p xs (λ x m. if (p x) (λ b. clash (in_any p m b) h) (λ b. b))

-- a count through a filter whose test is decided by the counted bit
pub count-filter : {A : Type 0} (q r : A → Bool) (b : Bool) (xs : List A) → ((x : A) → In x xs → q x ≡ true → r x ≡ b) → count q (filter r xs) ≡ cond b (count q xs) 0
unfolding filter count
count-filter q r true [] h = refl
count-filter q r false [] h = refl
count-filter q r b (x ∷ xs) h =
    let ih = count-filter q r b xs (λ y m. h y (next m)) in
    if (q x)
    (λ c. let e = h x (here refl) c in go b e ih c)
    (λ c. if (r x) (λ d. rw (d, c) (omega' b (count q xs) (count q (filter r xs)) ih)) (λ d. rw (d, c) (omega'' b (count q xs) (count q (filter r xs)) ih)))
  where
    go : (b : Bool) → r x ≡ b → count q (filter r xs) ≡ cond b (count q xs) 0 → q x ≡ true → count q (cond (r x) (x ∷ filter r xs) (filter r xs)) ≡ cond b (bit (q x) + count q xs) 0
    go true e i c = rw (e, i)
    go false e i c = rw (e, i)

    omega' : (b : Bool) (m n : ℕ) → n ≡ cond b m 0 → 0 + n ≡ cond b (0 + m) 0
    omega' true m n e = omega arith
    omega' false m n e = omega arith

    omega'' : (b : Bool) (m n : ℕ) → n ≡ cond b m 0 → n ≡ cond b (0 + m) 0
    omega'' true m n e = omega arith
    omega'' false m n e = omega arith

pub count_two : {A : Type 0} (p : A → Bool) {x y : A} {xs : List A} → In x xs → In y xs → p x ≡ true → p y ≡ true → (x ≡ y) ⊎ (2 ≤ count p xs)
unfolding count
count_two p {x} {y} (here {x = z} {xs = zs} e) n h k =
    either (in_cons n) (λ q. inl (e ∙ sym q))
    (λ n'. inr (rw (ap p (sym e) ∙ h) (omega (arith, count-pos p n' k))))
count_two p {x} {y} (next {x = z} {xs = zs} m) n h k =
    either (in_cons n)
    (λ q. inr (rw (ap p (sym q) ∙ k) (omega (arith, count-pos p m h))))
    (λ n'. either (count_two p m n' h k) (λ e. inl e) (λ l. inr (omega arith)))

pub one_suc : (j k : ℕ) → bit (eqb j k) + bit (ltb k j) ≡ bit (ltb k (suc j))
one_suc j k =
    if (eqb j k)
    (λ e. let q = eqb-true j k e in rw (e, le-ltb k j (omega arith), lt-ltb k (suc j) (omega arith)))
    (λ e. if (ltb k j)
    (λ t. let q = ltb-true k j t in rw (e, t, lt-ltb k (suc j) (omega arith)))
    (λ t. let q = ltb-false k j t in let r = eqb-false j k e in rw (e, t, le-ltb k (suc j) (omega (arith, r)))))

pub count_range : (a n k : ℕ) → count (λ i. eqb i k) (range a n) + bit (ltb k a) ≡ bit (ltb k (a + n))
unfolding range count
count_range a zero k = let e : a + 0 ≡ a = omega arith in rw e (omega arith)
count_range a (suc n) k =
    let e : a + suc n ≡ suc a + n = omega arith in
    rw e (omega (arith, count_range (suc a) n k, one_suc a k))

pub count_and : {A : Type 0} (p : A → Bool) (b : Bool) (xs : List A) → count (λ x. p x && b) xs ≡ cond b (count p xs) 0
unfolding count
count_and p true [] = refl
count_and p false [] = refl
count_and p true (x ∷ xs) = rw (and-true (p x), count_and p true xs)
count_and p false (x ∷ xs) = rw (and-false (p x), count_and p false xs)

pub bit_le : (b : Bool) → bit b ≤ 1
bit_le true = omega arith
bit_le false = omega arith

pub cond_same : {A : Type 0} (b : Bool) (x : A) → cond b x x ≡ x
cond_same true x = refl
cond_same false x = refl

pub cond_add : (b : Bool) (m n : ℕ) → cond b m 0 + cond b n 0 ≡ cond b (m + n) 0
cond_add true m n = refl
cond_add false m n = refl

-- how many are equal to k: those at most k without those below
pub count_equal : (k : ℕ) (xs : List ℕ) → count (λ y. ltb y k) xs + count (λ y. eqb y k) xs ≡ count (λ y. leb y k) xs
unfolding count
count_equal k [] = refl
count_equal k (x ∷ xs) = omega (arith, count_equal k xs, one_equal x k)
  where
    one_equal : (x k : ℕ) → bit (ltb x k) + bit (eqb x k) ≡ bit (leb x k)
    one_equal x k =
        if (ltb x k) (λ b. let h = ltb-true x k b in rw (b, ne_eqb x k (λ (e : x ≡ k). omega arith), le-leb x k (omega arith)))
        (λ b. if (eqb x k) (λ t. rw (b, t, le-leb x k (omega (arith, eqb-true x k t))))
        (λ t. rw (b, t, lt-leb x k (omega (arith, ltb-false x k b, eqb-false x k t)))))

-- as many pass as the filter keeps
pub filter_length : {A : Type 0} (p : A → Bool) (xs : List A) → length (filter p xs) ≡ count p xs
unfolding filter count
filter_length p [] = refl
filter_length p (x ∷ xs) = if (p x) (λ b. rw (b, filter_length p xs) (omega arith)) (λ b. rw (b, filter_length p xs) (omega arith))
