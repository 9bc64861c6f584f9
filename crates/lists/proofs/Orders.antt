-- Sorting by a key, and ascending lists.
use Prim.Native.Nat.{ℕ, zero, suc, ◌<◌}
use mathlib.Core.Path.{◌≡◌, refl, sym, ap, ap₂, ◌∙◌}
use mathlib.Core.List.{List, [], ◌∷◌, map}
use mathlib.Core.Bool.{Bool, true, false, ◌&&◌, ◌||◌}
use native.Mathlib.Omega.{arith}
use lib.Dec.{leb, ltb}
use lib.ListN.{length}
use borrow.Author.Tests.{leb-true, leb-false, ltb-true, lt-ltb}
use Rattle.lists.specs.Lists.{all, any, filter, pairwise, chained, insert_by, sort_by, range, agree}
use Rattle.lists.proofs.Tests.{Reflects, if, either, both, and, clash, reflects_ltb}
use Rattle.lists.proofs.Members.{In, here, next, All, each, Pairwise, none, more, all_nil, all_cons, all_one, pair_one, all_in, in_all, reflects_pairwise, pair_filter, in_cons, in_nil, in_range_lem}

-- a transitive relation that holds of neighbours holds of every pair
pub chained_pairwise : {A : Type 0} (r : A → A → Bool) (xs : List A) → ((a b c : A) → r a b ≡ true → r b c ≡ true → r a c ≡ true)
    → chained r xs ≡ true → pairwise r xs ≡ true
unfolding all pairwise chained
chained_pairwise r [] t e = refl
chained_pairwise r (x ∷ []) t e = refl
chained_pairwise r (x ∷ (y ∷ ys)) t e =
    let k = both (r x y) (chained r (y ∷ ys)) e in
    let ih : pairwise r (y ∷ ys) ≡ true = chained_pairwise r (y ∷ ys) t k.1 in
    let j = both (all (r y) ys) (pairwise r ys) ih in
    and (and k.0 (in_all (r x) ys (λ c m. t x y c k.0 (all_in (r y) ys j.0 m)))) ih

pub pairwise_chained : {A : Type 0} (r : A → A → Bool) (xs : List A) → pairwise r xs ≡ true → chained r xs ≡ true
unfolding all pairwise chained
pairwise_chained r [] e = refl
pairwise_chained r (x ∷ []) e = refl
pairwise_chained r (x ∷ (y ∷ ys)) e =
    let k = both (all (r x) (y ∷ ys)) (pairwise r (y ∷ ys)) e in
    and (both (r x y) (all (r x) ys) k.0).0 (pairwise_chained r (y ∷ ys) k.1)

-- neighbours that stand in r stand in s
pub chained_as : {A : Type 0} (r s : A → A → Bool) → ((a b : A) → r a b ≡ true → s a b ≡ true) → (xs : List A) → chained r xs ≡ true → chained s xs ≡ true
unfolding chained
chained_as r s h [] e = refl
chained_as r s h (x ∷ []) e = refl
chained_as r s h (x ∷ (y ∷ ys)) e = let k = both (r x y) (chained r (y ∷ ys)) e in and (h x y k.0) (chained_as r s h (y ∷ ys) k.1)

-- pairs that stand in r stand in s
pub pairwise_as : {A : Type 0} (r s : A → A → Bool) → ((a b : A) → r a b ≡ true → s a b ≡ true) → (xs : List A) → pairwise r xs ≡ true → pairwise s xs ≡ true
unfolding pairwise
pairwise_as r s h [] e = refl
pairwise_as r s h (x ∷ xs) e =
    let k = both (all (r x) xs) (pairwise r xs) e in and (in_all (s x) xs (λ y m. h x y (all_in (r x) xs k.0 m))) (pairwise_as r s h xs k.1)

pub chained_map : {A B : Type 0} (r : B → B → Bool) (f : A → B) (xs : List A) → chained r (map f xs) ≡ chained (λ a b. r (f a) (f b)) xs
unfolding chained
chained_map r f [] = refl
chained_map r f (x ∷ []) = refl
chained_map r f (x ∷ (y ∷ ys)) = ap (λ b. r (f x) (f y) && b) (chained_map r f (y ∷ ys))

-- two orders that are one at every place
pub chained_maps : {A B C : Type 0} (r : A → A → Bool) (s : B → B → Bool) (f : C → A) (g : C → B) (xs : List C)
    → ((x y : C) → r (f x) (f y) ≡ s (g x) (g y)) → chained r (map f xs) ≡ chained s (map g xs)
unfolding chained
chained_maps r s f g [] h = refl
chained_maps r s f g (x ∷ []) h = refl
chained_maps r s f g (x ∷ (y ∷ ys)) h = ap₂ ◌&&◌ (h x y) (chained_maps r s f g (y ∷ ys) h)

pub reflects_chained : {A : Type 0} {r : A → A → Bool} {R : A → A → Type 0} → ((x y : A) → Reflects (r x y) (R x y))
    → ((a b c : A) → R a b → R b c → R a c) → (xs : List A) → Reflects (chained r xs) (Pairwise R xs)
unfolding chained
reflects_chained {r = r} t tr xs = record {
  to = λ h. (reflects_pairwise t xs).to
      (chained_pairwise r xs (λ a b c p q. (t a c).from (tr a b c ((t a b).to p) ((t b c).to q))) h);
  from = λ h. pairwise_chained r xs ((reflects_pairwise t xs).from h);
}

-- a range ascends strictly
pub range_ascend : (a n : ℕ) → Pairwise ◌<◌ (range a n)
unfolding range
range_ascend a zero = none
range_ascend a (suc n) = more (each (λ p m. (in_range_lem (suc a) n m).0)) (range_ascend (suc a) n)

-- lists that agree place by place

pub agree_in : {A B : Type 0} (r : A → B → Bool) (xs : List A) (ys : List B) → agree r xs ys ≡ true → {y : B} → In y ys → (x : A) × In x xs × (r x y ≡ true)
unfolding agree
agree_in r [] [] h m = in_nil m
agree_in r [] (z ∷ zs) h m = clash h refl
agree_in r (x ∷ xs) [] h m = in_nil m
agree_in r (x ∷ xs) (z ∷ zs) h m =
    let k = both (r x z) (agree r xs zs) h in
    either (in_cons m) (λ e. (x, here refl, ap (r x) e ∙ k.0)) (λ n. let s = agree_in r xs zs k.1 n in (s.0, next s.1, s.2))

pub agree_pairs : {A B : Type 0} {R : A → A → Type 0} {S : B → B → Type 0} (r : A → B → Bool) (xs : List A) (ys : List B) → agree r xs ys ≡ true → Pairwise R xs
    → ((x x' : A) (y y' : B) → In x xs → In x' xs → In y ys → In y' ys → r x y ≡ true → r x' y' ≡ true → R x x' → S y y') → Pairwise S ys
unfolding agree
agree_pairs r [] [] h p s = none
agree_pairs r [] (z ∷ zs) h p s = clash h refl
agree_pairs r (x ∷ xs) [] h p s = none
agree_pairs r (x ∷ xs) (z ∷ zs) h (more g p) s =
    let k = both (r x z) (agree r xs zs) h in
    more
    (each (λ y m. let a = agree_in r xs zs k.1 m in s x a.0 z y (here refl) (next a.1) (here refl) (next m) k.0 a.2 (g.at a.0 a.1)))
    (agree_pairs r xs zs k.1 p (λ a b y y' i j m n. s a b y y' (next i) (next j) (next m) (next n)))

-- sorting

pub all_insert : {A : Type 0} {P : A → Type 0} (key : A → ℕ) (x : A) (ys : List A) → P x → All P ys → All P (insert_by key x ys)
unfolding insert_by
all_insert key x [] p h = all_one p
all_insert {P = P} key x (y ∷ ys) p h =
    let t : All P ys = each (λ z m. h.at z (next m)) in
    if (leb (key x) (key y)) (λ b. rw b (all_cons p h)) (λ b. rw b (all_cons (h.at y (here refl)) (all_insert key x ys p t)))

pub all_sort : {A : Type 0} {P : A → Type 0} (key : A → ℕ) {xs : List A} → All P xs → All P (sort_by key xs)
unfolding sort_by
all_sort key {xs = []} p = all_nil
all_sort key {xs = x ∷ xs} p = all_insert key x (sort_by key xs) (p.at x (here refl)) (all_sort key (each (λ z m. p.at z (next m))))

pub any_insert : {A : Type 0} (p : A → Bool) (key : A → ℕ) (x : A) (ys : List A) → any p (insert_by key x ys) ≡ (p x || any p ys)
unfolding any insert_by
any_insert p key x [] = refl
any_insert p key x (y ∷ ys) =
    if (leb (key x) (key y)) (λ b. rw b) (λ b. rw (b, any_insert p key x ys) (swap (p y) (p x) (any p ys)))
  where
    swap : (a b c : Bool) → (a || (b || c)) ≡ (b || (a || c))
    swap true true c = refl
    swap true false c = refl
    swap false true c = refl
    swap false false c = refl

pub any_sort : {A : Type 0} (p : A → Bool) (key : A → ℕ) (xs : List A) → any p (sort_by key xs) ≡ any p xs
unfolding any sort_by
any_sort p key [] = refl
any_sort p key (x ∷ xs) = rw (any_insert p key x (sort_by key xs), any_sort p key xs)

pub length-insert : {A : Type 0} (key : A → ℕ) (x : A) (ys : List A) → length (insert_by key x ys) ≡ suc (length ys)
unfolding insert_by
length-insert key x [] = refl
length-insert key x (y ∷ ys) = if (leb (key x) (key y)) (λ b. rw b) (λ b. rw (b, length-insert key x ys))

pub length_sort : {A : Type 0} (key : A → ℕ) (xs : List A) → length (sort_by key xs) ≡ length xs
unfolding sort_by
length_sort key [] = refl
length_sort key (x ∷ xs) = rw (length-insert key x (sort_by key xs), length_sort key xs)

-- sorting by a key that f keeps
map-insert : {A B : Type 0} (k : A → ℕ) (l : B → ℕ) (f : A → B) → ((x : A) → l (f x) ≡ k x) → (x : A) (ys : List A) → map f (insert_by k x ys) ≡ insert_by l (f x) (map f ys)
unfolding insert_by
map-insert k l f e x [] = refl
map-insert k l f e x (y ∷ ys) = if (leb (k x) (k y)) (λ b. rw (e x, e y, b)) (λ b. rw (e x, e y, b, map-insert k l f e x ys))

pub map_sort : {A B : Type 0} (k : A → ℕ) (l : B → ℕ) (f : A → B) → ((x : A) → l (f x) ≡ k x) → (xs : List A) → map f (sort_by k xs) ≡ sort_by l (map f xs)
unfolding sort_by
map_sort k l f e [] = refl
map_sort k l f e (x ∷ xs) = rw (map-insert k l f e x (sort_by k xs), map_sort k l f e xs)

-- numbers that differ, sorted, ascend strictly

pub pair_insert : (x : ℕ) (ys : List ℕ) → Pairwise ◌<◌ ys → All (λ y. x ≡ y → ⊥) ys → Pairwise ◌<◌ (insert_by (λ p. p) x ys)
unfolding insert_by
pair_insert x [] p h = pair_one x
pair_insert x (y ∷ ys) (more a p) h =
    if (leb x y)
    (λ b. let k = leb-true x y b in let g = h.at y (here refl) in
    let l : x < y = omega (arith, g) in
    let t : All (◌<◌ x) ys = each (λ z m. omega (arith, a.at z m)) in
    rw b (more (all_cons l t) (more a p)))
    (λ b. let k = leb-false x y b in
    rw b (more (all_insert (λ p. p) x ys k a) (pair_insert x ys p (each (λ z m. h.at z (next m))))))

pub pair_sort : (xs : List ℕ) → Pairwise (λ x y. x ≡ y → ⊥) xs → Pairwise ◌<◌ (sort_by (λ p. p) xs)
unfolding sort_by
pair_sort [] d = none
pair_sort (x ∷ xs) (more a d) = pair_insert x (sort_by (λ p. p) xs) (pair_sort xs d) (all_sort (λ p. p) a)

-- what stays of a list with ascending keys has ascending keys
pub ascending_kept : {A : Type 0} (p : A → Bool) (key : A → ℕ) (xs : List A) → chained ltb (map key xs) ≡ true → chained ltb (map key (filter p xs)) ≡ true
ascending_kept {A} p key xs h =
    chained_map ltb key (filter p xs)
    ∙ pairwise_chained (λ a b. ltb (key a) (key b)) (filter p xs) ((apart (filter p xs)).from (pair_filter p ((apart xs).to
    (chained_pairwise (λ a b. ltb (key a) (key b)) xs (λ a b c d e. lt-ltb (key a) (key c) (omega (arith, ltb-true (key a) (key b) d, ltb-true (key b) (key c) e)))
    (sym (chained_map ltb key xs) ∙ h)))))
  where
    apart : (ys : List A) → Reflects (pairwise (λ a b. ltb (key a) (key b)) ys) (Pairwise (λ a b. key a < key b) ys)
    apart ys = reflects_pairwise (λ a b. reflects_ltb (key a) (key b)) ys
