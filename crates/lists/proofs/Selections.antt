-- What maps, filters and flatMaps come to.
use Prim.Native.Nat.{ℕ, zero, suc, ◌+◌, ◌<◌}
use mathlib.Core.Path.{◌≡◌, refl, sym, ap, ap₂, ◌∙◌}
use mathlib.Core.List.{List, [], ◌∷◌, ◌++◌, map, flat_map, append-nil, append_assoc}
use mathlib.Core.Bool.{Bool, true, false, not, ◌&&◌, ◌||◌, and_comm, and-true, and-false}
use native.Mathlib.Omega.{arith}
use lib.Dec.{ltb, eqb}
use lib.ListN.{length, length-append}
use borrow.Author.Tests.{lt-ltb, eqb-true, eq-eqb}
use Rattle.lists.specs.Lists.{range, all, any, pairwise, filter, last, has, sum, agree}
use mathlib.Core.Logic.{◌⊎◌, inl, inr}
use Rattle.lists.proofs.Tests.{if, either, both, and, same_test, not-or}
use Rattle.lists.proofs.Members.{In, here, next, in_cons, in_nil, Pairwise, none, more, All, each, any_in, in_any, Any, in_all, all_in}

-- flat_map

pub flat_map_append : {A B : Type 0} (h : A → List B) (xs ys : List A) → flat_map h (xs ++ ys) ≡ flat_map h xs ++ flat_map h ys
unfolding flat_map
flat_map_append h [] ys = refl
flat_map_append h (x ∷ xs) ys = rw (flat_map_append h xs ys) (sym (append_assoc (h x) (flat_map h xs) (flat_map h ys)))

pub flat_map_nil : {A B : Type 0} (h : A → List B) (xs : List A) → ((x : A) → In x xs → h x ≡ []) → flat_map h xs ≡ []
unfolding flat_map
flat_map_nil h [] e = refl
flat_map_nil h (x ∷ xs) e = rw (e x (here refl), flat_map_nil h xs (λ y m. e y (next m)))

pub flat_map_map : {A B C : Type 0} (h : A → List C) (k : B → List C) (f : A → B) (xs : List A) → ((x : A) → In x xs → k (f x) ≡ h x) → flat_map k (map f xs) ≡ flat_map h xs
unfolding flat_map
flat_map_map h k f [] e = refl
flat_map_map h k f (x ∷ xs) e = rw (e x (here refl), flat_map_map h k f xs (λ y m. e y (next m)))

pub flat_map_ext : {A B : Type 0} (h k : A → List B) (xs : List A) → ((x : A) → In x xs → h x ≡ k x) → flat_map h xs ≡ flat_map k xs
unfolding flat_map
flat_map_ext h k [] e = refl
flat_map_ext h k (x ∷ xs) e = rw (e x (here refl), flat_map_ext h k xs (λ y m. e y (next m)))

pub flat_map_length : {A B : Type 0} (h : A → List B) (xs : List A) → length (flat_map h xs) ≡ sum (map (λ x. length (h x)) xs)
unfolding flat_map sum
flat_map_length h [] = refl
flat_map_length h (x ∷ xs) = rw (length-append, flat_map_length h xs)

-- map

pub map_ext : {A B : Type 0} (f g : A → B) (xs : List A) → ((x : A) → In x xs → f x ≡ g x) → map f xs ≡ map g xs
map_ext f g [] e = refl
map_ext f g (x ∷ xs) e = rw (e x (here refl), map_ext f g xs (λ y m. e y (next m)))

pub map-id : {A : Type 0} (xs : List A) → xs ≡ map (λ x. x) xs
map-id [] = refl
map-id (x ∷ xs) = ap (◌∷◌ x) (map-id xs)

pub map-map : {A B C : Type 0} (g : B → C) (f : A → B) (xs : List A) → map g (map f xs) ≡ map (λ x. g (f x)) xs
map-map g f [] = refl
map-map g f (x ∷ xs) = rw (map-map g f xs)

pub map_map_ext : {A B C : Type 0} (h : A → C) (k : B → C) (f : A → B) (xs : List A) → ((x : A) → In x xs → k (f x) ≡ h x) → map k (map f xs) ≡ map h xs
map_map_ext h k f xs e = map-map k f xs ∙ map_ext (λ x. k (f x)) h xs e

pub map-append : {A B : Type 0} (f : A → B) (xs ys : List A) → map f (xs ++ ys) ≡ map f xs ++ map f ys
map-append f [] ys = refl
map-append f (x ∷ xs) ys = rw (map-append f xs ys)

pub map_range : (a b n : ℕ) → map (λ p. a + p) (range b n) ≡ range (a + b) n
unfolding range
map_range a b zero = refl
map_range a b (suc n) = let e : a + suc b ≡ suc (a + b) = omega arith in rw (map_range a (suc b) n, e)

-- a function that is k everywhere
pub map_same : {A B : Type 0} (f : A → B) (k : B) (xs : List A) (i : ℕ) → ((x : A) → In x xs → f x ≡ k) → map (λ _. k) (range i (length xs)) ≡ map f xs
unfolding range
map_same f k [] i e = refl
map_same f k (x ∷ xs) i e = cc (e x (here refl), map_same f k xs (suc i) (λ y m. e y (next m)))

-- filter

pub filter-append : {A : Type 0} (q : A → Bool) (xs ys : List A) → filter q (xs ++ ys) ≡ filter q xs ++ filter q ys
unfolding filter
filter-append q [] ys = refl
filter-append q (x ∷ xs) ys = if (q x) (λ b. rw (b, filter-append q xs ys)) (λ b. rw (b, filter-append q xs ys))

pub flat_map_filter : {A B : Type 0} (p : B → Bool) (h : A → List B) (xs : List A) → flat_map (λ x. filter p (h x)) xs ≡ filter p (flat_map h xs)
unfolding flat_map filter
flat_map_filter p h [] = refl
flat_map_filter p h (x ∷ xs) = rw (flat_map_filter p h xs) (sym (filter-append p (h x) (flat_map h xs)))

pub filter_map : {A B : Type 0} (q : B → Bool) (f : A → B) (xs : List A) → filter q (map f xs) ≡ map f (filter (λ x. q (f x)) xs)
unfolding filter
filter_map q f [] = refl
filter_map q f (x ∷ xs) = if (q (f x)) (λ b. rw (b, filter_map q f xs)) (λ b. rw (b, filter_map q f xs))

pub filter-filter : {A : Type 0} (p q r : A → Bool) (xs : List A) → ((x : A) → In x xs → (q x && p x) ≡ r x) → filter p (filter q xs) ≡ filter r xs
unfolding filter
filter-filter p q r [] h = refl
filter-filter p q r (x ∷ xs) h =
    let ih = filter-filter p q r xs (λ y m. h y (next m)) in
    if (q x)
    (λ b. let e : p x ≡ r x = ap (λ z. z && p x) (sym b) ∙ h x (here refl) in if (r x) (λ c. rw (b, c, e ∙ c, ih)) (λ c. rw (b, c, e ∙ c) ih))
    (λ b. let e : false ≡ r x = ap (λ z. z && p x) (sym b) ∙ h x (here refl) in rw (b, ← e) ih)

pub filter_both : {A : Type 0} (p q : A → Bool) (xs : List A) → filter p (filter q xs) ≡ filter (λ x. p x && q x) xs
filter_both p q xs = filter-filter p q (λ x. p x && q x) xs (λ x m. and_comm (q x) (p x))

pub filter_all : {A : Type 0} (p : A → Bool) (xs : List A) → ((x : A) → In x xs → p x ≡ true) → filter p xs ≡ xs
unfolding filter
filter_all p [] h = refl
filter_all p (x ∷ xs) h = rw (h x (here refl), filter_all p xs (λ y m. h y (next m)))

pub filter_none : {A : Type 0} (p : A → Bool) (xs : List A) → ((x : A) → In x xs → p x ≡ false) → filter p xs ≡ []
unfolding filter
filter_none p [] h = refl
filter_none p (x ∷ xs) h = rw (h x (here refl)) (filter_none p xs (λ y m. h y (next m)))

pub filter_ext : {A : Type 0} (p q : A → Bool) (xs : List A) → ((x : A) → In x xs → p x ≡ q x) → filter p xs ≡ filter q xs
unfolding filter
filter_ext p q [] h = refl
filter_ext p q (x ∷ xs) h = let ih = filter_ext p q xs (λ y m. h y (next m)) in if (q x) (λ b. rw (h x (here refl), b, ih)) (λ b. rw (h x (here refl), b, ih))

-- where no two elements pass, none or one does
pub filter_one : {A : Type 0} {R : A → A → Type 0} (p : A → Bool) {xs : List A}
    → Pairwise R xs → ((x y : A) → In x xs → In y xs → R x y → p x ≡ true → p y ≡ true → ⊥)
    → (filter p xs ≡ []) ⊎ Any (λ x. (p x ≡ true) × (filter p xs ≡ x ∷ [])) xs
unfolding filter
filter_one p none h = inl refl
filter_one p (more {x = x} {xs = xs} g q) h =
    if (p x)
    (λ b. inr (x, here refl, (b, rw (b, filter_none p xs (λ y m. if (p y) (λ c. absurd (h x y (here refl) (next m) (g.at y m) b c)) (λ c. c))))))
    (λ b. either (filter_one p q (λ y z m n. h y z (next m) (next n)))
    (λ e. inl (rw b e)) (λ r. inr (r.0, next r.1, (r.2.0, rw b r.2.1))))

-- nothing new passes
pub filter_more : {A : Type 0} (q : A → Bool) (xs ys : List A) → ((y : A) → In y ys → q y ≡ false) → filter q (xs ++ ys) ≡ filter q xs
filter_more q xs ys z = filter-append q xs ys ∙ (ap (λ r. filter q xs ++ r) (filter_none q ys z) ∙ append-nil (filter q xs))

-- what passes p passes q
pub filter-kept : {A : Type 0} (p q : A → Bool) (xs : List A) → ((x : A) → In x xs → p x ≡ true → q x ≡ true) → filter p (filter q xs) ≡ filter p xs
filter-kept p q xs h = filter-filter p q p xs (λ x m. if (p x) (λ b. rw (b, h x m b)) (λ b. rw (b, and-false (q x))))

pub filter_map_ext : {A B : Type 0} (p : A → Bool) (q : B → Bool) (f : A → B) (xs : List A)
    → ((x : A) → In x xs → q (f x) ≡ p x) → filter q (map f xs) ≡ map f (filter p xs)
filter_map_ext p q f xs e = filter_map q f xs ∙ ap (map f) (filter_ext (λ x. q (f x)) p xs e)

-- a list moves on, each element by f, and new ones follow: what passed still does, moved on, and nothing new passes
pub filter_step : {A : Type 0} (p q : A → Bool) (f : A → A) (xs ys : List A)
    → ((x : A) → In x xs → q (f x) ≡ p x) → ((y : A) → In y ys → q y ≡ false) → filter q (map f xs ++ ys) ≡ map f (filter p xs)
unfolding filter
filter_step p q f xs ys e z =
    filter-append q (map f xs) ys ∙ (ap (λ r. filter q (map f xs) ++ r) (filter_none q ys z)
    ∙ (append-nil (filter q (map f xs)) ∙ filter_map_ext p q f xs e))

-- a list moves on, each element by f, and new ones follow: what those that still pass give, then what the new ones give
pub flat_map_step : {A B : Type 0} (p q : A → Bool) (h k : A → List B) (f : A → A) (xs ys : List A)
    → ((x : A) → In x xs → q (f x) ≡ p x) → ((x : A) → In x xs → p x ≡ true → k (f x) ≡ h x)
    → flat_map k (filter q (map f xs ++ ys)) ≡ flat_map h (filter p xs) ++ flat_map k (filter q ys)
unfolding flat_map filter
flat_map_step p q h k f [] ys e g = refl
flat_map_step p q h k f (x ∷ xs) ys e g =
    let ih = flat_map_step p q h k f xs ys (λ y m. e y (next m)) (λ y m. g y (next m)) in
    if (p x)
    (λ b. rw (e x (here refl), b, g x (here refl) b, ih) (sym (append_assoc (h x) (flat_map h (filter p xs)) (flat_map k (filter q ys)))))
    (λ b. rw (e x (here refl), b) ih)

-- all
pub all_map : {A B : Type 0} (p : B → Bool) (f : A → B) (xs : List A) → all p (map f xs) ≡ all (λ x. p (f x)) xs
unfolding all
all_map p f [] = refl
all_map p f (x ∷ xs) = ap (λ b. p (f x) && b) (all_map p f xs)

pub all_append : {A : Type 0} (p : A → Bool) (xs ys : List A) → all p (xs ++ ys) ≡ (all p xs && all p ys)
unfolding all
all_append p [] ys = refl
all_append p (x ∷ xs) ys = if (p x) (λ e. rw e (all_append p xs ys)) (λ e. rw e)

pub all_ext : {A : Type 0} (p q : A → Bool) (xs : List A) → ((x : A) → In x xs → p x ≡ q x) → all p xs ≡ all q xs
unfolding all
all_ext p q [] h = refl
all_ext p q (x ∷ xs) h = rw (h x (here refl), all_ext p q xs (λ y m. h y (next m))) refl

pub all_both : {A : Type 0} (p q : A → Bool) (xs : List A) → (all p xs && all q xs) ≡ all (λ x. p x && q x) xs
unfolding all
all_both p q [] = refl
all_both p q (x ∷ xs) = rw (← all_both p q xs) (swap (p x) (all p xs) (q x) (all q xs))
  where
    swap : (a b c d : Bool) → ((a && b) && (c && d)) ≡ ((a && c) && (b && d))
    swap true true c d = refl
    swap true false true d = refl
    swap true false false d = refl
    swap false b c d = refl

pub pairwise_map : {A B : Type 0} (r : B → B → Bool) (f : A → B) (xs : List A) → pairwise r (map f xs) ≡ pairwise (λ x y. r (f x) (f y)) xs
unfolding pairwise
pairwise_map r f [] = refl
pairwise_map r f (x ∷ xs) = ap₂ ◌&&◌ (all_map (r (f x)) f xs) (pairwise_map r f xs)

pub pairwise_ext : {A : Type 0} (r s : A → A → Bool) (xs : List A) → ((x y : A) → In x xs → In y xs → r x y ≡ s x y) → pairwise r xs ≡ pairwise s xs
unfolding pairwise
pairwise_ext r s [] h = refl
pairwise_ext r s (x ∷ xs) h = ap₂ ◌&&◌ (all_ext _ _ xs (λ y m. h x y (here refl) (next m))) (pairwise_ext r s xs (λ y z m k. h y z (next m) (next k)))

-- two lists compared all with all, from either side
pub all_swap : {A B : Type 0} (r : A → B → Bool) (xs : List A) (ys : List B) → all (λ x. all (r x) ys) xs ≡ all (λ y. all (λ x. r x y) xs) ys
unfolding all
all_swap r [] ys = sym (in_all (λ y. true) ys (λ y m. refl))
all_swap r (x ∷ xs) ys = rw (all_swap r xs ys) (all_both (r x) (λ y. all (λ x. r x y) xs) ys)

pub pairwise_append : {A : Type 0} (r : A → A → Bool) (xs ys : List A) → pairwise r (xs ++ ys) ≡ (pairwise r xs && (pairwise r ys && all (λ x. all (r x) ys) xs))
unfolding all pairwise
pairwise_append r [] ys = sym (and-true (pairwise r ys))
pairwise_append r (x ∷ xs) ys =
    rw (all_append (r x) xs ys, pairwise_append r xs ys) (swap (all (r x) xs) (all (r x) ys) (pairwise r xs) (pairwise r ys) (all (λ x. all (r x) ys) xs))
  where
    swap : (a b c d e : Bool) → ((a && b) && (c && (d && e))) ≡ ((a && c) && (d && (b && e)))
    swap true true true d e = refl
    swap true false true d e = sym (and-false d)
    swap true b false d e = and-false b
    swap false b c d e = refl

-- two tests that are one at every place
pub all_maps : {A B C : Type 0} (p : A → Bool) (q : B → Bool) (f : C → A) (g : C → B) (xs : List C) → ((x : C) → p (f x) ≡ q (g x)) → all p (map f xs) ≡ all q (map g xs)
all_maps p q f g xs h = all_map p f xs ∙ (all_ext _ _ xs (λ x m. h x) ∙ sym (all_map q g xs))

-- where the one test passes at every place, so does the other
pub all_weaken : {A : Type 0} (p q : A → Bool) (xs : List A) → ((x : A) → p x ≡ true → q x ≡ true) → all p xs ≡ true → all q xs ≡ true
all_weaken p q xs h e = in_all q xs (λ x m. h x (all_in p xs e m))

pub all_as : {A B C : Type 0} (p : A → Bool) (q : B → Bool) (f : C → A) (g : C → B) (xs : List C) → ((x : C) → p (f x) ≡ true → q (g x) ≡ true) → all p (map f xs) ≡ true → all q (map g xs) ≡ true
unfolding all
all_as p q f g [] h e = refl
all_as p q f g (x ∷ xs) h e = let k = both (p (f x)) (all p (map f xs)) e in and (h x k.0) (all_as p q f g xs h k.1)

-- any

pub any_append : {A : Type 0} (p : A → Bool) (xs ys : List A) → any p (xs ++ ys) ≡ (any p xs || any p ys)
unfolding any
any_append p [] ys = refl
any_append p (x ∷ xs) ys = if (p x) (λ b. rw b) (λ b. rw (b, any_append p xs ys))

pub any_map : {A B : Type 0} (p : B → Bool) (f : A → B) (xs : List A) → any p (map f xs) ≡ any (λ x. p (f x)) xs
unfolding any
any_map p f [] = refl
any_map p f (x ∷ xs) = rw (any_map p f xs)

pub any_ext : {A : Type 0} (p q : A → Bool) (xs : List A) → ((x : A) → In x xs → p x ≡ q x) → any p xs ≡ any q xs
unfolding any
any_ext p q [] h = refl
any_ext p q (x ∷ xs) h = rw (h x (here refl), any_ext p q xs (λ y m. h y (next m)))

pub any_map_ext : {A B : Type 0} (p : A → Bool) (q : B → Bool) (f : A → B) (xs : List A) → ((x : A) → In x xs → q (f x) ≡ p x) → any q (map f xs) ≡ any p xs
any_map_ext p q f xs e = any_map q f xs ∙ any_ext (λ x. q (f x)) p xs e

-- two tests that are one at every place
pub any_maps : {A B C : Type 0} (p : A → Bool) (q : B → Bool) (f : C → A) (g : C → B) (xs : List C) → ((x : C) → p (f x) ≡ q (g x)) → any p (map f xs) ≡ any q (map g xs)
any_maps p q f g xs h = any_map p f xs ∙ (any_ext _ _ xs (λ x m. h x) ∙ sym (any_map q g xs))

-- n elements are some where n is not 0
pub any_true : {A : Type 0} (f : ℕ → A) (n : ℕ) → any (λ x. true) (map f (range 0 n)) ≡ ltb 0 n
unfolding range any
any_true f zero = refl
any_true f (suc n) = sym (lt-ltb 0 (suc n) (omega arith))

pub any_step : {A : Type 0} (p q : A → Bool) (f : A → A) (xs ys : List A)
    → ((x : A) → In x xs → q (f x) ≡ p x) → ((y : A) → In y ys → q y ≡ false) → any q (map f xs ++ ys) ≡ any p xs
unfolding any
any_step p q f [] [] e z = refl
any_step p q f [] (y ∷ ys) e z = rw (z y (here refl)) (any_step p q f [] ys e (λ x m. z x (next m)))
any_step p q f (x ∷ xs) ys e z = rw (e x (here refl), any_step p q f xs ys (λ y m. e y (next m)) z)

pub any_filter : {A : Type 0} (p q r : A → Bool) (xs : List A)
    → ((x : A) → In x xs → r x ≡ true → q x ≡ p x) → ((x : A) → In x xs → r x ≡ false → p x ≡ false) → any q (filter r xs) ≡ any p xs
unfolding any filter
any_filter p q r [] e z = refl
any_filter p q r (x ∷ xs) e z =
    let ih = any_filter p q r xs (λ y m. e y (next m)) (λ y m. z y (next m)) in
    if (r x) (λ b. rw (b, e x (here refl) b, ih)) (λ b. rw (b, z x (here refl) b) ih)

pub any_both : {A : Type 0} (p q : A → Bool) (xs : List A) → any p (filter q xs) ≡ any (λ x. p x && q x) xs
any_both p q xs = any_filter (λ x. p x && q x) p q xs (λ x m b. rw (b, and-true (p x))) (λ x m b. rw (b, and-false (p x)))

pub any_none : {A : Type 0} (p : A → Bool) (xs : List A) → ((x : A) → In x xs → p x ≡ false) → any p xs ≡ false
unfolding any
any_none p [] h = refl
any_none p (x ∷ xs) h = rw (h x (here refl)) (any_none p xs (λ y m. h y (next m)))

pub not_any_all : {A : Type 0} (p : A → Bool) (xs : List A) → not (any p xs) ≡ all (λ x. not (p x)) xs
unfolding all any
not_any_all p [] = refl
not_any_all p (x ∷ xs) = sym (not-or (p x) (any p xs)) ∙ ap (λ b. not (p x) && b) (not_any_all p xs)

-- a list that is not empty has some element
pub any_some : {A : Type 0} (xs : List A) → 0 < length xs → any (λ x. true) xs ≡ true
unfolding any
any_some [] h = absurd (omega arith)
any_some (x ∷ xs) h = refl

pub has_map : (a p : ℕ) (ps : List ℕ) → has (a + p) (map (λ q. a + q) ps) ≡ has p ps
unfolding any
has_map a p [] = refl
has_map a p (q ∷ ps) = rw (same, has_map a p ps)
  where
    same : eqb (a + p) (a + q) ≡ eqb p q
    same = same_test (eqb (a + p) (a + q)) (eqb p q)
        (λ h. eq-eqb p q (let e = eqb-true (a + p) (a + q) h in omega arith)) (λ h. eq-eqb (a + p) (a + q) (let e = eqb-true p q h in omega arith))

-- agreement place by place, for a relation that f keeps
pub agree_map : {A B : Type 0} (r : A → B → Bool) (f : A → A) → ((x : A) (y : B) → r (f x) y ≡ r x y) → (xs : List A) (ys : List B) → agree r (map f xs) ys ≡ agree r xs ys
unfolding agree
agree_map r f e [] [] = refl
agree_map r f e [] (y ∷ ys) = refl
agree_map r f e (x ∷ xs) [] = refl
agree_map r f e (x ∷ xs) (y ∷ ys) = rw (e x y, agree_map r f e xs ys)

pub has_self : (ps : List ℕ) → All (λ p. has p ps ≡ true) ps
has_self ps = each (λ p m. in_any (eqb p) m (eq-eqb p p refl))

pub has_trans : (ps qs rs : List ℕ) → All (λ p. has p qs ≡ true) ps → All (λ q. has q rs ≡ true) qs → All (λ p. has p rs ≡ true) ps
has_trans ps qs rs h k = each (λ p m.
    let r = any_in (eqb p) qs (h.at p m) in let e = eqb-true p r.0 r.2 in rw e (k.at r.0 r.1))

-- the last

pub last-append : {A : Type 0} (d : A) (xs : List A) (y : A) → last d (xs ++ (y ∷ [])) ≡ y
unfolding last
last-append d [] y = refl
last-append d (x ∷ xs) y = last-append x xs y

pub last_filter : {A : Type 0} (p : A → Bool) (d e : A) (x : A) (xs : List A) → p (last x xs) ≡ true → last e (filter p (x ∷ xs)) ≡ last x xs
unfolding filter last
last_filter p d e x [] h = rw h
last_filter p d e x (y ∷ ys) h =
    if (p x) (λ b. rw b (last_filter p d x y ys h)) (λ b. rw b (last_filter p d e y ys h))

pub last_kept : {A : Type 0} (p : A → Bool) (d : A) (xs : List A) → p (last d xs) ≡ true → last d (filter p xs) ≡ last d xs
unfolding filter last
last_kept p d [] h = refl
last_kept p d (x ∷ xs) h = last_filter p d d x xs h

pub last-in : {A : Type 0} (d : A) (x : A) (xs : List A) → In (last d (x ∷ xs)) (x ∷ xs)
unfolding last
last-in d x [] = here refl
last-in d x (y ∷ ys) = next (last-in x y ys)

-- all bit comes before the last, or is it
pub pair_last : {A : Type 0} {R : A → A → Type 0} (d : A) {xs : List A} → Pairwise R xs → (x : A) → In x xs → (x ≡ last d xs) ⊎ R x (last d xs)
unfolding last
pair_last d none x m = in_nil m
pair_last d (more {xs = []} g p) x m = either (in_cons m) (λ e. inl e) (λ n. in_nil n)
pair_last d (more {x = z} {xs = y ∷ ys} g p) x m =
    either (in_cons m) (λ e. inr (rw e (g.at (last y ys) (last-in z y ys)))) (λ n. pair_last z p x n)
