-- Members of lists, and facts about all of them, some of them, each pair of them.
use Prim.Native.Nat.{ℕ, zero, suc, ◌+◌, ◌≤◌, ◌<◌}
use mathlib.Core.Path.{◌≡◌, refl, sym, ap, subst, ◌∙◌}
use mathlib.Core.Logic.{◌⊎◌, inl, inr}
use mathlib.Core.List.{List, [], ◌∷◌, ◌++◌, map, flat_map}
pub use mathlib.Core.List.Memᴰ.{append_cases as in_append}
pub use mathlib.Core.List.Memᴰ.{append_left as in_left}
pub use mathlib.Core.List.Memᴰ.{append_right as in_right}
pub use mathlib.Core.List.Memᴰ.{cases_cons as in_cons}
pub use mathlib.Core.List.Memᴰ.{head as here}
pub use mathlib.Core.List.Memᴰ.{tail as next}
pub use mathlib.Core.List.{Memᴰ as In}
use mathlib.Core.Bool.{Bool, true, false≢true, not}
use native.Mathlib.Nat.{eq-or-lt_of_le}
use native.Mathlib.Omega.{arith}
use Rattle.lists.specs.Lists.{range, all, any, pairwise, filter, find, has}
use Rattle.lists.proofs.Tests.{Reflects, if, either, both, and, or_cases, or_left, or_right, clash}
use lib.Dec.{eqb}
use lib.ListN.{length, get_or}
use borrow.Author.Tests.{eqb-true, eq-eqb, not-true}

-- a record, so that P is determined where it is left out
pub record All {A : Type 0} (P : A → Type 0) (xs : List A) : Type 0 where
  pub at : (x : A) → In x xs → P x

abbrev pub each : {A : Type 0} {P : A → Type 0} {xs : List A} → ((x : A) → In x xs → P x) → All P xs
each h = record { at = h }

abbrev pub Any : {A : Type 0} → (A → Type 0) → List A → Type 0
Any {A} P xs = (x : A) × In x xs × P x

-- each element stands in R to every later one
pub data Pairwise {A : Type 0} (R : A → A → Type 0) : List A → Type 0 where
  none : Pairwise R []
  more : {x : A} {xs : List A} → All (R x) xs → Pairwise R xs → Pairwise R (x ∷ xs)

pub in_nil : {A C : Type 0} {x : A} → In x [] → C
in_nil h = elim h [ ]

pub in_map : {A B : Type 0} (f : A → B) {x : A} {xs : List A} → In x xs → In (f x) (map f xs)
in_map f (here e) = here (ap f e)
in_map f (next m) = next (in_map f m)

pub in_map_of : {A B : Type 0} (f : A → B) {y : B} (xs : List A) → In y (map f xs) → (x : A) × In x xs × (y ≡ f x)
in_map_of f [] m = in_nil m
in_map_of f (x ∷ xs) m =
    either (in_cons m) (λ e. (x, here refl, e)) (λ n. let r = in_map_of f xs n in (r.0, next r.1, r.2))

pub in_filter : {A : Type 0} (p : A → Bool) {x : A} (xs : List A) → In x xs → p x ≡ true → In x (filter p xs)
unfolding filter
in_filter p [] m h = in_nil m
in_filter p (y ∷ ys) m h =
    either (in_cons m) (λ q. rw (ap p (sym q) ∙ h) (here q))
    (λ n. if (p y) (λ e. rw e (next (in_filter p ys n h))) (λ e. rw e (in_filter p ys n h)))

pub in_filter_of : {A : Type 0} (p : A → Bool) {x : A} (xs : List A) → In x (filter p xs) → In x xs × (p x ≡ true)
unfolding filter
in_filter_of p [] m = in_nil m
in_filter_of {A} p {x} (y ∷ ys) m =
    if (p y)
    (λ e. let m' : In x (y ∷ filter p ys) = rw e at m in
    either (in_cons m') (λ q. (here q, ap p q ∙ e)) (λ n. let r = in_filter_of p ys n in (next r.0, r.1)))
    (λ e. let m' : In x (filter p ys) = rw e at m in let r = in_filter_of p ys m' in (next r.0, r.1))

-- the tests over lists

pub all_in : {A : Type 0} (p : A → Bool) {x : A} (xs : List A) → all p xs ≡ true → In x xs → p x ≡ true
unfolding all
all_in p [] h m = in_nil m
all_in p (y ∷ ys) h m =
    either (in_cons m) (λ q. ap p q ∙ (both (p y) (all p ys) h).0) (λ n. all_in p ys (both (p y) (all p ys) h).1 n)

pub in_all : {A : Type 0} (p : A → Bool) (xs : List A) → ((x : A) → In x xs → p x ≡ true) → all p xs ≡ true
unfolding all
in_all p [] h = refl
in_all p (y ∷ ys) h = and (h y (here refl)) (in_all p ys (λ x m. h x (next m)))

pub reflects_all : {A : Type 0} {p : A → Bool} {P : A → Type 0} → ((x : A) → Reflects (p x) (P x)) → (xs : List A) → Reflects (all p xs) (All P xs)
unfolding all
reflects_all {A} {p} {P} t xs = record {
  to = λ h. each (λ x m. (t x).to (all_in p xs h m));
  from = λ h. in_all p xs (λ x m. (t x).from (h.at x m));
}

pub any_in : {A : Type 0} (p : A → Bool) (xs : List A) → any p xs ≡ true → (x : A) × In x xs × (p x ≡ true)
unfolding any
any_in p [] h = absurd (false≢true h)
any_in p (y ∷ ys) h =
    either (or_cases (p y) (any p ys) h) (λ e. (y, here refl, e)) (λ k. let r = any_in p ys k in (r.0, next r.1, r.2))

pub in_any : {A : Type 0} (p : A → Bool) {x : A} {xs : List A} → In x xs → p x ≡ true → any p xs ≡ true
unfolding any
in_any p {x} (here {x = y} {xs = ys} e) h = or_left (p y) (any p ys) (ap p (sym e) ∙ h)
in_any p {x} (next {x = y} {xs = ys} m) h = or_right (p y) (any p ys) (in_any p m h)

-- no element passes
pub not_any : {A C : Type 0} (p : A → Bool) {x : A} {xs : List A} → not (any p xs) ≡ true → In x xs → p x ≡ true → C
not_any p {xs = xs} h m e = clash (in_any p m e) (not-true (any p xs) h)

pub reflects_any : {A : Type 0} {p : A → Bool} {P : A → Type 0} → ((x : A) → Reflects (p x) (P x)) → (xs : List A) → Reflects (any p xs) (Any P xs)
unfolding any
reflects_any {A} {p} {P} t xs = record {
  to = λ h. let r = any_in p xs h in (r.0, r.1, (t r.0).to r.2);
  from = λ h. in_any p h.1 ((t h.0).from h.2);
}

pub reflects_has : (k : ℕ) (xs : List ℕ) → Reflects (has k xs) (In k xs)
reflects_has k xs = record {
  to = λ h. let r = any_in (eqb k) xs h in subst (λ j. In j xs) (sym (eqb-true k r.0 r.2)) r.1;
  from = λ m. in_any (eqb k) m (eq-eqb k k refl);
}

pub reflects_pairwise : {A : Type 0} {r : A → A → Bool} {R : A → A → Type 0} → ((x y : A) → Reflects (r x y) (R x y)) → (xs : List A) → Reflects (pairwise r xs) (Pairwise R xs)
unfolding all pairwise
reflects_pairwise {A} {r} {R} t xs = record { to = to' xs; from = from' xs }
  where
    to' : (xs : List A) → pairwise r xs ≡ true → Pairwise R xs
    to' [] h = none
    to' (x ∷ xs) h =
        let k = both (all (r x) xs) (pairwise r xs) h in
        more (each (λ y m. (t x y).to (all_in (r x) xs k.0 m))) (to' xs k.1)

    from' : (xs : List A) → Pairwise R xs → pairwise r xs ≡ true
    from' [] h = refl
    from' (x ∷ xs) (more f k) = and (in_all (r x) xs (λ y m. (t x y).from (f.at y m))) (from' xs k)

-- all of a list, each pair of it

pub all_nil : {A : Type 0} {P : A → Type 0} → All P []
all_nil = each (λ x m. in_nil m)

pub all_cons : {A : Type 0} {P : A → Type 0} {x : A} {xs : List A} → P x → All P xs → All P (x ∷ xs)
all_cons {P = P} p h = each (λ y m. either (in_cons m) (λ e. subst P (sym e) p) (λ n. h.at y n))

pub all_one : {A : Type 0} {P : A → Type 0} {x : A} → P x → All P (x ∷ [])
all_one p = all_cons p all_nil

pub all_append : {A : Type 0} {P : A → Type 0} {xs ys : List A} → All P xs → All P ys → All P (xs ++ ys)
all_append {xs = xs} f g = each (λ x m. either (in_append xs m) (λ l. f.at x l) (λ r. g.at x r))

pub all_map : {A B : Type 0} {P : B → Type 0} (f : A → B) (xs : List A) → ((x : A) → In x xs → P (f x)) → All P (map f xs)
all_map {P = P} f xs h = each (λ y m. let r = in_map_of f xs m in subst P (sym r.2) (h r.0 r.1))

pub all_filter : {A : Type 0} {P : A → Type 0} (p : A → Bool) (xs : List A) → ((x : A) → In x xs → p x ≡ true → P x) → All P (filter p xs)
unfolding filter
all_filter p xs h = each (λ x m. let r = in_filter_of p xs m in h x r.0 r.1)

pub all_kept : {A : Type 0} {P : A → Type 0} (p : A → Bool) {xs : List A} → All P xs → All P (filter p xs)
all_kept p {xs} h = all_filter p xs (λ x m k. h.at x m)

pub pair_append : {A : Type 0} {R : A → A → Type 0} {xs ys : List A} → Pairwise R xs → Pairwise R ys → All (λ x. All (R x) ys) xs → Pairwise R (xs ++ ys)
pair_append none q h = q
pair_append (more f p) q h = more (all_append f (h.at _ (here refl))) (pair_append p q (each (λ a m. h.at a (next m))))

pub pair_one : {A : Type 0} {R : A → A → Type 0} (x : A) → Pairwise R (x ∷ [])
pair_one x = more all_nil none

pub pair_map : {A B : Type 0} {R : A → A → Type 0} {S : B → B → Type 0} (f : A → B) {xs : List A}
    → Pairwise R xs → ((x y : A) → In x xs → In y xs → R x y → S (f x) (f y)) → Pairwise S (map f xs)
pair_map f none h = none
pair_map f (more {x = x} {xs = xs} g p) h =
    more (all_map f xs (λ y m. h x y (here refl) (next m) (g.at y m))) (pair_map f p (λ a b m n. h a b (next m) (next n)))

-- where the pairs in R are in S
pub pair_as : {A : Type 0} {R S : A → A → Type 0} {xs : List A} → Pairwise R xs → ((x y : A) → In x xs → In y xs → R x y → S x y) → Pairwise S xs
pair_as none h = none
pair_as (more {x = x} g p) h = more (each (λ y m. h x y (here refl) (next m) (g.at y m))) (pair_as p (λ a b m n. h a b (next m) (next n)))

pub pair_and : {A : Type 0} {R S : A → A → Type 0} {xs : List A} → Pairwise R xs → Pairwise S xs → Pairwise (λ x y. R x y × S x y) xs
pair_and none q = none
pair_and (more g p) (more h q) = more (each (λ y m. (g.at y m, h.at y m))) (pair_and p q)

pub pair_filter : {A : Type 0} {R : A → A → Type 0} (p : A → Bool) {xs : List A} → Pairwise R xs → Pairwise R (filter p xs)
unfolding filter
pair_filter p none = none
pair_filter p (more {x = x} {xs = xs} g q) =
    if (p x) (λ e. rw e (more (all_filter p xs (λ y m b. g.at y m)) (pair_filter p q))) (λ e. rw e (pair_filter p q))

-- a list moves on, each element by f, and new ones follow

pub all_step : {A : Type 0} {P : A → Type 0} (f : A → A) (xs : List A) {ys : List A} → ((x : A) → In x xs → P (f x)) → All P ys → All P (map f xs ++ ys)
all_step f xs h k = all_append (all_map f xs h) k

pub pair_step : {A : Type 0} {R : A → A → Type 0} (f : A → A) {xs ys : List A}
    → Pairwise R xs → ((x y : A) → In x xs → In y xs → R x y → R (f x) (f y)) → Pairwise R ys → ((x y : A) → In x xs → In y ys → R (f x) y)
    → Pairwise R (map f xs ++ ys)
pair_step f {xs} p h q k = pair_append (pair_map f p h) q (all_map f xs (λ x m. each (λ y n. k x y m n)))

pub in_step : {A : Type 0} {P Q : A → Type 0} (f : A → A) {xs : List A} (ys : List A) → Any P xs → ((x : A) → In x xs → P x → Q (f x)) → Any Q (map f xs ++ ys)
in_step f ys r h = (f r.0, in_left ys (in_map f r.1), h r.0 r.1 r.2)

-- what lies in another one still does
pub nest_step : {A B : Type 0} (R : A → B → Type 0) (f : A → A) (g : B → B) {xs zs : List A} {ys : List B} (ws : List B)
    → All (λ x. Any (R x) ys) xs → ((x : A) (y : B) → In x xs → In y ys → R x y → R (f x) (g y)) → All (λ x. Any (R x) (map g ys ++ ws)) zs
    → All (λ x. Any (R x) (map g ys ++ ws)) (map f xs ++ zs)
nest_step R f g {xs = xs} ws o h new = all_step f xs (λ x m. in_step g ws (o.at x m) (λ y n r. h x y m n r)) new

pub pair_two : {A : Type 0} {R : A → A → Type 0} {xs : List A} → Pairwise R xs → (x y : A) → In x xs → In y xs → (x ≡ y) ⊎ (R x y ⊎ R y x)
pair_two none x y m n = in_nil m
pair_two {R = R} (more {x = z} {xs = zs} g p) x y m n =
    either (in_cons m)
    (λ e. either (in_cons n) (λ e'. inl (e ∙ sym e')) (λ n'. inr (inl (rw e (g.at y n')))))
    (λ m'. either (in_cons n) (λ e'. inr (inr (rw e' (g.at x m')))) (λ n'. pair_two p x y m' n'))

pub find_in : {A : Type 0} (p : A → Bool) (d : A) (xs : List A) → any p xs ≡ true → In (find p d xs) xs × (p (find p d xs) ≡ true)
unfolding any find
find_in p d [] h = absurd (false≢true h)
find_in p d (x ∷ xs) h =
    if (p x) (λ b. rw b (here refl, b)) (λ b. let k : any p xs ≡ true = rw b at h in let r = find_in p d xs k in rw b (next r.0, r.1))

pub in_flat_map : {A B : Type 0} (h : A → List B) {x : A} {xs : List A} {y : B} → In x xs → In y (h x) → In y (flat_map h xs)
unfolding flat_map
in_flat_map h {y = y} (here {x = z} {xs = zs} e) n = in_left (flat_map h zs) (subst (λ w. In y (h w)) e n)
in_flat_map h {y = y} (next {x = z} {xs = zs} m) n = in_right (h z) (in_flat_map h m n)

pub in_flat_map_of : {A B : Type 0} (h : A → List B) (xs : List A) {y : B} → In y (flat_map h xs) → (x : A) × In x xs × In y (h x)
unfolding flat_map
in_flat_map_of h [] m = in_nil m
in_flat_map_of h (x ∷ xs) m =
    either (in_append (h x) m) (λ l. (x, here refl, l)) (λ r. let s = in_flat_map_of h xs r in (s.0, next s.1, s.2))

pub in_range_lem : (a n : ℕ) {p : ℕ} → In p (range a n) → (a ≤ p) × (p < a + n)
unfolding range
in_range_lem a zero m = in_nil m
in_range_lem a (suc n) m = either (in_cons m) (λ e. omega arith) (λ i. let r = in_range_lem (suc a) n i in omega arith)

pub range_in : (a n p : ℕ) → a ≤ p → p < a + n → In p (range a n)
unfolding range
range_in a zero p h k = absurd (omega arith)
range_in a (suc n) p h k = either (eq-or-lt_of_le h) (λ (e : a ≡ p). here (sym e)) (λ (l : a < p). next (range_in (suc a) n p l (omega arith)))

pub in_get_d : {A : Type 0} (d : A) (xs : List A) (i : ℕ) → i < length xs → In (get_or xs i d) xs
in_get_d d [] i h = absurd (omega arith)
in_get_d d (x ∷ xs) zero h = here refl
in_get_d d (x ∷ xs) (suc i) h = next (in_get_d d xs i (omega arith))
