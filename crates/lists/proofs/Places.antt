-- Lists of what a function gives at each place: their members, their parts, what holds at each place, the place of an element.
use Rattle.std.specs.Prelude.{None, Option, Some}
use Prim.Native.Nat.{ℕ, zero, suc, ◌+◌, ◌-◌, ◌≤◌, ◌<◌}
use mathlib.Core.Path.{◌≡◌, refl, sym, ap, ◌∙◌, subst}
use mathlib.Core.List.{List, [], ◌∷◌, ◌++◌, map}
use mathlib.Core.Bool.{Bool, true, false, cond, ◌&&◌}
use borrow.Author.Tests.{ltb-true, ltb-false, eqb-true, eq-eqb}
use lib.Dec.{ltb, eqb}
use native.Mathlib.Omega.{arith}
use native.Mathlib.Nat.{eq-or-lt_of_le, add-zero, add-suc, suc-add, zero-add}
use lib.ListN.{length, get_or, take, length-map, length-take}
use lib.Seq.{get_or-take}
use Rattle.std.specs.Option.{is_some}
use Rattle.lists.specs.Lists.{range, all, any, pairwise, place, last, has}
use Rattle.lists.specs.Runs.{from}
use Rattle.lists.proofs.Tests.{if, either, both, clash, same_test, eqb_swap}
use Rattle.lists.proofs.Members.{In, here, next, all_in, in_all, in_map, in_map_of, in_range_lem, range_in}
use Rattle.lists.proofs.Selections.{map-append, any_none, any_ext}
use Rattle.lists.proofs.Loops.{length-range}

pub range_split : (i m n : ℕ) → range i (m + n) ≡ range i m ++ range (i + m) n
unfolding range
range_split i zero n = rw (zero-add, add-zero) refl
range_split i (suc m) n = rw (suc-add m, add-suc i, ← suc-add i) (ap (◌∷◌ i) (range_split (suc i) m n))

module _ {A : Type 0} (f : ℕ → A) where
  pub from_split : (i m n : ℕ) → i ≤ m → m ≤ n → from f i n ≡ from f i m ++ from f m n
  from_split i m n h k =
      ap (λ l. map f (range i l)) (omega arith) ∙ ap (map f) (range_split i (m - i) (n - m)) ∙ map-append f (range i (m - i)) (range (i + (m - i)) (n - m))
      ∙ ap (λ l. from f i m ++ map f (range l (n - m))) (omega arith)

  pub in_from : (i n : ℕ) {x : A} → In x (from f i n) → (j : ℕ) × (i ≤ j) × (j < n) × (x ≡ f j)
  in_from i n m = let r = in_map_of f (range i (n - i)) m in let l = in_range_lem i (n - i) r.1 in (r.0, l.0, omega arith, r.2)

  -- what holds of every place holds of each
  pub all-at : (p : A → Bool) (n j : ℕ) → all p (map f (range 0 n)) ≡ true → j < n → p (f j) ≡ true
  all-at p n j e h = all_in p _ e (in_map f (range_in 0 n j (omega arith) (omega arith)))

  pub at_all : (p : A → Bool) (n : ℕ) → ((j : ℕ) → j < n → p (f j) ≡ true) → all p (map f (range 0 n)) ≡ true
  at_all p n h = in_all p _ (λ x m. let r = in_map_of f (range 0 n) m in let b = in_range_lem 0 n r.1 in ap p r.2 ∙ h r.0 (omega arith))

  -- what stands at each place
  get_d_from : (d : A) (n i j : ℕ) → j < n → get_or (map f (range i n)) j d ≡ f (i + j)
  unfolding range
  get_d_from d zero i j h = absurd (omega arith)
  get_d_from d (suc n) i zero h = ap f (sym (add-zero i))
  get_d_from d (suc n) i (suc j) h = get_d_from d n (suc i) j (omega arith) ∙ rw (suc-add, add-suc) refl

  -- of a list that begins with what f gives at each place below n
  pub taken_at : (d : A) (xs : List A) (n j : ℕ) → take n xs ≡ map f (range 0 n) → j < n → (j < length xs) × (get_or xs j d ≡ f j)
  taken_at d xs n j e h = (
    omega (arith, length-take n xs, ap length e, length-map (range 0 n) f, length-range 0 n),
    sym (get_or-take n xs j d h) ∙ (ap (λ ys. get_or ys j d) e ∙ (get_d_from d n 0 j h ∙ rw zero-add refl)),
  )

  pub pairwise_from : (r : A → A → Bool) (n i j k : ℕ) → pairwise r (map f (range i n)) ≡ true → i ≤ j → j < k → k < i + n → r (f j) (f k) ≡ true
  unfolding range pairwise
  pairwise_from r zero i j k e h l m = absurd (omega arith)
  pairwise_from r (suc n) i j k e h l m =
      let b = both (all (r (f i)) (map f (range (suc i) n))) (pairwise r (map f (range (suc i) n))) e in
      either (eq-or-lt_of_le h)
      (λ (s : i ≡ j). subst (λ (a : ℕ). r (f a) (f k) ≡ true) s (all_in (r (f i)) _ b.0 (in_map f (range_in (suc i) n k (omega arith) (omega arith)))))
      (λ (s : i < j). pairwise_from r n (suc i) j k b.1 s l (omega arith))

  pub pairwise_at : (r : A → A → Bool) (n j k : ℕ) → pairwise r (map f (range 0 n)) ≡ true → j < k → k < n → r (f j) (f k) ≡ true
  pairwise_at r n j k e h l = pairwise_from r n 0 j k e (omega arith) h (omega arith)

-- the place of an element

pub place_map : {A B : Type 0} (p : B → Bool) (f : A → B) (i : ℕ) (xs : List A) → place p i (map f xs) ≡ place (λ x. p (f x)) i xs
unfolding place
place_map p f i [] = refl
place_map p f i (x ∷ xs) = ap (cond (p (f x)) (Some i)) (place_map p f (suc i) xs)

pub place_nothing : {A : Type 0} (p : A → Bool) (i : ℕ) (xs : List A) → ((x : A) → In x xs → p x ≡ false) → place p i xs ≡ None
unfolding place
place_nothing p i [] h = refl
place_nothing p i (x ∷ xs) h = rw (h x (here refl)) (place_nothing p (suc i) xs (λ y m. h y (next m)))

-- what the place of the first element that passes tells, and no place
abbrev pub Placed : {A : Type 0} → (ℕ → A) → (A → Bool) → ℕ → ℕ → Option ℕ → Type 0
Placed f p i n (Some j) = (i ≤ j) × (j < n) × (p (f j) ≡ true) × ((k : ℕ) → i ≤ k → k < j → p (f k) ≡ false)
Placed f p i n None = (k : ℕ) → i ≤ k → k < n → p (f k) ≡ false

module _ {A : Type 0} (f : ℕ → A) (p : A → Bool) where
  placed_here : (n i : ℕ) → i < n → p (f i) ≡ true → Placed f p i n (Some i)
  placed_here n i h e = (omega arith, h, e, λ k g l. absurd (omega arith))

  placed_later : (n i : ℕ) → p (f i) ≡ false → (r : Option ℕ) → Placed f p (suc i) n r → Placed f p i n r
  placed_later n i e (Some j) (h, l, q, m) = (omega arith, l, q, λ k g t. either (eq-or-lt_of_le g) (λ (s : i ≡ k). subst (λ (a : ℕ). p (f a) ≡ false) s e) (λ (s : i < k). m k s t))
  placed_later n i e None m = λ k g t. either (eq-or-lt_of_le g) (λ (s : i ≡ k). subst (λ (a : ℕ). p (f a) ≡ false) s e) (λ (s : i < k). m k s t)

  pub placed : (n i : ℕ) → Placed f p i (i + n) (place p i (map f (range i n)))
  unfolding range place
  placed zero i = λ k g l. absurd (omega arith)
  placed (suc n) i =
      if (p (f i)) (λ e. rw e (placed_here (i + suc n) i (omega arith) e))
      (λ e. rw e (placed_later (i + suc n) i e (place p (suc i) (map f (range (suc i) n))) (subst (λ (m : ℕ). Placed f p (suc i) m (place p (suc i) (map f (range (suc i) n)))) (omega arith) (placed n (suc i)))))

  -- a place that tells so is the one
  pub place_first : (n j : ℕ) → j < n → p (f j) ≡ true → ((k : ℕ) → k < j → p (f k) ≡ false) → place p 0 (map f (range 0 n)) ≡ Some j
  place_first n j h e m = one (place p 0 (map f (range 0 n))) (placed n 0)
    where
      one : (r : Option ℕ) → Placed f p 0 (0 + n) r → r ≡ Some j
      one (Some k) (a, b, q, l) = ap Some (if (ltb k j) (λ s. clash q (m k (ltb-true k j s))) (λ s. if (ltb j k) (λ t. clash e (l j (omega arith) (ltb-true j k t))) (λ t. omega (arith, ltb-false k j s, ltb-false j k t))))
      one None l = clash e (l j (omega arith) (omega arith))

  pub place_nowhere : (n : ℕ) → ((k : ℕ) → k < n → p (f k) ≡ false) → place p 0 (map f (range 0 n)) ≡ None
  place_nowhere n m = place_nothing p 0 _ (λ x i. let r = in_map_of f (range 0 n) i in ap p r.2 ∙ m r.0 (let b = in_range_lem 0 n r.1 in omega arith))

-- some element passes just where it has a place
abbrev pub is_at : Option ℕ → Bool
is_at r = is_some r

pub any_place : {A : Type 0} (p : A → Bool) (i : ℕ) (xs : List A) → any p xs ≡ is_at (place p i xs)
unfolding any place
any_place p i [] = refl
any_place p i (x ∷ xs) = if (p x) (λ e. rw e) (λ e. rw e (any_place p (suc i) xs))

pub has_place : {x y : ℕ} (xs : List ℕ) {r : Option ℕ} → x ≡ y → r ≡ place (λ z. eqb z x) 0 xs → has y xs ≡ is_at r
has_place {x} {y} xs e h = any_ext (eqb y) (λ z. eqb z x) xs (λ z m. rw (← e) (eqb_swap x z)) ∙ (any_place (λ z. eqb z x) 0 xs ∙ ap is_at (sym h))

pub found_tells : {A : Type 0} (f : ℕ → A) (p : A → Bool) (n : ℕ) {r : Option ℕ} {j : ℕ} → r ≡ place p 0 (map f (range 0 n)) → r ≡ Some j → (j < n) × (p (f j) ≡ true)
found_tells f p n {r} {j} h g =
    let t : Placed f p 0 (0 + n) (Some j) = subst (Placed f p 0 (0 + n)) (sym h ∙ g) (placed f p n 0) in (omega arith, t.2)

-- the place, or 0
abbrev pub place_of : Option ℕ → ℕ
place_of (Some i) = i
place_of None = 0

abbrev pub place_in : List ℕ → ℕ → ℕ
place_in xs x = place_of (place (λ z. eqb z x) 0 xs)

-- numbers that are among those of f: each stands at its place, and two are equal where their places are
module _ (f : ℕ → ℕ) (n : ℕ) where
  has_at : (x : ℕ) → has x (map f (range 0 n)) ≡ true → f (place_in (map f (range 0 n)) x) ≡ x
  has_at x h = at (place (λ z. eqb z x) 0 (map f (range 0 n))) refl (sym (has_place (map f (range 0 n)) refl refl) ∙ h)
    where
      at : (r : Option ℕ) → place (λ z. eqb z x) 0 (map f (range 0 n)) ≡ r → is_at r ≡ true → f (place_of r) ≡ x
      at (Some k) e t = eqb-true (f k) x (found_tells f (λ z. eqb z x) n refl e).1
      at None e t = clash t refl

  pub same_place : (x y : ℕ) → has x (map f (range 0 n)) ≡ true → has y (map f (range 0 n)) ≡ true
      → eqb x y ≡ eqb (place_in (map f (range 0 n)) x) (place_in (map f (range 0 n)) y)
  same_place x y h k =
      same_test _ _ (λ t. eq-eqb _ _ (ap (place_in (map f (range 0 n))) (eqb-true x y t)))
      (λ t. eq-eqb x y (sym (has_at x h) ∙ (ap f (eqb-true _ _ t) ∙ has_at y k)))

-- no element has the key k
pub any_nowhere : {A : Type 0} (f : ℕ → A) (key : A → ℕ) (k n : ℕ) (q : A → Bool) {r : Option ℕ}
    → r ≡ place (λ y. eqb y k) 0 (map (λ i. key (f i)) (range 0 n)) → r ≡ None → any (λ x. eqb (key x) k && q x) (map f (range 0 n)) ≡ false
any_nowhere f key k n q h g =
    let t : Placed (λ i. key (f i)) (λ y. eqb y k) 0 (0 + n) None = subst (Placed (λ i. key (f i)) (λ y. eqb y k) 0 (0 + n)) (sym h ∙ g) (placed (λ i. key (f i)) (λ y. eqb y k) n 0) in
    any_none _ _ (λ x m. let r = in_map_of f (range 0 n) m in let b = in_range_lem 0 n r.1 in ap (λ y. eqb (key y) k && q y) r.2 ∙ rw (t r.0 (omega arith) (omega arith)) refl)

-- the last of n
last_from : {A : Type 0} (f : ℕ → A) (d : A) (n i : ℕ) → last d (map f (range i (suc n))) ≡ f (i + n)
unfolding range last
last_from f d zero i = rw add-zero refl
last_from f d (suc n) i = last_from f (f i) n (suc i) ∙ rw (suc-add, add-suc) refl

pub last_at : {A : Type 0} (f : ℕ → A) (d : A) (n : ℕ) → 0 < n → last d (map f (range 0 n)) ≡ f (n - 1)
last_at f d zero h = absurd (omega arith)
last_at f d (suc n) h = last_from f d n 0 ∙ ap f (omega arith)
