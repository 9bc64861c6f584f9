-- Tests, selections and orders over lists.
use Rattle.std.specs.Prelude.{ℕ, zero, suc, ◌+◌, max, List, [], ◌∷◌, Bool, true, false, cond, ◌&&◌, ◌||◌, leb, ltb, eqb, None, Option, Some}

-- n numbers from i on
unfoldable pub range : ℕ → ℕ → List ℕ
range i zero = []
range i (suc n) = i ∷ range (suc i) n

-- every element passes the test
unfoldable pub all : {A : Type 0} → (A → Bool) → List A → Bool
all p [] = true
all p (x ∷ xs) = p x && all p xs

-- some element passes the test
unfoldable pub any : {A : Type 0} → (A → Bool) → List A → Bool
any p [] = false
any p (x ∷ xs) = p x || any p xs

-- some element is there
abbrev pub non_empty : {A : Type 0} → List A → Bool
non_empty xs = any (λ x. true) xs

-- each element stands in r to every later one
unfoldable pub pairwise : {A : Type 0} → (A → A → Bool) → List A → Bool
pairwise r [] = true
pairwise r (x ∷ xs) = all (r x) xs && pairwise r xs

-- each element stands in r to the next one
unfoldable pub chained : {A : Type 0} → (A → A → Bool) → List A → Bool
chained r [] = true
chained r (x ∷ []) = true
chained r (x ∷ (y ∷ ys)) = r x y && chained r (y ∷ ys)

-- two lists of one length whose elements stand in r, place by place
unfoldable pub agree : {A B : Type 0} → (A → B → Bool) → List A → List B → Bool
agree r [] [] = true
agree r [] (y ∷ ys) = false
agree r (x ∷ xs) [] = false
agree r (x ∷ xs) (y ∷ ys) = r x y && agree r xs ys

-- the elements that pass, in order
unfoldable pub filter : {A : Type 0} → (A → Bool) → List A → List A
filter p [] = []
filter p (x ∷ xs) = cond (p x) (x ∷ filter p xs) (filter p xs)

-- the first element that passes, or d
unfoldable pub find : {A : Type 0} → (A → Bool) → A → List A → A
find p d [] = d
find p d (x ∷ xs) = cond (p x) x (find p d xs)

-- the place of the first element that passes, in a list whose first place is i
unfoldable pub place : {A : Type 0} → (A → Bool) → ℕ → List A → Option ℕ
place p i [] = None
place p i (x ∷ xs) = cond (p x) (Some i) (place p (suc i) xs)

-- the last element, or d
unfoldable pub last : {A : Type 0} → A → List A → A
last d [] = d
last d (x ∷ xs) = last x xs

-- by the first number, and where that is equal by the second
abbrev pub before : ℕ × ℕ → ℕ × ℕ → Bool
before a b = ltb a.0 b.0 || (eqb a.0 b.0 && ltb a.1 b.1)

abbrev pub has : ℕ → List ℕ → Bool
has n xs = any (eqb n) xs

-- 1 for true, 0 for false
abbrev pub bit : Bool → ℕ
bit b = cond b 1 0

-- how many elements pass
unfoldable pub count : {A : Type 0} → (A → Bool) → List A → ℕ
count p [] = 0
count p (x ∷ xs) = bit (p x) + count p xs

unfoldable pub sum : List ℕ → ℕ
sum [] = 0
sum (x ∷ xs) = x + sum xs

-- the greatest number, or 0
unfoldable pub highest : List ℕ → ℕ
highest [] = 0
highest (x ∷ xs) = max x (highest xs)

-- x before the first element whose key is not below its own
unfoldable pub insert_by : {A : Type 0} → (A → ℕ) → A → List A → List A
insert_by key x [] = x ∷ []
insert_by key x (y ∷ ys) = cond (leb (key x) (key y)) (x ∷ (y ∷ ys)) (y ∷ insert_by key x ys)

-- by ascending key; elements of one key keep their order
unfoldable pub sort_by : {A : Type 0} → (A → ℕ) → List A → List A
sort_by key [] = []
sort_by key (x ∷ xs) = insert_by key x (sort_by key xs)

-- two lists by ascending key, f below n and g below m, of which those below i and j are merged: whether the next is of the first
unfoldable pub first_next : (ℕ → ℕ) → ℕ → ℕ → (ℕ → ℕ) → ℕ → ℕ → Bool
first_next f i n g j m = ltb i n && (leb m j || leb (f i) (g j))
