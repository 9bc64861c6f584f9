-- Runs of words, and records of one size in them.
use Rattle.std.specs.Prelude.{ℕ, ◌+◌, ◌*◌, ◌-◌, ◌≤◌, ◌<◌, max, ◌≡◌, cond, ◌&&◌, eqb, length, get_or, take, drop, set, replicate}
use mathlib.Core.List.{List, ◌++◌, map, flat_map}
use Rattle.std.specs.Borrow.{Bor}
use Rattle.lists.specs.Lists.{range}

-- `f i`, `f (i + 1)` and so on below n
abbrev pub from : {A : Type 0} → (ℕ → A) → ℕ → ℕ → List A
from f i n = map f (range i (n - i))

-- `new` written over `old` from the place k on
unfoldable pub overwrite : {A : Type 0} → List A → ℕ → List A → List A
overwrite old k new = take k old ++ (new ++ drop (k + length new) old)

-- a run whose first `used` places were in use and now are `new`: places that this frees are `zero`, all others as they were
unfoldable pub replace_by : {A : Type 0} → A → List A → ℕ → List A → List A
replace_by zero old used new = new ++ (replicate (used - length new) zero ++ drop (max used (length new)) old)

-- of words and bytes
abbrev pub replace : List ℕ → ℕ → List ℕ → List ℕ
replace old used new = replace_by 0 old used new

-- how a record lies in `size` words: `read` takes it from the words of a run that begin at a place
pub record Layout (A : Type 0) : Type 0 where
  pub size : ℕ
  pub read : List ℕ → ℕ → A
  pub words : A → List ℕ

-- the record at place i
abbrev pub at : {A : Type 0} → Layout A → List ℕ → ℕ → A
at L w i = L.read w (L.size * i)

-- the first n records
abbrev pub table : {A : Type 0} → Layout A → List ℕ → ℕ → List A
table L w n = map (at L w) (range 0 n)

-- records of `size` words: the word `at` of the record at place i, and of each of the first n
unfoldable pub field : ℕ → ℕ → List ℕ → ℕ → ℕ
field size at w i = get_or w (size * i + at) 0

abbrev pub fields : ℕ → ℕ → List ℕ → ℕ → List ℕ
fields size at w n = map (field size at w) (range 0 n)

-- two words of it together
abbrev pub pair_at : ℕ → ℕ → ℕ → List ℕ → ℕ → ℕ × ℕ
pair_at size first second w i = (field size first w i, field size second w i)

abbrev pub pairs : ℕ → ℕ → ℕ → List ℕ → ℕ → List (ℕ × ℕ)
pairs size first second w n = map (pair_at size first second w) (range 0 n)

-- how many bytes a word takes
abbrev pub word_bytes : ℕ
word_bytes = 8

-- `part` is the n words of `run` from word k on, and lies there: in the run's block, so many bytes from where the run begins
pub record PartOf (run part : Bor (List ℕ)) (k n : ℕ) : Type 0 where
  pub block : part.ref_ptr.0 ≡ run.ref_ptr.0
  pub start : part.ref_ptr.1 ≡ run.ref_ptr.1 + word_bytes * k
  pub words : part.now ≡ take n (drop k run.now)

-- of the first n places those where f is k are the places from a up to e
pub record Together (f : ℕ → ℕ) (n k a e : ℕ) : Type 0 where
  pub order : a ≤ e
  pub most : e ≤ n
  pub inside : (i : ℕ) → a ≤ i → i < e → f i ≡ k
  pub before : (i : ℕ) → i < a → f i ≡ k → ⊥
  pub after : (i : ℕ) → e ≤ i → i < n → f i ≡ k → ⊥

-- the words of a record with the word `at` set to `new`, where its word `key` is k and its word `at` is `old`
unfoldable pub set_where : ℕ → ℕ → ℕ → ℕ → ℕ → List ℕ → List ℕ
set_where key at k old new r = cond (eqb (get_or r key 0) k && eqb (get_or r at 0) old) (set r at new) r

-- the words of a record with n added to the word `at`, where its word `key` is k
unfoldable pub add_where : ℕ → ℕ → ℕ → ℕ → List ℕ → List ℕ
add_where key at k n r = cond (eqb (get_or r key 0) k) (set r at (get_or r at 0 + n)) r

-- a run in which g has changed the words of each of the first n records
unfoldable pub each_record : ℕ → (List ℕ → List ℕ) → List ℕ → ℕ → List ℕ
each_record size g w n = overwrite w 0 (flat_map (λ i. g (take size (drop (size * i) w))) (range 0 n))
