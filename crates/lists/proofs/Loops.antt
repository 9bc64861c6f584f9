-- Loops: what each comes to from the present turn on. The laws `-start`, `-pass`, `-fail`, `-next`, `-end` are cited at a function's needs.
use Rattle.std.specs.Prelude.{None, Some}
use Prim.Native.Nat.{ℕ, zero, suc, ◌+◌, ◌-◌, ◌≤◌, ◌<◌}
use mathlib.Core.Path.{◌≡◌, refl, sym, ap, ap₂, ◌∙◌}
use mathlib.Core.List.{List, [], ◌∷◌, map, append-nil}
use mathlib.Core.Bool.{Bool, true, false, not}
use native.Mathlib.Omega.{arith}
use native.Mathlib.Numerals.{add-one}
use native.Mathlib.Nat.{add-zero, zero-add}
use lib.ListN.{length, take, drop, set, replicate, length-map, length-set, length-replicate, drop_of_length-le}
use lib.Seq.{take_all}
use Rattle.lists.specs.Lists.{range, all, pairwise, chained, filter, place}
use Rattle.lists.specs.Runs.{from, overwrite}
use Rattle.lists.proofs.Tests.{passed, failed}
use Rattle.lists.proofs.Runs.{overwrite_none, overwrite_set, overwrite_front}

pub length-range : (i k : ℕ) → length (range i k) ≡ k
unfolding range
length-range i zero = refl
length-range i (suc k) = ap suc (length-range (suc i) k)

chained_short : {A : Type 0} (r : A → A → Bool) (xs : List A) → length xs ≤ 1 → chained r xs ≡ true
unfolding chained
chained_short r [] h = refl
chained_short r (x ∷ []) h = refl
chained_short r (x ∷ (y ∷ ys)) h = absurd (omega arith)

module _ {A : Type 0} (f : ℕ → A) where
  pub from_step : (i n : ℕ) → i < n → from f i n ≡ f i ∷ from f (i + 1) n
  unfolding range
  from_step i n h = rw (add-one, left_over) refl
    where
      left_over : n - i ≡ suc (n - suc i)
      left_over = omega arith

  pub from_end : (i n : ℕ) → n ≤ i → from f i n ≡ []
  unfolding range
  from_end i n h = rw left_over refl
    where
      left_over : n - i ≡ 0
      left_over = omega arith

  pub from_all : (n : ℕ) → map f (range 0 n) ≡ from f 0 n
  unfolding range
  from_all n = rw whole refl
    where
      whole : n - 0 ≡ n
      whole = omega arith

  pub from_length : (i n : ℕ) → length (from f i n) ≡ n - i
  from_length i n = rw (length-map, length-range) refl

  module _ (p : A → Bool) where
    pub all_start : (n : ℕ) → all p (map f (range 0 n)) ≡ all p (from f 0 n)
    all_start n = ap (all p) (from_all n)

    pub all_pass : (i n : ℕ) → i < n → p (f i) ≡ true → all p (from f i n) ≡ all p (from f (i + 1) n)
    unfolding all
    all_pass i n h e = rw (from_step i n h, e) refl

    pub all_fail : (i n : ℕ) → i < n → p (f i) ≡ false → all p (from f i n) ≡ false
    unfolding all
    all_fail i n h e = rw (from_step i n h, e) refl

    -- by the answer of a call: `if !r`
    pub all_passed : {r : Bool} (i n : ℕ) → i < n → r ≡ p (f i) → not r ≡ false → all p (from f i n) ≡ all p (from f (i + 1) n)
    all_passed i n h e k = all_pass i n h (passed e k)

    pub all_failed : {r : Bool} (i n : ℕ) → i < n → r ≡ p (f i) → not r ≡ true → all p (from f i n) ≡ false
    all_failed i n h e k = all_fail i n h (failed e k)

    pub all_end : (i n : ℕ) → n ≤ i → all p (from f i n) ≡ true
    unfolding all
    all_end i n h = rw (from_end i n h) refl

    pub filter_pass : (i n : ℕ) → i < n → p (f i) ≡ true → filter p (from f i n) ≡ f i ∷ filter p (from f (i + 1) n)
    unfolding filter
    filter_pass i n h e = rw (from_step i n h, e) refl

    pub filter_fail : (i n : ℕ) → i < n → p (f i) ≡ false → filter p (from f i n) ≡ filter p (from f (i + 1) n)
    unfolding filter
    filter_fail i n h e = rw (from_step i n h, e) refl

    pub filter_end : (i n : ℕ) → n ≤ i → filter p (from f i n) ≡ []
    unfolding filter
    filter_end i n h = rw (from_end i n h) refl

    pub place-start : (n : ℕ) → place p 0 (map f (range 0 n)) ≡ place p 0 (from f 0 n)
    place-start n = ap (place p 0) (from_all n)

    pub place_hit : (i n : ℕ) → i < n → p (f i) ≡ true → place p i (from f i n) ≡ Some i
    unfolding place
    place_hit i n h e = rw (from_step i n h, e) refl

    pub place_miss : (i n : ℕ) → i < n → p (f i) ≡ false → place p i (from f i n) ≡ place p (i + 1) (from f (i + 1) n)
    unfolding place
    place_miss i n h e = rw (from_step i n h, e, add-one) refl

    pub place_end : (i n : ℕ) → n ≤ i → place p i (from f i n) ≡ None
    unfolding place
    place_end i n h = rw (from_end i n h) refl

  module _ (r : A → A → Bool) where
    pub chained_start : (n : ℕ) → chained r (map f (range 0 n)) ≡ chained r (from f 0 n)
    chained_start n = ap (chained r) (from_all n)

    pub chained_pass : (i n : ℕ) → i + 1 < n → r (f i) (f (i + 1)) ≡ true → chained r (from f i n) ≡ chained r (from f (i + 1) n)
    unfolding chained
    chained_pass i n h e = rw (from_step i n (omega arith), from_step (i + 1) n h, e) refl

    pub chained_fail : (i n : ℕ) → i + 1 < n → r (f i) (f (i + 1)) ≡ false → chained r (from f i n) ≡ false
    unfolding chained
    chained_fail i n h e = rw (from_step i n (omega arith), from_step (i + 1) n h, e) refl

    -- where the later of two neighbours is at i
    pub chained_turn : (i n : ℕ) → 1 ≤ i → i < n → r (f (i - 1)) (f i) ≡ true → chained r (from f (i - 1) n) ≡ chained r (from f (i + 1 - 1) n)
    chained_turn i n g h e =
        let before : i - 1 + 1 ≡ i = omega arith in
        let after : i - 1 + 1 ≡ i + 1 - 1 = omega arith in
        chained_pass (i - 1) n (omega arith) (rw before e) ∙ ap (λ k. chained r (from f k n)) after

    pub chained_stop : (i n : ℕ) → 1 ≤ i → i < n → r (f (i - 1)) (f i) ≡ false → chained r (from f (i - 1) n) ≡ false
    chained_stop i n g h e = let before : i - 1 + 1 ≡ i = omega arith in chained_fail (i - 1) n (omega arith) (rw before e)

    pub pairwise_start : (n : ℕ) → pairwise r (map f (range 0 n)) ≡ pairwise r (from f 0 n)
    pairwise_start n = ap (pairwise r) (from_all n)

    pub pairwise_pass : (i n : ℕ) → i < n → all (r (f i)) (from f (i + 1) n) ≡ true → pairwise r (from f i n) ≡ pairwise r (from f (i + 1) n)
    unfolding all pairwise
    pairwise_pass i n h e = rw (from_step i n h, e) refl

    pub pairwise_fail : (i n : ℕ) → i < n → all (r (f i)) (from f (i + 1) n) ≡ false → pairwise r (from f i n) ≡ false
    unfolding all pairwise
    pairwise_fail i n h e = rw (from_step i n h, e) refl

    pub pairwise_end : (i n : ℕ) → n ≤ i → pairwise r (from f i n) ≡ true
    unfolding pairwise
    pairwise_end i n h = rw (from_end i n h) refl

    pub chained_end : (i n : ℕ) → n ≤ i + 1 → chained r (from f i n) ≡ true
    unfolding chained
    chained_end i n h = chained_short r (from f i n) (rw (length-map, length-range) (omega arith))

-- a loop that writes x at each place from j on
module _ {A : Type 0} (x : A) where
  pub filling : List A → ℕ → List A
  filling w j = overwrite w j (replicate (length w - j) x)

  pub filling_start : (w : List A) → replicate (length w) x ≡ filling w 0
  unfolding filling overwrite
  filling_start w =
      let whole : length w - 0 ≡ length w = omega arith in
      let none : drop (0 + length (replicate (length w) x)) w ≡ [] = drop_of_length-le w (rw (zero-add, length-replicate) (omega arith)) in
      rw (whole, none, append-nil) refl

  pub filling_next : (w : List A) (j : ℕ) → j < length w → filling w j ≡ filling (set w j x) (j + 1)
  unfolding filling
  filling_next w j h =
      let left : length w - j ≡ suc (length w - (j + 1)) = omega arith in
      rw (left, length-set) (overwrite_set w j x (replicate (length w - (j + 1)) x) h)

  pub filling_end : (w : List A) (j : ℕ) → length w ≤ j → filling w j ≡ w
  unfolding filling
  filling_end w j h = let none : length w - j ≡ 0 = omega arith in rw none (overwrite_none w j)

-- a loop that writes what f gives at each place below n: what the run comes to from the place i on
module _ (f : ℕ → ℕ) (n : ℕ) where
  pub filled : List ℕ → ℕ → List ℕ
  filled w i = overwrite w i (from f i n)

  pub filled_start : (w : List ℕ) → overwrite w 0 (map f (range 0 n)) ≡ filled w 0
  unfolding filled
  filled_start w = ap (overwrite w 0) (from_all f n)

  pub filled_next : (w : List ℕ) (i v : ℕ) → i < n → i < length w → v ≡ f i → filled w i ≡ filled (set w i v) (i + 1)
  unfolding filled
  filled_next w i v h l e = rw (e, from_step f i n h) (overwrite_set w i (f i) (from f (i + 1) n) l)

  pub filled_end : (w : List ℕ) (i : ℕ) → n ≤ i → filled w i ≡ w
  unfolding filled
  filled_end w i h = rw (from_end f i n h) (overwrite_none w i)

  -- such a run begins with what was written
  pub filled_taken : (w : List ℕ) {v : List ℕ} → v ≡ overwrite w 0 (map f (range 0 n)) → take n v ≡ map f (range 0 n)
  filled_taken w e = ap₂ take long e ∙ overwrite_front w 0 (map f (range 0 n)) (omega arith)
    where
      long : n ≡ 0 + length (map f (range 0 n))
      long = omega (arith, length-map (range 0 n) f, length-range 0 n)

  pub filled_whole : (w : List ℕ) {v : List ℕ} → length v ≡ n → v ≡ overwrite w 0 (map f (range 0 n)) → v ≡ map f (range 0 n)
  filled_whole w l e = sym (take_all n _ (omega (arith, l))) ∙ filled_taken w e

-- a loop that counts the elements that pass p, and one that writes what g makes of each: what it comes to from the turn i on
module _ {A : Type 0} (f : ℕ → A) (p : A → Bool) (n : ℕ) where
  pub counted : ℕ → ℕ → ℕ
  unfolding filter
  counted k i = k + length (filter p (from f i n))

  pub counted_start : length (filter p (map f (range 0 n))) ≡ counted 0 0
  unfolding counted range filter
  counted_start = rw (zero-add, from_all f n) refl

  -- from a place on
  pub counted_from : (i : ℕ) → length (filter p (from f i n)) ≡ counted 0 i
  unfolding counted
  counted_from i = sym (zero-add _)

  pub counted_pass : (k i : ℕ) → i < n → p (f i) ≡ true → counted k i ≡ counted (k + 1) (i + 1)
  unfolding counted
  counted_pass k i h e = rw (filter_pass f p i n h e) (omega arith)

  pub counted_fail : (k i : ℕ) → i < n → p (f i) ≡ false → counted k i ≡ counted k (i + 1)
  unfolding counted
  counted_fail k i h e = rw (filter_fail f p i n h e) refl

  pub counted_end : (k i : ℕ) → n ≤ i → counted k i ≡ k
  unfolding counted
  counted_end k i h = rw (filter_end f p i n h, add-zero) refl

  pub counted_least : (k i : ℕ) → k ≤ counted k i
  unfolding counted
  counted_least k i = omega arith

  pub counted_room : (m k i : ℕ) → m ≡ counted k i → i < n → p (f i) ≡ true → k < m
  counted_room m k i c h e = omega (arith, counted_pass k i h e, counted_least (k + 1) (i + 1))

  module _ (g : A → ℕ) where
    pub sent : List ℕ → ℕ → ℕ → List ℕ
    unfolding filter
    sent out k i = overwrite out k (map g (filter p (from f i n)))

    pub sent_start : (out : List ℕ) → overwrite out 0 (map g (filter p (map f (range 0 n)))) ≡ sent out 0 0
    unfolding sent range filter
    sent_start out = rw (from_all f n) refl

    pub sent_pass : (out : List ℕ) (k i x : ℕ) → k < length out → i < n → p (f i) ≡ true → x ≡ g (f i) → sent out k i ≡ sent (set out k x) (k + 1) (i + 1)
    unfolding sent filter
    sent_pass out k i x l h e q = rw (q, filter_pass f p i n h e) (overwrite_set out k (g (f i)) (map g (filter p (from f (i + 1) n))) l)

    pub sent_fail : (out : List ℕ) (k i : ℕ) → i < n → p (f i) ≡ false → sent out k i ≡ sent out k (i + 1)
    unfolding sent
    sent_fail out k i h e = rw (filter_fail f p i n h e) refl

    pub sent_end : (out : List ℕ) (k i : ℕ) → n ≤ i → sent out k i ≡ out
    unfolding sent
    sent_end out k i h = rw (filter_end f p i n h) (overwrite_none out k)
