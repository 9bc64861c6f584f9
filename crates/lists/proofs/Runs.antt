-- Laws of runs of words: what is written over them, and what replaces the words in use.
use Prim.Native.Nat.{ℕ, suc, ◌+◌, ◌*◌, ◌-◌, ◌≤◌, ◌<◌, max}
use mathlib.Core.Path.{◌≡◌, refl, sym, ap, ◌∙◌}
use mathlib.Core.List.{List, [], ◌∷◌, ◌++◌, append_assoc, append-nil}
use native.Mathlib.Omega.{arith}
use native.Mathlib.Numerals.{add-one}
use native.Mathlib.Nat.{add-zero, add-suc, zero-add, suc-add, mul-le-mul_left, mul-le-mul_right}
use lib.ListN.{length, take, drop, set, replicate, length-append, length-take, length-drop, length-replicate, take-append-drop}
use lib.Seq.{take-suc-set, drop-set-lt, take_at, drop_at, drop-drop, length-take-le, take-add, sets, sets-eq, paste}
use borrow.Rule.Slice.PartMut.{put_mid}
use Rattle.lists.specs.Runs.{overwrite, replace, replace_by}

pub overwrite_none : {A : Type 0} (w : List A) (k : ℕ) → overwrite w k [] ≡ w
unfolding overwrite
overwrite_none w k = rw add-zero (take-append-drop k w)

-- the first word of what is to be written is written
pub overwrite_set : {A : Type 0} (w : List A) (k : ℕ) (v : A) (rest : List A) → k < length w → overwrite w k (v ∷ rest) ≡ overwrite (set w k v) (k + 1) rest
unfolding overwrite
overwrite_set w k v rest h = rw (add-one, take-suc-set w k v h, drop-set-lt (suc k + length rest) w k v (omega arith), append_assoc, suc-add, add-suc) refl

pub overwrite_length : (w : List ℕ) (k : ℕ) (new : List ℕ) → k + length new ≤ length w → length (overwrite w k new) ≡ length w
unfolding overwrite
overwrite_length w k new h = simp (length-append, length-take, length-drop) (omega arith)

pub overwrite_front : {A : Type 0} (w : List A) (k : ℕ) (a : List A) → k ≤ length w → take (k + length a) (overwrite w k a) ≡ take k w ++ a
unfolding overwrite
overwrite_front w k a h = rw (← append_assoc) (take_at (take k w ++ a) _ (k + length a) (simp (length-append, length-take) (omega arith)))

pub overwrite_back : {A : Type 0} (w : List A) (k : ℕ) (a : List A) → k ≤ length w → drop (k + length a) (overwrite w k a) ≡ drop (k + length a) w
unfolding overwrite
overwrite_back w k a h = rw (← append_assoc) (drop_at (take k w ++ a) _ (k + length a) (simp (length-append, length-take) (omega arith)))

-- past what was written a run is as it was
pub overwrite_past : {A : Type 0} (w : List A) (k : ℕ) (a : List A) (m : ℕ) → k ≤ length w → k + length a ≤ m → drop m (overwrite w k a) ≡ drop m w
overwrite_past w k a m h g =
    ap (λ (j : ℕ). drop j (overwrite w k a)) m_is ∙ sym (drop-drop (m - (k + length a)) (k + length a) (overwrite w k a))
    ∙ ap (drop (m - (k + length a))) (overwrite_back w k a h)
    ∙ drop-drop (m - (k + length a)) (k + length a) w ∙ ap (λ (j : ℕ). drop j w) (sym m_is)
  where
    m_is : m ≡ k + length a + (m - (k + length a))
    m_is = omega arith

overwrite_split : (w v : List ℕ) (k : ℕ) (a b : List ℕ) → take (k + length a) v ≡ take k w ++ a
    → drop (k + length a + length b) v ≡ drop (k + length a + length b) w → overwrite w k (a ++ b) ≡ overwrite v (k + length a) b
unfolding overwrite
overwrite_split w v k a b t d = rw (t, d, length-append, ends) (simp append_assoc)
  where
    ends : k + (length a + length b) ≡ k + length a + length b
    ends = omega arith

-- the first words are written at once
pub overwrite_over : (w : List ℕ) (k : ℕ) (a b : List ℕ) → k ≤ length w → overwrite w k (a ++ b) ≡ overwrite (overwrite w k a) (k + length a) b
overwrite_over w k a b h = overwrite_split w (overwrite w k a) k a b (overwrite_front w k a h) (overwrite_past w k a (k + length a + length b) h (omega arith))

-- what is written stands there already
pub overwrite_same : (w : List ℕ) (k n : ℕ) (b : List ℕ) → k + n ≤ length w → overwrite w k (take n (drop k w) ++ b) ≡ overwrite w (k + n) b
unfolding overwrite
overwrite_same w k n b h = rw (total, take-add) (simp append_assoc)
  where
    total : k + length (take n (drop k w) ++ b) ≡ k + n + length b
    total = simp (length-append, length-take, length-drop) (omega arith)

-- word by word
pub overwrite_sets : (w : List ℕ) (k : ℕ) (new : List ℕ) → k + length new ≤ length w → sets w k new ≡ overwrite w k new
unfolding overwrite
overwrite_sets w k new h = sets-eq new w k h ∙ append_assoc (take k w) new _

-- by the library: n places copied from `at` on, and the places from a up to e filled
pub overwrite_copied : {A : Type 0} (w : List A) (to at n : ℕ) {v : List A} → at + n ≤ length w → v ≡ paste w to (drop at w) (at + n - at) → v ≡ overwrite w to (take n (drop at w))
unfolding overwrite
overwrite_copied w to at n h e =
    let count : at + n - at ≡ n = omega arith in
    let long : length (take n (drop at w)) ≡ n = length-take-le n (drop at w) (rw length-drop (omega arith)) in
    e ∙ rw (count, append_assoc, long) refl

pub overwrite_filled : {A : Type 0} (w : List A) (a e : ℕ) (x : A) {u : List A} → a ≤ e → e ≤ length w
    → u ≡ replicate (length (take (e - a) (drop a w))) x → put_mid a (e - a) w u ≡ overwrite w a (replicate (e - a) x)
unfolding overwrite
overwrite_filled w a e x h g f =
    let long : length (take (e - a) (drop a w)) ≡ e - a = length-take-le (e - a) (drop a w) (rw length-drop (omega arith)) in
    rw (f, long, length-replicate, ← drop-drop) refl

-- as many words as were used
pub replace_same : (old : List ℕ) (used : ℕ) (new : List ℕ) → length new ≡ used → replace old used new ≡ overwrite old 0 new
unfolding replace_by overwrite
replace_same old used new h = rw (none, end, zero-add) refl
  where
    none : used - length new ≡ 0
    none = omega arith

    end : max used (length new) ≡ length new
    end = omega arith

-- words past those that were used
pub replace_more : (w : List ℕ) (used : ℕ) (new : List ℕ) → used ≤ length w → replace w used (take used w ++ new) ≡ overwrite w used new
unfolding replace_by overwrite
replace_more w used new h = rw (length-append, length-take-le used w h, none, end) (simp append_assoc)
  where
    none : used - (used + length new) ≡ 0
    none = omega arith

    end : max used (used + length new) ≡ used + length new
    end = omega arith

-- the first k words stay, and the others are freed
pub replace_less : {A : Type 0} (zero : A) (w : List A) (used k : ℕ) → k ≤ used → used ≤ length w
    → replace_by zero w used (take k w) ≡ overwrite w k (replicate (used - k) zero)
unfolding replace_by overwrite
replace_less zero w used k g h = rw (length-take-le k w (omega arith), length-replicate, past, end) refl
  where
    past : max used k ≡ used
    past = omega arith

    end : k + (used - k) ≡ used
    end = omega arith

-- the words in use, written again
pub replace_kept : (w : List ℕ) (used : ℕ) → used ≤ length w → replace w used (take used w) ≡ w
replace_kept w used h = rw append-nil at (replace_more w used [] h ∙ overwrite_none w used)

-- what is written below the used words does not count
pub replace_past : {A : Type 0} (zero : A) (w : List A) (k : ℕ) (a new : List A) (used : ℕ) → k ≤ length w → k + length a ≤ used
    → replace_by zero (overwrite w k a) used new ≡ replace_by zero w used new
unfolding replace_by
replace_past zero w k a new used h g = rw (overwrite_past w k a (max used (length new)) h (omega arith)) refl

-- a run keeps its length where the new words have room
pub replace_length : (old : List ℕ) (used : ℕ) (new : List ℕ) → used ≤ length old → length new ≤ length old → length (replace old used new) ≡ length old
unfolding replace_by
replace_length old used new h g = simp (length-append, length-replicate, length-drop) (omega arith)

-- a record before the n-th lies in a run that holds n records
pub record_fits : (size : ℕ) {i n m : ℕ} → i < n → size * n ≤ m → size * i + size ≤ m
record_fits size h g = omega (arith, mul-le-mul_left size h)

-- a run that holds n records has n words or more
pub count_fits : (size : ℕ) {at n m : ℕ} → at < size → size * n ≤ m → n ≤ m
count_fits size {n = n} h e = omega (arith, mul-le-mul_right n h)
