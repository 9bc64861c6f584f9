-- Why places whose hash no other place has can be left out: two whose first words agree have one hash, so both stay.
use Rattle.std.proofs.Common.{◌≡◌, ℕ, zero, suc, ◌+◌, ◌*◌, ◌/◌, ◌%◌, ◌^◌, ◌<◌, ◌≤◌, min, Bool, true, false, not, ◌&&◌, eqb, ltb, List, [], ◌∷◌, ◌++◌, map, length, get_or, take, drop, set, replicate, sym, refl, ap, ◌∙◌, ap₂, append_assoc, append-nil, add-zero, mul-le-mul_right, mul-le-mul_left, add-one, arith, length-set, drop_of_length-le, take_all, drop-cons, get_or-set_other, take-suc, get_or-set_same, take-suc-set, drop-set-lt, ltb-false, ltb-true, le-ltb, lt-ltb, eq-eqb, eqb-true}
use lib.ListN.{length-replicate, get_or-replicate, get_or-eq_default}
use lib.Seq.{take-set-le}
use borrow.Author.Tests.{eqb-false}
use Rattle.lists.specs.Lists.{range, all, pairwise, count, filter}
use Rattle.lists.specs.Runs.{from, field, overwrite}
use Rattle.lists.proofs.Tests.{if, clash, same_test}
use Rattle.lists.proofs.Members.{all_in, in_all, in_filter, in_filter_of, in_get_d}
use Rattle.lists.proofs.Counts.{count-append, count-pos, count_map}
use Rattle.lists.proofs.Loops.{from_step, from_end, from_all}
use Rattle.lists.proofs.Runs.{overwrite_none}
use Rattle.lists.proofs.Windows.{overwrite_next}
use Rattle.lists.proofs.Selections.{map-append, all_map}
use Rattle.sorting.specs.declared.colliding.Round.{Round}
use Rattle.sorting.specs.declared.colliding.Round.TheVariants.{First}
use Rattle.sorting.specs.Keys.{Keyed}
use Rattle.sorting.specs.Colliding.{same_prefix, half, mixed, digest, hash_limit, hashed, hash_at, pair_hash, Counted, colliding, Hashes, Kept, Thinned}
use Rattle.sorting.proofs.KeyOrder.{same_words_lem}

-- ---- hashes

-- a mixed word fits a word: each half is below 2 ^ 32, and so is a factor
pub mixed_fits : (f h : ℕ) → f < half → h < 2 ^ 64 → h % half * f + h / half < 2 ^ 64
mixed_fits f h l g =
    let low : h % half ≤ 4294967295 = omega arith in
    let high : h / half ≤ 4294967295 = omega (arith, g) in
    omega (arith, mul-le-mul_right f low, mul-le-mul_left 4294967295 l, high)

pub digest_next : (round : Round) (h : ℕ) (f : ℕ → ℕ) (k used : ℕ) {x r : ℕ} → k < used → x ≡ f k → r ≡ (mixed round h + x) % 2 ^ 64
    → digest round h (from f k used) ≡ digest round r (from f (k + 1) used)
unfolding digest
digest_next round h f k used l p e = rw (from_step f k used l, e, p) refl

pub digest_end : (round : Round) (h : ℕ) (f : ℕ → ℕ) (k used : ℕ) → used ≤ k → digest round h (from f k used) ≡ h
unfolding digest
digest_end round h f k used l = rw (from_end f k used l) refl

-- of two words
pub digest_pair : (size a b : ℕ) (run : List ℕ) (i : ℕ) {x y g h r : ℕ} → x ≡ field size a run i → y ≡ field size b run i → g ≡ (mixed First 0 + x) % 2 ^ 64
    → h ≡ (mixed First g + y) % 2 ^ 64 → r ≡ hashed First h → r ≡ pair_hash size a b run i
unfolding digest
digest_pair size a b run i p q d e f = rw (f, e, d, p, q) refl

-- what is f of something is below n where f is, and so hashes are below their limit
pub all-below : (f : ℕ → ℕ) (n : ℕ) → ((x : ℕ) → f x < n) → (xs : List ℕ) {ys : List ℕ} → ys ≡ map f xs → all (λ h. ltb h n) ys ≡ true
all-below f n l xs e = rw (e, all_map) (in_all (λ x. ltb (f x) n) xs (λ x m. lt-ltb (f x) n (l x)))

pub hashes_under : (round : Round) (used size : ℕ) (run ps : List ℕ) {hashes : List ℕ} → hashes ≡ map (hash_at round used size run) ps → all (λ h. ltb h hash_limit) hashes ≡ true
hashes_under round used size run ps e = all-below (hash_at round used size run) hash_limit (λ p. omega arith) ps e

-- hashes below n, each with one of n counts
pub hashes_below : {hashes counts : List ℕ} (n : ℕ) → length counts ≡ n → all (λ h. ltb h n) hashes ≡ true → Hashes hashes counts
hashes_below n l e = record { below = rw l e }

pub hash_in : (hashes counts : List ℕ) (i : ℕ) → Hashes hashes counts → i < length hashes → get_or hashes i 0 < length counts
hash_in hashes counts i b l = ltb-true _ _ (all_in (λ h. ltb h (length counts)) hashes b.below (in_get_d 0 hashes i l))

-- ---- a list written over from the front

-- the elements below i are f of those of another list
pub record Mapped (f : ℕ → ℕ) (xs ys : List ℕ) (i : ℕ) : Type 0 where
  pub written : take i ys ≡ map f (take i xs)

pub mapped_start : (f : ℕ → ℕ) (xs ys : List ℕ) → Mapped f xs ys 0
mapped_start f xs ys = record { written = refl }

pub mapped_next : {f : ℕ → ℕ} {xs ys : List ℕ} {i y : ℕ} → Mapped f xs ys i → i < length xs → length ys ≡ length xs → y ≡ f (get_or xs i 0)
    → Mapped f xs (set ys i y) (i + 1)
mapped_next {xs = xs} {ys} {i} t l m e =
    record { written = rw (add-one, take-suc-set ys i _ (omega arith), take-suc xs i 0 l, map-append, t.written, e) refl }

pub mapped_end : {f : ℕ → ℕ} {xs ys : List ℕ} {i : ℕ} → Mapped f xs ys i → length ys ≡ length xs → length xs ≤ i → ys ≡ map f xs
mapped_end {xs = xs} {ys} {i} t m l = rw (take_all i ys (omega arith), take_all i xs l) at t.written

-- a loop that writes f of each place below n from the place a on: what the run comes to from the turn i on
module _ (f : ℕ → ℕ) (a n : ℕ) where
  pub placed : List ℕ → ℕ → List ℕ
  placed w i = overwrite w (a + i) (from f i n)

  pub placed_start : (w : List ℕ) → overwrite w a (map f (range 0 n)) ≡ placed w 0
  unfolding placed
  placed_start w = rw (add-zero, ← from_all f n) refl

  pub placed_next : (w : List ℕ) (i v : ℕ) → i < n → a + n ≤ length w → v ≡ f i → placed w i ≡ placed (set w (a + i) v) (i + 1)
  unfolding placed
  placed_next w i v h l e = overwrite_next w a i v (omega arith) (rw e (from_step f i n h))

  pub placed_end : (w : List ℕ) (i : ℕ) → n ≤ i → placed w i ≡ w
  unfolding placed
  placed_end w i h = rw (from_end f i n h) (overwrite_none w (a + i))

-- what is still to be looked at is as it was
module _ (old w : List ℕ) (i : ℕ) (d : drop i w ≡ drop i old) (e : length w ≡ length old) (l : i < length old) where
  pub head_kept : get_or w i 0 ≡ get_or old i 0
  head_kept = cc (drop-cons w i 0 (omega arith), drop-cons old i 0 l)

  pub rest_kept : (k x : ℕ) → k ≤ i → drop (i + 1) (set w k x) ≡ drop (i + 1) old
  rest_kept k x h = rw (drop-set-lt (i + 1) w k x (omega arith), add-one) (cc (drop-cons w i 0 (omega arith), drop-cons old i 0 l))

-- ---- counts

pub counted_none : (n : ℕ) → Counted [] (replicate n 0)
unfolding count
counted_none n = record {
  counted = λ h. if (ltb h n) (λ b. get_or-replicate n h 0 0 (ltb-true h n b))
      (λ b. get_or-eq_default (replicate n 0) 0 (rw length-replicate (ltb-false h n b)));
}

-- a hash more: one that occurs twice already counts no further
module _ (hashes counts : List ℕ) (i : ℕ) (l : i < length hashes) (p : Counted (take i hashes) counts) where
  pub counted_next : {c : ℕ} → get_or hashes i 0 < length counts → c ≡ get_or counts (get_or hashes i 0) 0 → c < 2
      → Counted (take (i + 1) hashes) (set counts (get_or hashes i 0) (c + 1))
  unfolding count
  counted_next {c} g e k = record { counted = λ h. rw (add-one i, take-suc hashes i 0 l, count-append) (of h) }
    where
      of : (h : ℕ) → get_or (set counts (get_or hashes i 0) (c + 1)) h 0 ≡ min 2 (count (eqb h) (take i hashes) + count (eqb h) (get_or hashes i 0 ∷ []))
      of h = if (eqb h (get_or hashes i 0))
          (λ b. let q = eqb-true h (get_or hashes i 0) b in rw (b, q, get_or-set_same counts (get_or hashes i 0) (c + 1) 0 g) (omega (arith, e, k, rw q at (p.counted h))))
          (λ b. rw (b, get_or-set_other counts (get_or hashes i 0) h (c + 1) 0 (eqb-false h (get_or hashes i 0) b)) (omega (arith, p.counted h)))

  pub counted_full : 2 ≤ get_or counts (get_or hashes i 0) 0 → Counted (take (i + 1) hashes) counts
  unfolding count
  counted_full k = record { counted = λ h. rw (add-one i, take-suc hashes i 0 l, count-append) (of h) }
    where
      of : (h : ℕ) → get_or counts h 0 ≡ min 2 (count (eqb h) (take i hashes) + count (eqb h) (get_or hashes i 0 ∷ []))
      of h = if (eqb h (get_or hashes i 0))
          (λ b. let q = eqb-true h (get_or hashes i 0) b in rw (b, q) (omega (arith, k, rw q at (p.counted h))))
          (λ b. rw b (omega (arith, p.counted h)))

-- ---- places moved to the front

-- of the places below i those whose hash is colliding are the first k
pub record Moved (hashes counts old w : List ℕ) (i k : ℕ) : Type 0 where
  pub most : k ≤ i
  pub long : length w ≡ length old
  pub ahead : drop i w ≡ drop i old
  pub front : (hash : ℕ → ℕ) → hashes ≡ map hash old
      → filter (λ p. colliding counts (hash p)) old ≡ take k w ++ filter (λ p. colliding counts (hash p)) (drop i old)

pub moved_start : (hashes counts w : List ℕ) → Moved hashes counts w w 0 0
moved_start hashes counts w = record { most = omega arith; long = refl; ahead = refl; front = λ hash e. refl }

hash_of : (f : ℕ → ℕ) (w : List ℕ) (i : ℕ) {hashes : List ℕ} → i < length w → hashes ≡ map f w → get_or hashes i 0 ≡ f (get_or w i 0)
hash_of f w i l e = rw e (of w i l)
  where
    of : (w : List ℕ) (i : ℕ) → i < length w → get_or (map f w) i 0 ≡ f (get_or w i 0)
    of [] i l = absurd (omega arith)
    of (x ∷ xs) zero l = refl
    of (x ∷ xs) (suc i) l = of xs i (omega arith)

module _ {hashes counts old w : List ℕ} {i k : ℕ} (m : Moved hashes counts old w i k) (l : i < length old) where
  pub moved_kept : 1 < get_or counts (get_or hashes i 0) 0 → Moved hashes counts old (set w k (get_or w i 0)) (i + 1) (k + 1)
  unfolding filter
  moved_kept h = record {
    most = omega (arith, m.most);
    long = rw length-set m.long;
    ahead = rest_kept old w i m.ahead m.long l k (get_or w i 0) m.most;
    front = λ hash e.
        let b : colliding counts (hash (get_or old i 0)) ≡ true = rw (← hash_of hash old i l e) (lt-ltb 1 (get_or counts (get_or hashes i 0) 0) h) in
        m.front hash e ∙ rw (drop-cons old i 0 l, b, add-one k, take-suc-set w k (get_or w i 0) (omega (arith, m.most, m.long)), append_assoc, head_kept old w i m.ahead m.long l, add-one i) refl;
  }

  pub moved_left : get_or counts (get_or hashes i 0) 0 ≤ 1 → Moved hashes counts old (set w k (get_or w i 0)) (i + 1) k
  unfolding filter
  moved_left h = record {
    most = omega (arith, m.most);
    long = rw length-set m.long;
    ahead = rest_kept old w i m.ahead m.long l k (get_or w i 0) m.most;
    front = λ hash e.
        let b : colliding counts (hash (get_or old i 0)) ≡ false = rw (← hash_of hash old i l e) (le-ltb 1 (get_or counts (get_or hashes i 0) 0) h) in
        m.front hash e ∙ rw (drop-cons old i 0 l, b, take-set-le k w k (get_or w i 0) (omega arith), add-one i) refl;
  }

pub moved_end : {hashes counts old w : List ℕ} {i k : ℕ} → Moved hashes counts old w i k → length old ≤ i → (hash : ℕ → ℕ) → hashes ≡ map hash old
    → take k w ≡ filter (λ p. colliding counts (hash p)) old
unfolding filter
moved_end {old = old} {w = w} {k = k} m l hash e = sym (m.front hash e ∙ rw (drop_of_length-le old l) (append-nil (take k w)))

-- ---- what is decided by the places left

module _ (hash : ℕ → ℕ) (q : ℕ → Bool) (R : ℕ → ℕ → Bool) (apart : (i j : ℕ) → (hash i ≡ hash j → ⊥) → R i j ≡ true) where
  -- a place that stays stands in R to all that are left out, and one that is left out to all
  kept_one : (x : ℕ) (xs : List ℕ) → q (hash x) ≡ true → all (R x) (filter (λ p. q (hash p)) xs) ≡ all (R x) xs
  kept_one x xs b =
      same_test _ _
      (λ h. in_all (R x) xs (λ y m. if (q (hash y)) (λ c. all_in (R x) _ h (in_filter (λ p. q (hash p)) xs m c)) (λ c. apart x y (λ e. clash (ap q (sym e) ∙ b) c))))
      (λ h. in_all (R x) _ (λ y m. all_in (R x) xs h (in_filter_of (λ p. q (hash p)) xs m).0))

  left_one : (x : ℕ) (xs : List ℕ) → (1 < count (λ p. eqb (hash x) (hash p)) (x ∷ xs) → q (hash x) ≡ true) → q (hash x) ≡ false → all (R x) xs ≡ true
  unfolding count
  left_one x xs f b = in_all (R x) xs (λ y m. apart x y (λ e.
      let one : 1 ≤ count (λ p. eqb (hash x) (hash p)) xs = count-pos (λ p. eqb (hash x) (hash p)) m (eq-eqb (hash x) (hash y) e) in
      clash (f (rw (eq-eqb (hash x) (hash x) refl) (omega (arith, one)))) b))

  kept_pairs : (xs : List ℕ) → ((h : ℕ) → 1 < count (λ p. eqb h (hash p)) xs → q h ≡ true) → pairwise R (filter (λ p. q (hash p)) xs) ≡ pairwise R xs
  unfolding pairwise filter count
  kept_pairs [] f = refl
  kept_pairs (x ∷ xs) f =
      let t = kept_pairs xs (λ h l. f h (omega (arith, l))) in
      if (q (hash x)) (λ b. rw b (ap₂ ◌&&◌ (kept_one x xs b) t)) (λ b. rw (b, left_one x xs (f (hash x)) b) t)

-- the places whose hash is colliding decide as much as all
pub kept : (hash : ℕ → ℕ) (w : List ℕ) {hashes counts new : List ℕ} → hashes ≡ map hash w → Counted hashes counts
    → new ≡ filter (λ p. colliding counts (hash p)) w → Kept hash w new
kept hash w {hashes} {counts} e p f = record {
  decided = λ R s. rw f (kept_pairs hash (colliding counts) R s w (λ h l. lt-ltb 1 (get_or counts h 0) (omega (arith, p.counted h, count_of h))));
  within = λ P h. rw f (in_all P _ (λ x m. all_in P w h (in_filter_of (λ p. colliding counts (hash p)) w m).0));
}
  where
    count_of : (h : ℕ) → count (eqb h) hashes ≡ count (λ p. eqb h (hash p)) w
    count_of h = rw e (count_map (eqb h) hash w)

pub kept_whole : (hash : ℕ → ℕ) (w : List ℕ) → Kept hash w w
kept_whole hash w = record { decided = λ R s. refl; within = λ P h. h }

-- where two hashes made from hashes differ, so do these
pub kept_finer : (g hash : ℕ → ℕ) {old new : List ℕ} → Kept (λ p. g (hash p)) old new → Kept hash old new
kept_finer g hash k = record { decided = λ R s. k.decided R (λ i j d. s i j (λ e. d (ap g e))); within = k.within }

-- two places whose first words agree have one hash
pub thinned : (round : Round) (used size : ℕ) (run : List ℕ) {old new : List ℕ} → Kept (hash_at round used size run) old new → Thinned size used run old new
thinned round used size run k = record {
  decided = λ R s. k.decided R
      (λ i j d. s i j (if (same_prefix used size run i j) (λ b. absurd (d (ap (λ xs. hashed round (digest round 0 xs)) (same_words_lem _ _ b)))) (λ b. b)));
  within = k.within;
}

pub thinned_keyed : (size used : ℕ) (run : List ℕ) {a b : List ℕ} → Thinned size used run a b → Keyed size run a → Keyed size run b
thinned_keyed size used run t h = record { keyed = t.within _ h.keyed }
