-- Words that ascend: how many are below a number, and where a number stands among them.
use Rattle.std.specs.Prelude.{Option, Some}
use Prim.Native.Nat.{ℕ, ◌+◌, ◌≤◌, ◌<◌}
use mathlib.Core.Path.{◌≡◌, refl, sym, ap, ◌∙◌}
use mathlib.Core.Logic.{⊎_elim}
use mathlib.Core.List.{List, map}
use mathlib.Core.Bool.{Bool, true, false, ◌&&◌}
use native.Mathlib.Omega.{arith}
use native.Mathlib.Nat.{eq-or-lt_of_le, zero-add}
use borrow.Author.Tests.{lt-ltb, le-ltb, le-leb, ltb-true, ltb-false, leb-true, leb-false, eqb-true}
use lib.Dec.{leb, ltb, eqb}
use lib.ListN.{length}
use Rattle.lists.specs.Lists.{range, any, chained, before, count, place}
use Rattle.lists.specs.Runs.{from, field, fields, pair_at, pairs}
use Rattle.lists.proofs.Tests.{if, either, or_cases, both, and, same_test}
use Rattle.lists.proofs.Members.{any_in, in_any, in_map, in_map_of, in_range_lem, range_in, In}
use Rattle.lists.proofs.Orders.{chained_pairwise, chained_as, chained_maps}
use Rattle.lists.proofs.Loops.{from_length, from_end, from_all}
use Rattle.lists.proofs.Counts.{count-append, count-zero, count_whole, count_most}
use Rattle.lists.proofs.Places.{from_split, in_from, pairwise_at, found_tells}
use Rattle.lists.proofs.Selections.{any_none}

-- numbers in order by their neighbours are in order
module _ (f : ℕ → ℕ) (n : ℕ) where
  pub ascending : chained ltb (map f (range 0 n)) ≡ true → (j l : ℕ) → j < l → l < n → f j < f l
  ascending e j l h m =
      ltb-true _ _ (pairwise_at f ltb n j l (chained_pairwise ltb _ (λ a b c s t. lt-ltb a c (omega (arith, ltb-true a b s, ltb-true b c t))) e) h m)

  pub ascending_one : chained ltb (map f (range 0 n)) ≡ true → (i j : ℕ) → i < n → j < n → f i ≡ f j → i ≡ j
  ascending_one e i j h k s =
      if (ltb i j) (λ a. absurd (omega (arith, ascending e i j (ltb-true i j a) k)))
      (λ a. if (ltb j i) (λ b. absurd (omega (arith, ascending e j i (ltb-true j i b) h))) (λ b. omega (arith, ltb-false i j a, ltb-false j i b)))

  pub never_falling_lem : chained leb (map f (range 0 n)) ≡ true → (j l : ℕ) → j ≤ l → l < n → f j ≤ f l
  never_falling_lem e j l h m =
      ⊎_elim (λ (s : j ≡ l). omega (arith, ap f s))
      (λ (s : j < l). leb-true _ _ (pairwise_at f leb n j l (chained_pairwise leb _ (λ a b c s t. le-leb a c (omega (arith, leb-true a b s, leb-true b c t))) e) s m))
      (eq-or-lt_of_le h)

-- what ascends never falls
pub ascending_weakly : (xs : List ℕ) → chained ltb xs ≡ true → chained leb xs ≡ true
ascending_weakly xs = chained_as ltb leb (λ a b h. le-leb a b (omega (arith, ltb-true a b h))) xs

-- the first words of pairs in order never fall
before_first : (a b : ℕ × ℕ) → before a b ≡ true → leb a.0 b.0 ≡ true
before_first a b h =
    le-leb a.0 b.0 (either (or_cases (ltb a.0 b.0) _ h) (λ s. omega (arith, ltb-true a.0 b.0 s))
    (λ s. omega (arith, eqb-true a.0 b.0 (both (eqb a.0 b.0) _ s).0)))

pub pairs_first : (size first second : ℕ) (run : List ℕ) (n : ℕ) → chained before (pairs size first second run n) ≡ true → chained leb (fields size first run n) ≡ true
pairs_first size first second run n e =
    chained_maps leb (λ a b. leb a.0 b.0) (field size first run) (pair_at size first second run) (range 0 n) (λ i j. refl)
    ∙ chained_as before (λ a b. leb a.0 b.0) before_first (pairs size first second run n) e

-- a search for how many are below x: what it comes to between lo and hi
module _ (f : ℕ → ℕ) (x : ℕ) where
  pub below : ℕ → ℕ → ℕ
  unfolding count
  below lo hi = lo + count (λ y. ltb y x) (from f lo hi)

  pub below_start : (n : ℕ) → count (λ y. ltb y x) (map f (range 0 n)) ≡ below 0 n
  unfolding below range count
  below_start n = rw (from_all f n, zero-add) refl

  pub below_end : (lo hi : ℕ) → hi ≤ lo → below lo hi ≡ lo
  unfolding below count
  below_end lo hi h = rw (from_end f lo hi h) (omega arith)

  below_most : (lo hi : ℕ) → lo ≤ hi → below lo hi ≤ hi
  unfolding below
  below_most lo hi h = omega (arith, count_most (λ y. ltb y x) (from f lo hi), from_length f lo hi)

  below_least : (lo hi : ℕ) → lo ≤ below lo hi
  unfolding below
  below_least lo hi = omega arith

  below_skip : (lo m hi : ℕ) → lo ≤ m → m ≤ hi → ((j : ℕ) → j < m → f j < x) → below lo hi ≡ below m hi
  unfolding below
  below_skip lo m hi g h w =
      let e : count (λ y. ltb y x) (from f lo m) ≡ length (from f lo m) = count_whole _ _ (λ y i. let r = in_from f lo m i in lt-ltb y x (omega (arith, r.3, w r.0 r.2))) in
      rw (from_split f lo m hi g h, count-append, e) (omega (arith, from_length f lo m))

  below_cut : (lo m hi : ℕ) → lo ≤ m → m ≤ hi → ((j : ℕ) → m ≤ j → j < hi → x ≤ f j) → below lo hi ≡ below lo m
  unfolding below
  below_cut lo m hi g h w =
      let e : count (λ y. ltb y x) (from f m hi) ≡ 0 = count-zero _ _ (λ y i. let r = in_from f m hi i in le-ltb y x (omega (arith, r.3, w r.0 r.1 r.2))) in
      rw (from_split f lo m hi g h, count-append, e) (omega arith)

  module _ (n : ℕ) (e : chained leb (map f (range 0 n)) ≡ true) where
    pub below_up : (lo m hi : ℕ) → lo ≤ m → m < hi → hi ≤ n → f m < x → below lo hi ≡ below (m + 1) hi
    below_up lo m hi g h l s = below_skip lo (m + 1) hi (omega arith) (omega arith) (λ j k. omega (arith, never_falling_lem f n e j m (omega arith) (omega arith)))

    pub below_down : (lo m hi : ℕ) → lo ≤ m → m < hi → hi ≤ n → x ≤ f m → below lo hi ≡ below lo m
    below_down lo m hi g h l s = below_cut lo m hi g (omega arith) (λ j k t. omega (arith, never_falling_lem f n e m j k (omega arith)))

    -- the places below that count are those that have less
    module _ (r : ℕ) (c : r ≡ count (λ y. ltb y x) (map f (range 0 n))) where
      pub less_below : (j : ℕ) → j < r → f j < x
      less_below j h =
          if (ltb (f j) x) (λ s. ltb-true (f j) x s)
          (λ s. if (leb n j) (λ t. absurd (omega (arith, leb-true n j t, below_start n, below_most 0 n (omega arith))))
          (λ t. absurd (omega (arith, below_start n, below_down 0 j n (omega arith) (leb-false n j t) (omega arith) (ltb-false (f j) x s), below_most 0 j (omega arith)))))

      pub more_above : (j : ℕ) → r ≤ j → j < n → x ≤ f j
      more_above j h k =
          if (ltb (f j) x) (λ s. absurd (omega (arith, below_start n, below_up 0 j n (omega arith) k (omega arith) (ltb-true (f j) x s), below_least (j + 1) n)))
          (λ s. ltb-false (f j) x s)

      pub below_within : r ≤ n
      below_within = omega (arith, below_start n, below_most 0 n (omega arith))

-- records whose keys ascend: one of each key
pub keyed_one : {A : Type 0} (f : ℕ → A) (key : A → ℕ) (n : ℕ) → chained ltb (map (λ i. key (f i)) (range 0 n)) ≡ true → {x y : A}
    → In x (map f (range 0 n)) → In y (map f (range 0 n)) → key x ≡ key y → x ≡ y
keyed_one f key n e k l s =
    let a = in_map_of f (range 0 n) k in let b = in_map_of f (range 0 n) l in let i = in_range_lem 0 n a.1 in let j = in_range_lem 0 n b.1 in
    a.2 ∙ (ap f (ascending_one (λ i. key (f i)) n e a.0 b.0 (omega arith) (omega arith) (ap key (sym a.2) ∙ (s ∙ ap key b.2))) ∙ sym b.2)

-- a test of the one record whose key is k, where keys ascend
module _ {A : Type 0} (f : ℕ → A) (key : A → ℕ) (k n : ℕ) (q : A → Bool) (e : chained ltb (map (λ i. key (f i)) (range 0 n)) ≡ true) where
  pub any_found : {r : Option ℕ} {j : ℕ} → r ≡ place (λ y. eqb y k) 0 (map (λ i. key (f i)) (range 0 n)) → r ≡ Some j
      → any (λ x. eqb (key x) k && q x) (map f (range 0 n)) ≡ q (f j)
  any_found {j = j} h g =
      let t = found_tells (λ i. key (f i)) (λ y. eqb y k) n h g in
      same_test _ _
      (λ b. let r = any_in (λ x. eqb (key x) k && q x) _ b in let m = in_map_of f (range 0 n) r.1 in let l = in_range_lem 0 n m.1 in
      let s = both (eqb (key r.0) k) (q r.0) r.2 in
      ap (λ i. q (f i)) (ascending_one (λ i. key (f i)) n e j m.0 t.0 (omega arith) (eqb-true _ k t.1 ∙ sym (ap key (sym m.2) ∙ eqb-true _ k s.0))) ∙ (ap q (sym m.2) ∙ s.1))
      (λ b. in_any (λ x. eqb (key x) k && q x) (in_map f (range_in 0 n j (omega arith) (omega arith))) (and t.1 b))

-- a test that only numbers from x on pass
module _ (f : ℕ → ℕ) (x n r : ℕ) (e : chained leb (map f (range 0 n)) ≡ true) (c : r ≡ count (λ y. ltb y x) (map f (range 0 n))) (q : ℕ → Bool) (low : (y : ℕ) → q y ≡ true → x ≤ y) where
  pub any_past : n ≤ r → any q (map f (range 0 n)) ≡ false
  any_past h =
      any_none q _ (λ y m. let t = in_map_of f (range 0 n) m in let l = in_range_lem 0 n t.1 in
      if (q y) (λ b. absurd (omega (arith, t.2, low y b, less_below f x n e r c t.0 (omega arith)))) (λ b. b))

  -- where, with a number, the smaller ones from x on pass too: the first from x on decides
  pub any_first : ((y z : ℕ) → x ≤ y → y ≤ z → q z ≡ true → q y ≡ true) → r < n → any q (map f (range 0 n)) ≡ q (f r)
  any_first down h =
      same_test _ _
      (λ b. let t = any_in q _ b in let m = in_map_of f (range 0 n) t.1 in let l = in_range_lem 0 n m.1 in
      down (f r) t.0 (more_above f x n e r c r (omega arith) h)
      (if (leb r m.0) (λ s. omega (arith, m.2, never_falling_lem f n e r m.0 (leb-true r m.0 s) (omega arith)))
      (λ s. absurd (omega (arith, m.2, low t.0 t.2, less_below f x n e r c m.0 (leb-false r m.0 s)))))
      t.2)
      (λ b. in_any q (in_map f (range_in 0 n r (omega arith) (omega arith))) b)
