-- Words in order, seen at a place or two: how many are below x, whether all are, and where x can stand.
use Rattle.std.proofs.Common.{◌≡◌, ℕ, ◌+◌, ◌-◌, ◌<◌, ◌≤◌, true, ◌&&◌, eqb, ltb, leb, map, sym, ap, ◌∙◌, arith, ltb-false, ltb-true, lt-ltb, eq-eqb, ne_eqb, leb-true, le-leb, None, Some}
use Rattle.std.proofs.lemmas.List.{length-map}
use Rattle.lists.specs.Lists.{range, all, chained, count, place}
use Rattle.lists.proofs.Tests.{if, both, same_test, ltb_suc}
use Rattle.lists.proofs.Members.{all_in, in_all, in_map, in_map_of, in_range_lem, range_in}
use Rattle.lists.proofs.Counts.{count_ext, count_whole}
use Rattle.lists.proofs.Loops.{length-range}
use Rattle.lists.proofs.Places.{place_first, place_nowhere}
use Rattle.lists.proofs.Search.{ascending, ascending_weakly, never_falling_lem, below, below_start, below_up, below_down, below_end}

-- a place that is neither the first nor past the last
pub inside : (r n : ℕ) → (ltb 0 r && ltb r n) ≡ true → (0 < r) × (r < n)
inside r n h = let t = both (ltb 0 r) (ltb r n) h in (ltb-true 0 r t.0, ltb-true r n t.1)

-- a word at r that is not below x: none is where r is the first place, and r are where the word before it is
module _ (f : ℕ → ℕ) (n : ℕ) (e : chained leb (map f (range 0 n)) ≡ true) (r : ℕ) (h : r < n) (x : ℕ) (l : x ≤ f r) where
  cut : count (λ y. ltb y x) (map f (range 0 n)) ≡ below f x 0 r
  cut = below_start f x n ∙ below_down f x n e 0 r n (omega arith) h (omega arith) l

  pub none_below : r ≡ 0 → 0 ≡ count (λ y. ltb y x) (map f (range 0 n))
  none_below s = sym (cut ∙ below_end f x 0 r (omega arith))

  pub parted_below : 0 < r → f (r - 1) < x → r ≡ count (λ y. ltb y x) (map f (range 0 n))
  parted_below k s =
      let t : r - 1 + 1 ≡ r = omega arith in
      sym (cut ∙ (below_up f x n e 0 (r - 1) r (omega arith) (omega arith) (omega arith) s ∙ (ap (λ i. below f x i r) t ∙ below_end f x r r (omega arith))))

-- and where the word at r is above x, and that before it is not, r are at most x
pub parted_through : (f : ℕ → ℕ) (n : ℕ) → chained leb (map f (range 0 n)) ≡ true → (r : ℕ) → (ltb 0 r && ltb r n) ≡ true
    → (x : ℕ) {a b : ℕ} → a ≡ f (r - 1) → b ≡ f r → (leb a x && ltb x b) ≡ true → r ≡ count (λ y. leb y x) (map f (range 0 n))
parted_through f n e r h x {a} {b} u v k =
    let i = inside r n h in
    let t = both (leb a x) (ltb x b) k in
    parted_below f n e r i.1 (x + 1) (omega (arith, ltb-true x b t.1)) i.0 (omega (arith, leb-true a x t.0)) ∙ count_ext _ _ _ (λ y m. ltb_suc y x)

-- all are at most x, where the last is
pub all_through : (f : ℕ → ℕ) (n : ℕ) → chained leb (map f (range 0 n)) ≡ true → (x : ℕ) → (0 < n → f (n - 1) ≤ x) → n ≡ count (λ y. leb y x) (map f (range 0 n))
all_through f n e x h =
    sym (count_whole _ _ (λ y m. let t = in_map_of f (range 0 n) m in let i = in_range_lem 0 n t.1 in
    le-leb y x (omega (arith, t.2, h (omega arith), never_falling_lem f n e t.0 (n - 1) (omega arith) (omega arith)))) ∙ simp (length-map, length-range))

-- x can only stand from lo up to, and without, hi
pub record Between (f : ℕ → ℕ) (x n lo hi : ℕ) : Type 0 where
  pub ordered : lo ≤ hi
  pub within : hi ≤ n
  pub less : (j : ℕ) → j < lo → f j < x
  pub more : (j : ℕ) → hi ≤ j → j < n → x < f j

module _ (f : ℕ → ℕ) (x n : ℕ) (e : chained ltb (map f (range 0 n)) ≡ true) where
  pub up : {lo hi : ℕ} → Between f x n lo hi → (m : ℕ) → m < hi → f m < x → Between f x n (m + 1) hi
  up {lo} {hi} b m h s =
      record {
        ordered = omega arith;
        within = b.within;
        less = λ j k. if (ltb j m) (λ t. omega (arith, ascending f n e j m (ltb-true j m t) (omega arith))) (λ t. let i : j ≡ m = omega (arith, ltb-false j m t) in rw i s);
        more = b.more;
      }

  pub down : {lo hi : ℕ} → Between f x n lo hi → (m : ℕ) → lo ≤ m → m < hi → x < f m → Between f x n lo m
  down {lo} {hi} b m g h s =
      record {
        ordered = g;
        within = omega arith;
        less = b.less;
        more = λ j k l. if (ltb m j) (λ t. omega (arith, ascending f n e m j (ltb-true m j t) l)) (λ t. let i : j ≡ m = omega (arith, ltb-false m j t) in rw i s);
      }

  pub here : (m : ℕ) → m < n → f m ≡ x → place (λ y. eqb y x) 0 (map f (range 0 n)) ≡ Some m
  here m h s = place_first f (λ y. eqb y x) n m h (eq-eqb (f m) x s) (λ j k. ne_eqb (f j) x (λ (t : f j ≡ x). omega (arith, ascending f n e j m k h)))

  pub nowhere : {lo hi : ℕ} → Between f x n lo hi → hi ≤ lo → place (λ y. eqb y x) 0 (map f (range 0 n)) ≡ None
  nowhere {lo} {hi} b h =
      place_nowhere f (λ y. eqb y x) n (λ j k. ne_eqb (f j) x (λ (t : f j ≡ x).
      if (ltb j lo) (λ s. omega (arith, b.less j (ltb-true j lo s))) (λ s. omega (arith, b.more j (omega (arith, ltb-false j lo s)) k))))

  -- all are below x just where the last is
  pub last_below : 0 < n → ltb (f (n - 1)) x ≡ all (λ y. ltb y x) (map f (range 0 n))
  last_below h =
      same_test _ _
      (λ b. in_all (λ y. ltb y x) (map f (range 0 n)) (λ y m. let t = in_map_of f (range 0 n) m in let i = in_range_lem 0 n t.1 in
      lt-ltb y x (omega (arith, t.2, ltb-true (f (n - 1)) x b, never_falling_lem f n (ascending_weakly _ e) t.0 (n - 1) (omega arith) (omega arith)))))
      (λ b. all_in (λ y. ltb y x) (map f (range 0 n)) b (in_map f (range_in 0 n (n - 1) (omega arith) (omega arith))))
