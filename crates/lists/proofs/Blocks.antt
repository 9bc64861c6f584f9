-- Records of one key that stand together: why they do where keys never fall, and what follows for tests and selections by the key.
use Prim.Native.Nat.{ℕ, ◌+◌, ◌≤◌, ◌<◌}
use mathlib.Core.Path.{◌≡◌, refl, sym, ap, ◌∙◌}
use mathlib.Core.Bool.{Bool, true, false, ◌&&◌, and-true}
use mathlib.Core.List.{map, append-nil}
use native.Mathlib.Omega.{arith}
use borrow.Author.Tests.{eq-eqb, ne_eqb, leb-false, leb-true}
use lib.Dec.{leb, ltb, eqb}
use Rattle.lists.specs.Lists.{range, chained, filter, count}
use Rattle.lists.specs.Runs.{from, Together}
use Rattle.lists.proofs.Tests.{if, ltb_suc}
use Rattle.lists.proofs.Counts.{count_ext}
use Rattle.lists.proofs.Loops.{from_all}
use Rattle.lists.proofs.Places.{from_split, in_from}
use Rattle.lists.proofs.Selections.{filter-append, filter_none, filter_all, filter_ext}
use Rattle.lists.proofs.Search.{less_below, more_above, below_within}

-- numbers that never fall: those equal to k stand together, from the count of smaller ones up to the count of those not greater
module _ (f : ℕ → ℕ) (k n a e : ℕ) (c : chained leb (map f (range 0 n)) ≡ true)
    (low : a ≡ count (λ y. ltb y k) (map f (range 0 n))) (high : e ≡ count (λ y. leb y k) (map f (range 0 n))) where
  through : e ≡ count (λ y. ltb y (k + 1)) (map f (range 0 n))
  through = high ∙ sym (count_ext _ _ (map f (range 0 n)) (λ y m. ltb_suc y k))

  less : (i : ℕ) → i < a → f i < k
  less i h = less_below f k n c a low i h

  more : (i : ℕ) → e ≤ i → i < n → k < f i
  more i h l = omega (arith, more_above f (k + 1) n c e through i h l)

  pub together : Together f n k a e
  together = record {
    order = if (leb a e) (λ s. leb-true a e s) (λ s. absurd (let l = leb-false a e s in omega (arith, less e l, more e (omega arith) (omega (arith, below_within f k n c a low)))));
    most = below_within f (k + 1) n c e through;
    inside = λ i h l. omega (arith, more_above f k n c a low i h (omega (arith, below_within f (k + 1) n c e through)), less_below f (k + 1) n c e through i l);
    before = λ i h s. omega (arith, less i h);
    after = λ i h l s. omega (arith, more i h l);
  }

module _ {A : Type 0} (f : ℕ → A) (key : A → ℕ) (k n a e : ℕ) (T : Together (λ i. key (f i)) n k a e) where
  -- what passes among the records of the key
  pub filter_block : (q : A → Bool) → filter (λ x. eqb (key x) k && q x) (map f (range 0 n)) ≡ filter q (from f a e)
  filter_block q =
      ap (filter p) (from_all f n ∙ from_split f 0 a n (omega arith) (omega (arith, T.order, T.most)))
      ∙ (filter-append p (from f 0 a) (from f a n) ∙ rw (filter_none p (from f 0 a) (λ x m. let r = in_from f 0 a m in ap p r.3 ∙ off r.0 (T.before r.0 r.2)))
      (ap (filter p) (from_split f a e n T.order T.most) ∙ (filter-append p (from f a e) (from f e n)
      ∙ rw (filter_none p (from f e n) (λ x m. let r = in_from f e n m in ap p r.3 ∙ off r.0 (T.after r.0 r.1 r.2)), append-nil)
      (filter_ext p q (from f a e) (λ x m. let r = in_from f a e m in rw (r.3, eq-eqb _ k (T.inside r.0 r.1 r.2)) refl)))))
    where
      p : A → Bool
      p x = eqb (key x) k && q x

      off : (i : ℕ) → (key (f i) ≡ k → ⊥) → p (f i) ≡ false
      off i s = rw (ne_eqb (key (f i)) k s) refl

  -- the records of the key
  pub filter_key : filter (λ x. eqb (key x) k) (map f (range 0 n)) ≡ from f a e
  filter_key =
      filter_ext _ _ (map f (range 0 n)) (λ x m. sym (and-true (eqb (key x) k)))
      ∙ (filter_block (λ x. true) ∙ filter_all (λ x. true) (from f a e) (λ x m. refl))
