-- Two runs of records, passed through together: those of the first that pass a test stand in r to those of the second, place by place.
use Prim.Native.Nat.{ℕ, ◌+◌, ◌≤◌, ◌<◌}
use mathlib.Core.Path.{◌≡◌, refl}
use mathlib.Core.Bool.{Bool, true, false}
use mathlib.Core.List.{List}
use native.Mathlib.Omega.{arith}
use borrow.Author.Tests.{eq-eqb, ne_eqb, ltb-true, ltb-false}
use lib.Dec.{ltb, eqb}
use Rattle.lists.specs.Lists.{filter, agree}
use Rattle.lists.specs.Runs.{from}
use Rattle.lists.proofs.Tests.{if}
use Rattle.lists.proofs.Loops.{from_step, from_end, filter_pass, filter_fail, filter_end}
use Rattle.lists.proofs.Windows.{agree_first_pass, agree_first_fail}

module _ {A B : Type 0} (r : A → B → Bool) (p : A → Bool) (f : ℕ → A) (g : ℕ → B) (m n : ℕ) where
  -- what it comes to from the places i and j on
  pub matched : ℕ → ℕ → Bool
  unfolding filter agree
  matched i j = agree r (filter p (from f i m)) (from g j n)

  pub matched_start : (i j : ℕ) {xs : List A} {ys : List B} → xs ≡ filter p (from f i m) → ys ≡ from g j n → agree r xs ys ≡ matched i j
  unfolding matched
  matched_start i j s t = rw (s, t) refl

  pub matched_skip : (i j : ℕ) → i < m → p (f i) ≡ false → matched i j ≡ matched (i + 1) j
  unfolding matched
  matched_skip i j h e = rw (filter_fail f p i m h e) refl

  module _ (i j : ℕ) (h : i < m) (e : p (f i) ≡ true) where
    pub matched_pass : j < n → r (f i) (g j) ≡ true → matched i j ≡ matched (i + 1) (j + 1)
    unfolding matched
    matched_pass k t = agree_first_pass r (filter_pass f p i m h e) (from_step g j n k) t

    pub matched_fail : j < n → r (f i) (g j) ≡ false → matched i j ≡ false
    unfolding matched
    matched_fail k t = agree_first_fail r (filter_pass f p i m h e) (from_step g j n k) t

    pub matched_short : n ≤ j → matched i j ≡ false
    unfolding matched agree
    matched_short k = rw (filter_pass f p i m h e, from_end g j n k) refl

  pub matched_end : (i j : ℕ) → m ≤ i → j ≤ n → matched i j ≡ eqb j n
  unfolding matched agree
  matched_end i j h k =
      if (ltb j n) (λ t. rw (filter_end f p i m h, from_step g j n (ltb-true j n t), ne_eqb j n (λ (s : j ≡ n). omega (arith, ltb-true j n t))) refl)
      (λ t. rw (filter_end f p i m h, from_end g j n (ltb-false j n t), eq-eqb j n (omega (arith, ltb-false j n t))) refl)
