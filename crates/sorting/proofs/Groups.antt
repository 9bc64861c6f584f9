-- Elements in groups, of which those of a group come one before another: of three in order the first and the last are apart where both are apart from the one between.
use Rattle.std.proofs.Common.{◌≡◌, ℕ, Bool, true, ltb, ◌⊎◌, List, inl, arith, lt-ltb}
use Rattle.lists.specs.Lists.{range, all}
use Rattle.lists.proofs.Tests.{Reflects, either}
use Rattle.lists.proofs.Members.{in_all, in_range_lem}

-- by an order r that keeps groups together, and in which what comes before stands first
module _ {A : Type 0} (r s same before : A → A → Bool) (p : A → Bool)
    (told : (a b : A) → Reflects (s a b) (same a b ≡ true → (before a b ≡ true) ⊎ (before b a ≡ true)))
    (together : (a b c : A) → r a b ≡ true → r b c ≡ true → same a c ≡ true → (same a b ≡ true) × (same b c ≡ true))
    (forward : (a b : A) → p a ≡ true → p b ≡ true → r a b ≡ true → same a b ≡ true → before b a ≡ true → before a b ≡ true)
    (later : (a b c : A) → p b ≡ true → before a b ≡ true → before b c ≡ true → before a c ≡ true) where
  first : (a b : A) → p a ≡ true → p b ≡ true → r a b ≡ true → s a b ≡ true → same a b ≡ true → before a b ≡ true
  first a b i j o t e = either ((told a b).to t e) (λ k. k) (λ k. forward a b i j o e k)

  pub groups_between : (a b c : A) → p a ≡ true → p b ≡ true → p c ≡ true → r a b ≡ true → r b c ≡ true → s a b ≡ true → s b c ≡ true → s a c ≡ true
  groups_between a b c i j k o m t u =
      (told a c).from (λ e. let g = together a b c o m e in inl (later a b c j (first a b i j o t g.0) (first b c j k m u g.1)))

-- places below n
pub within_range : (n : ℕ) → all (λ p. ltb p n) (range 0 n) ≡ true
within_range n = in_all (λ p. ltb p n) (range 0 n) (λ p m. lt-ltb p n (omega (arith, in_range_lem 0 n m)))
