-- `all` over the places below n: a test of each of the first n records.
use Rattle.std.specs.Prelude.{ℕ, zero, suc, ◌+◌, ◌-◌, ◌<◌, ◌≡◌, Bool, true, false, ◌&&◌, Option}
use mathlib.Core.List.{List, map}
use Rattle.std.proofs.Common.{refl, ap, ◌∙◌, add-one, arith}
use denote.Param.Members.{Mut}
use Rattle.std.specs.Fn.{Called}
use Rattle.std.specs.Iterator.{YieldsThen}
use Rattle.std.specs.List.{FoldsTo, list_all, range_with_len}
use Rattle.std.specs.Option.{MatchOption}
use Rattle.std.proofs.lemmas.Iterator.{YieldsList}
use Rattle.std.proofs.lemmas.Iterator.Search.{all_from_yields_List}
use Rattle.lists.specs.Lists.{range, all, chained}

module _ {A : Type 0} (f : ℕ → A) (p : A → Bool) where
  places : (i n : ℕ) → list_all (λ k. p (f k)) (range_with_len i n) ≡ all p (map f (range i n))
  unfolding all range
  places i zero = refl
  places i (suc n) = ap (λ b. p (f i) && b) (rw add-one (places (suc i) n))

  -- where a closure tests the record at each place, as `(0..n).all(|i| ..)` does
  pub all_places : {S F : Type 0} {steps : S → Option ℕ → S → Type 0} {g : Mut F (ℕ × Unit {0}) Bool} (n : ℕ) {s u : S} {c : F} {r : Bool}
      → YieldsList steps (λ x. x) s (range_with_len 0 (n - 0))
      → (xs : List ℕ) × (o : Option ℕ) × (j : F) × YieldsThen steps s xs o u
      × FoldsTo (λ h x t. Called g h (x, tt) true t) c xs j × MatchOption o (r ≡ true) (λ x. (r ≡ false) × ((h : F) × Called g j (x, tt) false h))
      → ((x : ℕ) (b : Bool) (q : F) → Called g c (x, tt) b q → (q ≡ c) × (b ≡ p (f x))) → r ≡ all p (map f (range 0 n))
  all_places n {s} {u} {c} {r} y ran k =
      all_from_yields_List (λ i. p (f i)) u c r ran y k ∙ (places 0 (n - 0) ∙ ap (λ m. all p (map f (range 0 m))) (omega arith))

-- each record stands in r to the next one, where each but the last does
module _ {A : Type 0} (f : ℕ → A) (r : A → A → Bool) where
  abbrev pub next : ℕ → A × A
  next i = (f i, f (i + 1))

  abbrev pub stands : A × A → Bool
  stands q = r q.0 q.1

  links : (i n : ℕ) → all stands (map next (range i n)) ≡ chained r (map f (range i (suc n)))
  unfolding all chained range
  links i zero = refl
  links i (suc n) = rw (add-one, links (suc i) n) refl

  pub all_links : (n : ℕ) → 0 < n → all stands (map next (range 0 (n - 1))) ≡ chained r (map f (range 0 n))
  all_links n h = links 0 (n - 1) ∙ ap (λ (m : ℕ). chained r (map f (range 0 m))) (omega arith)
