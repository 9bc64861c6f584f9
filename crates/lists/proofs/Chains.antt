-- Chains of iterators: what `all` and `any` over a range of places give is `all` and `any` over the elements at those places.
use Prim.Native.Nat.{ℕ, ◌+◌, ◌-◌, ◌≤◌, ◌<◌}
use mathlib.Core.Path.{◌≡◌, refl, sym, ap, ◌∙◌}
use mathlib.Core.Bool.{Bool, true, false}
use mathlib.Core.List.{List, map}
use native.Mathlib.Omega.{arith}
use lib.ListN.{length, get_or}
use denote.Param.Members.{Mut}
use Rattle.std.specs.Prelude.{None, Option, Some}
use Rattle.std.specs.Bool.{MatchBool}
use Rattle.std.specs.Fn.{Called}
use Rattle.std.specs.Iterator.{YieldsThen}
use Rattle.std.specs.List.{range_with_len, FoldsTo, AllWithin, HoldsAt}
use Rattle.std.specs.Option.{MatchOption}
use Rattle.std.proofs.iter.Yields.{nat_range_steps}
use Rattle.std.proofs.lemmas.Iterator.{cases_from_all, cases_from_any, YieldsList-from_range}
use Rattle.std.proofs.lemmas.List.FromFn.{length-range_with_len, get_or-range_with_len}
use Rattle.lists.specs.Lists.{range, all, any}
use Rattle.lists.specs.Runs.{from}
use Rattle.lists.proofs.Loops.{from_all}
use Rattle.lists.proofs.Members.{In, in_all, all_in, in_any, any_in, in_map, range_in}
use Rattle.lists.proofs.Places.{in_from}
use Rattle.lists.proofs.Tests.{if, clash}

module _ {A : Type 0} (p : A → Bool) (f : ℕ → A) (a b : ℕ) where
  abbrev places : List ℕ
  places = range_with_len a (b - a)

  at_place : (k : ℕ) {r : Bool} → k < length places → p (f (get_or places k 0)) ≡ r → p (f (a + k)) ≡ r
  at_place k l e = rw (get_or-range_with_len a (b - a) k 0 (omega (arith, length-range_with_len a (b - a), l))) at e

  in_places : (k : ℕ) → k < length places → In (f (a + k)) (from f a b)
  in_places k l = in_map f (range_in a (b - a) (a + k) (omega arith) (omega (arith, length-range_with_len a (b - a), l)))

  back : (j : ℕ) → a ≤ j → j < b → (j - a < length places) × (a + (j - a) ≡ j)
  back j l m = (omega (arith, length-range_with_len a (b - a), l, m), omega (arith, l))

  every : {r : Bool} → AllWithin (λ i. p (f i) ≡ r) places 0 (length places) → (x : A) → In x (from f a b) → p x ≡ r
  every h x m =
      let i = in_from f a b m in
      let k = back i.0 i.1 i.2 in
      ap p i.3 ∙ sym (ap (λ j. p (f j)) k.1) ∙ at_place (i.0 - a) k.0 (h (i.0 - a) 0 (omega arith) k.0)

  all_cases : {r : Bool} → MatchBool r (AllWithin (λ i. p (f i) ≡ true) places 0 (length places))
      ((k : ℕ) × (k < length places) × HoldsAt (λ i. p (f i) ≡ false) places k) → r ≡ all p (from f a b)
  all_cases {r = true} h = sym (in_all p _ (every h))
  all_cases {r = false} (k, l, e) =
      if (all p (from f a b)) (λ t. clash (all_in p _ t (in_places k l)) (at_place k l (e 0))) sym

  any_cases : {r : Bool} → MatchBool r ((k : ℕ) × (k < length places) × HoldsAt (λ i. p (f i) ≡ true) places k)
      (AllWithin (λ i. p (f i) ≡ false) places 0 (length places)) → r ≡ any p (from f a b)
  any_cases {r = true} (k, l, e) = sym (in_any p (in_places k l) (at_place k l (e 0)))
  any_cases {r = false} h = if (any p (from f a b)) (λ t. let w = any_in p _ t in clash w.2 (every h w.0 w.1)) sym

  module _ {F : Type 0} {g : Mut F (ℕ × Unit {0}) Bool} {u : _} {h : F} {r : Bool} where
    -- of `(a..b).all(..)`, where each call leaves the closure as it is and answers as the test does
    pub all_chain : (xs : List ℕ) × (o : Option ℕ) × (j : F) × YieldsThen nat_range_steps (record { start = a; end = b }) xs o u
        × FoldsTo (λ d x q. Called g d (x, tt) true q) h xs j × MatchOption o (r ≡ true) (λ x. (r ≡ false) × ((q : F) × Called g j (x, tt) false q))
        → ((x : ℕ) (q : F) → Called g h (x, tt) true q → (q ≡ h) × (p (f x) ≡ true)) → ((x : ℕ) (q : F) → Called g h (x, tt) false q → p (f x) ≡ false)
        → r ≡ all p (from f a b)
    all_chain ran passes fails =
        all_cases (cases_from_all _ _ _ (λ i. p (f i) ≡ true) (λ i. p (f i) ≡ false) ran (YieldsList-from_range a b _ refl refl) passes fails)

    -- of `(a..b).any(..)`
    pub any_chain : (xs : List ℕ) × (o : Option ℕ) × (j : F) × YieldsThen nat_range_steps (record { start = a; end = b }) xs o u
        × FoldsTo (λ d x q. Called g d (x, tt) false q) h xs j × MatchOption o (r ≡ false) (λ x. (r ≡ true) × ((q : F) × Called g j (x, tt) true q))
        → ((x : ℕ) (q : F) → Called g h (x, tt) true q → p (f x) ≡ true) → ((x : ℕ) (q : F) → Called g h (x, tt) false q → (q ≡ h) × (p (f x) ≡ false))
        → r ≡ any p (from f a b)
    any_chain ran passes fails =
        any_cases (cases_from_any _ _ _ (λ i. p (f i) ≡ true) (λ i. p (f i) ≡ false) ran (YieldsList-from_range a b _ refl refl) passes fails)

-- the same of every place below n
pub all_below : {A : Type 0} (p : A → Bool) (f : ℕ → A) (n : ℕ) {r : Bool} → r ≡ all p (from f 0 n) → r ≡ all p (map f (range 0 n))
all_below p f n e = e ∙ sym (ap (all p) (from_all f n))
