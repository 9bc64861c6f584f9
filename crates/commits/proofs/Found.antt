-- The record of an id: the first that has it stands at the place that is found.
use Rattle.std.specs.Prelude.{None, Option, Some}
use Prim.Native.Nat.{ℕ, zero, suc}
use mathlib.Core.Path.{◌≡◌, refl, sym, ap, ◌∙◌}
use mathlib.Core.Bool.{Bool}
use mathlib.Core.List.{map}
use lib.Dec.{eqb}
use Rattle.lists.specs.Lists.{range, find, place}
use Rattle.lists.proofs.Tests.{if}
use Rattle.lists.proofs.Places.{place_map}

-- what f gives at a place, or d
abbrev pub at_place : {A : Type 0} → (ℕ → A) → A → Option ℕ → A
at_place f d (Some i) = f i
at_place f d None = d

find_place : {A : Type 0} (p : A → Bool) (d : A) (f : ℕ → A) (n i : ℕ) → find p d (map f (range i n)) ≡ at_place f d (place p i (map f (range i n)))
unfolding find place range
find_place p d f zero i = refl
find_place p d f (suc n) i = if (p (f i)) (λ b. rw b refl) (λ b. rw b (find_place p d f n (suc i)))

pub found_of_id : {A : Type 0} (id : A → ℕ) (d : A) (f : ℕ → A) (n k : ℕ) {r : Option ℕ} → r ≡ place (λ y. eqb y k) 0 (map (λ i. id (f i)) (range 0 n))
    → at_place f d r ≡ find (λ v. eqb (id v) k) d (map f (range 0 n))
found_of_id id d f n k e =
    ap (at_place f d) (e ∙ (place_map (λ y. eqb y k) (λ i. id (f i)) 0 (range 0 n) ∙ sym (place_map (λ v. eqb (id v) k) f 0 (range 0 n))))
    ∙ sym (find_place (λ v. eqb (id v) k) d f n 0)
