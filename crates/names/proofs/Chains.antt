-- The library's tests of whole lists are those of the clauses.
use mathlib.Core.Path.{◌≡◌, refl, ap}
use mathlib.Core.Bool.{Bool, ◌&&◌}
use mathlib.Core.List.{List, [], ◌∷◌}
use Prim.Native.Nat.{ℕ}
use lib.Dec.{eqb}
use Rattle.std.specs.Cmp.Lexicographic.{pointwise}
use Rattle.std.specs.List.{list_all}
use Rattle.lists.specs.Lists.{all, agree}

pub all_told : {A : Type 0} (p : A → Bool) (xs : List A) → list_all p xs ≡ all p xs
unfolding all
all_told p [] = refl
all_told p (x ∷ xs) = ap (λ b. p x && b) (all_told p xs)

pub agree_told : (xs ys : List ℕ) → pointwise eqb xs ys ≡ agree eqb xs ys
unfolding agree
agree_told [] [] = refl
agree_told [] (y ∷ ys) = refl
agree_told (x ∷ xs) [] = refl
agree_told (x ∷ xs) (y ∷ ys) = ap (λ b. eqb x y && b) (agree_told xs ys)
