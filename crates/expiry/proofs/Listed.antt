-- Tests of the library over a list are those of the definitions.
use Prim.Native.Nat.{ℕ}
use mathlib.Core.Path.{◌≡◌, refl, ap₂, ◌∙◌}
use mathlib.Core.Bool.{◌||◌}
use mathlib.Core.List.{List, [], ◌∷◌, map}
use native.Mathlib.Omega.{arith}
use lib.Dec.{eqb}
use lib.ListN.{length, get_or}
use lib.Seq.{take_all}
use Rattle.std.specs.Prelude.{None, Option, Some}
use Rattle.std.specs.List.{list_any}
use Rattle.std.specs.Option.{is_some}
use Rattle.lists.specs.Lists.{range, any, has}
use Rattle.lists.proofs.Layouts.{words_one_by_one}
use Rattle.lists.proofs.Places.{is_at}
use Rattle.lists.proofs.Tests.{eqb_swap}

pub has_as : (k : ℕ) (xs : List ℕ) → list_any (λ y. eqb y k) xs ≡ has k xs
unfolding any
has_as k [] = refl
has_as k (x ∷ xs) = ap₂ (λ a b. a || b) (eqb_swap x k) (has_as k xs)

pub is_some_as : (r : Option ℕ) → is_some r ≡ is_at r
is_some_as (Some i) = refl
is_some_as None = refl

pub words_of : (xs : List ℕ) → map (λ j. get_or xs j 0) (range 0 (length xs)) ≡ xs
words_of xs = words_one_by_one (length xs) xs (omega arith) ∙ take_all (length xs) xs (omega arith)
