-- Tests over what is live: a record passes among those that are live where it passes and is live.
use mathlib.Core.Path.{◌≡◌, ap, ◌∙◌}
use mathlib.Core.Bool.{Bool, not, ◌&&◌}
use mathlib.Core.List.{List}
use Rattle.lists.specs.Lists.{all, any, filter}
use Rattle.lists.proofs.Selections.{any_both, not_any_all}

-- no record that passes q passes p: no record passes both
pub none_live : {A : Type 0} (p q : A → Bool) (xs : List A) → not (any p (filter q xs)) ≡ all (λ x. not (p x && q x)) xs
none_live p q xs = ap not (any_both p q xs) ∙ not_any_all (λ x. p x && q x) xs
