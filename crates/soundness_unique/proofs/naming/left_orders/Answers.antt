-- `left_orders` meets its contract: columns that share a table and an order share a hash.
use mathlib.Core.Path.{refl, ◌∙◌}
use native.Mathlib.Omega.{arith}
use Rattle.lists.proofs.Loops.{filled_whole}
use Rattle.soundness_unique.proofs.LeftPlaces.{all_hashed, left_kept}
use Rattle.soundness_unique.proofs.naming.left_orders.Goals as goal

pub left_places-requires : goal.left_places-requires
left_places-requires c = all_hashed _ refl refl (filled_whole _ _ _ (c.hash_pairs.auto.hashes ∙ c.requires.1) c.hash_pairs.ensures) (λ i. omega arith)

pub returns : goal.returns
returns c =
    let p = c.left_places.ensures in
    (p.0, p.1, λ n e. left_kept _ e e (filled_whole _ _ _ (c.hash_pairs.auto.hashes ∙ c.requires.1) c.hash_pairs.ensures) p.2)
