-- `left_names` meets its contract: records that share a group and a name share a hash.
use mathlib.Core.Path.{refl, ◌∙◌}
use native.Mathlib.Omega.{arith}
use Rattle.soundness_unique.proofs.LeftPlaces.{all_hashed, left_kept}
use Rattle.soundness_unique.proofs.naming.NamedRecords.left_names.Goals as goal

pub left_places-requires : goal.left_places-requires
left_places-requires c = all_hashed _ refl c.requires.1 c.hash_names.ensures (λ i. omega arith)

pub returns : goal.returns
returns c =
    let p = c.left_places.ensures in
    (p.0, p.1, λ n e. left_kept _ e (c.requires.1 ∙ e) c.hash_names.ensures p.2)
