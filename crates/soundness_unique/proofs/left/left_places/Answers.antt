-- `left_places` meets its contract: the places that are kept are of all.
use mathlib.Core.Path.{◌∙◌}
use native.Mathlib.Omega.{arith}
use Rattle.soundness_unique.proofs.LeftPlaces.{kept_all}
use Rattle.soundness_unique.proofs.left.left_places.Goals as goal

pub returns : goal.returns
returns c =
    let k = c.keep_colliding.ensures in
    (k.0 ∙ c.number.auto.w, omega (arith, k.1, c.number.auto.w), λ hash n e g. kept_all c.number.ensures e g (k.2 hash))
