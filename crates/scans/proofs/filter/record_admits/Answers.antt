-- The test is that of the definition, over the signed numbers that the words stand for.
use mathlib.Core.Path.{◌∙◌}
use mir.Facts.{to_z-of_z}
use mir.Syntax.{w64}
use Rattle.scans.proofs.Statistics.{admits_is}
use Rattle.scans.proofs.filter.record_admits.Goals as goal

pub returns : goal.returns
returns c =
    admits_is c.args.x (to_z-of_z {w = w64} {z = c.to_signed-min.result} (record { sfits = c.to_signed-min.type_inv }) ∙ c.to_signed-min.ensures)
    (to_z-of_z {w = w64} {z = c.to_signed-max.result} (record { sfits = c.to_signed-max.type_inv }) ∙ c.to_signed-max.ensures) (to_z-of_z c.ranges.scalar)
