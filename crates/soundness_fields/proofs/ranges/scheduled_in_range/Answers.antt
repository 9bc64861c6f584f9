-- `scheduled_in_range` meets its contract: a scheduled record is in range where its file id is.
use mathlib.Core.Path.{◌∙◌}
use lib.Dec.{leb-zero}
use Rattle.lists.specs.Lists.{range}
use Rattle.lists.specs.Runs.{field}
use Rattle.lists.proofs.Selections.{all_maps}
use Rattle.ducklake.specs.Soundness.{scheduled_in_range}
use Rattle.soundness_fields.proofs.ranges.scheduled_in_range.Goals as goal

pub returns : goal.returns
unfolding field scheduled_in_range
returns c = c.between.ensures ∙ all_maps _ _ _ _ (range 0 _) (λ i. rw leb-zero)
