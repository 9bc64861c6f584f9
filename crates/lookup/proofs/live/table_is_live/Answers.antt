-- `table_is_live` meets its contract: of a table only id and life are looked at.
use mathlib.Core.Path.{refl, ◌∙◌}
use Rattle.lists.specs.Lists.{range}
use Rattle.lists.specs.Runs.{field}
use Rattle.lists.proofs.Selections.{any_maps}
use Rattle.ducklake.specs.Liveness.{live, is_live}
use Rattle.lookup.proofs.live.table_is_live.Goals as goal

pub returns : goal.returns
unfolding field is_live live
returns c names = c.is_live_id.ensures ∙ any_maps _ _ _ _ (range 0 _) (λ i. refl)
