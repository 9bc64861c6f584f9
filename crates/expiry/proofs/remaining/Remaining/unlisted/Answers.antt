-- `unlisted` meets its contract: the ids that remain ascend, as the snapshots do.
use mathlib.Core.Path.{ap, ◌∙◌}
use lib.Dec.{ltb}
use Rattle.lists.specs.Lists.{chained}
use Rattle.expiry.proofs.Ids.{remaining_ascend}
use Rattle.expiry.proofs.remaining.Remaining.unlisted.Goals as goal

pub invariant_of-result : goal.invariant_of-result
invariant_of-result c =
    record { ascending = ap (chained ltb) c.remaining_ids-k.ensures.1 ∙ remaining_ascend c.args.snapshots.now c.args.n c.args.ids.now c.requires.0.by_id.ascending }
