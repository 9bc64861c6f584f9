-- `block_near` meets its contract: where the word never falls, the records that have it stand between the two counts.
use Rattle.lists.proofs.Blocks.{together}
use Rattle.lookup.proofs.block.block_near.Goals as goal

pub returns : goal.returns
returns c = together _ _ _ _ _ c.requires c.count_below-start.ensures c.count_through-end.ensures
