-- `catalog_fresh` keeps its promise: the room is that of all tables, and the rest is the start's.
use Rattle.catalog_fresh.proofs.Lent.{fresh_lent}
use Rattle.catalog_fresh.proofs.fresh.catalog_fresh.Goals as goal

pub start-requires : goal.start-requires
start-requires c = fresh_lent _ c.capacity-room.ensures

pub returns : goal.returns
returns c = c.start.ensures (fresh_lent _ c.capacity-room.ensures) _
