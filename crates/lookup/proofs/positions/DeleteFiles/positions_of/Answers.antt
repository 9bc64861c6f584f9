-- `positions_of` meets its contract: where those of a delete file begin has been noted, and they end before the run does.
use Rattle.lookup.proofs.Locations.{located_from}
use Rattle.lookup.proofs.positions.DeleteFiles.positions_of.Goals as goal

pub bounds-self-i : goal.bounds-self-i
bounds-self-i c = (located_from _ _ _ _ c.args.self.located c.requires).0

pub positions_of-requires : goal.positions_of-requires
positions_of-requires c = (located_from _ _ _ _ c.args.self.located c.requires).1
