-- `positions_of` meets its contract: from where they begin on, as many as the record says.
use Rattle.lookup.proofs.Locations.{positions_part}
use Rattle.lookup.proofs.positions.positions_of.Goals as goal

pub returns : goal.returns
returns c = positions_part _ _ c.requires.begin c.delete_file_delete_count-count.ensures _
