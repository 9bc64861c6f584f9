-- `catalog_ids_below` meets its contract: the id of a record is its first word.
use Rattle.soundness_unique.proofs.FileLists.{catalog_ids_below}
use Rattle.soundness_unique.proofs.files.catalog_ids_below.Goals as goal

pub returns : goal.returns
returns c names table_names = catalog_ids_below _ _ names table_names _ _ _ c.ascending_below-a.ensures c.ascending_below-b.ensures
