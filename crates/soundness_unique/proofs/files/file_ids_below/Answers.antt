-- `file_ids_below` meets its contract: the ids of the three tables are judged one after another.
use Rattle.soundness_unique.proofs.FileLists.{file_ids_below}
use Rattle.soundness_unique.proofs.files.file_ids_below.Goals as goal

pub returns : goal.returns
returns c positions = file_ids_below _ _ _ positions _ _ _ _ c.ascending_below-a.ensures c.ascending_below-b.ensures c.below-c.ensures
