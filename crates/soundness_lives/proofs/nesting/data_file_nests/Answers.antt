-- `data_file_nests` meets its contract: the table of its table id contains its life.
use Rattle.soundness_lives.proofs.Held.{data_file_held}
use Rattle.soundness_lives.proofs.nesting.data_file_nests.Goals as goal

pub returns : goal.returns
returns c t = data_file_held _ t _ _ _ c.data_file_table-table.ensures c.life_at-l.ensures c.is_held.ensures
