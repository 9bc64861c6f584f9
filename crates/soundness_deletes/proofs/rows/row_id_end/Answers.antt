-- `row_id_end` meets its contract: row numbers and record counts in range add up to a word.
use Rattle.soundness_deletes.proofs.RowRanges.{rows_fit}
use Rattle.soundness_deletes.proofs.rows.row_id_end.Goals as goal

pub overflow_add-result : goal.overflow_add-result
overflow_add-result c = rows_fit _ c.requires
