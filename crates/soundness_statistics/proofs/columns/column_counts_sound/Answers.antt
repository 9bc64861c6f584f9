-- `column_counts_sound` meets its contract: a column's life is its table's, so those on record are those live where the table is.
use Rattle.soundness_statistics.proofs.ColumnCounts.{counts_sound}
use Rattle.soundness_statistics.proofs.columns.column_counts_sound.Goals as goal

pub returns : goal.returns
returns c w t k lives nest = counts_sound w _ (rw t c.requires.0.ascending) lives nest (rw (t, k) (c.columns_counted.ensures _ _))
