-- Each file's rows fill the part of the area that starts after the earlier rows.
use Rattle.row_lists.proofs.RowLists.{Writing}
use Rattle.row_lists.proofs.rows.write_rows.Given as goal

abbrev pub invariant-loop-i : goal.invariant-loop-i
invariant-loop-i l = Writing l.data_files l.n l.deletes l.table.0 l.s.0 l.initial.area l.area l.k l.i
