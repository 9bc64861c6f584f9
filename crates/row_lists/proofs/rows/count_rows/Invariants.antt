-- The loop adds up the rows of each file of the table.
use Prim.Native.Nat.{◌≤◌, ◌*◌}
use Rattle.layout.specs.Catalog.{record_count_limit}
use Rattle.row_lists.proofs.RowLists.{Summing}
use Rattle.row_lists.proofs.rows.count_rows.Given as goal

abbrev pub invariant-loop-i : goal.invariant-loop-i
invariant-loop-i l = (l.total ≤ record_count_limit * l.i) × Summing l.data_files l.n l.deletes l.table.0 l.s.0 l.total l.i
