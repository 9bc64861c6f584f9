-- `in_tables` meets its contract: the loop reads and judges one data file after the other.
use mathlib.Core.Path.{sym, ◌∙◌}
use Rattle.lists.proofs.Loops.{all_pass, all_fail, all_end}
use Rattle.soundness_deletes.proofs.RowRanges.{rows_read, in_range_at}
use Rattle.soundness_deletes.proofs.rows.RowRanges.in_tables.Goals as goal

pub rows_in_table-requires : goal.rows_in_table-requires
rows_in_table-requires c = (c.args.self.checkable.tables_by_id, in_range_at c.args.self.checkable c.loop-i-test.true c.data_file_at-file.ensures)

pub returns-then-not-rows_in_table : goal.returns-then-not-rows_in_table
returns-then-not-rows_in_table c names =
    let e = rows_read _ c.data_file_at-file.ensures (c.rows_in_table.ensures names) in
    sym (c.loop-i.invariant names ∙ all_fail _ _ _ _ c.loop-i-test.true (sym e ∙ c.if-not-rows_in_table.true))

pub loop-i-preserved : goal.loop-i-preserved
loop-i-preserved c names =
    let e = rows_read _ c.data_file_at-file.ensures (c.rows_in_table.ensures names) in
    c.loop-i.invariant names ∙ all_pass _ _ _ _ c.loop-i-test.true (sym e ∙ c.if-not-rows_in_table.false)

pub returns : goal.returns
returns c names = sym (c.loop-i.invariant names ∙ all_end _ _ _ _ c.loop-i-test.false)
