-- The loop adds up the rows of each file of the table.
use native.Mathlib.Omega.{arith}
use Rattle.row_lists.proofs.RowLists.{file_located, summing_start, summing_pass, summing_fail, summing_end}
use Rattle.row_lists.proofs.rows.count_rows.Goals as goal
use Rattle.row_lists.proofs.rows.count_rows.Goals.{then-is_in_table, else-is_in_table}

pub loop-i-init : goal.loop-i-init
loop-i-init c = (omega arith, summing_start _ _ c.args.deletes _ _)

pub count_file_rows-total-requires : goal.count_file_rows-total-requires
count_file_rows-total-requires c = file_located c.requires _ c.loop-i-test.true

pub loop-i-preserved : goal.loop-i-preserved
loop-i-preserved c =
    let l = c.loop-i.invariant in
    let t = c.loop-i-test.true in
    elim c.if-is_in_table.branch [
      | then-is_in_table w ↦ rw w.total-is (
        omega (arith, l.0, w.count_file_rows-total.ensures.0),
        summing_pass _ _ c.args.deletes _ _ c.requires t c.is_in_table.ensures _ l.1 w.if-is_in_table.true w.count_file_rows-total.ensures.1,
      )
      | else-is_in_table w ↦ rw w.total-is (omega (arith, l.0), summing_fail _ _ c.args.deletes _ _ c.requires t c.is_in_table.ensures _ l.1 w.if-is_in_table.false)
    ]

pub returns : goal.returns
returns c = summing_end _ _ c.args.deletes _ _ _ _ c.loop-i.invariant.1 c.loop-i-test.false
