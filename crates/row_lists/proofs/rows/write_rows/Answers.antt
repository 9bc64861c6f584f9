-- Each file's rows fill the part of the area that starts after the earlier rows.
use native.Mathlib.Omega.{arith}
use Rattle.row_lists.proofs.RowLists.{file_located, part_filled, part_length, writing_fits, writing_pass, writing_fail, writing_end}
use Rattle.row_lists.proofs.rows.write_rows.Goals as goal
use Rattle.row_lists.proofs.rows.write_rows.Goals.{then-is_in_table, else-is_in_table}

pub count_file_rows-requires : goal.count_file_rows-requires
count_file_rows-requires c = file_located c.requires.rows_located _ c.loop-i-test.true

pub overflow_add-end : goal.overflow_add-end
overflow_add-end c =
    omega (arith, c.loop-i.auto.area, writing_fits _ _ c.args.deletes _ _ c.requires.rows_located c.loop-i-test.true c.is_in_table.ensures _ _ _ c.loop-i.auto.area c.requires.table_in_bounds c.loop-i.invariant c.if-is_in_table.true c.count_file_rows.ensures.1)

pub offset_bounds-area-k : goal.offset_bounds-area-k
offset_bounds-area-k c =
    omega (arith, c.loop-i.auto.area, writing_fits _ _ c.args.deletes _ _ c.requires.rows_located c.loop-i-test.true c.is_in_table.ensures _ _ _ c.loop-i.auto.area c.requires.table_in_bounds c.loop-i.invariant c.if-is_in_table.true c.count_file_rows.ensures.1)

pub slice_bounds-write_file_rows-end : goal.slice_bounds-write_file_rows-end
slice_bounds-write_file_rows-end c =
    omega (arith, writing_fits _ _ c.args.deletes _ _ c.requires.rows_located c.loop-i-test.true c.is_in_table.ensures _ _ _ c.loop-i.auto.area c.requires.table_in_bounds c.loop-i.invariant c.if-is_in_table.true c.count_file_rows.ensures.1)

pub write_file_rows-requires : goal.write_file_rows-requires
write_file_rows-requires c = (
  file_located c.requires.rows_located _ c.loop-i-test.true,
  part_length _ _ c.count_file_rows.ensures.1
      (writing_fits _ _ c.args.deletes _ _ c.requires.rows_located c.loop-i-test.true c.is_in_table.ensures _ _ _ c.loop-i.auto.area c.requires.table_in_bounds c.loop-i.invariant c.if-is_in_table.true c.count_file_rows.ensures.1),
)

pub loop-i-preserved : goal.loop-i-preserved
loop-i-preserved c =
    let p = c.requires in
    let l = c.loop-i.invariant in
    let a = c.loop-i.auto.area in
    let t = c.loop-i-test.true in
    elim c.if-is_in_table.branch [
      | then-is_in_table w ↦
          let n = w.count_file_rows.ensures.1 in
          rw (w.area-is, w.k-is)
          (writing_pass _ _ c.args.deletes _ _ p.rows_located t c.is_in_table.ensures _ _ _ a p.table_in_bounds l w.if-is_in_table.true n (part_filled _ _ n w.write_file_rows.ensures))
      | else-is_in_table w ↦ rw (w.area-is, w.k-is) (writing_fail _ _ c.args.deletes _ _ p.rows_located t c.is_in_table.ensures _ _ _ a p.table_in_bounds l w.if-is_in_table.false)
    ]

pub returns : goal.returns
returns c = writing_end _ _ c.args.deletes _ _ _ _ _ _ c.loop-i.invariant c.loop-i-test.false c.requires.table_in_bounds
