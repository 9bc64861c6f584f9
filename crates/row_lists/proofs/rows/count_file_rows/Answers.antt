-- The deleted positions are distinct and below the record count: what is left is the difference.
use Prim.Native.Nat.{◌-◌}
use mathlib.Core.Path.{sym, ap, ap₂, ◌∙◌}
use native.Mathlib.Omega.{arith}
use lib.ListN.{length}
use Rattle.row_lists.proofs.Merges.{deleted_most, rows_left}
use Rattle.row_lists.proofs.rows.count_file_rows.Goals as goal

pub overflow_sub-result : goal.overflow_sub-result
overflow_sub-result c =
    omega (arith, deleted_most c.requires.fit, ap length c.positions_deleted-deleted.ensures, c.data_file_record_count-count.ensures)

pub returns : goal.returns
returns c =
    let e = c.data_file_record_count-count.ensures in
    (omega (arith, c.requires.fit.count_within, e), ap₂ ◌-◌ e (ap length c.positions_deleted-deleted.ensures) ∙ sym (rows_left c.requires.fit))
