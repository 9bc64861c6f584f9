-- `catalog_list_rows` keeps its promise: the tables are checked, and the rest is the reading's.
use Rattle.row_lists.proofs.Lent.{rows_lent}
use Rattle.catalog_readings.proofs.rows.catalog_list_rows.Goals as goal

pub list_rows-requires : goal.list_rows-requires
list_rows-requires c = rows_lent _ _ c.check-checked.ensures

pub returns : goal.returns
returns c =
    c.list_rows.ensures (rows_lent _ _ c.check-checked.ensures)
