-- `catalog_insert` keeps its promise: the tables are checked, and the rest is the insert's.
use Rattle.row_insertion.proofs.Lent.{insert_lent}
use Rattle.catalog_row_changes.proofs.insert.catalog_insert.Goals as goal

pub insert_rows-requires : goal.insert_rows-requires
insert_rows-requires c =
    insert_lent _ _ c.check-checked.ensures

pub returns : goal.returns
returns c =
    c.insert_rows.ensures (insert_lent _ _ c.check-checked.ensures) _
