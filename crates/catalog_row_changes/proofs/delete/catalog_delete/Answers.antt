-- `catalog_delete` keeps its promise: the tables are checked, and the rest is the delete's.
use Rattle.row_deletion.proofs.Lent.{delete_lent}
use Rattle.catalog_row_changes.proofs.delete.catalog_delete.Goals as goal

pub delete_rows-requires : goal.delete_rows-requires
delete_rows-requires c =
    delete_lent _ _ c.check-checked.ensures

pub returns : goal.returns
returns c =
    c.delete_rows.ensures (delete_lent _ _ c.check-checked.ensures) _
