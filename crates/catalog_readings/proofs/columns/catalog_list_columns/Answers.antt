-- `catalog_list_columns` keeps its promise: the tables are checked, and the rest is the reading's.
use Rattle.listings.proofs.Lent.{columns_lent_lem}
use Rattle.catalog_readings.proofs.columns.catalog_list_columns.Goals as goal

pub list_columns-requires : goal.list_columns-requires
list_columns-requires c = columns_lent_lem _ _ c.check-checked.ensures

pub returns : goal.returns
returns c =
    c.list_columns.ensures (columns_lent_lem _ _ c.check-checked.ensures)
