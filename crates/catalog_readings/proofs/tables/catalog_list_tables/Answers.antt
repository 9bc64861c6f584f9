-- `catalog_list_tables` keeps its promise: the tables are checked, and the rest is the reading's.
use Rattle.listings.proofs.Lent.{tables_lent_lem}
use Rattle.catalog_readings.proofs.tables.catalog_list_tables.Goals as goal

pub list_tables-requires : goal.list_tables-requires
list_tables-requires c = tables_lent_lem _ _ c.check-checked.ensures

pub returns : goal.returns
returns c =
    c.list_tables.ensures (tables_lent_lem _ _ c.check-checked.ensures)
