-- `catalog_table_by_name` keeps its promise: the tables are checked, and the rest is the reading's.
use Rattle.listings.proofs.Lent.{named_lent}
use Rattle.catalog_readings.proofs.named.catalog_table_by_name.Goals as goal

pub find_table_by_name-requires : goal.find_table_by_name-requires
find_table_by_name-requires c = named_lent _ _ c.check-checked.ensures

pub returns : goal.returns
returns c =
    c.find_table_by_name.ensures (named_lent _ _ c.check-checked.ensures)
