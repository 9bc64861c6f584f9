-- `catalog_list_schemas` keeps its promise: the tables are checked, and the rest is the reading's.
use Rattle.listings.proofs.Lent.{schemas_lent_lem}
use Rattle.catalog_readings.proofs.schemas.catalog_list_schemas.Goals as goal

pub list_schemas-requires : goal.list_schemas-requires
list_schemas-requires c = schemas_lent_lem _ _ c.check-checked.ensures

pub returns : goal.returns
returns c =
    c.list_schemas.ensures (schemas_lent_lem _ _ c.check-checked.ensures)
