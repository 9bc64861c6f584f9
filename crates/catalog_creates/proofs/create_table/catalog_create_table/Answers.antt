-- `catalog_create_table` keeps its promise: the tables are checked, and the rest is the operation's.
use Rattle.table_creation.proofs.Lent.{create_table_lent}
use Rattle.catalog_creates.proofs.create_table.catalog_create_table.Goals as goal

pub create_table-requires : goal.create_table-requires
create_table-requires c =
    create_table_lent _ _ c.check-checked.ensures

pub returns : goal.returns
returns c =
    c.create_table.ensures (create_table_lent _ _ c.check-checked.ensures) _
