-- `catalog_drop_table` keeps its promise: the tables are checked, and the rest is the operation's.
use Rattle.drops.proofs.Lent.{drop_table_lent}
use Rattle.catalog_drops.proofs.drop_table.catalog_drop_table.Goals as goal

pub drop_table-requires : goal.drop_table-requires
drop_table-requires c =
    drop_table_lent _ _ c.check-checked.ensures

pub returns : goal.returns
returns c =
    c.drop_table.ensures (drop_table_lent _ _ c.check-checked.ensures) _
