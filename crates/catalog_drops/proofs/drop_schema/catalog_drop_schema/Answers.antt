-- `catalog_drop_schema` keeps its promise: the tables are checked, and the rest is the operation's.
use Rattle.drops.proofs.Lent.{drop_schema_lent}
use Rattle.catalog_drops.proofs.drop_schema.catalog_drop_schema.Goals as goal

pub drop_schema-requires : goal.drop_schema-requires
drop_schema-requires c =
    drop_schema_lent _ _ c.check-checked.ensures

pub returns : goal.returns
returns c =
    c.drop_schema.ensures (drop_schema_lent _ _ c.check-checked.ensures) _
