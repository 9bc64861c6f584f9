-- `catalog_create_schema` keeps its promise: the tables are checked, and the rest is the operation's.
use Rattle.schema_creation.proofs.Lent.{create_schema_lent}
use Rattle.catalog_creates.proofs.create_schema.catalog_create_schema.Goals as goal

pub create_schema-requires : goal.create_schema-requires
create_schema-requires c =
    create_schema_lent _ _ c.check-checked.ensures

pub returns : goal.returns
returns c =
    c.create_schema.ensures (create_schema_lent _ _ c.check-checked.ensures) _
