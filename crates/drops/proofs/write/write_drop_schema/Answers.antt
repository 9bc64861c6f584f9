-- `write_drop_schema` meets its contract: the snapshot that is appended and the schema that ends are those of the effect.
use Rattle.drops.proofs.Effects.{drop_schema_stored}
use Rattle.drops.proofs.write.write_drop_schema.Goals as goal

pub returns : goal.returns
returns c w h p q =
    drop_schema_stored w _ h _ p _ q c.append_snapshot-end.ensures c.end_schema.ensures
