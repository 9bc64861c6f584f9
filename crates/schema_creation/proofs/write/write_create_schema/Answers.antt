-- `write_create_schema` meets its contract: the snapshot and the schema that are appended are those of the effect.
use Rattle.schema_creation.proofs.Effects.{create_schema_stored}
use Rattle.schema_creation.proofs.write.write_create_schema.Goals as goal

pub returns : goal.returns
returns c w h p q r =
    create_schema_stored w _ h _ _ p q r c.latest_snapshot-latest.ensures c.append_snapshot-begin.ensures c.append_schema.ensures
