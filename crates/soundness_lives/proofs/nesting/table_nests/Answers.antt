-- `table_nests` meets its contract: the schema of its schema id contains its life.
use Rattle.soundness_lives.proofs.Held.{table_held}
use Rattle.soundness_lives.proofs.nesting.table_nests.Goals as goal

pub returns : goal.returns
returns c s t = table_held _ s _ t _ _ c.table_schema-schema.ensures c.life_at-l.ensures c.is_held.ensures
