-- `write_fresh` meets its contract: the two records and the name are those of the fresh catalogue.
use Rattle.catalog_fresh.proofs.Lent.{fresh_stored}
use Rattle.catalog_fresh.proofs.start.write_fresh.Goals as goal

pub returns : goal.returns
returns c w p q r =
    fresh_stored w _ p q r (rw c.from.ensures at c.write_snapshot.ensures) c.write_schema.ensures c.write_name.ensures
