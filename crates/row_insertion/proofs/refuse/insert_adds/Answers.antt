-- `insert_adds` meets its contract: the statistics are counted.
use mathlib.Core.Path.{refl}
use Rattle.row_insertion.proofs.refuse.insert_adds.Goals as goal

pub returns : goal.returns
returns c = rw c.given_count-given.ensures refl
