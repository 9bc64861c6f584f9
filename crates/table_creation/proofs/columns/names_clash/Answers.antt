-- `names_clash` meets its contract: two names clash where their bytes are the same.
use Rattle.ducklake.specs.Arguments.{clashes}
use Rattle.table_creation.proofs.columns.names_clash.Goals as goal

pub returns : goal.returns
unfolding clashes
returns c = c.same_name.ensures
