-- `catalog_cleanup` keeps its promise: the tables are checked, and the rest is the cleanup's.
use Rattle.cleanup.proofs.Lent.{cleanup_lent}
use Rattle.catalog_maintenance.proofs.clean_up.catalog_cleanup.Goals as goal

pub clean_up-requires : goal.clean_up-requires
clean_up-requires c =
    cleanup_lent _ _ c.check-checked.ensures

pub returns : goal.returns
returns c =
    c.clean_up.ensures (cleanup_lent _ _ c.check-checked.ensures)
