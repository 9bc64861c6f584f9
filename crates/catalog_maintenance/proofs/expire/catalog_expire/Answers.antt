-- `catalog_expire` keeps its promise: the tables are checked, and the rest is the expiry's.
use Rattle.catalog_maintenance.proofs.expire.catalog_expire.Goals as goal

pub expire_snapshots-requires : goal.expire_snapshots-requires
expire_snapshots-requires c =
    c.check-checked.ensures

pub returns : goal.returns
returns c =
    c.expire_snapshots.ensures _
