-- `catalog_snapshot_by_time` keeps its promise: the tables are checked, and the rest is the reading's.
use Rattle.listings.proofs.Lent.{snapshots_lent_lem}
use Rattle.catalog_readings.proofs.time.catalog_snapshot_by_time.Goals as goal

pub find_snapshot_by_time-requires : goal.find_snapshot_by_time-requires
find_snapshot_by_time-requires c = snapshots_lent_lem _ _ c.check-checked.ensures

pub returns : goal.returns
returns c =
    c.find_snapshot_by_time.ensures (snapshots_lent_lem _ _ c.check-checked.ensures)
