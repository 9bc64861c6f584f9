-- `catalog_list_filtered_files` keeps its promise: the tables are checked, and the rest is the reading's.
use mir.Facts.{to_z-of_z}
use Rattle.scans.proofs.Lent.{filtered_lent}
use Rattle.catalog_readings.proofs.filtered.catalog_list_filtered_files.Goals as goal

pub list_filtered_files-requires : goal.list_filtered_files-requires
list_filtered_files-requires c = filtered_lent _ _ c.check-checked.ensures

pub returns : goal.returns
returns c =
    rw (to_z-of_z c.ranges.scalar) at (c.list_filtered_files.ensures (filtered_lent _ _ c.check-checked.ensures))
