-- `catalog_copy_file` keeps its promise: the tables are checked, and the rest is the reading's.
use Rattle.file_lookup.proofs.Places.{files_lent}
use Rattle.catalog_readings.proofs.file.catalog_copy_file.Goals as goal

pub copy_file-requires : goal.copy_file-requires
copy_file-requires c = files_lent _ _ c.check-checked.ensures

pub returns : goal.returns
returns c =
    c.copy_file.ensures (files_lent _ _ c.check-checked.ensures)
