-- `catalog_list_files` keeps its promise: the tables are checked, and the rest is the reading's.
use Rattle.scans.proofs.Lent.{files_lent}
use Rattle.catalog_readings.proofs.files.catalog_list_files.Goals as goal

pub list_table_files-requires : goal.list_table_files-requires
list_table_files-requires c = files_lent _ _ c.check-checked.ensures

pub returns : goal.returns
returns c =
    c.list_table_files.ensures (files_lent _ _ c.check-checked.ensures)
