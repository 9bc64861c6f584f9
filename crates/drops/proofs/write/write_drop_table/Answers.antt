-- `write_drop_table` meets its contract: the snapshot that is appended and the records that end are those of the effect.
use Rattle.drops.proofs.Effects.{drop_table_stored}
use Rattle.drops.proofs.write.write_drop_table.Goals as goal

pub returns : goal.returns
returns c w h p q r s t =
    drop_table_stored w _ h _ p _ q r s t c.append_snapshot-end.ensures c.end_table.ensures c.end_columns.ensures c.end_data_files.ensures
    c.end_delete_files.ensures
