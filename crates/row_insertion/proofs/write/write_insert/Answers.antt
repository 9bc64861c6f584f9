-- `write_insert` meets its contract: what is appended, and the table that has grown, are those of the effect.
use Rattle.row_insertion.proofs.Effects.{insert_stored}
use Rattle.row_insertion.proofs.write.write_insert.Goals as goal

pub returns : goal.returns
returns c w h p q r s =
    insert_stored w _ h _ _ _ _ _ p q r s c.latest_snapshot-latest.ensures c.append_snapshot-begin.ensures c.grow_table-first.ensures
    c.append_data_file.ensures c.append_statistics.ensures
