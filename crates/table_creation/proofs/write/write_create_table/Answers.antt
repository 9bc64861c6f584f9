-- `write_create_table` meets its contract: the snapshot, the table and the columns that are appended are those of the effect.
use Rattle.table_creation.proofs.Effects.{create_table_stored}
use Rattle.table_creation.proofs.TableRoom.{columns_room_as}
use Rattle.table_creation.proofs.write.write_create_table.Goals as goal

pub append_columns-requires : goal.append_columns-requires
append_columns-requires c =
    columns_room_as c.latest_snapshot-latest.ensures c.requires.columns

pub returns : goal.returns
returns c w h o p q r s =
    create_table_stored w _ h _ _ _ _ _ o p q r s c.latest_snapshot-latest.ensures c.append_snapshot-begin.ensures c.append_table.ensures c.append_columns.ensures
