-- `write_delete` meets its contract: the snapshot, the delete file and the positions that are written are those of the effect.
use mathlib.Core.Path.{refl}
use Rattle.row_deletion.proofs.Effects.{positions_held_lem, positions_merge, delete_stored}
use Rattle.row_deletion.proofs.write.write_delete.Goals as goal

pub merge_positions-requires : goal.merge_positions-requires
merge_positions-requires c =
    positions_merge c.requires c.latest_snapshot-latest.ensures c.deleted_part-old.ensures

pub returns : goal.returns
returns c =
    let e = c.latest_snapshot-latest.ensures in
    let room = c.requires in
    let part = c.deleted_part-old.ensures in (
      positions_held_lem room e part,
      λ w h p q r s. delete_stored w _ h _ _ _ _ p q r s e c.data_file_of_id-file.ensures room.deletes part refl c.append_snapshot-begin.ensures
          c.end_delete_file.ensures c.append_delete_file.ensures c.merge_positions.ensures,
    )
