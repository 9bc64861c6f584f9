-- `ids_below_next` meets its contract: the limits are the next ids of the latest snapshot.
use Rattle.soundness_unique.proofs.FileLists.{ids_below}
use Rattle.soundness_unique.proofs.files.ids_below_next.Goals as goal

pub returns : goal.returns
returns c w o u v p q r =
    ids_below w _ p q r o u v c.latest_snapshot-latest.ensures c.catalog_ids_below-a.ensures c.file_ids_below-b.ensures
