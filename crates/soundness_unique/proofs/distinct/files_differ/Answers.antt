-- `files_differ` meets its contract: ids, then UUIDs.
use mathlib.Core.Path.{ap₂}
use mathlib.Core.Bool.{◌&&◌}
use Rattle.soundness_unique.proofs.distinct.files_differ.Goals as goal

pub returns : goal.returns
returns c positions =
    ap₂ ◌&&◌ (c.file_ids_differ-a.ensures positions) (c.file_uuids_differ-b.ensures positions)
