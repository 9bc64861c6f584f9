-- `files_distinct` meets its contract: ids and UUIDs of all files are compared, in the scratch that they take.
use Rattle.soundness_unique.proofs.FileLists.{files_apart}
use Rattle.soundness_unique.proofs.files.files_distinct.Goals as goal

pub returns : goal.returns
returns c w p q r =
    files_apart w _ p q r c.files_differ.ensures
