-- `copy_file` keeps the promise: refused as the lookup is, or the words of the part that was found, or 3.
use Rattle.layout.proofs.Refusals.{not_accepted}
use Rattle.file_lookup.proofs.Places.{copy_refused, copy_answered}
use Rattle.file_lookup.proofs.copy.copy_file.Goals as goal

pub returns-in-Ok : goal.returns-in-Ok
returns-in-Ok c l =
    rw c.answered.ensures (copy_answered _ _ _ _ _ l.data_files l.delete_files _ (c.in-Ok.ensures l) c.copy_part.ensures)

pub returns-in-Err : goal.returns-in-Err
returns-in-Err c l =
    rw c.refused.ensures (copy_refused _ _ _ _ (c.in-Err.ensures l).0 (not_accepted _))
