-- `remove_due` meets its contract: the flags are those of the records that are not due.
use Rattle.lists.proofs.Flags.{compacted_as}
use Rattle.cleanup.proofs.due.remove_due.Goals as goal

pub returns : goal.returns
returns c =
    compacted_as _ (λ j h. c.flag_later.ensures.set j h) c.keep_rows.ensures
