-- `expire_records` meets its contract: the flags are those of what stays.
use Rattle.lists.proofs.Flags.{compacted_as}
use Rattle.expiry.proofs.table.expire_records.Goals as goal

pub returns : goal.returns
returns c =
    compacted_as _ (λ j h. c.flag_live.ensures.set j h) c.keep_rows.ensures
