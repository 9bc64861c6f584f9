-- `part_of` meets its contract: the part from the span's start to its end.
use Rattle.call_lists.proofs.Parts.{part_is}
use Rattle.call_lists.proofs.part.part_of.Goals as goal

pub returns : goal.returns
returns g c =
    part_is c.args.run.now c.args.span
