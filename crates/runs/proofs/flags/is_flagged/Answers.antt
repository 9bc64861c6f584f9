-- `is_flagged` meets its contract: the byte is compared as the definition does.
use Rattle.std.proofs.Common.{refl}
use Rattle.lists.specs.Pieces.{flagged}
use Rattle.runs.proofs.flags.is_flagged.Goals as goal

pub returns : goal.returns
unfolding flagged
returns c = refl
