-- `check` meets its contract: the tables are sound or not, and have their room.
use Rattle.refusals.proofs.Laws.{checked_as}
use Rattle.soundness.proofs.Lines.{sound_is}
use Rattle.soundness.proofs.checked.check.Goals as goal

pub returns : goal.returns
returns c = checked_as _ _ (sound_is _ _ c.first_unsound-line.ensures) c.capacity-room.ensures
