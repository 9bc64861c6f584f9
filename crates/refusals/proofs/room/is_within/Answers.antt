-- `is_within` meets its contract: the definition compares the same counts.
use mathlib.Core.Path.{refl}
use Rattle.layout.specs.Words.{within}
use Rattle.refusals.proofs.room.is_within.Goals as goal

pub returns : goal.returns
unfolding within
returns c = refl
