-- `located` meets its contract: the places that it notes are where the positions of each begin.
use native.Mathlib.Omega.{arith}
use Rattle.lists.proofs.Loops.{filled_taken}
use Rattle.lookup.proofs.positions.DeleteFiles.located.Goals as goal

pub invariant_of-result : goal.invariant_of-result
invariant_of-result c =
    let p = c.requires.0 in
    record { located = record { held = record { lent = p.lent; within = omega (arith, p.within) }; located = filled_taken _ _ _ c.position_starts.ensures } }
