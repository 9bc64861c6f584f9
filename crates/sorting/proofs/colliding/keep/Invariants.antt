-- `keep` meets its contract: what was moved to the front and what is still to be looked at come to the same at every turn.
use Rattle.sorting.proofs.Collisions.{Moved}
use Rattle.sorting.proofs.colliding.keep.Given as goal

abbrev pub invariant-loop-i : goal.invariant-loop-i
invariant-loop-i l = Moved l.hashes l.counts l.initial.w l.w l.i l.k
