-- One pass over the positions and over those deleted: a position is deleted just where it is the next of these.
use Rattle.row_lists.proofs.Merges.{Filling}
use Rattle.row_lists.proofs.rows.fill_rows.Given as goal

abbrev pub invariant-loop-p : goal.invariant-loop-p
invariant-loop-p l = Filling l.start.0 l.count l.deleted l.initial.part l.part l.k l.j l.p
