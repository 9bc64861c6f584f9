-- `flag_later` meets its contract: each turn sets the flag of its place.
use Rattle.lists.specs.Pieces.{Flags}
use Rattle.cleanup.specs.Handed.{stays_at}
use Rattle.cleanup.proofs.due.flag_later.Given as goal

abbrev pub invariant-loop-i : goal.invariant-loop-i
invariant-loop-i l = Flags (stays_at l.scheduled l.t) l.i l.flags
