-- `hand_out` meets its contract: each turn lays the words of the record at its place, if it is due, behind those laid before.
use mathlib.Core.Path.{◌≡◌}
use Rattle.lists.proofs.Writes.{laid}
use Rattle.layout.specs.Words.{scheduled_at}
use Rattle.ducklake.specs.Maintenance.{due, handed_words}
use Rattle.cleanup.proofs.due.hand_out.Given as goal

abbrev pub invariant-loop-i : goal.invariant-loop-i
invariant-loop-i l =
    laid (scheduled_at l.scheduled) (due l.t) l.n handed_words l.initial.area 0 0 ≡ laid (scheduled_at l.scheduled) (due l.t) l.n handed_words l.area l.k l.i
