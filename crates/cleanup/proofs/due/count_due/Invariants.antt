-- `count_due` meets its contract: each turn counts the record at its place, as the definition does.
use Prim.Native.Nat.{◌≤◌}
use mathlib.Core.Path.{◌≡◌}
use lib.ListN.{length}
use Rattle.lists.proofs.Loops.{counted}
use Rattle.layout.specs.Words.{scheduled_at}
use Rattle.ducklake.specs.Maintenance.{due}
use Rattle.cleanup.specs.Handed.{due_in}
use Rattle.cleanup.proofs.due.count_due.Given as goal

abbrev pub invariant-loop-i : goal.invariant-loop-i
invariant-loop-i l = (l.k ≤ l.i) × (length (due_in l.scheduled l.n l.t) ≡ counted (scheduled_at l.scheduled) (due l.t) l.n l.k l.i)
