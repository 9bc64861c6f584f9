-- `schedule_removed` meets its contract: each turn passes the file of the lowest id that is left, and writes it, if it goes, behind those written before.
use Prim.Native.Nat.{◌+◌, ◌-◌}
use Rattle.expiry.proofs.Merged.{Turn}
use Rattle.expiry.proofs.schedule.schedule_removed.Given as goal

abbrev pub invariant-loop-i : goal.invariant-loop-i
invariant-loop-i l = Turn l.data_files l.n l.delete_files l.k l.left.ids.now l.time l.initial.scheduled l.used l.scheduled l.at l.i l.j

abbrev pub decreases-loop-i : goal.decreases-loop-i
decreases-loop-i l = (l.n + l.k) - (l.i + l.j)
