-- `keep_rows` meets its contract: a row that stays is copied behind those kept before; what is left at the end is cleared.
use Rattle.runs.proofs.Keeping.{Keeping}
use Rattle.runs.proofs.kept.keep_rows.Given as goal

abbrev pub invariant-loop-i : goal.invariant-loop-i
invariant-loop-i g l = Keeping l.zero l.size l.n l.flags l.initial.w l.w l.kept l.i
